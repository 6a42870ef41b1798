-- The checks of a stage behind its parenthesis, which stands in the place of the first check's comma.
use mathlib.Core.Path.{◌≡◌, refl, sym, ap, ◌∙◌}
use mathlib.Core.Bool.{true, false}
use mathlib.Core.List.{List, [], ◌∷◌, ◌++◌}
use Prim.Native.Nat.{ℕ, ◌+◌, ◌≤◌, max}
use native.Mathlib.Omega.{arith}
use lib.ListN.{length}
use lib.Seq.{sets}
use Rattle.buffer.specs.Text.{Wrote, non_empty, only}
use Rattle.buffer.proofs.Writing.{recast, over}
use Rattle.mel_stages.specs.Mel.{Check, Ground, Indep, check_text, checks_from}
use Rattle.mel_checks.proofs.Checks.{checks-step, checks-none}

-- the comma before the first
comma : (c : Check) (l : List Check) → checks_from true (c ∷ l) ≡ 44 ∷ checks_from false (c ∷ l)
unfolding only
comma c l = checks-step true c l ∙ ap (λ (t : List ℕ). 44 ∷ t) (sym (checks-step false c l))

some_text : (c : Check) (t : List ℕ) → non_empty (only false 44 ++ check_text c ++ t) ≡ true
unfolding non_empty only check_text
some_text (Ground x) t = refl
some_text (Indep x y) t = refl

some_check : (c : Check) (l : List Check) → non_empty (checks_from false (c ∷ l)) ≡ true
some_check c l = ap non_empty (checks-step false c l) ∙ some_text c (checks_from true l)

-- the parenthesis in its place, or alone
pub opened : (l : List Check) {at c e : ℕ} {old n o : List ℕ} → Wrote (checks_from true l) at old c n → Wrote (40 ∷ []) at n e o
    → Wrote ((40 ∷ []) ++ checks_from false l) at old (max e c) o
opened [] {at} {c} {e} {old} {n} {o} w v =
    let u : Wrote [] at old c n = recast (checks-none true) w in
    recast (ap (λ (t : List ℕ). (40 ∷ []) ++ t) (sym (checks-none false)))
    (record { place = omega (arith, u.place, v.place); bytes = v.bytes ∙ ap (λ (k : List ℕ). sets k at (40 ∷ [])) u.bytes })
opened (x ∷ l) {at} {c} {e} {old} {n} {o} w v =
    let u : Wrote (44 ∷ checks_from false (x ∷ l)) at old c n = recast (comma x l) w in
    record { place = omega (arith, u.place, v.place); bytes = (over u v).bytes }

pub some_checks : (l : List Check) → non_empty (checks_from true l) ≡ non_empty (checks_from false l)
some_checks [] = ap non_empty (checks-none true ∙ sym (checks-none false))
some_checks (c ∷ l) = unfold non_empty in (ap non_empty (comma c l) ∙ sym (some_check c l))

-- the first comma is all that they have more
pub comma_more : (l : List Check) → length (checks_from true l) ≤ 1 + length (checks_from false l)
comma_more [] = omega (arith, ap length (checks-none true))
comma_more (c ∷ l) = omega (arith, ap length (comma c l))
