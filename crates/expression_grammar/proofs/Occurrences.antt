-- The numbers that the grammar reads in a text are those that the scan finds, at the same places, which ascend.
--     number_at     NumberAt j p v exactly if the scan `numbers` has the number v at p
--     ascending     the scan's places ascend
use mathlib.Core.Path.{◌≡◌, refl, sym, ap, ◌∙◌, subst}
use mathlib.Core.Bool.{Bool}
use mathlib.Core.List.{List, [], ◌∷◌, ◌++◌, append_assoc, append-nil}
use mathlib.Core.Option.{Option, none, some}
use mathlib.Core.Logic.{◌⊎◌, inl, inr, ⊎_elim, ◌↔◌}
use Prim.Native.Nat.{ℕ, suc, ◌+◌, ◌<◌, ◌≤◌}
use native.Mathlib.Omega.{arith}
use lib.ListN.{length, length-append}
use Rattle.expression.specs.Expr.{Expr, Members}
use Rattle.expression.specs.Text.{mark}
use Rattle.expression_grammar.specs.Grammar.{Number, single, double, Joined, alone, several, Others, last, next, Member, group, number, parens, Text}
use Rattle.expression_grammar.specs.Reader.{Sign, digit, joiner, opener, closer, other, sign}
use Rattle.expression_grammar.specs.Numbers.{Found, found, fresh, grown, scan, numbers}
use Rattle.expression_grammar.proofs.Signs.{sign_digit}
use Rattle.expression_grammar.proofs.Goals.{Parts, parts-mark, skip_mark}
use Rattle.expression_grammar.specs.Occurrences.{InJoined, InOthers, InMember, NumberAt}

-- the number v is in the list, with the place p
abbrev pub Has : List Found → ℕ → ℕ → Type 0
Has [] p v = ⊥
Has (x ∷ l) p v = ((p ≡ x.place) × (v ≡ x.value)) ⊎ Has l p v

-- ---- What the scan finds in t ++ u: the numbers N of t, and those of u. u ends a number: it begins with no digit.
abbrev Finds : List ℕ → List ℕ → ℕ → (ℕ → ℕ → Type 0) → Type 0
Finds t u at N = (p v : ℕ) → Has (scan (t ++ u) at none) p v ↔ (N p v ⊎ Has (scan u (at + length t) none) p v)

-- a number
pub number-scan : {t : List ℕ} {n : ℕ} → Number t n → (u : List ℕ) → Parts u → (at : ℕ) → scan (t ++ u) at none ≡ found n at ∷ scan u (at + length t) none
number-scan (single v lo hi) u h at =
    let e : suc at ≡ at + 1 = omega arith in
    ap (λ s. scan u (suc at) (fresh s at)) (sign_digit v hi) ∙ h (suc at) (found v at) ∙ ap (λ z. found v at ∷ scan u z none) e
number-scan (double v w lo hi hw) u h at =
    let e : suc (suc at) ≡ at + 2 = omega arith in
    ap (λ s. scan ((48 + w) ∷ u) (suc at) (fresh s at)) (sign_digit v hi) ∙ ap (λ s. grown (found v at) s ∷ scan u (suc (suc at)) none) (sign_digit w hw)
    ∙ ap (λ z. grown (found v at) (digit w) ∷ scan u z none) e

-- a part, a mark and what follows it
both : (k : Bool) (s t w u : List ℕ) (at : ℕ) (N M : ℕ → ℕ → Type 0) → s ≡ t ++ (mark k ∷ w) → Finds t (mark k ∷ (w ++ u)) at N → Finds w u (suc (at + length t)) M
    → Finds s u at (λ p v. N p v ⊎ M p v)
both k s t w u at N M q a b p v = (
  λ h. ⊎_elim (λ x. inl (inl x)) (λ x. ⊎_elim (λ y. inl (inr y)) (λ y. inr (subst (λ z. Has (scan u z none) p v) ends y)) ((b p v).0 (subst (λ l. Has l p v) skip x)))
      ((a p v).0 (subst (λ z. Has (scan z at none) p v) whole h)),
  λ h. subst (λ z. Has (scan z at none) p v) (sym whole)
      ((a p v).1 (⊎_elim (λ x. ⊎_elim (λ y. inl y) (λ y. inr (later (inl y))) x) (λ x. inr (later (inr (subst (λ z. Has (scan u z none) p v) (sym ends) x)))) h)),
)
  where
    whole : s ++ u ≡ t ++ (mark k ∷ (w ++ u))
    whole = ap (λ z. z ++ u) q ∙ append_assoc t (mark k ∷ w) u

    skip : scan (mark k ∷ (w ++ u)) (at + length t) none ≡ scan (w ++ u) (suc (at + length t)) none
    skip = skip_mark k (w ++ u) (at + length t)

    ends : suc (at + length t) + length w ≡ at + length s
    ends = omega (arith, ap length q, length-append t (mark k ∷ w))

    later : M p v ⊎ Has (scan u (suc (at + length t) + length w) none) p v → Has (scan (mark k ∷ (w ++ u)) (at + length t) none) p v
    later x = subst (λ l. Has l p v) (sym skip) ((b p v).1 x)

-- a part in parentheses
inside : (s t u : List ℕ) (at : ℕ) (N : ℕ → ℕ → Type 0) → s ≡ 40 ∷ (t ++ (41 ∷ [])) → Finds t (41 ∷ u) (suc at) N → Finds s u at N
inside s t u at N q a p v =
    subst (λ z. Has (scan z at none) p v ↔ (N p v ⊎ Has (scan u (at + length s) none) p v)) (sym whole)
    (subst (λ z. Has (scan (t ++ (41 ∷ u)) (suc at) none) p v ↔ (N p v ⊎ Has (scan u z none) p v)) ends (a p v))
  where
    whole : s ++ u ≡ 40 ∷ (t ++ (41 ∷ u))
    whole = ap (λ z. z ++ u) q ∙ ap (λ (z : List ℕ). 40 ∷ z) (append_assoc t (41 ∷ []) u)

    ends : suc (suc at + length t) ≡ at + length s
    ends = omega (arith, ap length q, length-append t (41 ∷ []))

mutual
  joined_finds : {k : Bool} {d : ℕ} {t : List ℕ} {e : Expr} (j : Joined k d t e) (u : List ℕ) → Parts u → (at : ℕ) → Finds t u at (λ p v. InJoined j at p v)
  joined_finds (alone m) u h at = member_finds m u h at
  joined_finds (several {k = k} {t = s} {u = t} {w = w} m o q) u h at =
      both k s t w u at (λ p v. InMember m at p v) (λ p v. InOthers o (suc (at + length t)) p v) q
      (member_finds m (mark k ∷ (w ++ u)) (parts-mark k (w ++ u)) at) (others_finds o u h (suc (at + length t)))

  others_finds : {k : Bool} {d : ℕ} {t : List ℕ} {ms : Members} (o : Others k d t ms) (u : List ℕ) → Parts u → (at : ℕ) → Finds t u at (λ p v. InOthers o at p v)
  others_finds (last m) u h at = member_finds m u h at
  others_finds (next {k = k} {t = s} {u = t} {w = w} m o q) u h at =
      both k s t w u at (λ p v. InMember m at p v) (λ p v. InOthers o (suc (at + length t)) p v) q
      (member_finds m (mark k ∷ (w ++ u)) (parts-mark k (w ++ u)) at) (others_finds o u h (suc (at + length t)))

  member_finds : {k : Bool} {d : ℕ} {t : List ℕ} {e : Expr} (m : Member k d t e) (u : List ℕ) → Parts u → (at : ℕ) → Finds t u at (λ p v. InMember m at p v)
  member_finds (group j) u h at = joined_finds j u h at
  member_finds (number {t = t} {n = n} j) u h at = λ p v. (subst (λ l. Has l p v) (number-scan j u h at), subst (λ l. Has l p v) (sym (number-scan j u h at)))
  member_finds (parens {t = s} {u = t} j q) u h at = inside s t u at (λ p v. InJoined j (suc at) p v) q (joined_finds j (41 ∷ u) (λ i x. refl) (suc at))

pub number_at : {d : ℕ} {t : List ℕ} {e : Expr} (j : Text d t e) (p v : ℕ) → NumberAt j p v ↔ Has (numbers t) p v
number_at {t = t} j p v =
    let a = joined_finds j [] (λ at x. refl) 0 p v in
    (λ h. subst (λ z. Has (scan z 0 none) p v) (append-nil t) (a.1 (inl h)), λ h. ⊎_elim (λ x. x) (λ x. absurd x) (a.0 (subst (λ z. Has (scan z 0 none) p v) (sym (append-nil t)) h)))

-- ---- The places ascend.
abbrev Above : ℕ → List Found → Type 0
Above a l = (p v : ℕ) → Has l p v → a ≤ p

abbrev pub Ascends : List Found → Type 0
Ascends [] = Unit {0}
Ascends (x ∷ l) = Above (suc x.place) l × Ascends l

-- the next number begins at a or later, and before at
abbrev Next : ℕ → ℕ → Option Found → Type 0
Next a at none = a ≤ at
Next a at (some x) = (a ≤ x.place) × (x.place < at)

next-fresh : (a at : ℕ) (s : Sign) → a ≤ at → Next a (suc at) (fresh s at)
next-fresh a at (digit v) h = (h, omega arith)
next-fresh a at (joiner k) h = omega arith
next-fresh a at opener h = omega arith
next-fresh a at closer h = omega arith
next-fresh a at other h = omega arith

grown-place : (x : Found) (s : Sign) → (grown x s).place ≡ x.place
grown-place x (digit v) = refl
grown-place x (joiner k) = refl
grown-place x opener = refl
grown-place x closer = refl
grown-place x other = refl

scan_above : (t : List ℕ) (at a : ℕ) (o : Option Found) → Next a at o → Above a (scan t at o)
scan_above [] at a none h p v i = absurd i
scan_above [] at a (some x) h p v (inl i) = omega (arith, h.0, i.0)
scan_above [] at a (some x) h p v (inr i) = absurd i
scan_above (b ∷ t) at a none h p v i = scan_above t (suc at) a (fresh (sign b) at) (next-fresh a at (sign b) h) p v i
scan_above (b ∷ t) at a (some x) h p v (inl i) = omega (arith, h.0, i.0, grown-place x (sign b))
scan_above (b ∷ t) at a (some x) h p v (inr i) = scan_above t (suc at) a none (omega (arith, h.0, h.1)) p v i

scan-ascends : (t : List ℕ) (at : ℕ) (o : Option Found) → Next 0 at o → Ascends (scan t at o)
scan-ascends [] at none h = tt
scan-ascends [] at (some x) h = (λ p v i. absurd i, tt)
scan-ascends (b ∷ t) at none h = scan-ascends t (suc at) (fresh (sign b) at) (next-fresh 0 at (sign b) h)
scan-ascends (b ∷ t) at (some x) h =
    (scan_above t (suc at) (suc (grown x (sign b)).place) none (omega (arith, h.1, grown-place x (sign b))), scan-ascends t (suc at) none (omega arith))

pub ascending : (t : List ℕ) → Ascends (numbers t)
ascending t = scan-ascends t 0 none (omega arith)
