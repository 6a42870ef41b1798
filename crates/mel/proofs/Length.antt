-- How long the parts of an annotation are at most: 15 bytes a check with its comma, 12 a ground check, 3 a goal.
use mathlib.Core.Path.{◌≡◌, refl, ap}
use mathlib.Core.Bool.{Bool, true, false, cond}
use mathlib.Core.List.{List, [], ◌∷◌, map}
use Prim.Native.Nat.{ℕ, zero, suc, ◌+◌, ◌-◌, ◌*◌, ◌≤◌, ◌<◌, zero-le}
use native.Mathlib.Omega.{arith}
use lib.ListN.{length, length-append}
use Rattle.buffer.specs.Text.{join_from, only}
use Rattle.buffer.specs.Decimal.{decimal}
use Rattle.buffer.proofs.Writing.{join_step, join_none, only-length}
use Rattle.buffer.proofs.Decimal.{decimal-length}
use Rattle.mel_stages.specs.Mel as W
use Rattle.mel_stages.specs.Mel.{Check, Ground, Indep, check_text, checks_from, arrow_if, goals_from, goals_text}
use Rattle.mel_stages.specs.Masks.{given}
use Rattle.mel_stages.specs.Plain.{All}
use Rattle.sets.specs.Sets.{has, members_from}
use Rattle.mel_stages.proofs.Stages.{stages-none}
use Rattle.mel_checks.specs.CheckTexts.{item}
use Rattle.mel_checks.proofs.Checks.{checks-step, checks-none, item-step, ground-length, indep_length}
use Rattle.mel_text.specs.StageTexts.{stages_text, mel_text}

-- the variables of a check have at most two digits
abbrev pub Short : Check → Type 0
Short (Ground x) = x < 100
Short (Indep x y) = (x < 100) × (y < 100)

item-length : (c : Check) → Short c → length (item c) ≤ 15
item-length (Ground x) h = omega (arith, ground-length x, decimal-length 1 x h)
item-length (Indep x y) h = omega (arith, indep_length x y, decimal-length 1 x h.0, decimal-length 1 y h.1)

check-length : (c : Check) → Short c → length (check_text c) ≤ 14
unfolding item
check-length c h = omega (arith, item-length c h)

pub checks-length : (more : Bool) (l : List Check) → All Short l → length (checks_from more l) ≤ 15 * length l
checks-length more [] h = omega (arith, ap length (checks-none more))
checks-length more (c ∷ l) h = omega (arith, simp length-append at (ap length (checks-step more c l)), only-length more 44, check-length c h.0, checks-length true l h.1)

-- 12 bytes a ground check
pub grounds_length : (l : List ℕ) → All (λ x. x < 100) l → length (checks_from true (map Ground l)) ≤ 12 * length l
grounds_length [] a = omega (arith, ap length (checks-none true))
grounds_length (x ∷ l) a =
    omega (arith, simp length-append at (ap length (item-step (Ground x) (map Ground l))), ground-length x, decimal-length 1 x a.0, grounds_length l a.1)

-- the first check has no comma
pub no_comma : (l : List Check) → length (checks_from false l) ≤ length (checks_from true l)
unfolding only
no_comma [] = omega (arith, ap length (checks-none false))
no_comma (c ∷ l) = omega (arith, simp length-append at (ap length (checks-step false c l)), simp length-append at (ap length (checks-step true c l)))

-- the checks of variables below 100
pub below_hundred : (w i m : ℕ) → i + w ≤ 100 → All (λ x. x < 100) (members_from w i m)
unfolding members_from
below_hundred zero i m h = tt
below_hundred (suc w) i m h = go (has m i) (below_hundred w (suc i) m (omega arith))
  where
    go : (s : Bool) → All (λ x. x < 100) (members_from w (suc i) m) → All (λ x. x < 100) (cond s (i ∷ members_from w (suc i) m) (members_from w (suc i) m))
    go true a = (omega arith, a)
    go false a = a

pub all_short : (f : ℕ → Check) → ((x : ℕ) → x < 100 → Short (f x)) → (l : List ℕ) → All (λ x. x < 100) l → All Short (map f l)
all_short f h [] a = tt
all_short f h (x ∷ l) a = (h x a.0, all_short f h l a.1)

goals-length : (more : Bool) (k p : ℕ) → k ≤ 99 - p → length (join_from more 38 (map decimal (goals_from k p))) ≤ 3 * k
unfolding goals_from
goals-length more zero p h = rw (join_none more 38) zero-le
goals-length more (suc k) p h =
    omega (arith, simp length-append at (ap length (join_step more 38 (decimal (suc p)) (map decimal (goals_from k (suc p))))), only-length more 38, decimal-length 1 (suc p) (omega arith), goals-length true k (suc p) (omega arith))

pub goals_bound : (p q : ℕ) → q < 100 → length (goals_text p q) ≤ 3 * (q - p)
unfolding goals_text
goals_bound p q h = goals-length false (q - p) p (omega arith)

pub arrow_length : (b : Bool) → length (arrow_if b) ≤ 2
unfolding arrow_if
arrow_length true = omega arith
arrow_length false = omega arith

module _ (w head : ℕ) (sets grounds listed : List ℕ) where
  pub none-text : length (stages_text w head sets grounds listed 0) ≤ 0
  unfolding stages_text W.stages_text given
  none-text = rw (stages-none w head sets, join_none false 44) zero-le

  -- the whole text is the text of all its stages
  pub mel_text_lem : stages_text w head sets grounds listed (length sets) ≡ mel_text w head sets grounds listed
  unfolding mel_text W.mel_text stages_text given
  mel_text_lem = refl
