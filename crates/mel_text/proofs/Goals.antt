-- Laws of the goals of a stage.
use mathlib.Core.Path.{◌≡◌}
use mathlib.Core.List.{List, [], ◌++◌, map}
use Prim.Native.Nat.{ℕ, suc, ◌+◌, ◌-◌, ◌≤◌, ◌<◌, suc-le-suc}
use native.Mathlib.Nat.{le_refl}
use native.Mathlib.Numerals.{add-one}
use native.Mathlib.Omega.{arith}
use lib.Dec.{ltb}
use borrow.Author.Tests.{lt-ltb, le-ltb}
use Rattle.buffer.specs.Text.{join_from, only}
use Rattle.buffer.specs.Decimal.{decimal}
use Rattle.buffer.proofs.Writing.{join_step, join_none}
use Rattle.mel_stages.specs.Mel.{goals_from, goals_text}

-- what is left of the goals of a stage after goal g
pub goals_left : ℕ → ℕ → ℕ → List ℕ
goals_left p g q = join_from (ltb p g) 38 (map decimal (goals_from (q - g) g))

pub goals-whole : (p q : ℕ) → goals_text p q ≡ goals_left p p q
unfolding goals_text goals_left
goals-whole p q = rw (le-ltb p p (le_refl p))

pub goals-step : (p g q : ℕ) → p ≤ g → g < q → goals_left p g q ≡ only (ltb p g) 38 ++ decimal (g + 1) ++ goals_left p (g + 1) q
unfolding goals_left goals_from
goals-step p g q h l =
    let e : q - g ≡ suc (q - (g + 1)) = omega arith in
    rw (e, add-one g, lt-ltb p (suc g) (suc-le-suc h)) (join_step (ltb p g) 38 (decimal (suc g)) (map decimal (goals_from (q - suc g) (suc g))))

pub goals-end : (p g q : ℕ) → q ≤ g → goals_left p g q ≡ []
unfolding goals_left goals_from
goals-end p g q h = let e : q - g ≡ 0 = omega arith in rw e (join_none (ltb p g) 38)
