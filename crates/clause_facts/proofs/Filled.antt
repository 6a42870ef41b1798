-- What is lent to be filled whole, in both cases of the record: filled, or as it was.
use Rattle.std.specs.Prelude.{Ok, Err}
use mathlib.Core.Path.{◌≡◌, ap}
use mathlib.Core.List.{List}
use Prim.Native.Nat.{ℕ}
use Rattle.record_rules.specs.declared.Refusal.{Refusal}
use Rattle.record_rules.specs.Reading.{reading, Reading}
use Rattle.record_rules.specs.Outcome.{accepted, started, read_then, values}
use Rattle.clause_facts.specs.Facts.{filled}

module _ {A : Type 0} (b : List ℕ) (x was : A) where
  pub filled_ok : reading b ≡ Ok tt → filled b x was ≡ x
  unfolding filled read_then
  filled_ok e = ap (λ (s : Reading). (values was (started s (accepted x))).value) e

  pub filled_err : (r : Refusal) → reading b ≡ Err r → filled b x was ≡ was
  unfolding filled read_then
  filled_err r e = ap (λ (s : Reading). (values was (started s (accepted x))).value) e
