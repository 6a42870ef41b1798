use native.Mathlib.Omega.{arith}
use mathlib.Core.Path.{◌≡◌, refl, sym}
use mathlib.Core.Bool.{Bool, true, false}
use Prim.Native.Nat.{ℕ, ◌<◌, ◌≤◌}
use lib.ListN.{length}
use lib.Dec.{leb}
use borrow.Author.Tests.{leb-true, leb-false}
use Rattle.std.specs.Prelude.{Ok, Err}
use Rattle.record_rules.specs.declared.Refusal.{Refusal}
use Rattle.record_rules.specs.Reading.{◌must◌else◌place◌}
use Rattle.record_rules.proofs.Must.{must_holds}
use Rattle.record_rules.proofs.Outcomes.{size_fits, buffer_fits, buffer_short}
use Rattle.form.proofs.copy.Goals as goal

-- where it is refused, the buffer is shorter
short : (need room k p : ℕ) (r : Refusal) → Err r ≡ (Ok tt must leb need room else k place p) → room < need
unfolding ◌must◌else◌place◌
short need room k p r e = go (leb need room) (leb-false need room) e
  where
    go : (t : Bool) → (t ≡ false → room < need) → Err r ≡ (Ok tt must t else k place p) → room < need
    go true less e = cc
    go false less e = less refl

pub returns-in_err-ensure-clause-out_after : goal.returns-in_err-ensure-clause-out_after
returns-in_err-ensure-clause-out_after c = buffer_short _ _ (short _ _ _ _ _ c.in_err-ensure.ensures)

pub returns : goal.returns
returns c =
    let w = c.put_bytes.ensures in
    let fits : length c.args.text.now ≤ length c.args.out.now = leb-true _ _ (must_holds (Ok tt) _ _ _ (sym c.in_ok-ensure.ensures)) in
    record { outcome = size_fits _ _ (omega (arith, w.place)) fits; out_after = buffer_fits _ _ w fits }
