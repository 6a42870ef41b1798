use Rattle.std.specs.Prelude.{Err}
use mathlib.Core.Path.{ap, sym, ◌∙◌}
use native.Mathlib.Omega.{arith}
use lib.ListN.{length}
use lib.Seq.{length-take-le}
use Rattle.record.proofs.WellFormed.{fine_well_formed}
use Rattle.buffer.proofs.Writing.{then, recast}
use Rattle.sheet_text.proofs.Forms.{form_limit_lem, not-refused, none-shown, text-shown}
use borrow.Author.Rules.{rules}
use Rattle.sheet_text.proofs.put_form.Goals as goal

pub put_none-requires : goal.put_none-requires
put_none-requires c =
    let n = c.in-Err-NoForm in
    rw n.q-is
    (omega (
      arith,
      form_limit_lem _ (fine_well_formed _ c.args.given.accepted),
      ap length (none-shown _ n.q c.write.ensures.goals (n.is ∙ ap Err n.field-0-is)),
    ))

pub returns-in-Err-Refused : goal.returns-in-Err-Refused
returns-in-Err-Refused c =
    let w = c.write.ensures in
    let n = c.in-Err-Refused in
    absurd (not-refused _ (fine_well_formed _ c.args.given.accepted) _ (search rules) w.outcome w.goals (n.is ∙ ap Err n.field-0-is))

pub returns-in-Err-NoForm : goal.returns-in-Err-NoForm
returns-in-Err-NoForm c =
    let n = c.in-Err-NoForm in
    recast (none-shown _ n.q c.write.ensures.goals (n.is ∙ ap Err n.field-0-is)) (rw n.q-is at c.put_none.ensures)

pub slice_bounds-space-end : goal.slice_bounds-space-end
slice_bounds-space-end c =
    let w = c.write.ensures in
    let e = text-shown _ _ (search rules) (w.outcome, (w.goals, w.out_after)) c.in-Ok.is in
    e.2

pub slice_bounds-put_bytes-end-in-Ok : goal.slice_bounds-put_bytes-end-in-Ok
slice_bounds-put_bytes-end-in-Ok c =
    let w = c.write.ensures in
    let e = text-shown _ _ (search rules) (w.outcome, (w.goals, w.out_after)) c.in-Ok.is in
    sym (length-take-le _ _ e.2)

pub returns-in-Ok : goal.returns-in-Ok
returns-in-Ok c =
    let w = c.write.ensures in
    let e = text-shown _ _ (search rules) (w.outcome, (w.goals, w.out_after)) c.in-Ok.is in
    recast e.0 (then c.put_bytes-o.ensures c.put_bytes.ensures)
