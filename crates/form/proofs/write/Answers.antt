use mathlib.Core.Path.{◌≡◌, sym, ap, ◌∙◌}
use mathlib.Core.List.{List}
use Prim.Native.Nat.{ℕ, ◌≤◌}
use native.Mathlib.Omega.{arith}
use lib.ListN.{length, take}
use lib.Seq.{length-take-le}
use Rattle.std.proofs.lemmas.Result.{err_from_is_err_and}
use Rattle.record_rules.specs.Outcome.{accepted}
use Rattle.record_rules.proofs.Outcomes.{same_answer, same_buffer}
use Rattle.form.specs.Form.{form_text}
use Rattle.form.proofs.Outcomes.{held-size, held-text, held-error}
use Rattle.form.proofs.Theorems.{form-held}
use Rattle.form.proofs.write.Goals as goal
use Rattle.form.proofs.write.Goals.{In_ok-size}

-- the form is in the array, and no longer than it
held : (c : In_ok-size) → c.in_ok-size.size ≤ length c.put.new.space
held c =
    let r = c.in_ok-size.ensures in
    omega (arith, held-size _ _ (form-held _) r.outcome, ap length r.space_after)

-- it is the part that is copied
the-text : (c : In_ok-size) → accepted (take c.in_ok-size.size c.put.new.space) ≡ form_text c.args.b.now
the-text c =
    let r = c.in_ok-size.ensures in
    ap (λ (l : List ℕ). accepted (take c.in_ok-size.size l)) r.space_after ∙ held-text _ _ (form-held _) r.outcome

pub slice_bounds-space-end : goal.slice_bounds-space-end
slice_bounds-space-end c = held (goal.at.slice_bounds-space-end c).In_ok-size

pub slice_bounds-copy-end : goal.slice_bounds-copy-end
slice_bounds-copy-end c = sym (length-take-le _ _ (held (goal.at.slice_bounds-copy-end c).In_ok-size))

pub returns-in_err-size : goal.returns-in_err-size
returns-in_err-size c =
    let p = err_from_is_err_and c.from_residual.result c.from_residual.ensures.1 in
    let r = c.in_err-size.ensures in
    let e = held-error _ _ c.args.out.now (form-held _) _ r.outcome in
    rw (p.1, p.2) (record { outcome = e.0; goals = r.goals; out_after = e.1 })

pub returns-in_err-copy : goal.returns-in_err-copy
returns-in_err-copy c =
    let p = err_from_is_err_and c.from_residual-in_err-copy.result c.from_residual-in_err-copy.ensures.1 in
    let w = c.in_err-copy.ensures in
    let e = the-text (goal.at.returns-in_err-copy c).In_ok-size in
    rw (p.1, p.2) (record { outcome = w.outcome ∙ same_answer _ e; goals = c.in_ok-size.ensures.goals; out_after = w.out_after ∙ same_buffer _ e })

pub returns : goal.returns
returns c =
    let w = c.in_ok-copy.ensures in
    let e = the-text (goal.at.returns c).In_ok-size in
    record { outcome = w.outcome ∙ same_answer _ e; goals = c.in_ok-size.ensures.goals; out_after = w.out_after ∙ same_buffer _ e }
