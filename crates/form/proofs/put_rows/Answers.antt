use native.Mathlib.Omega.{arith}
use mathlib.Core.Path.{◌≡◌, sym, ◌∙◌}
use mathlib.Core.Bool.{false}
use mathlib.Core.Option.{none}
use Prim.Native.Nat.{◌+◌, ◌^◌, ◌≤◌, ◌<◌}
use lib.ListN.{length}
use Rattle.buffer.proofs.Writing.{recast}
use Rattle.graph.specs.Graph.{ahead}
use Rattle.expression.specs.Arrange.{form_any}
use Rattle.expression.specs.Search.{first_n}
use Rattle.expression.specs.Text.{text}
use Rattle.form_split.specs.Split.{Ordered, form_text}
use Rattle.form.proofs.Rows.{ordered, room, text_is, text_short}
use Rattle.record_rules.proofs.Outcomes.{size_fits, buffer_fits, same_answer, same_buffer}
use Rattle.form.proofs.Outcomes.{thirteen-none}
use Rattle.form.proofs.put_rows.Goals as goal
use Rattle.form.proofs.put_rows.Goals.{After-below-all}

-- the search found nothing
none_first : (c : After-below-all) → first_n (ahead c.args.rows.now) c.args.n ≡ none
none_first c = sym c.in_default.ensures

-- what the writer of the form asks, and what it writes
asks : (c : After-below-all) →
    Ordered c.args.rows.now c.transpose.new.rows c.below-all.result
    × (0 + length (form_text 32 false c.args.rows.now c.below-all.result) < 2 ^ 63)
asks c =
    let s = c.requires in (
      ordered _ _ _ _ s.0 s.1 s.2 (none_first c) c.transpose.ensures c.below-all.ensures,
      room _ _ _ _ s.0 s.1 s.2 (none_first c) c.transpose.ensures c.below-all.ensures,
    )

the-text : (c : After-below-all) → form_text 32 false c.args.rows.now c.below-all.result ≡ text (form_any (ahead c.args.rows.now) c.args.n)
the-text c =
    let s = c.requires in
    text_is _ _ _ _ s.0 s.1 s.2 (none_first c) c.transpose.ensures c.below-all.ensures

fits : (c : After-below-all) → length (text (form_any (ahead c.args.rows.now) c.args.n)) ≤ length c.args.space.now
fits c =
    let s = c.requires in
    omega (arith, text_short _ _ _ _ s.0 s.1 s.2 (none_first c) c.transpose.ensures c.below-all.ensures, s.4)

pub put_form-size-requires : goal.put_form-size-requires
put_form-size-requires c = asks (goal.at.put_form-size-requires c).After-below-all

pub returns : goal.returns
returns c =
    let d = (goal.at.returns c).After-below-all in
    let w = recast (the-text d) c.put_form-size.ensures in
    let h = fits d in
    let e = sym (thirteen-none _ (none_first d)) in
    record {
      outcome = size_fits _ _ (omega (arith, w.place)) h ∙ same_answer _ e;
      goals = sym (none_first d);
      space_after = buffer_fits _ _ w h ∙ same_buffer _ e;
    }
