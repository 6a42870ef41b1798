use mathlib.Core.Path.{sym, ◌∙◌}
use native.Mathlib.Omega.{arith}
use Rattle.record_rules.proofs.Must.{must_holds}
use Rattle.record.proofs.WellFormed.{read_well_formed}
use Rattle.record_text.proofs.Texts.{tested, in_range, text_found}
use Rattle.record_text.proofs.find.Goals as goal

pub goal_place-at-requires : goal.goal_place-at-requires
goal_place-at-requires c =
    let b = c.args.bytes.now in
    let g = c.args.goal in
    let t = tested b g c.inside.ensures (must_holds _ _ _ _ (sym c.ensure.ensures ∙ c.in_ok-ensure.was)) c.goal_count-n.ensures.value in
    let r = in_range b g (read_well_formed b c.read.ensures c.in_ok-read.was) t in (omega arith, omega arith)

pub returns : goal.returns
returns c =
    let b = c.args.bytes.now in
    let g = c.args.goal in
    let t = tested b g c.inside.ensures (must_holds _ _ _ _ (sym c.ensure.ensures ∙ c.in_ok-ensure.was)) c.goal_count-n.ensures.value in
    text_found b _ g c.of-layout.ensures (sym c.read.ensures ∙ c.in_ok-read.was) t
    c.goal_place-at.ensures.value c.text_at.ensures.value c.text_length_at.ensures.value
