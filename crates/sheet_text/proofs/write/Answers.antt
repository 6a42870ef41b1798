use mathlib.Core.Path.{◌≡◌, refl, sym, ap, ap₂, ◌∙◌}
use mathlib.Core.List.{[], append-nil}
use Prim.Native.Nat.{zero-le}
use native.Mathlib.Omega.{arith}
use lib.ListN.{length, take, length-append}
use Rattle.buffer.proofs.Writing.{then, recast}
use Rattle.record.proofs.WellFormed.{fine_well_formed}
use Rattle.mel.specs.Annotation.{mel}
use Rattle.mel.proofs.Outcomes.{refused_buffer}
use Rattle.sheet_text.specs.Sheet.{line, refused_text}
use Rattle.sheet_text.specs.Parts.{accepted_top, mel_shown, mel_rest}
use Rattle.sheet_text.proofs.Mel.{shown-stands}
use Rattle.sheet_text.proofs.Sheet.{top_limit, lines-fine, lines-refused, parts-fine, parts-refused, sheet-fine, sheet-refused, shows}
use Rattle.sheet_text.proofs.write.Goals as goal

pub put_mel-requires-clause-top_bound : goal.put_mel-requires-clause-top_bound
put_mel-requires-clause-top_bound c = omega (arith, top_limit _ (fine_well_formed _ c.in-Ok.given.accepted), c.put_top-top.ensures.place)

pub returns-in-Err : goal.returns-in-Err
returns-in-Err c =
    let x = c.in-Err.r in
    let b = c.args.bytes.now in
    let e = c.in-Err.ensures in
    let t = line (refused_text x.number x.place) in
    let wrote = c.put_refused-top.ensures.wrote in
    let ends : c.put_refused-top.result ≡ length t = omega (arith, wrote.place) in
    let whole = recast (lines-refused b x e) wrote in
    record {
      value = parts-refused b x e _ ends refl (omega (arith, whole.place));
      shows =
          shows b _ t [] [] (recast (sym (append-nil t)) wrote) (omega (arith, ap length (append-nil t), ends, c.put_refused-top.ensures.upper_bound, c.requires.in_bounds)) ends refl zero-le
          (sheet-refused b x e);
      wrote = whole;
      text_after = refused_buffer b _ x e;
    }

pub returns-in-Ok : goal.returns-in-Ok
returns-in-Ok c =
    let b = c.args.bytes.now in
    let e = c.in-Ok.ensures.0 in
    let w = fine_well_formed b e in
    let top = rw c.in-Ok.ensures.1 at c.put_top-top.ensures in
    let m = rw c.in-Ok.ensures.1 at c.put_mel.ensures in
    let ends : c.put_mel.result.top ≡ length (accepted_top b) = omega (arith, m.top_value, top.place) in
    let both = then top m.wrote in
    let whole = recast (lines-fine b e) both in
    let held = shown-stands b w c.args.text.now c.requires.text_len in
    record {
      value = parts-fine b e _ ends m.mel_value (omega (arith, whole.place));
      shows =
          shows b _ (accepted_top b) (mel_shown (mel b)) (mel_rest (mel b)) both
          (omega (arith, length-append (accepted_top b) (mel_rest (mel b)), top_limit b w, top.place, m.wrote.place, m.end_bound, c.requires.in_bounds)) ends
          (ap₂ take m.mel_value m.text_after ∙ held.0) (omega (arith, m.mel_value, ap length m.text_after, held.1)) (sheet-fine b e);
      wrote = whole;
      text_after = m.text_after;
    }
