-- The whole sheet in its three parts, and its length without the MEL text.
use Rattle.std.specs.Prelude.{Ok, Err}
use mathlib.Core.Path.{◌≡◌, sym, ap, ap₂, ◌∙◌}
use mathlib.Core.Bool.{Bool, true, false, cond}
use mathlib.Core.List.{List, [], ◌∷◌, ◌++◌, append_assoc, append-nil}
use Prim.Native.Nat.{ℕ, ◌+◌, ◌-◌, ◌≤◌}
use native.Mathlib.Omega.{arith}
use lib.Dec.{leb}
use lib.ListN.{length, take, drop, length-append}
use lib.Seq.{take_at, drop_at, length-sets}
use Rattle.buffer.specs.Text.{Wrote}
use Rattle.buffer.proofs.Decimal.{decimal-length}
use Rattle.buffer.proofs.Writing.{stands}
use Rattle.record_fields.specs.Fields.{goal_count}
use Rattle.record_rules.specs.Reading.{reading, Reading}
use Rattle.record_rules.specs.declared.Refusal.{Refusal}
use Rattle.record.specs.WellFormed.{WellFormed}
use Rattle.form.specs.Form.{form_text, shown}
use Rattle.mel.specs.Annotation.{mel}
use Rattle.sheet_text.specs.Sheet.{mel_word, line, refused_text, goal_lines, form_line, mel_room, mel_line, sheet_with, goal_text, sheet}
use Rattle.sheet_text.specs.Parts.{count_line, accepted_top, mel_shown, mel_rest, top_of, rest_of, lines, shown_of, parts_of, Shows}
use Rattle.sheet_text.specs.declared.Parts.{Parts}
use Rattle.sheet_text.proofs.Lines.{count-length, goals-length}
use Rattle.sheet_text.proofs.Forms.{form_limit_lem}

module _ (b : List ℕ) where
  -- the lines up to the MEL text, as they are written
  pub top-parts : count_line (goal_count b) ++ goal_lines (goal_text b) (goal_count b) ++ form_line (shown b) (form_text b) ++ (10 ∷ mel_word) ≡ accepted_top b
  unfolding accepted_top
  top-parts =
      let x = count_line (goal_count b) ++ goal_lines (goal_text b) (goal_count b) in
      let f = form_line (shown b) (form_text b) in
      append_assoc x f (10 ∷ mel_word) ∙ ap (λ (u : List ℕ). x ++ u) (sym (append_assoc f (10 ∷ []) mel_word)) ∙ sym (append_assoc x (f ++ (10 ∷ [])) mel_word)

  pub top_limit : WellFormed b → length (accepted_top b) ≤ 1600
  top_limit w =
      let x = count_line (goal_count b) ++ goal_lines (goal_text b) (goal_count b) in
      omega (
        arith,
        ap length top-parts,
        length-append (x ++ form_line (shown b) (form_text b)) (10 ∷ mel_word),
        length-append x (form_line (shown b) (form_text b)),
        length-append (count_line (goal_count b)) (goal_lines (goal_text b) (goal_count b)),
        count-length (goal_count b),
        decimal-length 1 (goal_count b) (omega (arith, w.goals_to)),
        goals-length b w (goal_count b) (omega arith),
        form_limit_lem b w,
        w.goals_to,
      )

  pub lines-fine : reading b ≡ Ok tt → accepted_top b ++ mel_rest (mel b) ≡ lines b
  unfolding lines top_of rest_of
  lines-fine e = sym (ap (λ (s : Reading). top_of s b ++ rest_of s b) e)

  pub lines-refused : (r : Refusal) → reading b ≡ Err r → line (refused_text r.number r.place) ≡ lines b
  unfolding lines top_of rest_of
  lines-refused r e = sym (append-nil (line (refused_text r.number r.place))) ∙ sym (ap (λ (s : Reading). top_of s b ++ rest_of s b) e)

  -- an answer of the parts' lengths is that of the specification
  parts_are : (s : Reading) → reading b ≡ s → (r : Parts) → r.top ≡ length (top_of s b) → r.mel ≡ length (shown_of s b) → r.end ≡ length (lines b) → r ≡ parts_of b
  unfolding parts_of
  parts_are s h r e f g =
      λ i. record { top = (e ∙ sym (ap (λ (u : Reading). length (top_of u b)) h)) i; mel = (f ∙ sym (ap (λ (u : Reading). length (shown_of u b)) h)) i; end = g i }

  pub parts-fine : reading b ≡ Ok tt → (r : Parts) → r.top ≡ length (accepted_top b) → r.mel ≡ length (mel_shown (mel b)) → r.end ≡ length (lines b) → r ≡ parts_of b
  unfolding top_of shown_of
  parts-fine = parts_are (Ok tt)

  pub parts-refused : (x : Refusal) → reading b ≡ Err x → (r : Parts) → r.top ≡ length (line (refused_text x.number x.place)) → r.mel ≡ 0
      → r.end ≡ length (lines b) → r ≡ parts_of b
  unfolding top_of shown_of
  parts-refused x = parts_are (Err x)

  -- the three parts are the sheet
  pub sheet-fine : reading b ≡ Ok tt → accepted_top b ++ mel_shown (mel b) ++ mel_rest (mel b) ≡ sheet b
  unfolding sheet sheet_with mel_line mel_shown mel_rest accepted_top count_line
  sheet-fine e = go (leb (length (mel b)) mel_room) ∙ sym (ap (λ (s : Reading). sheet_with (goal_text b) refused_text s b) e)
    where
      x : List ℕ
      x = count_line (goal_count b) ++ goal_lines (goal_text b) (goal_count b) ++ line (form_line (shown b) (form_text b))

      t : List ℕ
      t = mel b

      r : List ℕ
      r = refused_text 12 (length (mel b))

      go : (k : Bool) → x ++ mel_word ++ cond k t [] ++ (cond k [] r ++ (10 ∷ [])) ≡ x ++ (cond k (mel_word ++ t) (mel_word ++ r) ++ (10 ∷ []))
      go true = ap (λ (u : List ℕ). u ++ (10 ∷ [])) (append_assoc x mel_word t) ∙ append_assoc x (mel_word ++ t) (10 ∷ [])
      go false =
          ap (λ (u : List ℕ). u ++ (r ++ (10 ∷ []))) (append-nil (x ++ mel_word)) ∙ append_assoc x mel_word (r ++ (10 ∷ []))
          ∙ ap (λ (u : List ℕ). x ++ u) (sym (append_assoc mel_word r (10 ∷ [])))

  pub sheet-refused : (r : Refusal) → reading b ≡ Err r → line (refused_text r.number r.place) ++ [] ++ [] ≡ sheet b
  unfolding sheet sheet_with
  sheet-refused r e =
      append-nil (line (refused_text r.number r.place) ++ []) ∙ append-nil (line (refused_text r.number r.place))
      ∙ sym (ap (λ (s : Reading). sheet_with (goal_text b) refused_text s b) e)

  -- the parts of the arrays, where they hold these three
  pub shows : {l o text : List ℕ} (r : Parts) (t m u : List ℕ) → Wrote (t ++ u) 0 l r.end o → length (t ++ u) ≤ length l → r.top ≡ length t
      → take r.mel text ≡ m → r.mel ≤ length text → t ++ m ++ u ≡ sheet b → Shows b o text r
  shows {l} {o} {text} r t m u w h e f n s =
      let d = drop (0 + length (t ++ u)) l in
      let k = length-append t u in
      let i : o ≡ t ++ (u ++ d) = stands w (omega (arith, h)) ∙ append_assoc t u d in
      let j : take (r.end - r.top) (drop r.top o) ≡ u =
      ap (λ (v : List ℕ). take (r.end - r.top) (drop r.top v)) i ∙ ap (take (r.end - r.top)) (drop_at t (u ++ d) r.top (sym e))
      ∙ take_at u d (r.end - r.top) (omega (arith, w.place, e, k)) in
      record {
        top_to = omega (arith, w.place, e, k);
        end_to = omega (arith, w.place, h, ap length w.bytes, length-sets l 0 (t ++ u));
        mel_to = n;
        is_sheet =
            ap₂ (λ (v y : List ℕ). v ++ take r.mel text ++ y) (ap (take r.top) i ∙ take_at t (u ++ d) r.top (sym e)) j
            ∙ ap (λ (v : List ℕ). t ++ v ++ u) f ∙ s;
      }
