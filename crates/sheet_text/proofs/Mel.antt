-- What the operation that writes MEL answers for an accepted record, and what stands in the sheet for it.
use mathlib.Core.Path.{◌≡◌, refl, sym, ap, ◌∙◌}
use mathlib.Core.Bool.{Bool, true, false, cond}
use mathlib.Core.List.{List, [], ◌∷◌, ◌++◌}
use Prim.Native.Nat.{ℕ, ◌≤◌, ◌<◌, zero-le}
use native.Mathlib.Omega.{arith}
use lib.Dec.{leb}
use lib.ListN.{length, take, drop, length-append}
use lib.Seq.{take-append_seam}
use borrow.Author.Tests.{le-leb, lt-leb, leb-true, leb-false}
use Rattle.record_rules.specs.declared.Refusal.{Refusal}
use Rattle.record_rules.specs.Outcome.{refused, accepted, outcome}
use Rattle.record_rules.proofs.Outcomes.{told_apart, one_value, one_refusal}
use Rattle.record.specs.WellFormed.{WellFormed}
use Rattle.std.specs.Prelude.{Result, Ok, Err}
use Rattle.mel.specs.Annotation.{mel, mel_answer, mel_buffer}
use Rattle.mel.proofs.Theorems.{length_named, length_enough}
use Rattle.sheet_text.specs.Sheet.{refused_text, mel_room}
use Rattle.sheet_text.specs.Parts.{mel_shown, mel_rest}

module _ (b : List ℕ) (w : WellFormed b) where
  module _ (buf : List ℕ) (room : length buf ≡ mel_room) where
    -- a length is answered where the text fits,
    pub mel_done : {r : Result ℕ Refusal} (n : ℕ) → outcome r ≡ mel_answer b buf → r ≡ Ok n → (length (mel b) ≤ mel_room) × (n ≡ length (mel b))
    mel_done n h f = go (leb (length (mel b)) (length buf)) refl (ap outcome (sym f) ∙ h)
      where
        go : (t : Bool) → leb (length (mel b)) (length buf) ≡ t → accepted n ≡ mel_answer b buf → (length (mel b) ≤ mel_room) × (n ≡ length (mel b))
        go true e k = let l = leb-true (length (mel b)) (length buf) e in (omega (arith, l, room), one_value (k ∙ (length_enough b buf w l).0))
        go false e k = absurd (told_apart (sym (k ∙ (length_named b buf w (leb-false (length (mel b)) (length buf) e)).0)))

    -- and else 12 with the text's length.
    pub mel-refused : {r : Result ℕ Refusal} (x : Refusal) → outcome r ≡ mel_answer b buf → r ≡ Err x
        → (mel_room < length (mel b)) × (x.number ≡ 12) × (x.place ≡ length (mel b))
    mel-refused x h f = go (leb (length (mel b)) (length buf)) refl (ap outcome (sym f) ∙ h)
      where
        go : (t : Bool) → leb (length (mel b)) (length buf) ≡ t → refused x.number x.place ≡ mel_answer b buf
            → (mel_room < length (mel b)) × (x.number ≡ 12) × (x.place ≡ length (mel b))
        go true e k = absurd (told_apart (k ∙ (length_enough b buf w (leb-true (length (mel b)) (length buf) e)).0))
        go false e k =
            let l = leb-false (length (mel b)) (length buf) e in
            let (i, j) = one_refusal (k ∙ (length_named b buf w l).0) in
            (omega (arith, l, room), i, j)

    -- what is shown stands at the start of the buffer
    pub shown-stands : (take (length (mel_shown (mel b))) (mel_buffer b buf) ≡ mel_shown (mel b)) × (length (mel_shown (mel b)) ≤ length (mel_buffer b buf))
    unfolding mel_shown
    shown-stands = go (leb (length (mel b)) mel_room) refl
      where
        go : (t : Bool) → leb (length (mel b)) mel_room ≡ t
            → (take (length (cond t (mel b) [])) (mel_buffer b buf) ≡ cond t (mel b) []) × (length (cond t (mel b) []) ≤ length (mel_buffer b buf))
        go true e =
            let i = (length_enough b buf w (omega (arith, leb-true (length (mel b)) mel_room e, room))).1 in
            (ap (take (length (mel b))) i ∙ take-append_seam (mel b) (drop (length (mel b)) buf), omega (arith, ap length i, length-append (mel b) (drop (length (mel b)) buf)))
        go false e = (refl, zero-le)

-- ---- what is shown of a text, and what follows it
module _ (t : List ℕ) where
  pub shown-fits : length t ≤ mel_room → mel_shown t ≡ t
  unfolding mel_shown
  shown-fits h = ap (λ (k : Bool). cond k t []) (le-leb (length t) mel_room h)

  pub shown-past : mel_room < length t → mel_shown t ≡ []
  unfolding mel_shown
  shown-past h = ap (λ (k : Bool). cond k t []) (lt-leb (length t) mel_room h)

  pub rest-fits : length t ≤ mel_room → 10 ∷ [] ≡ mel_rest t
  unfolding mel_rest
  rest-fits h = sym (ap (λ (k : Bool). cond k [] (refused_text 12 (length t)) ++ (10 ∷ [])) (le-leb (length t) mel_room h))

  pub rest-past : (k p : ℕ) → mel_room < length t → k ≡ 12 → p ≡ length t → refused_text k p ++ (10 ∷ []) ≡ mel_rest t
  unfolding mel_rest
  rest-past k p h e f =
      ap (λ (x : ℕ). refused_text x p ++ (10 ∷ [])) e ∙ ap (λ (x : ℕ). refused_text 12 x ++ (10 ∷ [])) f
      ∙ sym (ap (λ (k : Bool). cond k [] (refused_text 12 (length t)) ++ (10 ∷ [])) (lt-leb (length t) mel_room h))
