-- What writing MEL answers, of a refused record and of an accepted one.
use Rattle.std.specs.Prelude.{Ok, Err}
use mathlib.Core.Path.{◌≡◌, refl, sym, ap, ◌∙◌}
use mathlib.Core.List.{List}
use Prim.Native.Nat.{ℕ}
use Rattle.record_rules.specs.declared.Refusal.{Refusal}
use Rattle.record_rules.specs.Reading.{reading}
use Rattle.record_rules.specs.Outcome.{Outcome, refused, accepted, size_in, buffer_after}
use Rattle.record_rules.proofs.Outcomes.{read-refused, read-fine, same_answer, same_buffer}
use Rattle.mel.specs.Annotation.{mel, mel_outcome, mel_answer, mel_buffer}

module _ (b : List ℕ) where
  pub mel-refused : (r : Refusal) → reading b ≡ Err r → mel_outcome b ≡ refused r.number r.place
  unfolding mel_outcome
  mel-refused r e = sym (read-refused b _ r refl e)

  pub mel-fine : reading b ≡ Ok tt → mel_outcome b ≡ accepted (mel b)
  unfolding mel_outcome
  mel-fine e = sym (read-fine b _ refl e)

  module _ (buf : List ℕ) where
    pub refused-answer : (r : Refusal) → reading b ≡ Err r → refused r.number r.place ≡ mel_answer b buf
    refused-answer r e = sym (same_answer buf (mel-refused r e))

    pub refused_buffer : (r : Refusal) → reading b ≡ Err r → buf ≡ mel_buffer b buf
    refused_buffer r e = sym (same_buffer buf (mel-refused r e))

    -- what was answered and stored for the record's text
    pub fine-text : {o : Outcome ℕ} {new t : List ℕ} → (o ≡ size_in (accepted t) buf) × (new ≡ buffer_after (accepted t) buf) → t ≡ mel b → reading b ≡ Ok tt
        → (o ≡ mel_answer b buf) × (new ≡ mel_buffer b buf)
    fine-text (v, n) t e =
        let x = ap accepted t ∙ sym (mel-fine e) in
        (v ∙ same_answer buf x, n ∙ same_buffer buf x)
