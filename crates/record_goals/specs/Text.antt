-- A text without a bad byte.
use Rattle.std.specs.Prelude.{Bool, List, ℕ, ◌+◌}
use Rattle.logic.specs.Quantifiers.{every}
use Rattle.record_fields.specs.Fields.{byte}
use Rattle.record_rules.specs.Reading.{is_text_byte}

-- each of the k bytes from a place on is a text byte
unfoldable pub clean : List ℕ → ℕ → ℕ → Bool
clean b from k = every k (λ i. is_text_byte (byte b (from + i)))
