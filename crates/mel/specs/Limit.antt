-- How long an annotation can be.
use Rattle.std.specs.Prelude.{◌≡◌, List, ℕ, ◌≤◌, length}
use Rattle.record_rules.specs.Outcome.{refused}
use Rattle.record.specs.WellFormed.{WellFormed}
use Rattle.mel.specs.Annotation.{mel, mel_answer}

-- No annotation is longer, by theorem (`mel_limit_lem` of proofs/Theorems). The longest that we know of has 192,127 bytes.
abbrev pub mel_limit : ℕ
mel_limit = 197162

abbrev pub MelLimit : List ℕ → Type 0
MelLimit b = WellFormed b → length (mel b) ≤ mel_limit

-- a buffer of that length is never too short
abbrev pub NeverShort : List ℕ → Type 0
NeverShort b = (buf : List ℕ) (p : ℕ) → mel_limit ≤ length buf → mel_answer b buf ≡ refused 12 p → ⊥
