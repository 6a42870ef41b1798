-- The printed sheet of a record (01, "The printed sheet"), as one definition of the record's bytes.
use Rattle.std.specs.Prelude.{cond, List, [], ◌∷◌, ◌++◌, ℕ, zero, suc, leb, length, take, drop, Ok, Err}
use Rattle.std.proofs.Math.Option.{Option, none, some}
use Rattle.buffer.specs.Decimal.{decimal}
use Rattle.record_fields.specs.Fields.{goal_count, text_place, text_length}
use Rattle.record_rules.specs.Reading.{reading, Reading}
use Rattle.record_rules.specs.Outcome.{Outcome, refused, accepted}
use Rattle.expression.specs.Search.{Four}
use Rattle.form.specs.Form.{form_text, shown}
use Rattle.mel.specs.Annotation.{mel}

-- the words of the sheet: `goals `, `form `, `none`, `mel `, `refused `
abbrev pub goals_word : List ℕ
goals_word = 103 ∷ 111 ∷ 97 ∷ 108 ∷ 115 ∷ 32 ∷ []

abbrev pub form_word : List ℕ
form_word = 102 ∷ 111 ∷ 114 ∷ 109 ∷ 32 ∷ []

abbrev pub none_word : List ℕ
none_word = 110 ∷ 111 ∷ 110 ∷ 101 ∷ []

abbrev pub mel_word : List ℕ
mel_word = 109 ∷ 101 ∷ 108 ∷ 32 ∷ []

abbrev pub refused_word : List ℕ
refused_word = 114 ∷ 101 ∷ 102 ∷ 117 ∷ 115 ∷ 101 ∷ 100 ∷ 32 ∷ []

-- a line ends with a line feed; a number after a space
abbrev pub line : List ℕ → List ℕ
line t = t ++ (10 ∷ [])

abbrev pub spaced : ℕ → List ℕ
spaced n = (32 ∷ []) ++ decimal n

-- 01: "one line `refused K P` (number, place)"
unfoldable pub refused_text : ℕ → ℕ → List ℕ
refused_text k p = refused_word ++ decimal k ++ spaced p

-- 01: "one line a goal, its number and text": the lines of goals 1 to n, where `texts` gives the text that is shown for a goal
unfoldable pub goal_lines : (ℕ → List ℕ) → ℕ → List ℕ
goal_lines texts zero = []
goal_lines texts (suc g) = goal_lines texts g ++ line (decimal (suc g) ++ (32 ∷ []) ++ texts (suc g))

-- 01: "`form` and the text, or `form none a b c d`", of an accepted record: the text, or the four goals with which it is refused by 13
unfoldable pub none_line : Four → List ℕ
none_line q = form_word ++ none_word ++ spaced q.a ++ spaced q.b ++ spaced q.c ++ spaced q.d

unfoldable pub form_line : Option Four → Outcome (List ℕ) → List ℕ
form_line (some q) o = none_line q
form_line none (accepted t) = form_word ++ t
form_line none (refused k p) = []

-- 01: "The program reads a record from standard input into a buffer of 4,096 bytes"
abbrev pub input_room : ℕ
input_room = 4096

-- 01: "`mel` and the text, or `mel refused 12 L` where it passes 32,768 bytes, L being its length"
abbrev pub mel_room : ℕ
mel_room = 32768

unfoldable pub mel_line : List ℕ → List ℕ
mel_line t = cond (leb (length t) mel_room) (mel_word ++ t) (mel_word ++ refused_text 12 (length t))

-- the sheet of a record of which reading gave s, with the texts shown for its goals and the line of a refusal as arguments
unfoldable pub sheet_with : (ℕ → List ℕ) → (ℕ → ℕ → List ℕ) → Reading → List ℕ → List ℕ
sheet_with texts refusal (Err r) b = line (refusal r.number r.place)
sheet_with texts refusal (Ok _) b =
    line (goals_word ++ decimal (goal_count b)) ++ goal_lines texts (goal_count b) ++ line (form_line (shown b) (form_text b)) ++ line (mel_line (mel b))

-- the text of goal g in the record
unfoldable pub goal_text : List ℕ → ℕ → List ℕ
goal_text b g = take (text_length b g) (drop (text_place b g) b)

unfoldable pub sheet : List ℕ → List ℕ
sheet b = sheet_with (goal_text b) refused_text (reading b) b
