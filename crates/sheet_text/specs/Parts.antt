-- The sheet in three parts, for a caller that keeps the MEL text in an array of its own: the lines up to the MEL text, the MEL text, and what follows it.
use Rattle.std.specs.Prelude.{◌≡◌, cond, List, [], ◌∷◌, ◌++◌, ℕ, ◌-◌, ◌≤◌, leb, length, take, drop, Ok, Err}
use Rattle.buffer.specs.Decimal.{decimal}
use Rattle.record_fields.specs.Fields.{goal_count}
use Rattle.record_rules.specs.Reading.{reading, Reading}
use Rattle.form.specs.Form.{form_text, shown}
use Rattle.mel.specs.Annotation.{mel}
use Rattle.sheet_text.specs.Sheet.{goals_word, mel_word, line, refused_text, goal_lines, form_line, mel_room, goal_text, sheet}
use Rattle.sheet_text.specs.declared.Parts.{Parts}

-- the first line, the line of a goal, and the lines of an accepted record up to its MEL text
unfoldable pub count_line : ℕ → List ℕ
count_line n = line (goals_word ++ decimal n)

unfoldable pub goal_line : ℕ → List ℕ → List ℕ
goal_line g t = line (decimal g ++ (32 ∷ []) ++ t)

unfoldable pub accepted_top : List ℕ → List ℕ
accepted_top b = count_line (goal_count b) ++ goal_lines (goal_text b) (goal_count b) ++ line (form_line (shown b) (form_text b)) ++ mel_word

-- of a MEL text, what is shown of it and what follows
unfoldable pub mel_shown : List ℕ → List ℕ
mel_shown t = cond (leb (length t) mel_room) t []

unfoldable pub mel_rest : List ℕ → List ℕ
mel_rest t = line (cond (leb (length t) mel_room) [] (refused_text 12 (length t)))

-- the lines before the MEL text, and after it
unfoldable pub top_of : Reading → List ℕ → List ℕ
top_of (Ok _) b = accepted_top b
top_of (Err r) b = line (refused_text r.number r.place)

unfoldable pub rest_of : Reading → List ℕ → List ℕ
rest_of (Ok _) b = mel_rest (mel b)
rest_of (Err r) b = []

-- all that stands in the array of lines, and a room that holds it
unfoldable pub lines : List ℕ → List ℕ
lines b = top_of (reading b) b ++ rest_of (reading b) b

abbrev pub line_room : ℕ
line_room = 2048

-- what is shown of the MEL text
unfoldable pub shown_of : Reading → List ℕ → List ℕ
shown_of (Ok _) b = mel_shown (mel b)
shown_of (Err r) b = []

-- how long the parts are: the lines end at `end`, and the MEL text stands between those up to `top` and the others
unfoldable pub parts_of : List ℕ → Parts
parts_of b = record { top = length (top_of (reading b) b); mel = length (shown_of (reading b) b); end = length (lines b) }

-- the parts of two arrays that make the sheet, one after the other
pub record Shows (b lines text : List ℕ) (r : Parts) : Type 0 where
  pub top_to : r.top ≤ r.end
  pub end_to : r.end ≤ length lines
  pub mel_to : r.mel ≤ length text
  pub is_sheet : take r.top lines ++ take r.mel text ++ take (r.end - r.top) (drop r.top lines) ≡ sheet b
