-- The lines of the sheet as they are written, part by part, and how long they are.
use mathlib.Core.Path.{◌≡◌, refl, sym, ap, ap₂, ◌∙◌, subst}
use mathlib.Core.List.{List, [], ◌∷◌, ◌++◌}
use Prim.Native.Nat.{ℕ, zero, suc, ◌+◌, ◌-◌, ◌*◌, ◌^◌, ◌≤◌, ◌<◌}
use native.Mathlib.Nat.{min-le_left}
use native.Mathlib.Numerals.{add-one}
use native.Mathlib.Omega.{arith}
use lib.ListN.{length, take, drop, length-append, length-take}
use Rattle.buffer.specs.Text.{Wrote}
use Rattle.buffer.specs.Decimal.{decimal}
use Rattle.buffer.proofs.Writing.{none}
use Rattle.buffer.proofs.Decimal.{decimal-length}
use Rattle.record_fields.specs.Fields.{goal_count, text_at, text_length_at, goal_end, place_after, text_place, text_length}
use Rattle.record_rules.specs.Reading.{text_limit}
use Rattle.record.specs.WellFormed.{WellFormed}
use Rattle.record.proofs.Limits.{text_limit_lem, goal_there, place_limit}
use Rattle.expression.specs.Search.{Four}
use Rattle.sheet_text.specs.Sheet.{goals_word, form_word, none_word, refused_word, spaced, refused_text, goal_lines, none_line, goal_text}
use Rattle.sheet_text.specs.Parts.{line_room, count_line, goal_line}

-- a machine's number has at most 20 digits
pub digits : (n : ℕ) → n < 2 ^ 64 → length (decimal n) ≤ 20
digits n h = decimal-length 19 n (omega arith)

-- ---- refused K P
pub refused-parts : (k p : ℕ) → refused_word ++ decimal k ++ spaced p ≡ refused_text k p
unfolding refused_text
refused-parts k p = refl

pub refused-length : (k p : ℕ) → length (refused_text k p) ≡ 9 + length (decimal k) + length (decimal p)
unfolding refused_text
refused-length k p = omega (arith, length-append (refused_word ++ decimal k) (spaced p), length-append refused_word (decimal k))

-- ---- goals N
pub count-parts : (n : ℕ) → goals_word ++ decimal n ++ (10 ∷ []) ≡ count_line n
unfolding count_line
count-parts n = refl

pub count-length : (n : ℕ) → length (count_line n) ≡ 7 + length (decimal n)
unfolding count_line
count-length n = omega (arith, length-append (goals_word ++ decimal n) (10 ∷ []), length-append goals_word (decimal n))

-- ---- the line of a goal
pub goal-parts : (g : ℕ) (t : List ℕ) → decimal g ++ (32 ∷ []) ++ t ++ (10 ∷ []) ≡ goal_line g t
unfolding goal_line
goal-parts g t = refl

pub goal-length : (g : ℕ) (t : List ℕ) → length (goal_line g t) ≡ 2 + length (decimal g) + length t
unfolding goal_line
goal-length g t =
    omega (arith, length-append (decimal g ++ (32 ∷ []) ++ t) (10 ∷ []), length-append (decimal g ++ (32 ∷ [])) t, length-append (decimal g) (32 ∷ []))

-- ---- the lines of the goals
module _ (b : List ℕ) where
  goals-suc : (g : ℕ) → goal_lines (goal_text b) (suc g) ≡ goal_lines (goal_text b) g ++ goal_line (suc g) (goal_text b (suc g))
  unfolding goal_lines goal_line
  goals-suc g = refl

  -- the text of the goal that starts where the goals before it end
  text_there : (g : ℕ) → take (text_length_at b (place_after b g)) (drop (text_at b (place_after b g)) b) ≡ goal_text b (suc g)
  unfolding goal_text text_place text_length
  text_there g =
      let i : suc g - 1 ≡ g = omega arith in
      ap (λ (x : ℕ). take (text_length_at b (place_after b x)) (drop (text_at b (place_after b x)) b)) (sym i)

  pub goals-none : (at : ℕ) (l : List ℕ) → Wrote (goal_lines (goal_text b) 0) at l at l
  unfolding goal_lines
  goals-none at l = none at l

  -- the next goal's text lies inside the record
  pub goal-inside : WellFormed b → (g p : ℕ) → p ≡ place_after b g → g < goal_count b → (goal_end b p ≤ length b) × (p ≤ line_room)
  goal-inside w g p e h =
      (subst (λ (x : ℕ). goal_end b x ≤ length b) (sym e) (goal_there b w g h), omega (arith, e, place_limit b w g (omega arith), w.goals_to))

  pub goals-step : (g p start end : ℕ) → p ≡ place_after b g → start ≡ text_at b p → end ≡ goal_end b p
      → goal_lines (goal_text b) g ++ goal_line (g + 1) (take (end - start) (drop start b)) ≡ goal_lines (goal_text b) (g + 1)
  goals-step g p start end e s h =
      let i : end - start ≡ text_length_at b p = omega arith in
      let t : take (end - start) (drop start b) ≡ goal_text b (suc g) =
      ap₂ (λ (n q : ℕ). take n (drop q b)) i s ∙ ap (λ (x : ℕ). take (text_length_at b x) (drop (text_at b x) b)) e ∙ text_there g in
      rw (add-one) (ap (λ (u : List ℕ). goal_lines (goal_text b) g ++ goal_line (suc g) u) t ∙ sym (goals-suc g))

  text_short : (g : ℕ) → length (goal_text b g) ≤ text_length b g
  unfolding goal_text
  text_short g = rw (length-take (text_length b g) (drop (text_place b g) b)) (min-le_left (text_length b g) (length (drop (text_place b g) b)))

  -- the longest text, after a number of at most two digits
  pub goals-length : WellFormed b → (g : ℕ) → g ≤ goal_count b → length (goal_lines (goal_text b) g) ≤ (4 + text_limit) * g
  unfolding goal_lines
  goals-length w zero h = omega arith
  goals-length w (suc g) h =
      let r = goals-length w g (omega arith) in
      let l = text_limit_lem b w (suc g) (omega arith) h in
      let n = decimal-length 1 (suc g) (omega (arith, w.goals_to)) in
      omega (arith, r, n, text_short (suc g), l, goal-length (suc g) (goal_text b (suc g)), ap length (goals-suc g), length-append (goal_lines (goal_text b) g) (goal_line (suc g) (goal_text b (suc g))))

-- ---- form none
pub none-parts : (q : Four) → form_word ++ none_word ++ spaced q.a ++ spaced q.b ++ spaced q.c ++ spaced q.d ≡ none_line q
unfolding none_line
none-parts q = refl

pub none-length : (q : Four) → length (none_line q) ≡ 13 + length (decimal q.a) + length (decimal q.b) + length (decimal q.c) + length (decimal q.d)
unfolding none_line
none-length q =
    omega (
      arith,
      length-append (form_word ++ none_word ++ spaced q.a ++ spaced q.b ++ spaced q.c) (spaced q.d),
      length-append (form_word ++ none_word ++ spaced q.a ++ spaced q.b) (spaced q.c),
      length-append (form_word ++ none_word ++ spaced q.a) (spaced q.b),
      length-append (form_word ++ none_word) (spaced q.a),
    )

-- a refusal's line is short
pub refused-short : (k p : ℕ) → k < 256 → p < 2 ^ 64 → length (refused_text k p) ≤ 49
refused-short k p h i = omega (arith, refused-length k p, digits k (omega arith), digits p i)
