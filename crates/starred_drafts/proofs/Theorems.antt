-- T11: the starred drafts of 01, all in one theorem, `starred`; the theorems before it say that the records are accepted and have the drafts' waits. All of it is computed.
use mathlib.Core.Path.{◌≡◌, refl, ap, ap₂}
use mathlib.Core.Bool.{Bool}
use mathlib.Core.List.{List, [], ◌∷◌, map}
use Prim.Native.Nat.{ℕ}
use native.Mathlib.Omega.{arith}
use Rattle.logic.specs.Quantifiers.{every, some_below}
use Rattle.sets.specs.Sets.{has, set_of, within, subset}
use Rattle.logic.specs.Table.{table_from}
use Rattle.graph.specs.Graph.{goals_of, rows_of}
use Rattle.buffer.specs.Text.{only, join_from, non_empty}
use Rattle.buffer.specs.Decimal.{decimal, decimal_to}
use Rattle.buffer.specs.Lent.{fits, stored}
use Rattle.record_fields.specs.Fields.{number, own_facts, length_at, place_after, goal_set, listed, goal_count}
use Rattle.record_fields.specs.Facts.{ground_of, ticks_of, ground_before, met_before, ground_at}
use Rattle.record_rules.specs.Reading.{◌must◌else◌place◌, counts, header, first_bad, goal, goals, ordered, ascends, pair, pairs, ending, reading_of, known_version, reading}
use Rattle.independence.specs.Independence.{known_independent, independent}
use Rattle.order.specs.Order.{waits, before}
use Rattle.graph.specs.Closure.{closed}
use Rattle.expression.specs.Arrange.{form_any}
use Rattle.expression.specs.Search.{first_n}
use Rattle.expression.specs.Text.{text}
use Rattle.record_rules.specs.Outcome.{refused, accepted, read_then}
use Rattle.form.specs.Form.{or_thirteen, form_text, shown as shows}
use Rattle.mel_stages.specs.Mel as S
use Rattle.mel.specs.Annotation.{facts_of, mel}
use Rattle.expression_grammar.specs.TextRules.{read_text}
use Rattle.expression_grammar.specs.Check.{same, differs, first_differ, checked}
use Rattle.annotator.specs.Answers.{read, check}
use Rattle.starred_drafts.specs.Drafts.{bytes, ◌then◌, asked, Has, waiting, Answer, reads, checks, form_by, four, shared, two, drafts}
use Rattle.starred_drafts.proofs.Rows as R
use Rattle.starred_drafts.proofs.Rows.{annotated}

-- The records of the drafts have the drafts' waits.
pub waits-few
    : Has (waiting 1 []) (asked [])
    × Has (waiting 3 (1 then 3 ∷ [])) (asked (1 then 3 ∷ []))
    × Has (waiting 3 (1 then 2 ∷ 2 then 3 ∷ [])) (asked (1 then 2 ∷ 2 then 3 ∷ []))
    × Has (waiting 3 []) (asked [])
    × Has two (asked (1 then 2 ∷ []))
unfolding every some_below has set_of within subset table_from goals_of rows_of number own_facts length_at place_after ground_of ticks_of ground_before met_before ground_at goal_set listed ◌must◌else◌place◌ counts header first_bad goal goals ordered
    ascends pair pairs ending reading_of known_version reading known_independent independent waits
waits-few = (
  record { fine = refl; rows = refl },
  record { fine = refl; rows = refl },
  record { fine = refl; rows = refl },
  record { fine = refl; rows = refl },
  record { fine = refl; rows = refl },
)

pub waits-n : Has (waiting 4 (1 then 3 ∷ 2 then 3 ∷ 2 then 4 ∷ [])) (asked (1 then 3 ∷ 2 then 3 ∷ 2 then 4 ∷ []))
unfolding every some_below has set_of within subset table_from goals_of rows_of number own_facts length_at place_after ground_of ticks_of ground_before met_before ground_at goal_set listed ◌must◌else◌place◌ counts header first_bad goal goals ordered
    ascends pair pairs ending reading_of known_version reading known_independent independent waits
waits-n = record { fine = refl; rows = refl }

pub waits-turned : Has (waiting 4 (1 then 3 ∷ 1 then 4 ∷ 2 then 4 ∷ [])) (asked (1 then 3 ∷ 1 then 4 ∷ 2 then 4 ∷ []))
unfolding every some_below has set_of within subset table_from goals_of rows_of number own_facts length_at place_after ground_of ticks_of ground_before met_before ground_at goal_set listed ◌must◌else◌place◌ counts header first_bad goal goals ordered
    ascends pair pairs ending reading_of known_version reading known_independent independent waits
waits-turned = record { fine = refl; rows = refl }

pub waits_chain : Has (waiting 4 (1 then 3 ∷ 2 then 3 ∷ 2 then 4 ∷ 3 then 4 ∷ [])) (asked (1 then 3 ∷ 2 then 3 ∷ 2 then 4 ∷ 3 then 4 ∷ []))
unfolding every some_below has set_of within subset table_from goals_of rows_of number own_facts length_at place_after ground_of ticks_of ground_before met_before ground_at goal_set listed ◌must◌else◌place◌ counts header first_bad goal goals ordered
    ascends pair pairs ending reading_of known_version reading known_independent independent waits
waits_chain = record { fine = refl; rows = refl }

-- In the clause of document 003 each goal waits for every earlier one.
pub waits-four : Has four (asked (1 then 2 ∷ 1 then 3 ∷ 1 then 4 ∷ 2 then 3 ∷ 2 then 4 ∷ 3 then 4 ∷ []))
unfolding every some_below has set_of within subset table_from goals_of rows_of number own_facts length_at place_after ground_of ticks_of ground_before met_before ground_at goal_set listed ◌must◌else◌place◌ counts header first_bad goal goals ordered
    ascends pair pairs ending reading_of known_version reading known_independent independent waits
waits-four = record { fine = refl; rows = refl }

-- A shared ground variable makes no wait.
pub waits-shared : Has shared (asked [])
unfolding every some_below has set_of within subset table_from goals_of rows_of number own_facts length_at place_after ground_of ticks_of ground_before met_before ground_at goal_set listed ◌must◌else◌place◌ counts header first_bad goal goals ordered
    ascends pair pairs ending reading_of known_version reading known_independent independent waits
waits-shared = record { fine = refl; rows = refl }

annotations
    : (mel four ≡ bytes "(ground(v0)=>1&2),(indep(v0,v1),indep(v0,v2)=>3&4)")
    × (mel shared ≡ bytes "(1&2)")
unfolding some_below has decimal decimal_to only join_from non_empty number own_facts length_at place_after ground_of ticks_of ground_before met_before ground_at goal_set listed known_independent S.goal S.some_goal S.those_from S.goals_from S.occurs S.shared
    S.across S.first_in S.met S.boundary S.largest S.start S.stages_to S.stages S.ground_check S.indep_check S.indeps_from S.checks S.check_text S.checks_from S.arrow_if
    S.goals_text S.stage_text S.stages_text S.mel_text facts_of mel
annotations = (refl, refl)

refusals : (read (waiting 0 []) ≡ refused 4 5) × (read (waiting 33 []) ≡ refused 4 5)
unfolding number own_facts length_at place_after ground_of ticks_of ground_before met_before ◌must◌else◌place◌ counts header goal goals pair pairs ending reading_of known_version reading read_then read
refusals = (refl, refl)

verdicts : (check two (bytes "((1)),2") ≡ accepted same) × (check two (bytes "2&1") ≡ accepted (differs 1 2))
unfolding every some_below has within subset number own_facts length_at place_after ground_of ticks_of ground_before met_before ground_at goal_set listed ◌must◌else◌place◌ counts header first_bad goal goals ordered ascends pair pairs ending
    reading_of known_version reading known_independent independent waits before read_text first_differ checked read_then check
verdicts = (refl, refl)

-- what the waits settle
formed : {b : List ℕ} {W : ℕ → ℕ → Bool} → Has b W
    → form_by (form_text b) (shows b)
    ≡ form_by (or_thirteen (first_n (closed W (goal_count b)) (goal_count b)) (text (form_any (closed W (goal_count b)) (goal_count b)))) (first_n (closed W (goal_count b)) (goal_count b))
formed {b} {W} h = let e = R.formed b h.fine W h.rows in ap₂ form_by e.0 e.1

row : {x y : Answer} {k l : List Answer} → x ≡ y → k ≡ l → x ∷ k ≡ y ∷ l
row e f = ap₂ (λ (x : Answer) (l : List Answer). x ∷ l) e f

-- Each starred draft has the paper's answer.
pub starred : map (λ d. d.given) drafts ≡ map (λ d. d.paper) drafts
unfolding has decimal decimal_to fits stored drafts
starred =
    row (formed waits-few.0)
    (row (ap reads refusals.0)
    (row (ap reads refusals.1)
    (row (formed waits-few.1)
    (row (formed waits-few.2)
    (row (formed waits-few.3)
    (row (formed waits-n)
    (row (formed waits-turned)
    (row (formed waits_chain)
    (row (formed waits-four)
    (row (annotated four waits-four.fine _ annotations.0 (omega arith))
    (row (ap checks verdicts.0)
    (row (ap checks verdicts.1)
    (row (formed waits-shared)
    (row (annotated shared waits-shared.fine _ annotations.1 (omega arith))
    refl))))))))))))))
