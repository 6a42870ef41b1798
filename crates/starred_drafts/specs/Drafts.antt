-- The starred drafts of 01 ("Draft clauses to hold against it"), one table: what the definitions that the operations' promises cite give, and what the paper says.
-- `proofs/Theorems.antt` has them equal, and that the records given by waits have these waits.
use Rattle.std.specs.Prelude.{◌≡◌, Bool, false, ◌&&◌, ◌||◌, cond, List, [], ◌∷◌, ◌++◌, map, ℕ, zero, suc, ◌+◌, ◌/◌, ◌^◌, eqb, length, drop, replicate, Ok}
use Rattle.std.proofs.Math.Option.{Option, none, some}
use Prim.Native.Char.{code}
use Prim.Native.String.{String, len, char_at}
use Rattle.sets.specs.Sets.{goal_limit}
use Rattle.graph.specs.Graph.{rows_of}
use Rattle.record_fields.specs.Fields.{goal_count}
use Rattle.record_rules.specs.Reading.{reading}
use Rattle.expression.specs.Form.{up_from}
use Rattle.order.specs.Order.{waits}
use Rattle.record_rules.specs.Outcome.{Outcome, refused, accepted, size_in, buffer_after}
use Rattle.expression.specs.Search.{Four}
use Rattle.form.specs.Form as P
use Rattle.expression_grammar.specs.Check.{Verdict, same, differs}
use Rattle.mel.specs.Annotation as M
use Rattle.annotator.specs.Answers.{read, check}

-- ---- Texts and records in bytes.
-- the k bytes of a text from the place i on
abbrev codes : String → ℕ → ℕ → List ℕ
codes s zero i = []
codes s (suc k) i = code (char_at s i) ∷ codes s k (suc i)

abbrev pub bytes : String → List ℕ
bytes s = codes s (len s) 0

-- a variable set of variables 0 to 7, in 8 bytes
abbrev set : ℕ → List ℕ
set m = 0 ∷ 0 ∷ 0 ∷ 0 ∷ 0 ∷ 0 ∷ 0 ∷ m ∷ []

-- goals with these variable sets, each with the text `a`
abbrev goals : List ℕ → List ℕ
goals [] = []
goals (m ∷ l) = set m ++ (1 ∷ 97 ∷ goals l)

-- the record of v variables with this head, this ground set, goals with these sets and these pairs
abbrev pub clause : ℕ → ℕ → ℕ → List ℕ → List ℕ → List ℕ
clause v head grounded sets pairs =
    bytes "LFJ" ++ (0 ∷ 1 ∷ length sets ∷ v ∷ length pairs / 2 ∷ set head) ++ set grounded ++ goals sets ++ pairs

-- a wait of goal j for goal i
infix 70 ◌then◌
pub data Wait : Type 0 where
  ◌then◌ : ℕ → ℕ → Wait

-- the waits of a list as a relation
abbrev pub asked : List Wait → ℕ → ℕ → Bool
asked [] i j = false
asked ((a then c) ∷ l) i j = (eqb i a && eqb j c) || asked l i j

-- the record b is accepted, and W are its waits
pub record Has (b : List ℕ) (W : ℕ → ℕ → Bool) : Type 0 where
  pub fine : reading b ≡ Ok tt
  pub rows : rows_of goal_limit (goal_count b) (waits b) ≡ rows_of goal_limit (goal_count b) W

-- the variables of goal g: the wait k gives variable k to its two goals
abbrev held : ℕ → ℕ → List Wait → ℕ
held g k [] = 0
held g k ((i then j) ∷ l) = cond (eqb g i || eqb g j) (2 ^ k) 0 + held g (suc k) l

-- the pairs of x with each of a list, and all pairs of a list
abbrev pairs_with : ℕ → List ℕ → List ℕ
pairs_with x [] = []
pairs_with x (y ∷ l) = x ∷ y ∷ pairs_with x l

abbrev pairs_of : List ℕ → List ℕ
pairs_of [] = []
pairs_of (x ∷ l) = pairs_with x l ++ pairs_of l

-- the record of n goals with these waits: a variable for each, and all pairs of variables known independent
abbrev pub waiting : ℕ → List Wait → List ℕ
waiting n l = clause (length l) 0 0 (map (λ g. held g 0 l) (up_from 1 n)) (pairs_of (up_from 0 (length l)))

-- ---- The answers.
-- a lent buffer
abbrev pub room : List ℕ
room = replicate 64 0

pub data Answer : Type 0 where
  reads : Outcome ℕ → Answer
  -- the answer, 13's four goals and the buffer afterwards
  forms : Outcome ℕ → Option Four → List ℕ → Answer
  annotates : Outcome ℕ → List ℕ → Answer
  checks : Outcome Verdict → Answer

-- the calls on a record
abbrev pub form_by : Outcome (List ℕ) → Option Four → Answer
form_by o s = forms (size_in o room) s (buffer_after o room)

abbrev form_of : List ℕ → Answer
form_of b = form_by (P.form_text b) (P.shown b)

abbrev pub mel_of : List ℕ → Answer
mel_of b = annotates (M.mel_answer b room) (M.mel_buffer b room)

-- what the paper says: the form or the annotation with this text, or the four goals of refusal 13
abbrev filled_with : List ℕ → List ℕ
filled_with t = t ++ drop (length t) room

abbrev pub form_text : String → Answer
form_text s = forms (accepted (length (bytes s))) none (filled_with (bytes s))

abbrev pub mel_text : String → Answer
mel_text s = annotates (accepted (length (bytes s))) (filled_with (bytes s))

abbrev pub no_form : ℕ → ℕ → ℕ → ℕ → Answer
no_form a b c d = forms (refused 13 0) (some (record { a = a; b = b; c = c; d = d })) room

-- A draft: the answer of the definitions, and the paper's.
pub record Draft : Type 0 where
  pub given : Answer
  pub paper : Answer

infix 68 ◌gives◌
abbrev ◌gives◌ : Answer → Answer → Draft
x gives y = record { given = x; paper = y }

-- "Head {0,1}, goals {0,1}, {0,2}, {0}, {1,2}, no facts"
abbrev pub four : List ℕ
four = clause 3 3 0 (3 ∷ 5 ∷ 1 ∷ 6 ∷ []) []

-- "Head {0}, ground {0}, goals {0}, {0}"
abbrev pub shared : List ℕ
shared = clause 1 1 1 (1 ∷ 1 ∷ []) []

-- two goals, 1 before 2
abbrev pub two : List ℕ
two = waiting 2 (1 then 2 ∷ [])

unfoldable pub drafts : List Draft
drafts =
    -- "One goal: `1`. Goal count 0 or 33: refusal 4."
    form_of (waiting 1 []) gives form_text "1"
    ∷ reads (read (waiting 0 [])) gives reads (refused 4 5)
    ∷ reads (read (waiting 33 [])) gives reads (refused 4 5)
    -- "Three goals, waits 1-3", "waits 1-2 and 2-3", "no waits"
    ∷ form_of (waiting 3 (1 then 3 ∷ [])) gives form_text "(1,3)&2"
    ∷ form_of (waiting 3 (1 then 2 ∷ 2 then 3 ∷ [])) gives form_text "1,2,3"
    ∷ form_of (waiting 3 []) gives form_text "1&2&3"
    -- "Waits 1-3, 2-3, 2-4: refusal 13 with 1 2 3 4", "Waits 1-3, 1-4, 2-4: refusal 13 with 2 1 4 3", "Waits 1-3, 2-3, 2-4, 3-4"
    ∷ form_of (waiting 4 (1 then 3 ∷ 2 then 3 ∷ 2 then 4 ∷ [])) gives no_form 1 2 3 4
    ∷ form_of (waiting 4 (1 then 3 ∷ 1 then 4 ∷ 2 then 4 ∷ [])) gives no_form 2 1 4 3
    ∷ form_of (waiting 4 (1 then 3 ∷ 2 then 3 ∷ 2 then 4 ∷ 3 then 4 ∷ [])) gives form_text "(1&2),3,4"
    -- the clause of document 003
    ∷ form_of four gives form_text "1,2,3,4"
    ∷ mel_of four gives mel_text "(ground(v0)=>1&2),(indep(v0,v1),indep(v0,v2)=>3&4)"
    -- "Check of `((1)),2` where 1 is before 2: same. Of `2&1`: differs at 1, 2."
    ∷ checks (check two (bytes "((1)),2")) gives checks (accepted same)
    ∷ checks (check two (bytes "2&1")) gives checks (accepted (differs 1 2))
    -- a shared ground variable
    ∷ form_of shared gives form_text "1&2"
    ∷ mel_of shared gives mel_text "(1&2)"
    ∷ []
