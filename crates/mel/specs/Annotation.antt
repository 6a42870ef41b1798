-- The MEL annotation of a clause record, and the operation that writes it (01, "The MEL annotation", "What each operation turns down").
use Rattle.std.specs.Prelude.{List, map, ℕ}
use Rattle.sets.specs.Sets.{variable_limit}
use Rattle.independence.specs.Independence.{known_independent}
use Rattle.record_fields.specs.Facts.{ground_at, free_at}
use Rattle.record_fields.specs.Fields.{goal_count, head_set, goal_set, listed}
use Rattle.mel_stages.specs.Mel.{Facts, goals_from, mel_text}
use Rattle.record_rules.specs.Outcome.{Outcome, accepted, read_then, size_in, buffer_after}

-- What the annotation reads of a record. 01: "Two variables are known independent if their pair is listed or either is ground"; no variable is known independent
-- of every other. 02, 1: "a MEL stage by that at its first goal": the facts at goal g are those of the stage whose first goal it is.
unfoldable pub facts_of : List ℕ → Facts
facts_of b =
    record {
      width = variable_limit;
      head = head_set b;
      sets = map (goal_set b) (goals_from (goal_count b) 0);
      grounded = λ g. ground_at b g;
      known = λ g. known_independent (ground_at b g) (free_at b g) (listed b);
    }

-- the text of a record's annotation
unfoldable pub mel : List ℕ → List ℕ
mel b = mel_text (facts_of b)

-- Writing MEL. 01: "Reading the record, which starts every operation"; "Writing MEL: 12": the text, the answer, and the buffer afterwards
unfoldable pub mel_outcome : List ℕ → Outcome (List ℕ)
mel_outcome b = read_then b (accepted (mel b))

abbrev pub mel_answer : List ℕ → List ℕ → Outcome ℕ
mel_answer b buf = size_in (mel_outcome b) buf

abbrev pub mel_buffer : List ℕ → List ℕ → List ℕ
mel_buffer b buf = buffer_after (mel_outcome b) buf
