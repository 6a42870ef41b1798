-- What the functions that find a member look at. Row i stands for goal i + 1.
use Rattle.std.specs.Prelude.{Bool, cond, ◌&&◌, List, ℕ, eqb, get_or}
use Rattle.graph_transpose.specs.Related.{related}
use Rattle.logic.specs.Quantifiers.{some_below}
use Rattle.sets.specs.Sets.{has, meet, without, set_of}

-- those of `left` that hang together with goal i + 1: for a group (k is false) what is in order with it, for a sequence what is not
unfoldable pub hanging : List ℕ → List ℕ → Bool → ℕ → ℕ → ℕ
hanging after prior k left i =
    cond k (without left (related after prior i)) (meet left (related after prior i))

-- those of `left` that hang together with a goal of a set, of the goals 1 to w
unfoldable pub hanging_any : ℕ → List ℕ → List ℕ → Bool → ℕ → ℕ → ℕ
hanging_any w after prior k left set = set_of w (λ j. some_below w (λ i. has set i && has (hanging after prior k left i) j))

-- what is still to be looked at of `todo`, where `left` is not yet in the part: nothing if that is empty
unfoldable pub pending : ℕ → ℕ → ℕ
pending todo left = cond (eqb left 0) 0 todo

-- those of `rest` that are before goal x + 1; in a group that does not matter
unfoldable pub earlier : List ℕ → Bool → ℕ → ℕ → ℕ
earlier prior k rest x = cond k (meet (get_or prior x 0) rest) 0
