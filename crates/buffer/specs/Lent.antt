-- A text and a lent buffer. 01: "12 buffer shorter than the text"; "Every accepted call that writes into a lent buffer fills its first bytes and keeps
-- the rest"; a refusal "changes no lent byte".
use Rattle.std.specs.Prelude.{Bool, cond, List, ◌++◌, ℕ, leb, length, drop}

-- the buffer is not shorter than the text
unfoldable pub fits : List ℕ → List ℕ → Bool
fits t buf = leb (length t) (length buf)

-- the buffer after a call that writes the text: its first bytes are the text and the rest is kept; where the text does not fit it is as it was
unfoldable pub stored : List ℕ → List ℕ → List ℕ
stored t buf = cond (fits t buf) (t ++ drop (length t) buf) buf
