-- What the writers' contracts cite.
use Rattle.std.specs.Prelude.{◌≡◌, Bool, true, false, List, [], ◌∷◌, ◌++◌, ℕ, ◌+◌, length}
use Rattle.std.proofs.lemmas.List.Edits.{sets}

-- text was written from place at on: the place moves by its length, and its bytes are stored one after the other, those past the buffer's end nowhere
pub record Wrote (text : List ℕ) (at : ℕ) (old : List ℕ) (next : ℕ) (new : List ℕ) : Type 0 where
  pub place : next ≡ at + length text
  pub bytes : new ≡ sets old at text

-- b, or nothing
unfoldable pub only : Bool → ℕ → List ℕ
only true b = b ∷ []
only false b = []

-- the texts ts one after the other, sep between them, and before the first where more holds
unfoldable pub join_from : Bool → ℕ → List (List ℕ) → List ℕ
join_from more sep [] = []
join_from more sep (t ∷ ts) = only more sep ++ t ++ join_from true sep ts

-- whether a text has a byte
unfoldable pub non_empty : List ℕ → Bool
non_empty [] = false
non_empty (b ∷ t) = true

abbrev pub some_texts : List (List ℕ) → Bool
some_texts [] = false
some_texts (t ∷ ts) = true
