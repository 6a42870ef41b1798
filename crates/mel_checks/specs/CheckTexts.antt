-- The texts of a stage's checks, by masks over w variables.
use Rattle.std.specs.Prelude.{true, List, [], ◌∷◌, ◌++◌, map, ℕ, get_or}
use Rattle.sets.specs.Sets.{members}
use Rattle.mel_stages.specs.Mel.{Check, Ground, Indep, check_text, checks_from}
use Rattle.mel_stages.specs.Masks.{apart, partners}

-- A check with a comma before it, as the checks below are written: the first comma of a stage gives way to its parenthesis.
unfoldable pub item : Check → List ℕ
item c = (44 ∷ []) ++ check_text c

-- the checks of each of the set m
unfoldable pub grounds_text : ℕ → ℕ → List ℕ
grounds_text w m = checks_from true (map Ground (members w m))

-- the checks of x with each of the set m
unfoldable pub row_text : ℕ → ℕ → ℕ → List ℕ
row_text w x m = checks_from true (map (Indep x) (members w m))

-- the checks of each x of a list with its partners
unfoldable pub pairs_of : ℕ → List ℕ → List ℕ → ℕ → ℕ → ℕ → List ℕ → List Check
pairs_of w sets listed p q k [] = []
pairs_of w sets listed p q k (x ∷ xs) = map (Indep x) (members w (partners sets p q k (get_or listed x 0) x)) ++ pairs_of w sets listed p q k xs

unfoldable pub pairs_text : ℕ → List ℕ → List ℕ → ℕ → ℕ → ℕ → ℕ → List ℕ
pairs_text w sets listed p q k rest = checks_from true (pairs_of w sets listed p q k (members w rest))

-- the same where own has the set of each x's goal
unfoldable pub rows_of : ℕ → List ℕ → List ℕ → ℕ → List ℕ → List Check
rows_of w own listed k [] = []
rows_of w own listed k (x ∷ xs) = map (Indep x) (members w (apart k (get_or listed x 0) (get_or own x 0) x)) ++ rows_of w own listed k xs

unfoldable pub rows_text : ℕ → List ℕ → List ℕ → ℕ → ℕ → List ℕ
rows_text w own listed k rest = checks_from true (rows_of w own listed k (members w rest))
