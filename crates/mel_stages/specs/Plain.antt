-- What is proved of the stages and their checks (T10), as plain statements: no tests, no lists of tests.
use Rattle.std.specs.Prelude.{◌≡◌, ◌⊎◌, true, false, List, [], ◌∷◌, ◌++◌, ℕ, ◌+◌, ◌-◌, ◌≤◌, ◌<◌}
use Rattle.sets.specs.Sets.{has}
use Rattle.mel_stages.specs.Mel.{Facts, Stage, Check, Ground, Indep, goal, goals_from}

-- every one of a list; a stands in a list
abbrev pub All : {A : Type 0} → (A → Type 0) → List A → Type 0
All P [] = Unit {0}
All P (x ∷ l) = P x × All P l

abbrev pub Among : {A : Type 0} → A → List A → Type 0
Among a [] = ⊥
Among a (b ∷ l) = (a ≡ b) ⊎ Among a l

-- the goals of stages, one stage after the other
abbrev pub goals_of : List Stage → List ℕ
goals_of [] = []
goals_of (s ∷ l) = goals_from (s.last - s.after) s.after ++ goals_of l

-- x, outside the head, first occurs in goal p and occurs again in goal `again`, one of p+1 to q
pub record Boundary (w head : ℕ) (sets : List ℕ) (q p : ℕ) : Type 0 where
  pub x : ℕ
  pub under : x < w
  pub outside : has head x ≡ false
  pub here : has (goal sets p) x ≡ true
  pub first : (g : ℕ) → 0 < g → g < p → has (goal sets g) x ≡ false
  pub again : ℕ
  pub after : p < again
  pub upto : again ≤ q
  pub there : has (goal sets again) x ≡ true

-- A stage has a goal; no variable outside the head first occurs in it and occurs again in it; and it is as long as it can be: the goal before it
-- has the first occurrence of such a variable that occurs again in the stage.
pub record Sound (w head : ℕ) (sets : List ℕ) (s : Stage) : Type 0 where
  pub some : s.after < s.last
  pub fresh : (p : ℕ) → s.after < p → p ≤ s.last → Boundary w head sets s.last p → ⊥
  pub longest : 0 < s.after → Boundary w head sets s.last s.after

-- x stands in the goals s and t, both of p+1 to q, s the earlier
pub record Twice (sets : List ℕ) (p q x : ℕ) : Type 0 where
  pub s : ℕ
  pub t : ℕ
  pub above : p < s
  pub order : s < t
  pub upto : t ≤ q
  pub in_s : has (goal sets s) x ≡ true
  pub in_t : has (goal sets t) x ≡ true

-- x stands in goal s and y in another goal t, both of p+1 to q
pub record Across (sets : List ℕ) (p q x y : ℕ) : Type 0 where
  pub s : ℕ
  pub t : ℕ
  pub above_s : p < s
  pub upto_s : s ≤ q
  pub above_t : p < t
  pub upto_t : t ≤ q
  pub differ : s ≡ t → ⊥
  pub in_s : has (goal sets s) x ≡ true
  pub in_t : has (goal sets t) y ≡ true

-- x is in the head, or in goal g, one of 1 to p
pub record Earlier (sets : List ℕ) (p x : ℕ) : Type 0 where
  pub g : ℕ
  pub above : 0 < g
  pub upto : g ≤ p
  pub here : has (goal sets g) x ≡ true

abbrev pub Met : ℕ → List ℕ → ℕ → ℕ → Type 0
Met head sets p x = (has head x ≡ true) ⊎ Earlier sets p x

-- x is to be ground before the stage p+1 to q: two of its goals hold it, and it is not known ground
pub record Grounded (c : Facts) (p q x : ℕ) : Type 0 where
  pub twice : Twice c.sets p q x
  pub unknown : has (c.grounded (p + 1)) x ≡ false

-- x and y are to be independent before the stage p+1 to q: two different goals of it hold them, neither is in two goals of it, they are not known
-- independent, and both are in the head or in goals before the stage
pub record Separate (c : Facts) (p q x y : ℕ) : Type 0 where
  pub lower : x < y
  pub across : Across c.sets p q x y
  pub x_once : Twice c.sets p q x → ⊥
  pub y_once : Twice c.sets p q y → ⊥
  pub unknown : c.known (p + 1) x y ≡ false
  pub x_met : Met c.head c.sets p x
  pub y_met : Met c.head c.sets p y

-- ground checks ascending, then independence checks, by the lower and then by the higher
abbrev pub Before : Check → Check → Type 0
Before (Ground x) (Ground y) = x < y
Before (Ground x) (Indep y z) = Unit {0}
Before (Indep x y) (Ground z) = ⊥
Before (Indep x y) (Indep z t) = (x < z) ⊎ ((x ≡ z) × (y < t))

abbrev pub Ascending : List Check → Type 0
Ascending [] = Unit {0}
Ascending (d ∷ l) = ((e : Check) → Among e l → Before d e) × Ascending l
