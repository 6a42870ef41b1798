-- The same by masks: the sets that the code computes, of goals given as a list of masks. proofs/Masks.antt says that they have the members that
-- specs/Mel.antt names.
use Rattle.std.specs.Prelude.{◌≡◌, true, ◌||◌, cond, List, ℕ, zero, suc, ◌+◌, ◌-◌, ◌<◌, ltb, length, get_or}
use Rattle.logic.specs.Table.{table}
use Rattle.sets.specs.Sets.{has, union, meet, without, below}
use Rattle.mel_stages.specs.Mel.{Facts, goal}

-- a clause with w variables: its ground sets as a list, one a goal, and at place x of listed the set of the variables listed with x
unfoldable pub given : ℕ → ℕ → List ℕ → List ℕ → List ℕ → Facts
given w head sets grounds listed =
    record {
      width = w;
      head = head;
      sets = sets;
      grounded = λ g. goal grounds g;
      known = λ g x y. has (get_or listed x 0) y || has (goal grounds g) x || has (goal grounds g) y;
    }

module _ (sets : List ℕ) (p : ℕ) where
  -- the variables of goals p+1 to q
  unfoldable pub once : ℕ → ℕ
  once zero = 0
  once (suc q) = let m = once q in cond (ltb p (suc q)) (union m (goal sets (suc q))) m

  -- those in two or more of them
  unfoldable pub twice : ℕ → ℕ
  twice zero = 0
  twice (suc q) = let m = twice q in cond (ltb p (suc q)) (union m (meet (once q) (goal sets (suc q)))) m

-- at place g the variables of goals 1 to g, up to the last goal, in an array of so many places
unfoldable pub up_to : ℕ → List ℕ → List ℕ
up_to places sets = table places (length sets + 1) (λ g. once sets 0 g)

-- the set of the first of the goals p+1 to p+k that holds x, empty if none does
unfoldable pub goal_with_from : List ℕ → ℕ → ℕ → ℕ → ℕ
goal_with_from sets zero p x = 0
goal_with_from sets (suc k) p x = let r = goal_with_from sets k (suc p) x in cond (has (goal sets (suc p)) x) (goal sets (suc p)) r

unfoldable pub goal_with : List ℕ → ℕ → ℕ → ℕ → ℕ
goal_with sets p q x = goal_with_from sets (q - p) p x

-- the variables that may stand in an independence check of a stage: in one of its goals, met before it, in no two of its goals, not known ground
unfoldable pub candidates : ℕ → ℕ → ℕ → ℕ → ℕ
candidates once₁ twice₁ met₁ grounded = without (without (meet once₁ met₁) twice₁) grounded

-- of the candidates k those that stand in a check with x, x the lower: not known independent of x (x's row), not in x's goal, above x
abbrev pub apart : ℕ → ℕ → ℕ → ℕ → ℕ
apart k row own x = without (without (without k row) own) (below (x + 1))

unfoldable pub partners : List ℕ → ℕ → ℕ → ℕ → ℕ → ℕ → ℕ
partners sets p q k row x = apart k row (goal_with sets p q x) x

-- of w places, s stands at each place of the set m, and at the others what stood there
unfoldable pub Noted : ℕ → List ℕ → ℕ → ℕ → List ℕ → Type 0
Noted w old m s new = (x : ℕ) → x < w → get_or new x 0 ≡ cond (has m x) s (get_or old x 0)

-- for each x of k below w the set of its goal stands at place x
unfoldable pub OwnGoals : ℕ → List ℕ → ℕ → ℕ → ℕ → List ℕ → Type 0
OwnGoals w sets p q k own = (x : ℕ) → x < w → has k x ≡ true → get_or own x 0 ≡ goal_with sets p q x
