-- Examples of passes; they hold by computation.
use Rattle.std.specs.Prelude.{◌≡◌, refl, Bool, true, false, ◌&&◌, ◌||◌, ℕ, eqb, ltb}
use Rattle.logic.specs.Quantifiers.{every, some_below, lowest}
use Rattle.graph.specs.Passes.{after, passes, neighbours}

-- each goal waits for all before it; for none
abbrev all : ℕ → ℕ → Bool
all i j = ltb i j

abbrev none : ℕ → ℕ → Bool
none i j = false

-- goals 1 and 2 wait for each other
abbrev cycle : ℕ → ℕ → Bool
cycle i j = (eqb i 1 && eqb j 2) || (eqb i 2 && eqb j 1)

examples
    -- no goal, one goal, goals in sequence, goals side by side: closed already
    : (passes 0 none ≡ 1)
    × (passes 1 none ≡ 1)
    × (passes 4 all ≡ 1)
    × (passes 4 none ≡ 1)
    -- the waits 1-2 are closed; 1-2, 2-3 are after one pass, which the second sees; 1-2, 2-3, 3-4 after two
    × (passes 2 neighbours ≡ 1)
    × (passes 3 neighbours ≡ 2)
    × (passes 4 neighbours ≡ 3)
    × (passes 5 neighbours ≡ 3)
    × (passes 6 neighbours ≡ 4)
    -- a pass adds what a chain of two gives, and not what one of three does
    × (after 4 neighbours 1 1 3 ≡ true)
    × (after 4 neighbours 1 1 4 ≡ false)
    × (after 4 neighbours 2 1 4 ≡ true)
    -- two goals that wait for each other wait for themselves after a pass
    × (passes 2 cycle ≡ 2)
unfolding every some_below lowest passes
examples = (refl, refl, refl, refl, refl, refl, refl, refl, refl, refl, refl, refl, refl)
