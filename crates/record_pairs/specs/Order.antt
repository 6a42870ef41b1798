-- A pair in its turn.
use Rattle.std.specs.Prelude.{Bool, ◌&&◌, ℕ, ltb}

-- lower then higher, below v, and ascending: its key is above the last one
abbrev pub pair_fine : ℕ → ℕ → ℕ → ℕ → ℕ → Bool
pair_fine low high v last key = (ltb low high && ltb high v) && ltb last key
