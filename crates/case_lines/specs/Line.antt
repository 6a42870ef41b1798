-- The fields of a line of a test case.
use Rattle.std.specs.Prelude.{cond, List, [], ◌∷◌, ℕ, zero, suc, ◌+◌, ◌*◌, ◌/◌, ◌%◌, ◌^◌, eqb, take, drop}

-- how many bytes stand before the first byte `stop`
unfoldable pub up_to : ℕ → List ℕ → ℕ
up_to stop [] = 0
up_to stop (b ∷ t) = let r = suc (up_to stop t) in cond (eqb b stop) 0 r

-- what follows the first byte `stop`
unfoldable pub past : ℕ → List ℕ → List ℕ
past stop l = drop (suc (up_to stop l)) l

-- what follows the first k fields, which end with a space
unfoldable pub past_fields : ℕ → List ℕ → List ℕ
past_fields zero l = l
past_fields (suc k) l = past 32 (past_fields k l)

-- field k, counted from 0
unfoldable pub field_of : ℕ → List ℕ → List ℕ
field_of k l = take (up_to 32 (past_fields k l)) (past_fields k l)

-- the decimal number of the digits of a list after those of v, modulo 2 to the power 32
unfoldable pub value_of : ℕ → List ℕ → ℕ
value_of v [] = v
value_of v (b ∷ t) = value_of ((v * 10 + b % 16) % 2 ^ 32) t

-- the value of a hexadecimal digit 0 to 9, a to f
abbrev pub nibble : ℕ → ℕ
nibble b = (b % 16 + 9 * (b / 64)) % 16

-- the bytes of pairs of hexadecimal digits; a digit alone at the end, as the `-` of an empty field, is none
unfoldable pub bytes_of : List ℕ → List ℕ
bytes_of [] = []
bytes_of (x ∷ []) = []
bytes_of (x ∷ y ∷ t) = (nibble x * 16 + nibble y) ∷ bytes_of t
