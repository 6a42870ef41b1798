-- The fields of a clause record (01, "The record, version 1"; 02, 1: version 2), as functions of its bytes. A byte past the end is 0, so that every field is a
-- number for any bytes. Every place is given by a definition that takes the bytes, since the versions place their fields differently.
use Rattle.std.specs.Prelude.{Bool, ◌&&◌, ◌||◌, cond, List, ℕ, zero, suc, ◌+◌, ◌-◌, ◌*◌, eqb, get_or}
use Rattle.logic.specs.Quantifiers.{some_below}

-- the byte at a place
abbrev pub byte : List ℕ → ℕ → ℕ
byte b at = get_or b at 0

-- 01: "Numbers of several bytes have the most significant byte first": the number of the k bytes from a place on
unfoldable pub number : List ℕ → ℕ → ℕ → ℕ
number b at zero = 0
number b at (suc k) = number b at k * 256 + byte b (at + k)

-- 01: "A variable set is 8 bytes; bit i, of weight 2 to the power i, stands for variable i"
abbrev pub set : List ℕ → ℕ → ℕ
set b at = number b at 8

-- 01: "Bytes 0 to 2: the letters LFJ. Bytes 3 and 4: version"
abbrev pub mark : List ℕ → ℕ
mark b = number b 0 3

-- the letters LFJ as that number
abbrev pub letters : ℕ
letters = 0x4C464A

abbrev pub version : List ℕ → ℕ
version b = number b 3 2

-- 01: "version, 1"; 02, 1: "Version 2"
abbrev pub version_one : ℕ
version_one = 1

abbrev pub version_two : ℕ
version_two = 2

-- 01: "Byte 5: goal count n" .. "Byte 6: variable count v" .. "Byte 7: pair count p"
abbrev pub goal_count : List ℕ → ℕ
goal_count b = byte b 5

abbrev pub var_count : List ℕ → ℕ
var_count b = byte b 6

abbrev pub pair_count : List ℕ → ℕ
pair_count b = byte b 7

-- 01: "Bytes 8 to 15: head set" .. "Bytes 16 to 23: ground set"
abbrev pub head_set : List ℕ → ℕ
head_set b = set b 8

abbrev pub ground_set : List ℕ → ℕ
ground_set b = set b 16

-- the header ends there
abbrev pub header_size : ℕ
header_size = 24

-- 02, 1: "Version 2 puts, after each goal's variable set, an 8-byte ground set known just left of that goal and a 16-bit tick count": whether the goals of a
-- record have such facts of their own
unfoldable pub own_facts : List ℕ → Bool
own_facts b = eqb (version b) version_two

-- 01: "Then n goals: variable set, one length byte (..), that many text bytes". Of the goal that starts at a place: where its length byte and its
-- text stand, how long its text is, and where it ends. The bytes before the text are its fixed part.
unfoldable pub length_at : List ℕ → ℕ → ℕ
length_at b at = at + cond (own_facts b) 18 8

abbrev pub text_at : List ℕ → ℕ → ℕ
text_at b at = length_at b at + 1

-- 02, 1: "The fixed part of a version 2 goal is 19 bytes": no goal has a longer one
abbrev pub fixed_size : ℕ
fixed_size = 19

abbrev pub text_length_at : List ℕ → ℕ → ℕ
text_length_at b at = byte b (length_at b at)

abbrev pub goal_end : List ℕ → ℕ → ℕ
goal_end b at = text_at b at + text_length_at b at

-- where the first g goals end
unfoldable pub place_after : List ℕ → ℕ → ℕ
place_after b zero = header_size
place_after b (suc g) = goal_end b (place_after b g)

-- 01: "Goals are numbered from 1, left to right": where goal g starts, its variable set, the place and the length of its text
abbrev pub goal_place : List ℕ → ℕ → ℕ
goal_place b g = place_after b (g - 1)

unfoldable pub goal_set : List ℕ → ℕ → ℕ
goal_set b g = set b (goal_place b g)

unfoldable pub text_place : List ℕ → ℕ → ℕ
text_place b g = text_at b (goal_place b g)

unfoldable pub text_length : List ℕ → ℕ → ℕ
text_length b g = text_length_at b (goal_place b g)

-- 01: "Then p pairs of variables known independent: two bytes": where pair k, counted from 0, stands
abbrev pub pairs_place : List ℕ → ℕ
pairs_place b = place_after b (goal_count b)

abbrev pub pair_at : List ℕ → ℕ → ℕ
pair_at b k = pairs_place b + 2 * k

-- the pair of the variables x and y is listed, whichever of them is the lower
unfoldable pub listed : List ℕ → ℕ → ℕ → Bool
listed b x y =
    some_below (pair_count b)
    (λ k. (eqb (byte b (pair_at b k)) x && eqb (byte b (pair_at b k + 1)) y) || (eqb (byte b (pair_at b k)) y && eqb (byte b (pair_at b k + 1)) x))
