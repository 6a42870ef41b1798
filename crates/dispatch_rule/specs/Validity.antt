-- The states that a tick is given: the list of refusal 20 read the other way (02, request 4, "Checks"), but for the number of heads. As a statement, then as a test.
use Rattle.std.specs.Prelude.{◌≡◌, Bool, true, false, not, ◌&&◌, ◌||◌, cond, List, [], ◌∷◌, ◌⊎◌, ℕ, ◌≤◌, eqb, leb}
use Rattle.schedule.specs.Range.{Goals, each}
use Rattle.dispatch_rule.specs.declared.Head.{Head}
use Rattle.dispatch_rule.specs.Rule.{State, idle, count, ready}

-- h is a head of the row
abbrev pub In : Head → List Head → Type 0
In h [] = ⊥
In h (x ∷ hs) = (h ≡ x) ⊎ In h hs

module _ (R : ℕ → ℕ → Bool) (n : ℕ) (t : ℕ → ℕ) where
  -- a busy head: its goal is not "above n", not "ended"; not "ticks left of 0 or above the goal's on a busy head"; not "a busy .. goal with a predecessor not ended"
  pub record Busy (E : ℕ → Bool) (h : Head) : Type 0 where
    pub goals : Goals n h.goal
    pub open_yet : E h.goal ≡ false
    pub some_left : 1 ≤ h.left
    pub not_above : h.left ≤ t h.goal
    pub prepared : ready R n E h.goal ≡ true

  -- every head is idle, with no ticks left ("or not 0 on an idle one"), or busy as above; no goal is "on two heads"; no "ended goal above n"; no "ended goal with a
  -- predecessor not ended"
  pub record Valid (s : State) : Type 0 where
    pub fine : (h : Head) → In h s.heads → (h ≡ idle) ⊎ Busy s.ended h
    pub once : (g : ℕ) → 1 ≤ g → count s.heads g ≤ 1
    pub known : (g : ℕ) → s.ended g ≡ true → Goals n g
    pub before : (g : ℕ) → s.ended g ≡ true → ready R n s.ended g ≡ true

-- ---- The same as a test; `valid_is` of proofs/Validity says so. w is the width of the set of ended goals.
abbrev pub all_heads : (Head → Bool) → List Head → Bool
all_heads p [] = true
all_heads p (h ∷ hs) = p h && all_heads p hs

module _ (R : ℕ → ℕ → Bool) (n : ℕ) (t : ℕ → ℕ) where
  abbrev pub fine_head : (ℕ → Bool) → Head → Bool
  fine_head E h =
      cond (eqb h.goal 0) (eqb h.left 0)
      (leb h.goal n && (not (E h.goal) && (leb 1 h.left && (leb h.left (t h.goal) && ready R n E h.goal))))

  abbrev pub is_valid : ℕ → State → Bool
  is_valid w s =
      all_heads (fine_head s.ended) s.heads
      && (each (λ g. leb (count s.heads g) 1) n && each (λ g. not (s.ended g) || (leb g n && ready R n s.ended g)) w)
