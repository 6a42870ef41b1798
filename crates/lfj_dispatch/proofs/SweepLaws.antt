-- A sweep, one head after the other: what holds after i heads.
use mathlib.Core.Path.{◌≡◌, refl, sym, ◌∙◌}
use mathlib.Core.List.{List, [], ◌∷◌, ◌++◌, append_assoc, append-nil}
use Prim.Native.Nat.{ℕ, zero, suc, ◌+◌, ◌<◌, ◌≤◌}
use native.Mathlib.Numerals.{add-one}
use native.Mathlib.Omega.{arith}
use lib.ListN.{length, get_or, set, take, drop, length-set}
use lib.Seq.{take_all, drop-cons, drop-set-lt, take-suc-set}
use Rattle.dispatch_rule.specs.declared.Head.{Head}
use Rattle.dispatch_rule.specs.Rule.{idle}
use Rattle.dispatch_steps.specs.declared.Board.{Board}
use Rattle.dispatch_steps.specs.declared.Plan.{Plan}
use Rattle.dispatch_steps.specs.declared.Stepped.{Stepped}
use Rattle.dispatch_steps.specs.Steps.{step_of, sweep_heads, sweep_board}

drop-none : (i : ℕ) (l : List Head) → length l ≤ i → drop i l ≡ []
drop-none zero [] le = refl
drop-none zero (x ∷ l) le = absurd (omega arith)
drop-none (suc i) [] le = refl
drop-none (suc i) (x ∷ l) le = drop-none i l (omega arith)

-- after i heads of ys, from the board s, by the plan p: the row is zs, and the board st
pub record Swept (p : Plan) (ys : List Head) (s : Board) (i : ℕ) (zs : List Head) (st : Board) : Type 0 where
  pub long : length zs ≡ length ys
  pub row : take i zs ++ sweep_heads p (drop i zs) st ≡ sweep_heads p ys s
  pub board : sweep_board p (drop i zs) st ≡ sweep_board p ys s

pub swept_none : (p : Plan) (ys : List Head) (s : Board) → Swept p ys s 0 ys s
swept_none p ys s = record { long = refl; row = refl; board = refl }

module _ (p : Plan) (ys : List Head) (s : Board) (i : ℕ) (zs : List Head) (st : Board) (w : Swept p ys s i zs st) where
  pub swept_more : i < length ys → (r : Stepped) → r ≡ step_of (get_or zs i idle) st p → Swept p ys s (i + 1) (set zs i r.head) r.board
  unfolding sweep_heads sweep_board
  swept_more lt r e =
      let l : i < length zs = omega (arith, w.long) in
      let d : drop i zs ≡ get_or zs i idle ∷ drop (suc i) zs = drop-cons zs i idle l in
      let d' : drop (suc i) (set zs i r.head) ≡ drop (suc i) zs = drop-set-lt (suc i) zs i r.head (omega arith) in
      record {
        long = length-set zs i r.head ∙ w.long;
        row = rw (add-one i, take-suc-set zs i r.head l, d', append_assoc, e) (rw d at w.row);
        board = rw (add-one i, d', e) (rw d at w.board);
      }

  pub swept_all : length ys ≤ i → (zs ≡ sweep_heads p ys s) × (st ≡ sweep_board p ys s)
  unfolding sweep_heads sweep_board
  swept_all le =
      let n : length zs ≤ i = omega (arith, w.long) in
      (sym (append-nil zs) ∙ rw (drop-none i zs n, take_all i zs n) at w.row, rw (drop-none i zs n) at w.board)
