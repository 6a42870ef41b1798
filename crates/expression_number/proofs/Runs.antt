-- The grammar's reader over a text from a place on.
use mathlib.Core.Path.{◌≡◌, refl, sym, ap, ◌∙◌}
use mathlib.Core.List.{List, [], ◌∷◌}
use mathlib.Core.Option.{none, some}
use mathlib.Core.Logic.{dite}
use Prim.Native.Nat.{ℕ, zero, suc, ◌+◌, ◌<◌, ◌≤◌}
use native.Mathlib.Omega.{arith}
use native.Mathlib.Decide.{dec_lt}
use native.Mathlib.Numerals.{add-one}
use lib.ListN.{length, get_or, drop, drop_of_length-le}
use Rattle.expression_grammar.specs.Reader.{State, stops, ends, onward, run}
use Rattle.expression_grammar.proofs.Sound.{next}
use Rattle.expression_grammar.proofs.Places.{byte_inside}
use Rattle.expression_number.specs.Nodes.{Comes, Refuses}

-- ---- the text from a place on
pub drop_at : (s : List ℕ) (e : ℕ) → e < length s → drop e s ≡ get_or s e 0 ∷ drop (suc e) s
drop_at [] e h = absurd (omega arith)
drop_at (x ∷ s) zero h = refl
drop_at (x ∷ s) (suc e) h = drop_at s e (omega arith)

module _ (s : List ℕ) (e : ℕ) where
  pub run_at : (x : State) → e < length s → run (drop e s) e x ≡ onward (next x (get_or s e 0)) e (λ r. run (drop (suc e) s) (suc e) r)
  run_at x h = ap (λ t. run t e x) (drop_at s e h)

  pub run_end : (x : State) → length s ≤ e → run (drop e s) e x ≡ ends x.outer x.groups x.primaries x.phase e
  run_end x h = ap (λ t. run t e x) (drop_of_length-le s {i = e} h)

  -- one byte is taken
  pub takes : (b : ℕ) (x y : State) → 0 < b → get_or s e 0 ≡ b → next x b ≡ some y → Comes s e x (e + 1) y
  takes b x y pos q n =
      rw (add-one e) (run_at x (byte_inside s e b pos q) ∙ ap (λ o. onward o e (λ r. run (drop (suc e) s) (suc e) r)) (ap (λ c. next x c) q ∙ n))

  -- none is
  pub stuck : (x : State) → next x (get_or s e 0) ≡ none → ends x.outer x.groups x.primaries x.phase e ≡ stops e → Refuses s e x e
  stuck x n q =
      dite (dec_lt e (length s)) (λ h. run_at x h ∙ ap (λ o. onward o e (λ r. run (drop (suc e) s) (suc e) r)) n) (λ h. run_end x (omega arith) ∙ q)

  -- two states go on alike
  pub alike : (x y : State) → next x (get_or s e 0) ≡ next y (get_or s e 0)
      → ends x.outer x.groups x.primaries x.phase e ≡ ends y.outer y.groups y.primaries y.phase e → run (drop e s) e x ≡ run (drop e s) e y
  alike x y n q =
      dite (dec_lt e (length s)) (λ h. run_at x h ∙ ap (λ o. onward o e (λ r. run (drop (suc e) s) (suc e) r)) n ∙ sym (run_at y h))
      (λ h. run_end x (omega arith) ∙ q ∙ sym (run_end y (omega arith)))
