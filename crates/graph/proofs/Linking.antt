-- The loop that puts a set of goals into the rows of another set, first member first.
use mathlib.Core.Path.{◌≡◌, refl, sym, ap, ap₂, ◌∙◌, subst}
use mathlib.Core.Bool.{Bool, true, false, not, ◌&&◌, ◌||◌, cond, and-false, and-not_self, or-false}
use mathlib.Core.List.{List, [], ◌∷◌}
use mathlib.Core.Logic.{dite}
use Prim.Native.Nat.{ℕ, suc, ◌^◌, ◌<◌}
use native.Mathlib.Omega.{arith}
use native.Mathlib.Decide.{dec_lt}
use lib.ListN.{get_or, set, replicate, length-set, length-replicate, get_or-replicate, get_or-eq_default}
use lib.Pow.{pow_pos}
use lib.Seq.{get_or-set_same, get_or-set_other}
use borrow.Author.Tests.{eq-eqb, ne_eqb}
use lib.Dec.{eqb}
use Rattle.logic.proofs.Bools.{or_l, or_r}
use Rattle.sets.specs.Sets.{has, union, members}
use Rattle.sets.proofs.Membership.{has-union, has_empty}
use Rattle.sets.proofs.Builder.{union_lt}
use Rattle.sets.proofs.Members.{step_in, step_has, step_gone, step_none}
use Rattle.graph.specs.Graph.{ahead, Words}
use Rattle.graph.specs.Linking.{Linked}

-- the rows of front that are not left have later too
pub record Linking (w front later : ℕ) (old now : List ℕ) (left : ℕ) : Type 0 where
  pub inside : (m : ℕ) → m < w → has left m ≡ true → has front m ≡ true
  pub at : (m : ℕ) → m < w → get_or now m 0 ≡ cond (has front m && not (has left m)) (union (get_or old m 0) later) (get_or old m 0)
  pub words : Words w now

split : {A : Type 0} (i m : ℕ) → (i ≡ m → A) → ((i ≡ m → ⊥) → A) → A
split i m f g = dite (dec_lt i m) (λ a. g (λ e. omega arith)) (λ a. dite (dec_lt m i) (λ b. g (λ e. omega arith)) (λ b. f (omega arith)))

module _ (w front later : ℕ) (old : List ℕ) where
  abbrev mixed : Bool → ℕ → ℕ
  mixed b m = cond b (union (get_or old m 0) later) (get_or old m 0)

  -- there is nothing to put
  pub linked_none : later ≡ 0 → Words w old → Linked w front later old old
  linked_none z ws = record { words = ws; order = λ i j l. order i j }
    where
      order : (i j : ℕ) → ahead old (suc i) (suc j) ≡ (ahead old (suc i) (suc j) || (has front i && has later j))
      order i j =
          sym (ap (λ b. ahead old (suc i) (suc j) || b) (ap (λ m. has front i && has m j) z ∙ ap (λ b. has front i && b) (has_empty j) ∙ and-false (has front i))
          ∙ or-false (ahead old (suc i) (suc j)))

  pub linking_start : Words w old → Linking w front later old old front
  linking_start ws = record { inside = λ m l h. h; at = λ m l. sym (ap (λ b. mixed b m) (and-not_self (has front m))); words = ws }

  pub linking_turn : (now : List ℕ) (left i others : ℕ) → members w left ≡ i ∷ members w others → later < 2 ^ w → Linking w front later old now left
      → Linking w front later old (set now i (union (get_or now i 0) later)) others
  linking_turn now left i others e few h =
      record {
        inside = λ m l q. h.inside m l (step_has w left i others e m l ∙ or_r (eqb i m) (has others m) q);
        at = λ m l. split i m (here m) (other m l);
        words = record { size = length-set now i v ∙ h.words.size; small = small };
      }
    where
      v : ℕ
      v = union (get_or now i 0) later

      b : i < w
      b = step_in w left i others e

      in_left : has left i ≡ true
      in_left = step_has w left i others e i b ∙ or_l (eqb i i) (has others i) (eq-eqb i i refl)

      small : (m : ℕ) → get_or (set now i v) m 0 < 2 ^ w
      small m =
          split {A = get_or (set now i v) m 0 < 2 ^ w} i m
          (λ q.
          subst (λ z. get_or (set now i v) z 0 < 2 ^ w) q
          (subst (λ z. z < 2 ^ w) (sym (get_or-set_same now i v 0 (let l = b in omega (arith, h.words.size)))) (union_lt w (get_or now i 0) later (h.words.small i) few)))
          (λ q. subst (λ z. z < 2 ^ w) (sym (get_or-set_other now i m v 0 (λ r. q (sym r)))) (h.words.small m))

      here : (m : ℕ) → i ≡ m → get_or (set now i v) m 0 ≡ mixed (has front m && not (has others m)) m
      here m q =
          ap (λ z. get_or (set now i v) z 0) (sym q)
          ∙ get_or-set_same now i v 0 (let l = b in omega (arith, h.words.size))
          ∙ ap (λ z. union z later) (h.at i b ∙ ap (λ t. mixed t i) (ap₂ (λ x y. x && not y) (h.inside i b in_left) in_left))
          ∙ sym (ap (λ t. mixed t i) (ap₂ (λ x y. x && not y) (h.inside i b in_left) (step_gone w left i others e)))
          ∙ ap (λ z. mixed (has front z && not (has others z)) z) q

      other : (m : ℕ) → m < w → (i ≡ m → ⊥) → get_or (set now i v) m 0 ≡ mixed (has front m && not (has others m)) m
      other m l q =
          get_or-set_other now i m v 0 (λ r. q (sym r)) ∙ h.at m l
          ∙ ap (λ t. mixed (has front m && not t) m) (step_has w left i others e m l ∙ ap (λ t. t || has others m) (ne_eqb i m q))

  pub linking_end : (now : List ℕ) (left : ℕ) → members w left ≡ [] → Linking w front later old now left → Linked w front later old now
  linking_end now left e h = record { words = h.words; order = λ i j l. order i j l }
    where
      order : (i j : ℕ) → i < w → ahead now (suc i) (suc j) ≡ (ahead old (suc i) (suc j) || (has front i && has later j))
      order i j l = ap (λ m. has m j) (h.at i l ∙ ap (λ t. mixed (has front i && not t) i) (step_none w left e i l)) ∙ go (has front i)
        where
          go : (b : Bool) → has (mixed (b && true) i) j ≡ (has (get_or old i 0) j || (b && has later j))
          go true = has-union (get_or old i 0) later j
          go false = sym (or-false (has (get_or old i 0) j))

-- rows without an edge
pub words_zero : (w : ℕ) → Words w (replicate w 0)
words_zero w = record { size = length-replicate {A = ℕ} w 0; small = λ i. small i }
  where
    small : (i : ℕ) → get_or (replicate w 0) i 0 < 2 ^ w
    small i =
        dite (dec_lt i w) (λ l. subst (λ z. z < 2 ^ w) (sym (get_or-replicate {A = ℕ} w i 0 0 l)) (pow_pos w))
        (λ l. subst (λ z. z < 2 ^ w) (sym (get_or-eq_default (replicate w 0) 0 {n = i} (omega (arith, length-replicate {A = ℕ} w 0)))) (pow_pos w))
