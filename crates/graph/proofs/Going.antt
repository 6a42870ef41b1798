-- How a loop closes rows, pass by pass.
use mathlib.Core.Path.{◌≡◌, sym, ap, ◌∙◌, subst}
use mathlib.Core.Bool.{Bool, true, false}
use mathlib.Core.List.{List}
use mathlib.Core.Logic.{⊎_elim}
use Prim.Native.Nat.{ℕ, zero, suc, ◌≤◌, ◌<◌, ◌^◌}
use native.Mathlib.Nat.{eq-or-lt_of_le}
use native.Mathlib.Omega.{arith}
use lib.ListN.{get_or}
use Rattle.logic.proofs.Bools.{is_false, clash}
use Rattle.sets.specs.Sets.{below}
use Rattle.graph.specs.Graph.{ahead, has_goal, rows_of, Within}
use Rattle.graph.specs.Passes.{pass, after, adds_none, passes}
use Rattle.graph.specs.PassRows.{same_rows}
use Rattle.graph.proofs.Rows.{rows_say, rows_cong, rows_within}
use Rattle.graph.proofs.Passes.{Agree, pass_agree, same_agree, agree_same}
use Rattle.graph.proofs.Theorems.{passes-lowest, passes-only, passes_most}
use Rattle.graph.proofs.Gathering.{same_at, same-all}

module _ (w n : ℕ) (start : List ℕ) where
  abbrev W : ℕ → ℕ → Bool
  W = ahead start

  -- the rows after k passes, each of which added a wait
  pub record Going (k : ℕ) (rows : List ℕ) : Type 0 where
    pub rows_are : rows ≡ rows_of w n (after n W k)
    pub each_adds : (m : ℕ) → 1 ≤ m → m ≤ k → adds_none n W m ≡ false

  pub going_start : Within w n start → Going 0 start
  going_start inside = record { rows_are = inside; each_adds = λ m a b. absurd (omega arith) }

  -- as many as there can be at the most are not all followed by another
  pub going_end : (m : ℕ) (rows : List ℕ) → n ≤ 2 ^ m → Going (suc m) rows → ⊥
  going_end m rows h g =
      let l = passes-lowest n W in
      clash l.passes (g.each_adds (passes n W) l.inside.0 (passes_most n W m h))

  module _ (h : n ≤ w) (k : ℕ) (rows : List ℕ) (g : Going k rows) where
    says : Agree n (ahead rows) (after n W k)
    says i j a b = ap (λ (l : List ℕ). ahead l i j) g.rows_are ∙ rows_say w n (after n W k) i j h a.0 a.1 b.0 b.1

    pub going-within : Within w n rows
    going-within = subst (Within w n) (sym g.rows_are) (rows_within w n (after n W k) h)

    -- the rows after the next pass
    abbrev next : List ℕ
    next = rows_of w n (pass n (ahead rows))

    pub going_next : next ≡ rows_of w n (after n W (suc k))
    going_next =
        rows_cong w n (pass n (ahead rows)) (after n W (suc k)) h (λ i j a b c d. pass_agree n (ahead rows) (after n W k) says i j (a, b) (c, d))

    next_says : Agree n (ahead next) (after n W (suc k))
    next_says i j a b = ap (λ (l : List ℕ). ahead l i j) going_next ∙ rows_say w n (after n W (suc k)) i j h a.0 a.1 b.0 b.1

    -- it adds none exactly if the rows stay as they are
    same_none : same_rows n rows next ≡ below n → adds_none n W (suc k) ≡ true
    same_none e = agree_same n (after n W (suc k)) (after n W k) agree
      where
        agree : Agree n (after n W (suc k)) (after n W k)
        agree zero j a b = absurd (omega arith)
        agree (suc i) j a b = sym (next_says (suc i) j a b) ∙ ap (λ (m : ℕ). has_goal m j) (same_at n rows next e i a.1) ∙ says (suc i) j a b

    none-same : adds_none n W (suc k) ≡ true → same_rows n rows next ≡ below n
    none-same e =
        same-all n rows next
        (λ i l.
        ap (λ (r : List ℕ). get_or r i 0)
        (going_next
        ∙ rows_cong w n (after n W (suc k)) (after n W k) h (λ i j a b c d. same_agree n (after n W (suc k)) (after n W k) e i j (a, b) (c, d))
        ∙ sym g.rows_are))

    -- a pass that adds none is the last
    pub going_stop : same_rows n rows next ≡ below n → passes n W ≡ suc k
    going_stop e = passes-only n W (suc k) (omega arith) (same_none e) (λ m a b. g.each_adds m a (omega arith))

    pub going_on : (same_rows n rows next ≡ below n → ⊥) → Going (suc k) next
    going_on e =
        record {
          rows_are = going_next;
          each_adds =
              λ m a b.
              ⊎_elim (λ (z : m ≡ suc k). ap (adds_none n W) z ∙ is_false (adds_none n W (suc k)) (λ t. e (none-same t)))
              (λ (l : m < suc k). g.each_adds m a (omega arith)) (eq-or-lt_of_le b);
        }
