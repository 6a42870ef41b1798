-- Document 003 (the CDG, UDG and MEL methods), section 2.2 and figure 1: whether a dependency graph can be compiled into a linear expression without loss of
-- parallelism. The vertices V, here W, are a list of goals; (i, j) is an edge exactly if `R i j`. "We consider only those UDGs whose set of edges is closed under
-- transitivity."
use Rattle.std.specs.Prelude.{Bool, true, not, ◌&&◌, ◌||◌, List, map, ℕ, zero, suc, eqb, length}
use Rattle.std.specs.Bool.{beq}
use Rattle.expression.specs.Form.{up_from}
use Rattle.published.specs.Sets.{every, any, those, among, subset, inside, disjoint, distinct}

module _ (R : ℕ → ℕ → Bool) where
  -- Step 1: "the vertices that have in-degree = 0 in the current graph belong to the set P".
  abbrev pub P : List ℕ → List ℕ
  P W = those (λ v. not (any (λ u. R u v) W)) W

  -- Step 2: "the set Q = V - P",
  abbrev pub Q : List ℕ → List ℕ
  Q W = those (λ v. any (λ u. R u v) W) W

  -- "For each q in Q, form the nonempty set E(q) = {p | p in P and (p, q) in E}".
  abbrev pub E : List ℕ → ℕ → List ℕ
  E W q = those (λ p. R p q) (P W)

  -- "Let S = {E(q) | q in Q} = {S_1, .., S_n}".
  abbrev pub S : List ℕ → List (List ℕ)
  S W = distinct (map (E W) (Q W))

  -- Step 3, the condition of lemma 1: "for each S_i, S_j in S" they do not intersect, "or one must be a subset of the other".
  abbrev pub lemma1 : List ℕ → Bool
  lemma1 W = every (λ a. every (λ b. disjoint a b || subset a b || subset b a) (S W)) (S W)

  -- Step 4: "F(r) = {q | for all p in P (p in r if and only if (p, q) in E)}", the vertices of Q that wait for all of r and for no other vertex of P.
  abbrev pub F : List ℕ → List ℕ → List ℕ
  F W r = those (λ q. every (λ p. beq (among p r) (R p q)) (P W)) (Q W)

  -- Step 5, the condition of lemma 3: for S_i inside S_j, "u ≠ v and u in F(S_i) and v in F(S_j)" implies that "(u, v)" is an edge.
  abbrev pub lemma3 : List ℕ → Bool
  lemma3 W = every (λ a. every (λ b. not (inside a b) || every (λ u. every (λ v. eqb u v || R u v) (F W b)) (F W a)) (S W)) (S W)

  -- Figure 1, with calls at most k deep: "If the condition in lemma 1 is not satisfied then return false", the same for lemma 3, and else the answer is true
  -- exactly if it is for each F(S_i). If S is empty, so if no vertex waits, the answer is true.
  abbrev pub udg_deep : ℕ → List ℕ → Bool
  udg_deep zero W = true
  udg_deep (suc k) W = lemma1 W && lemma3 W && every (λ s. udg_deep k (F W s)) (S W)

  -- Each F(S_i) has fewer vertices, so as many calls as there are vertices are enough (`figure_1_unfolds`).
  abbrev pub udg_compilable_WLOP : List ℕ → Bool
  udg_compilable_WLOP W = udg_deep (length W) W

  -- Figure 1 for the goals 1 to n.
  abbrev pub figure1 : ℕ → Bool
  figure1 n = udg_compilable_WLOP (up_from 1 n)
