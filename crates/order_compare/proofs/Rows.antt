-- Two orders compared row by row: the goals that are in just one of two rows.
use mathlib.Core.Path.{◌≡◌, refl, sym, ap, ap₂, ◌∙◌, subst}
use mathlib.Core.Bool.{Bool, true, false, not, ◌&&◌, ◌||◌, cond, beq, true≢false, and-false}
use mathlib.Core.List.{List}
use mathlib.Core.Option.{Option, none, some}
use Prim.Native.Nat.{ℕ, suc, ◌+◌, ◌^◌, ◌<◌, ◌≤◌}
use native.Mathlib.Numerals.{add-one}
use native.Mathlib.Omega.{arith}
use native.Mathlib.Nat.{lt_of_lt_of_le}
use lib.Dec.{eqb, ltb}
use lib.ListN.{get_or}
use lib.Pow.{pow_pos, pow_mono}
use borrow.Author.Tests.{eqb-true, eq-eqb, ne_eqb, lt-ltb, ltb-true}
use Rattle.logic.proofs.Bools.{and_l, not-true, not-false}
use Rattle.sets.specs.Sets.{goal_limit, has, union, meet, without, below, single, first, set_of}
use Rattle.sets.proofs.Membership.{has-union, has_meet, has-without, has-below, has_empty, first_least, first_member}
use Rattle.sets.proofs.Builder.{meet_lt, has-set_of, set_of_lt, set_of_more}
use Rattle.sets.proofs.Members.{first_in_lem}
use Rattle.graph.specs.Graph.{ahead, rows_of}
use Rattle.graph.proofs.Rows.{rows_say}
use Rattle.expression.specs.Expr.{Expr, before}
use Rattle.expression.specs.Search.{first_in}
use Rattle.form_first_n.proofs.Scan.{passed_hit, passed_skip, nowhere}
use Rattle.record_rules.specs.Outcome.{refused, accepted}
use Rattle.expression_grammar.specs.TextRules.{read_text}
use Rattle.expression_grammar.specs.Check.{differ, first_differ}
use Rattle.expression_grammar.proofs.Differences.{differ_cong}
use Rattle.order_compare.specs.declared.Verdict.TheVariants.{Same, Differs}
use Rattle.order_compare.specs.Verdicts.{said, verdict_of}
use Rattle.expression_grammar.specs.Check as Check

-- the goals of 1 to n that are in just one of two rows
abbrev pub odd : ℕ → ℕ → ℕ → ℕ
odd n p q = meet (below n) (union (without p q) (without q p))

module _ (n p q : ℕ) where
  in_odd : (j : ℕ) → has (odd n p q) j ≡ (ltb j n && ((has p j && not (has q j)) || (has q j && not (has p j))))
  in_odd j =
      has_meet (below n) (union (without p q) (without q p)) j
      ∙ ap₂ (λ a b. a && b) (has-below n j) (has-union (without p q) (without q p) j ∙ ap₂ (λ a b. a || b) (has-without p q j) (has-without q p j))

  alike : (a b : Bool) → ((a && not b) || (b && not a)) ≡ not (beq a b)
  alike true true = refl
  alike true false = refl
  alike false true = refl
  alike false false = refl

  odd_is : (j : ℕ) → j < n → has (odd n p q) j ≡ not (beq (has p j) (has q j))
  odd_is j l = in_odd j ∙ ap₂ (λ a b. a && b) (lt-ltb j n l) (alike (has p j) (has q j))

  odd_in : (j : ℕ) → has (odd n p q) j ≡ true → j < n
  odd_in j h = ltb-true j n (and_l (ltb j n) ((has p j && not (has q j)) || (has q j && not (has p j))) (sym (in_odd j) ∙ h))

  odd_lt : n ≤ goal_limit → odd n p q < 2 ^ 32
  odd_lt few =
      let pos = pow_pos n in
      lt_of_lt_of_le (meet_lt n (below n) (union (without p q) (without q p)) (omega arith)) (pow_mono few)

module _ (n : ℕ) (a b : List ℕ) where
  abbrev pub row : ℕ → Option (ℕ × ℕ)
  row i = first_in (λ j. differ (ahead a) (ahead b) i j) 1 n

  module _ (i : ℕ) where
    abbrev x : ℕ
    x = odd n (get_or a i 0) (get_or b i 0)

    no_differ : (j : ℕ) → j < n → has x j ≡ false → differ (ahead a) (ahead b) (suc i) (suc j) ≡ none
    no_differ j l h =
        ap (λ c. cond {A = Option (ℕ × ℕ)} c none (some (suc i, suc j))) (not-false (beq (has (get_or a i 0) j) (has (get_or b i 0) j)) (sym (odd_is n (get_or a i 0) (get_or b i 0) j l) ∙ h))

    pub row_same : x ≡ 0 → row (suc i) ≡ none
    row_same e = nowhere n (λ j. differ (ahead a) (ahead b) (suc i) j) (λ j l. no_differ j l (ap (λ z. has z j) e ∙ has_empty j))

    pub row-hit : n ≤ goal_limit → (x ≡ 0 → ⊥) → row (suc i) ≡ some (suc i, suc (first 32 x))
    row-hit few e =
        let here = first_member 32 x (first_in_lem 32 x (odd_lt n (get_or a i 0) (get_or b i 0) few) e) in
        let l = odd_in n (get_or a i 0) (get_or b i 0) (first 32 x) here in
        let f : ℕ → Option (ℕ × ℕ) = λ j. differ (ahead a) (ahead b) (suc i) j in
        passed_hit n f (suc i, suc (first 32 x)) (first 32 x) l
        (ap (λ c. cond {A = Option (ℕ × ℕ)} c none (some (suc i, suc (first 32 x)))) (not-true (beq (has (get_or a i 0) (first 32 x)) (has (get_or b i 0) (first 32 x))) (sym (odd_is n (get_or a i 0) (get_or b i 0) (first 32 x) l) ∙ here)))
        (passed_skip n f (first 32 x) (λ k m o. no_differ k o (first_least 32 x k m)))

  -- the rows of goal i + 1 differ
  abbrev pub apart : ℕ → Bool
  apart i = not (eqb (x i) 0)

  -- ---- the loop marks the goals whose rows differ
  pub marks_start : 0 ≡ set_of 0 apart
  unfolding set_of
  marks_start = refl

  module _ (goals : ℕ) (g : goals ≡ below n) (set k : ℕ) (m : set ≡ set_of k apart) where
    abbrev here : ℕ
    here = meet goals (union (without (get_or a k 0) (get_or b k 0)) (without (get_or b k 0) (get_or a k 0)))

    here_is : here ≡ x k
    here_is = ap (λ z. meet z (union (without (get_or a k 0) (get_or b k 0)) (without (get_or b k 0) (get_or a k 0)))) g

    abbrev grown : Bool → ℕ
    grown c = cond c (union (set_of k apart) (single k)) (set_of k apart)

    pub marks_more : ((here ≡ 0 → ⊥) → union set (single k) ≡ set_of (k + 1) apart) × (here ≡ 0 → set ≡ set_of (k + 1) apart)
    marks_more = (
      λ e. ap (λ z. union z (single k)) m ∙ ap (λ c. grown (not c)) (sym (ne_eqb (x k) 0 (λ z. e (here_is ∙ z)))) ∙ next,
      λ e. m ∙ ap (λ c. grown (not c)) (sym (eq-eqb (x k) 0 (sym here_is ∙ e))) ∙ next,
    )
      where
        next : grown (apart k) ≡ set_of (k + 1) apart
        next = rw (add-one k) (sym (set_of_more k apart))

  module _ (few : n ≤ goal_limit) (set k : ℕ) (le : n ≤ k) (ge : k ≤ n) (m : set ≡ set_of k apart) where
    unmarked : (i : ℕ) → i < n → has set i ≡ false → row (suc i) ≡ none
    unmarked i l h =
        row_same i
        (eqb-true (x i) 0
        (not-false (eqb (x i) 0) (ap (λ b. b && apart i) (sym (lt-ltb i k (omega arith))) ∙ sym (has-set_of k apart i) ∙ ap (λ z. has z i) (sym m) ∙ h)))

    pub compare_end : set ≡ 0 → Same ≡ said (first_differ n (ahead a) (ahead b))
    unfolding first_differ
    compare_end z = sym (ap said (nowhere n row (λ i l. unmarked i l (ap (λ w. has w i) z ∙ has_empty i))))

    module _ (some_one : set ≡ 0 → ⊥) (i : ℕ) (e : i ≡ first 32 set) where
      small : set < 2 ^ 32
      small = lt_of_lt_of_le (subst (λ z. z < 2 ^ k) (sym m) (set_of_lt k apart)) (pow_mono {j = 32} (omega arith))

      in_set : has (set_of k apart) i ≡ true
      in_set = ap₂ (λ u v. has u v) (sym m) e ∙ first_member 32 set (first_in_lem 32 set small some_one)

      compare_row : i < n
      compare_row = let l : i < k = ltb-true i k (and_l (ltb i k) (apart i) (sym (has-set_of k apart i) ∙ in_set)) in omega arith

      uneven : x i ≡ 0 → ⊥
      uneven z = true≢false (sym in_set ∙ has-set_of k apart i ∙ ap (λ v. ltb i k && not (eqb v 0)) z ∙ and-false (ltb i k))

      module _ (goals : ℕ) (g : goals ≡ below n) (j : ℕ) (q : j ≡ first 32 (meet goals (union (without (get_or a i 0) (get_or b i 0)) (without (get_or b i 0) (get_or a i 0))))) where
        first_is : j ≡ first 32 (x i)
        first_is = q ∙ ap (λ z. first 32 (meet z (union (without (get_or a i 0) (get_or b i 0)) (without (get_or b i 0) (get_or a i 0))))) g

        pub compare_hit : Differs (record { i = i + 1; j = j + 1 }) ≡ said (first_differ n (ahead a) (ahead b))
        unfolding first_differ
        compare_hit =
            rw (add-one i, add-one j, first_is)
            (sym
            (ap said
            (passed_hit n row (suc i, suc (first 32 (x i))) i compare_row (row-hit i few uneven)
            (passed_skip n row i (λ h l o. unmarked h o (first_least 32 set h (omega (arith, e))))))))

-- what is said is the verdict of the paper
pub said-verdict : (o : Option (ℕ × ℕ)) → verdict_of (said o) ≡ Check.verdict o
said-verdict none = refl
said-verdict (some p) = refl

-- the rows of two orders differ where the orders do
pub rows_differ : (n : ℕ) (R S : ℕ → ℕ → Bool) → n ≤ goal_limit → first_differ n (ahead (rows_of goal_limit n R)) (ahead (rows_of goal_limit n S)) ≡ first_differ n R S
rows_differ n R S few =
    differ_cong n (ahead (rows_of goal_limit n R)) R (ahead (rows_of goal_limit n S)) S (λ i j g h. rows_say goal_limit n R i j few g.0 g.1 h.0 h.1)
    (λ i j g h. rows_say goal_limit n S i j few g.0 g.1 h.0 h.1)

-- ---- the check, from the reading of the text and the comparison of the rows
pub checked_refused : (n : ℕ) (R : ℕ → ℕ → Bool) (t : List ℕ) (k p : ℕ) → read_text n t ≡ refused k p → Check.checked n R t ≡ refused k p
unfolding Check.checked
checked_refused n R t k p h = ap (λ r. Check.judged n R r) h

pub checked_compared : (n : ℕ) (R : ℕ → ℕ → Bool) (t : List ℕ) (e : Expr) → n ≤ goal_limit → read_text n t ≡ accepted e
    → Check.checked n R t ≡ accepted (verdict_of (said (first_differ n (ahead (rows_of goal_limit n R)) (ahead (rows_of goal_limit n (before e))))))
unfolding Check.checked
checked_compared n R t e few h =
    ap (λ r. Check.judged n R r) h
    ∙ ap (λ o. accepted o) (sym (said-verdict (first_differ n R (before e))) ∙ ap (λ o. verdict_of (said o)) (sym (rows_differ n R (before e) few)))
