-- The form of a set, and one step of taking off a member.
use mathlib.Core.Path.{◌≡◌, refl, sym, ap, ◌∙◌, subst}
use mathlib.Core.Bool.{Bool, true, false, false≢true}
use mathlib.Core.List.{List}
use Prim.Native.Nat.{ℕ, zero, suc, ◌^◌, ◌≤◌, ◌<◌}
use native.Mathlib.Omega.{arith}
use lib.Dec.{eqb}
use lib.Pow.{pow_pos}
use borrow.Author.Tests.{eqb-true, eqb-false}
use Rattle.logic.proofs.Bools.{is_false, not_self, clash}
use Rattle.sets.specs.Sets.{without, single, first, count}
use Rattle.sets.proofs.Membership.{member_below, ext}
use Rattle.graph.specs.Graph.{has_goal, ahead, behind}
use Rattle.graph.proofs.Goals.{goal-none, goal-single, single-goal, Part, part_lt, left_out, part_less, lowest-has, lowest_least}
use Rattle.expression.specs.Expr.{Expr, goal, join, Members, one, more, Goals, NoJoin}
use Rattle.expression.specs.Form.{chosen, up_from}
use Rattle.expression.specs.Arrange.{Strict}
use Rattle.expression.specs.Split.{Component, Starts}
use Rattle.expression.proofs.Exists.{Form, form-set, chosen-goals}
use Rattle.expression.proofs.Arrange.{form_list-any, up_distinct, chosen-distinct}
use Rattle.expression.proofs.Split.{FormM, form_eq, Peeled, final, further, peel_at, no_group, is_group, is_goal, is_sequence}
use Rattle.form_split.specs.Split.{Has, Ordered, form_of}
use Rattle.form_split.proofs.Grow.{without_l, without_r, without-i}

module _ (after prior : List ℕ) where
  abbrev R : ℕ → ℕ → Bool
  R = ahead after

  -- an order on a set is one on each part that is not empty
  pub ordered_part : {a b : ℕ} → Part a b → (g : ℕ) → Has a g → Ordered after prior b → Ordered after prior a
  ordered_part h g s o =
      record {
        strict =
            record {
              unlike = λ i p. o.strict.unlike i (h i p);
              chained = λ i j l p q r. o.strict.chained i j l (h i p) (h j q) (h l r);
            };
        free = λ a b c d p q r t. o.free a b c d (h a p) (h b q) (h c r) (h d t);
        turned = λ i j p q. o.turned i j (h i p) (h j q);
        some = (g, s);
      }

  -- the turned rows say the same order
  pub ordered-behind : {a : ℕ} → Ordered after prior a → Strict (behind prior) (Has a)
  ordered-behind o =
      record {
        unlike = λ i p. o.turned i i p p ∙ o.strict.unlike i p;
        chained =
            λ i j l p q r t u.
            o.turned i l p r ∙ o.strict.chained i j l p q r (sym (o.turned i j p q) ∙ t) (sym (o.turned j l q r) ∙ u);
      }

  pub starts-ahead : {a : ℕ} {k : Bool} {x : ℕ} → Ordered after prior a → Has a x → Starts (behind prior) k (Has a) x → Starts (ahead after) k (Has a) x
  starts-ahead {a} {k} {x} o h s = (s.0, λ e i p. sym (o.turned i x p h) ∙ s.1 e i p)

  module _ (w set : ℕ) (l : set < 2 ^ w) where
    goals-has : (i : ℕ) → Has set i → Goals w i
    goals-has zero h = absurd (false≢true h)
    goals-has (suc i) h = (omega arith, member_below w set i l h)

    -- the form of a set is its form
    pub form_of_lem : Ordered after prior set → Form R (Has set) (form_of w after set)
    unfolding form_of
    form_of_lem o =
        form-set (λ i. (λ p. ((chosen-goals w (has_goal set) i).0 p).1, λ p. (chosen-goals w (has_goal set) i).1 (goals-has i p, p)))
        (form_list-any R (Has set) o.strict o.free (chosen (has_goal set) (up_from 1 w)) (chosen-distinct (has_goal set) (up_from 1 w) (up_distinct w 1))
        (λ i h. ((chosen-goals w (has_goal set) i).0 h).1) o.some.0 ((chosen-goals w (has_goal set) o.some.0).1 (goals-has o.some.0 o.some.1, o.some.1)))

    module _ (o : Ordered after prior set) where
      -- and every form of it is this one
      pub form-only : (e : Expr) → Form R (Has set) e → e ≡ form_of w after set
      form-only e f = form_eq R e (form_of w after set) f (form_of_lem o) (λ i. (λ p. p, λ p. p))

      -- a set of one goal
      pub form-goal : single (first w set) ≡ set → form_of w after set ≡ goal (suc (first w set))
      form-goal e =
          is_goal (form_of w after set) (form_of_lem o) (suc (first w set))
          (λ i p. single-goal (first w set) i (ap (λ (m : ℕ). has_goal m i) e ∙ p))

      -- a set of more: the component of its lowest goal among what is in order says of which kind its form is
      module _ (n : single (first w set) ≡ set → ⊥) (c : ℕ) (m : Component R false (Has set) (suc (first w set)) (Has c)) where
        low : (i : ℕ) → Has set i → suc (first w set) ≤ i
        low i p = lowest_least w set i p

        here : Has set (suc (first w set))
        here = lowest-has w set l o.some.0 o.some.1

        one_part : Part (single (first w set)) set
        one_part g h = subst (Has set) (sym (single-goal (first w set) g h)) here

        pub form_join : (a : Expr) × (ms : Members) × (form_of w after set ≡ join (eqb c set) a ms)
        form_join = go (eqb c set) refl
          where
            go : (k : Bool) → eqb c set ≡ k → (a : Expr) × (ms : Members) × (form_of w after set ≡ join k a ms)
            go true e =
                let same : c ≡ set = eqb-true c set e in
                let none = no_group R m low (form_of w after set) (form_of_lem o) (λ i p. ap (λ (z : ℕ). has_goal z i) same ∙ p) in
                let other = left_out w (single (first w set)) set one_part l n in
                is_sequence (form_of w after set) (form_of_lem o) none (suc (first w set)) other.0 here other.1
                (λ q. clash (goal-single (first w set)) (ap (has_goal (single (first w set))) q ∙ other.2))
            go false e =
                let other = left_out w c set m.inside l (eqb-false c set e) in
                is_group R m low (form_of w after set) (form_of_lem o) other.0 (other.1, λ h. clash h other.2)

  -- One step: of the members that are left, those of the goals `rest` of a set, the first is the form of the component c.
  module _ (w : ℕ) {k : Bool} {set x : ℕ} (rest c : ℕ) (l : set < 2 ^ w) (part : Part rest set) (o : Ordered after prior set) (h : Has rest x)
      (m : Component R k (Has rest) x (Has c)) where
    rest-ordered : Ordered after prior rest
    rest-ordered = ordered_part part x h o

    c_part : Part c rest
    c_part g p = m.inside g p

    pub c_ordered : Ordered after prior c
    c_ordered = ordered_part c_part x m.start rest-ordered

    c_lt : c < 2 ^ w
    c_lt = part_lt w c set (λ g p. part g (c_part g p)) l

    pub rest_less : (rest < 2 ^ w) → count (without rest c) < count rest
    rest_less lr =
        part_less w (without rest c) rest (λ g p. without_l rest c g p) lr
        (λ e. clash m.start (without_r rest c x (ap (λ (z : ℕ). has_goal z x) e ∙ h)))

    pub rest_part : Part (without rest c) set
    rest_part g p = part g (without_l rest c g p)

    -- the last member, or another
    pub data Taken : Members → Type 0 where
      last : {b : Expr} → NoJoin k b → b ≡ form_of w after c → without rest c ≡ 0 → Taken (one b)
      next : {b : Expr} {bs : Members} → NoJoin k b → b ≡ form_of w after c → FormM R k (Has (without rest c)) bs → Taken (more b bs)

    pub take : Starts (ahead after) k (Has rest) x → (ms : Members) → FormM R k (Has rest) ms → Taken ms
    take s ms f = go (peel_at R k m s ms f)
      where
        go : {ms : Members} → Peeled R k (Has rest) (Has c) ms → Taken ms
        go (final {b = b} n g all) =
            last n (form-only w c c_lt c_ordered b g)
            (ext w (without rest c) 0 (part_lt w (without rest c) set rest_part l) (pow_pos w)
            (λ i u. is_false (has_goal (without rest c) (suc i)) (λ t. clash (all (suc i) (without_l rest c (suc i) t)) (without_r rest c (suc i) t)) ∙ sym (goal-none (suc i))))
        go (further {b = b} {bs = bs} n g v i) =
            next n (form-only w c c_lt c_ordered b g)
            (record {
              covers =
                  λ i. (
                    (λ p. let t = (v.covers i).0 p in without-i rest c i t.0 (is_false (has_goal c i) t.1)),
                    λ p. (v.covers i).1 (without_l rest c i p, λ q. clash q (without_r rest c i p)),
                  );
              fits = v.fits;
              house = v.house;
            })

    -- a member of a k join has fewer goals than the join
    pub member_less : (a : Expr) (ms : Members) → form_of w after set ≡ join k a ms → {b : Expr} → NoJoin k b → b ≡ form_of w after c → count c < count set
    member_less a ms e {b} n q =
        part_less w c set (λ g p. part g (c_part g p)) l
        (λ z. not_self k (subst (NoJoin k) (q ∙ ap (form_of w after) z ∙ e) n))
