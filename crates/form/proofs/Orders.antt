-- Two relations that agree on the goals have the same N and the same form; so the rows of a record's order settle what its order settles.
use Rattle.std.specs.Prelude.{Ok}
use mathlib.Core.Path.{◌≡◌, refl, sym, ap, ap₂, ◌∙◌, subst}
use mathlib.Core.Bool.{Bool}
use mathlib.Core.List.{List}
use mathlib.Core.Option.{Option, none, some}
use Prim.Native.Nat.{ℕ, ◌≤◌}
use Rattle.sets.specs.Sets.{goal_limit}
use Rattle.record_rules.specs.Reading.{reading}
use Rattle.record_fields.specs.Fields.{goal_count}
use Rattle.record.proofs.WellFormed.{fine_well_formed}
use Rattle.graph.specs.Graph.{ahead, rows_of, Within}
use Rattle.graph.specs.declared.Graph.{Graph}
use Rattle.graph.proofs.Rows.{rows_say, rows_within}
use Rattle.expression.specs.Expr.{Expr, Goals, HouseForm, N, NoN, Order}
use Rattle.expression.specs.Form.{form}
use Rattle.expression.specs.Arrange.{Strict, form_any}
use Rattle.expression.specs.Search.{Four, IsN, first_n}
use Rattle.expression.specs.Text.{text}
use Rattle.expression.proofs.Search.{not_found, none_found, found_first, first_found}
use Rattle.expression.proofs.Theorems.{form_any_lem, form_is, form_unique, order_strict}
use Rattle.order.specs.Order.{before, order}
use Rattle.order.proofs.Theorems.{before-order}
use Rattle.form.specs.Form.{or_thirteen, form_text, shown}
use Rattle.form.proofs.Outcomes.{thirteen_some, form-fine, shown-fine}

module _ (R Q : ℕ → ℕ → Bool) (n : ℕ) (agree : (i j : ℕ) → Goals n i → Goals n j → R i j ≡ Q i j) where
  n-same : {a b c d : ℕ} → Goals n a → Goals n b → Goals n c → Goals n d → N R a b c d → N Q a b c d
  n-same {a} {b} {c} {d} ga gb gc gd x =
      record {
        ac = sym (agree a c ga gc) ∙ x.ac;
        bc = sym (agree b c gb gc) ∙ x.bc;
        bd = sym (agree b d gb gd) ∙ x.bd;
        ab = sym (agree a b ga gb) ∙ x.ab;
        ba = sym (agree b a gb ga) ∙ x.ba;
        ad = sym (agree a d ga gd) ∙ x.ad;
        da = sym (agree d a gd ga) ∙ x.da;
        cd = sym (agree c d gc gd) ∙ x.cd;
        dc = sym (agree d c gd gc) ∙ x.dc;
        ca = sym (agree c a gc ga) ∙ x.ca;
        cb = sym (agree c b gc gb) ∙ x.cb;
        db = sym (agree d b gd gb) ∙ x.db;
      }

  is_same : (q : Four) → IsN R n q → IsN Q n q
  is_same q (x, ga, gb, gc, gd) = (n-same ga gb gc gd x, ga, gb, gc, gd)

  strict_same : Strict Q (Goals n) → Strict R (Goals n)
  strict_same o =
      record {
        unlike = λ i p. agree i i p p ∙ o.unlike i p;
        chained = λ i j k p q r t u. agree i k p r ∙ o.chained i j k p q r (sym (agree i j p q) ∙ t) (sym (agree j k q r) ∙ u);
      }

  house_same : (e : Expr) → HouseForm R n e → HouseForm Q n e
  house_same e f = record { uses = f.uses; order = λ i j p q. f.order i j p q ∙ agree i j p q; house = f.house }

module _ (R Q : ℕ → ℕ → Bool) (n : ℕ) (agree : (i j : ℕ) → Goals n i → Goals n j → R i j ≡ Q i j) (from : 1 ≤ n) (o : Order Q (Goals n)) where
  back : (i j : ℕ) → Goals n i → Goals n j → Q i j ≡ R i j
  back i j p q = sym (agree i j p q)

  pub strict_rows : Strict R (Goals n)
  strict_rows = strict_same R Q n agree (order_strict Q (Goals n) o)

  free_same : first_n R n ≡ none → NoN Q (Goals n)
  free_same e = let free = not_found R n e in λ a b c d ga gb gc gd x. free a b c d ga gb gc gd (n-same Q R n back ga gb gc gd x)

  pub first-same : first_n R n ≡ first_n Q n
  first-same = go (first_n R n) refl
    where
      go : (x : Option Four) → first_n R n ≡ x → first_n R n ≡ first_n Q n
      go none e = e ∙ sym (none_found Q n (free_same e))
      go (some q) e =
          let f = found_first R n q e in
          e ∙ sym (first_found Q n q (record { is = is_same R Q n agree q f.is; first = λ r x. f.first r (is_same Q R n back r x) }))

  pub text_same : or_thirteen (first_n R n) (text (form_any R n)) ≡ or_thirteen (first_n Q n) (text (form Q n))
  text_same = go (first_n R n) refl
    where
      go : (x : Option Four) → first_n R n ≡ x → or_thirteen (first_n R n) (text (form_any R n)) ≡ or_thirteen (first_n Q n) (text (form Q n))
      go none e =
          ap₂ (λ (y : Option Four) (z : Expr). or_thirteen y (text z)) first-same
          (form_unique Q n (form_any R n) (form Q n) (house_same R Q n agree (form_any R n) (form_any_lem R n strict_rows (not_found R n e) from)) (form_is Q n o (free_same e) from))
      go (some q) e = thirteen_some (text (form_any R n)) q e ∙ sym (thirteen_some (text (form Q n)) q (sym first-same ∙ e))

-- ---- the rows of a record's order
module _ (b : List ℕ) (fine : reading b ≡ Ok tt) where
  pub goals_from : 1 ≤ goal_count b
  goals_from = (fine_well_formed b fine).goals_from

  pub goals_to : goal_count b ≤ goal_limit
  goals_to = (fine_well_formed b fine).goals_to

  rows_agree : (i j : ℕ) → Goals (goal_count b) i → Goals (goal_count b) j → ahead (rows_of goal_limit (goal_count b) (before b)) i j ≡ before b i j
  rows_agree i j p q = rows_say goal_limit (goal_count b) (before b) i j goals_to p.0 p.1 q.0 q.1

  module _ (g : Graph) (e : g ≡ order b) where
    pub graph_asks : (1 ≤ g.n) × (g.n ≤ goal_limit) × Strict (ahead g.rows) (Goals g.n) × Within goal_limit g.n g.rows
    unfolding order
    graph_asks =
        subst (λ (x : Graph). (1 ≤ x.n) × (x.n ≤ goal_limit) × Strict (ahead x.rows) (Goals x.n) × Within goal_limit x.n x.rows) (sym e)
        (goals_from, goals_to, strict_rows (ahead (rows_of goal_limit (goal_count b) (before b))) (before b) (goal_count b) rows_agree goals_from (before-order b), rows_within goal_limit (goal_count b) (before b) goals_to)

    pub graph_text : or_thirteen (first_n (ahead g.rows) g.n) (text (form_any (ahead g.rows) g.n)) ≡ form_text b
    unfolding order
    graph_text =
        ap (λ (x : Graph). or_thirteen (first_n (ahead x.rows) x.n) (text (form_any (ahead x.rows) x.n))) e
        ∙ text_same (ahead (rows_of goal_limit (goal_count b) (before b))) (before b) (goal_count b) rows_agree goals_from (before-order b) ∙ sym (form-fine b fine)

    pub graph_shown : first_n (ahead g.rows) g.n ≡ shown b
    unfolding order
    graph_shown =
        ap (λ (x : Graph). first_n (ahead x.rows) x.n) e
        ∙ first-same (ahead (rows_of goal_limit (goal_count b) (before b))) (before b) (goal_count b) rows_agree goals_from (before-order b) ∙ sym (shown-fine b fine)
