-- All goals of an order as a set: what the writer of the form asks, and what it writes.
use mathlib.Core.Path.{◌≡◌, sym, ap, ◌∙◌}
use mathlib.Core.Bool.{false, false≢true}
use mathlib.Core.List.{List}
use mathlib.Core.Logic.{◌↔◌}
use mathlib.Core.Option.{none}
use Prim.Native.Nat.{ℕ, zero, suc, ◌+◌, ◌^◌, ◌≤◌, ◌<◌}
use native.Mathlib.Omega.{arith}
use lib.ListN.{length}
use lib.Pow.{pow_pos, pow_mono}
use borrow.Author.Tests.{lt-ltb, ltb-true}
use Rattle.sets.specs.Sets.{goal_limit, has, below}
use Rattle.sets.proofs.Membership.{has-below}
use Rattle.graph.specs.Graph.{ahead, transposed}
use Rattle.graph.proofs.Rows.{transposed_says}
use Rattle.expression.specs.Expr.{Goals}
use Rattle.expression.specs.Arrange.{Strict, form_any}
use Rattle.expression.specs.Search.{first_n}
use Rattle.expression.specs.Text.{form_limit, text}
use Rattle.expression.proofs.Search.{not_found}
use Rattle.expression.proofs.Split.{form_eq}
use Rattle.expression.proofs.Uses.{house_form}
use Rattle.expression.proofs.Theorems.{form_any_lem, text-fits}
use Rattle.form_split.specs.Split.{Has, Ordered, form_of, form_text}
use Rattle.form_split.proofs.Forms.{form_of_lem}

module _ (rows prior : List ℕ) (n all : ℕ) (from : 1 ≤ n) (to : n ≤ goal_limit) (strict : Strict (ahead rows) (Goals n)) (free : first_n (ahead rows) n ≡ none)
    (turned : prior ≡ transposed goal_limit n rows) (full : all ≡ below n) where
  has_all : (i : ℕ) → Has all i ↔ Goals n i
  has_all zero = (λ h. absurd (false≢true h), λ h. absurd (omega (arith, h.0)))
  has_all (suc i) = (
    (λ h. (omega arith, ltb-true i n (sym (has-below n i) ∙ ap (λ (m : ℕ). has m i) (sym full) ∙ h))),
    λ h. ap (λ (m : ℕ). has m i) full ∙ has-below n i ∙ lt-ltb i n h.1,
  )

  pub ordered : Ordered rows prior all
  ordered =
      record {
        strict =
            record {
              unlike = λ i p. strict.unlike i ((has_all i).0 p);
              chained = λ i j k p q r. strict.chained i j k ((has_all i).0 p) ((has_all j).0 q) ((has_all k).0 r);
            };
        free = λ a b c d p q r t. not_found (ahead rows) n free a b c d ((has_all a).0 p) ((has_all b).0 q) ((has_all c).0 r) ((has_all d).0 t);
        turned =
            λ i j p q.
            let g = (has_all i).0 p in
            let h = (has_all j).0 q in
            ap (λ (l : List ℕ). ahead l j i) turned ∙ transposed_says goal_limit n rows i j to g.0 g.1 h.0 h.1;
        some = (1, (has_all 1).1 (omega arith, from));
      }

  all_lt : all < 2 ^ 32
  all_lt = let m : 2 ^ n ≤ 2 ^ 32 = pow_mono to in omega (arith, full, pow_pos n)

  -- what is written is the form of the order
  pub text_is : form_text goal_limit false rows all ≡ text (form_any (ahead rows) n)
  unfolding form_text
  text_is =
      let f = form_any_lem (ahead rows) n strict (not_found (ahead rows) n free) from in
      ap text
      (form_eq (ahead rows) (form_of goal_limit rows all) (form_any (ahead rows) n) (form_of_lem rows prior goal_limit all all_lt ordered) (house_form (ahead rows) n (form_any (ahead rows) n) f)
      has_all)

  pub text_short : length (text (form_any (ahead rows) n)) ≤ form_limit
  text_short = text-fits n (form_any (ahead rows) n) (form_any_lem (ahead rows) n strict (not_found (ahead rows) n free) from).uses to

  pub room : 0 + length (form_text goal_limit false rows all) < 2 ^ 63
  room = omega (arith, ap length text_is, text_short)
