use mathlib.Core.Path.{◌≡◌}
use Rattle.std.specs.Prelude.{None}
use Prim.Native.Nat.{suc}
use Rattle.graph.specs.Graph.{ahead}
use Rattle.form_first_n.specs.Candidates.{seconds, thirds}
use Rattle.form_first_n.proofs.Scan.{Passed, Left}
use Rattle.form_first_n.proofs.Loops.{at_d, at_c, at_b, at_a}
use Rattle.form_first_n.proofs.first_n.Given as goal

abbrev pub invariant-found : goal.invariant-found
invariant-found l = (l.answer ≡ None) × Left 32 l.n (λ i. at_a (ahead l.order.after.now) l.n i) l.lead l.a-iterator.rest

abbrev pub invariant-loop-b : goal.invariant-loop-b
invariant-loop-b l = (l.answer ≡ None) × Left 32 l.n (λ i. at_b (ahead l.order.after.now) l.n (suc l.a) i) (seconds l.order.after.now l.order.prior.now l.lead l.a) l.b-iterator.rest

abbrev pub invariant-loop-c : goal.invariant-loop-c
invariant-loop-c l = (l.answer ≡ None) × Left 32 l.n (λ i. at_c (ahead l.order.after.now) l.n (suc l.a) (suc l.b) i) (thirds l.order.after.now l.order.prior.now l.a l.b) l.c-iterator.rest

abbrev pub invariant-loop-d : goal.invariant-loop-d
invariant-loop-d l = (l.answer ≡ None) × Passed l.n (λ i. at_d (ahead l.order.after.now) l.n (suc l.a) (suc l.b) (suc l.c) i) l.d
