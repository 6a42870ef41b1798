use mathlib.Core.Path.{ap, ◌∙◌}
use Rattle.graph.specs.declared.Closed.{Closed}
use Rattle.graph.specs.Passes.{closed_of}
use Rattle.graph.proofs.Theorems.{closed_chains, passes_of_lem}
use Rattle.order.specs.Arrays.{waits_in, wait_rows, order_rows, passes_of}
use Rattle.order.proofs.Decoded.{waits_graph}
use Rattle.order.proofs.closure_of.Goals as goal

pub closed-requires : goal.closed-requires
closed-requires c =
    let a = c.args.c.now in
    rw c.waits_of.ensures (waits_graph a.n a.sets a.grounds a.listed c.requires)

pub returns : goal.returns
unfolding order_rows passes_of wait_rows
returns c =
    let a = c.args.c.now in
    let e = c.closed.ensures ∙ ap closed_of c.waits_of.ensures in record {
      graph_value = ap (λ (x : Closed). x.graph) e
          ∙ closed_chains _ (waits_graph a.n a.sets a.grounds a.listed c.requires);
      passes_value = ap (λ (x : Closed). x.passes) e ∙ passes_of_lem a.n (waits_in 64 0 a.sets a.grounds a.listed) c.requires;
    }
