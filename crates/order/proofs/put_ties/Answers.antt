use native.Mathlib.Omega.{arith}
use mathlib.Core.Path.{◌≡◌, ap, ◌∙◌}
use Prim.Native.Nat.{ℕ}
use Rattle.logic.specs.Table.{table}
use Rattle.logic.proofs.Table.{table-zero, table_more}
use Rattle.independence.specs.Halves.{halves}
use Rattle.independence.specs.declared.Halves.{Halves}
use Rattle.order.specs.Arrays.{ties_at, low_ties, high_ties}
use Rattle.order.proofs.put_ties.Goals as goal

pub loop-i-init : goal.loop-i-init
loop-i-init c = (c.requires.1 ∙ table-zero 32 _, c.requires.2 ∙ table-zero 32 _)

pub loop-i-preserved : goal.loop-i-preserved
loop-i-preserved c =
    let l = c.loop-i in
    let e = c.of-ties.ensures ∙ ap (halves 32) c.ties.ensures in (
      table_more 32 l.i _ l.low c.of-ties.result.low (omega arith) l.invariant.0 (ap (λ (x : Halves). x.low) e),
      table_more 32 l.i _ l.high c.of-ties.result.high (omega arith) l.invariant.1 (ap (λ (x : Halves). x.high) e),
    )

pub returns : goal.returns
unfolding low_ties high_ties
returns c =
    let a = c.args.c.now in
    let l = c.loop-i in
    let e : l.i ≡ a.n = omega arith in
    let ties : ℕ → Halves = ties_at 32 64 a.sets a.grounds a.listed in record { low_after = l.invariant.0 ∙ ap (λ (m : ℕ). table 32 m (λ k. (ties k).low)) e; high_after = l.invariant.1 ∙ ap (λ (m : ℕ). table 32 m (λ k. (ties k).high)) e }
