use mathlib.Core.Path.{◌≡◌, ap, ap₂, ◌∙◌}
use mathlib.Core.Bool.{cond}
use Prim.Native.Nat.{ℕ, ◌+◌, ◌-◌}
use native.Mathlib.Omega.{arith}
use lib.ListN.{get_or}
use Rattle.sets.specs.Sets.{union, single}
use Rattle.independence.specs.Ties.{ties_of, tied}
use Rattle.independence.specs.Halves.{whole}
use Rattle.independence.proofs.ByHalves.{whole-halves}
use Rattle.order.proofs.Waiting.{united, united-none, united_more, waiting_none, waiting_more, waiting-all}
use Rattle.order.proofs.waiting_for.Goals as goal

pub loop-j-init : goal.loop-j-init
loop-j-init c =
    let a = c.args.c.now in
    (united-none 64 a.sets a.grounds a.listed c.args.left, waiting_none 64 a.sets a.grounds a.listed c.args.left a.n)

pub loop-j-preserved : goal.loop-j-preserved
loop-j-preserved c =
    let a = c.args.c.now in
    let left = c.args.left in
    let l = c.loop-j in
    let sets = a.sets in
    let grounds = a.grounds in
    let listed = a.listed in
    let tied_is : c.waits-tied.result ≡ tied (united 64 sets grounds listed left l.j) (get_or sets l.j 0) =
    c.waits-tied.ensures
    ∙ ap₂ tied (ap (whole 32) c.of.ensures ∙ (whole-halves 32 l.ties ∙ l.invariant.0)) (ap (whole 32) c.of-in-loop-j.ensures ∙ whole-halves 32 (get_or sets l.j 0)) in
    let one : c.single.result ≡ single l.j = c.single.ensures ∙ ap single (let e : l.j + 1 - 1 ≡ l.j = omega arith in e) in (
      c.with_ties-ties.ensures
          ∙ ap₂ (λ s (x : ℕ). cond s (union x (ties_of (get_or grounds l.j 0) 0 listed 64 (get_or sets l.j 0))) x) c.has.ensures l.invariant.0
          ∙ united_more 64 sets grounds listed left l.j,
      c.with-found.ensures ∙ ap (λ (x : ℕ). cond c.waits-tied.result (union l.found x) l.found) one
          ∙ waiting_more 64 sets grounds listed left a.n l.j l.found c.waits-tied.result (omega arith) tied_is l.invariant.1,
    )

pub returns : goal.returns
returns c =
    let a = c.args.c.now in
    let l = c.loop-j in
    waiting-all 64 a.sets a.grounds a.listed c.args.left a.n l.j l.found (omega arith) l.invariant.1
