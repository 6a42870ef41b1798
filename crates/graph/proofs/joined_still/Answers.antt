use borrow.Author.Rules.{rules}
use mathlib.Core.Path.{◌≡◌, refl, sym, ap, ap₂, ◌∙◌}
use mathlib.Core.Bool.{not}
use Prim.Native.Nat.{ℕ}
use lib.ListN.{get_or}
use Rattle.logic.proofs.Bools.{and_l}
use Rattle.sets.specs.Sets.{has, union, without, single, first}
use Rattle.sets.proofs.Membership.{has-without, subset-has, first_member}
use Rattle.sets.proofs.Members.{first_in_lem}
use Rattle.sets.proofs.Builder.{without_lt}
use Rattle.graph.specs.PassRows.{gather}
use Rattle.graph.proofs.Gathering.{gather_end, gather_skip, turn_less}
use Rattle.graph.proofs.joined_still.Goals as goal

pub loop-left-init : goal.loop-left-init
loop-left-init c = (c.ranges.row.fits, c.ranges.row.fits, refl, subset-has c.args.row c.args.still c.requires.1)

-- what is left
left_is : (c : goal.After-without-left) →
    let a = c.args in
    let l = c.loop-left in
    let x : ℕ = first 32 l.left in
    c.without-left.result ≡ without (without l.left (single x)) (get_or a.rows.now x 0)
left_is c =
    c.without-left.ensures
    ∙ ap₂ without c.without_first.ensures (ap (λ (x : ℕ). get_or c.args.rows.now x 0) c.first-k.ensures)

pub loop-left-smaller : goal.loop-left-smaller
loop-left-smaller c =
    let l = c.loop-left in
    rw (left_is c) (turn_less 32 c.args.rows.now l.left l.invariant.1 c.loop-left-test.true _)

pub loop-left-preserved : goal.loop-left-preserved
loop-left-preserved c =
    let rows = c.args.rows.now in
    let l = c.loop-left in
    let some = c.loop-left-test.true in
    let one = without l.left (single (first 32 l.left)) in
    let row = get_or rows (first 32 l.left) 0 in
    let all = c.union-all.ensures ∙ ap (λ (x : ℕ). union l.all (get_or rows x 0)) c.first-k.ensures in (
      search rules,
      rw (left_is c) (without_lt 32 _ _ (without_lt 32 l.left _ l.invariant.1)),
      ap₂ (gather 32 rows) all (left_is c)
          ∙ gather_skip 32 rows l.left l.invariant.1 some l.all c.args.still c.requires.0
          (l.invariant.3 (first 32 l.left) (first_member 32 l.left (first_in_lem 32 l.left l.invariant.1 some)))
          ∙ l.invariant.2,
      λ x e.
          l.invariant.3 x
          (and_l (has l.left x) (not (has (single (first 32 l.left)) x))
          (sym (has-without l.left (single (first 32 l.left)) x)
          ∙ and_l (has one x) (not (has row x)) (sym (has-without one row x) ∙ ap (λ (m : ℕ). has m x) (sym (left_is c)) ∙ e))),
    )

pub returns : goal.returns
returns c =
    let l = c.loop-left in
    gather_end 32 c.args.rows.now l.all l.left l.invariant.0 c.loop-left-test.false ∙ l.invariant.2
