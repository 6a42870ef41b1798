use mathlib.Core.Path.{◌≡◌, sym, ap, ap₂, ◌∙◌, subst, subst₂}
use mathlib.Core.List.{List}
use mathlib.Core.Logic.{⊎_elim}
use Prim.Native.Nat.{ℕ, suc, ◌+◌, ◌-◌}
use native.Mathlib.Decide.{ℕ_discrete}
use native.Mathlib.Omega.{arith}
use lib.Dec.{eqb}
use borrow.Author.Tests.{eqb-true, eqb-false}
use Rattle.logic.proofs.Bools.{or-true, or-false}
use Rattle.sets.specs.Sets.{below}
use Rattle.graph.specs.Graph.{ahead, rows_of}
use Rattle.graph.specs.Passes.{pass, after, passes, closed_of}
use Rattle.graph.specs.PassRows.{same_rows}
use Rattle.graph.specs.declared.Graph.{Graph}
use Rattle.graph.proofs.Going.{Going, going-within, going_next, going_stop, going_on, going_end}
use Rattle.graph.proofs.Graph.closed.Goals as goal
use Rattle.graph.proofs.Graph.closed.Goals.{After-pass-still, Then-still-all, Else-still-all}

pub pass-still-requires : goal.pass-still-requires
pass-still-requires c =
    let l = c.loop-passes in
    (c.requires.0, going-within 32 c.args.self.n c.args.self.rows c.requires.0 (l.passes - 1) l.self.rows l.invariant.2)

-- what the pass answers, and what it is compared with
module _ (c : After-pass-still) where
  abbrev g : Graph
  g = c.args.self

  abbrev rows : List ℕ
  rows = c.loop-passes.self.rows

  answer : c.pass-still.result ≡ same_rows g.n rows (rows_of 32 g.n (pass g.n (ahead rows)))
  answer = c.pass-still.ensures.1 ∙ ap (same_rows g.n rows) c.pass-still.ensures.0

  all : c.below-all.result ≡ below g.n
  all = c.below-all.ensures

  -- the pass that is made is this one
  this : suc (c.loop-passes.passes - 1) ≡ c.loop-passes.passes
  this = omega (arith, c.loop-passes.invariant.0)

  -- one that adds a wait is not the last
  on : (c.pass-still.result ≡ c.below-all.result → ⊥) → Going 32 g.n g.rows c.loop-passes.passes c.pass-still.new.rows
  on h =
      let l = c.loop-passes in
      subst₂ (Going 32 g.n g.rows) this (sym c.pass-still.ensures.0)
      (going_on 32 g.n g.rows c.requires.0 (l.passes - 1) l.self.rows l.invariant.2 (λ e. h (answer ∙ e ∙ sym all)))

-- where the loop is left, the rows are those after the last pass: the last that there can be has added none
ended : (c : Then-still-all) →
    let g = g c.before in
    let W = ahead g.rows in
    (c.pass-still.new.rows ≡ rows_of 32 g.n (after g.n W (passes g.n W))) × (c.loop-passes.passes ≡ passes g.n W)
ended c = pick (ℕ_discrete still end)
  where
    q : After-pass-still
    q = c.before

    still : ℕ
    still = c.pass-still.result

    end : ℕ
    end = c.below-all.result

    made : ℕ
    made = c.loop-passes.passes

    n : ℕ
    n = c.args.self.n

    start : List ℕ
    start = c.args.self.rows

    pick : Dec (still ≡ end) → (c.pass-still.new.rows ≡ rows_of 32 n (after n (ahead start) (passes n (ahead start)))) × (made ≡ passes n (ahead start))
    pick (yes e) =
        let l = c.loop-passes in
        let h = c.requires.0 in
        let stop = going_stop 32 n start h (made - 1) l.self.rows l.invariant.2 (sym (answer q) ∙ e ∙ all q) in (
          c.pass-still.ensures.0 ∙ going_next 32 n start h (made - 1) l.self.rows l.invariant.2 ∙ ap (λ (k : ℕ). rows_of 32 n (after n (ahead start) k)) (sym stop),
          sym (stop ∙ this q),
        )
    pick (no e) =
        ⊎_elim (λ t. absurd (e (eqb-true still end t)))
        (λ t.
        absurd
        (going_end 32 n start 5 c.pass-still.new.rows c.requires.0
        (subst (λ (k : ℕ). Going 32 n start k c.pass-still.new.rows) (eqb-true made 6 t) (on q e))))
        (or-true (eqb still end) (eqb made 6) c.if-still-all.true)

pub returns-then-still-all : goal.returns-then-still-all
unfolding closed_of
returns-then-still-all c =
    let is = ended c.before in
    ap₂ (λ (r : List ℕ) (k : ℕ). record { graph = record { n = (g c.before.before).n; rows = r }; passes = k }) is.0 is.1

-- where it goes on, this was not the last that there can be
more : (c : Else-still-all) → (c.pass-still.result ≡ c.below-all.result → ⊥) × (c.loop-passes.passes ≡ 6 → ⊥)
more c =
    let still = c.pass-still.result in
    let end = c.below-all.result in
    let made = c.loop-passes.passes in
    let r = or-false (eqb still end) (eqb made 6) c.if-still-all.false in
    (eqb-false still end r.0, eqb-false made 6 r.1)

pub loop-passes-preserved : goal.loop-passes-preserved
loop-passes-preserved c =
    let l = c.loop-passes in
    let z : l.passes ≡ l.passes + 1 - 1 = omega arith in (
      omega arith,
      omega (arith, l.invariant.1, (more c).1),
      subst (λ (k : ℕ). Going 32 (g c.before).n (g c.before).rows k c.pass-still.new.rows) z (on c.before (more c).0),
    )
