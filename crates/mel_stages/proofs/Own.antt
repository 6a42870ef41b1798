-- Laws of the sets of the candidates' goals, which the code finds once for a stage.
use mathlib.Core.Path.{◌≡◌, refl, sym, ap, ◌∙◌}
use mathlib.Core.Bool.{Bool, true, false, ◌&&◌, ◌||◌, cond}
use mathlib.Core.List.{List}
use Prim.Native.Nat.{ℕ, ◌+◌, ◌-◌, ◌≤◌, ◌<◌}
use native.Mathlib.Nat.{le_refl}
use native.Mathlib.Omega.{arith}
use lib.Dec.{eqb}
use lib.ListN.{length, get_or, set, replicate, get_or-replicate}
use lib.Seq.{get_or-set_same, get_or-set_other}
use borrow.Author.Tests.{eqb-true, eqb-false}
use Rattle.sets.specs.Sets.{has, meet}
use Rattle.sets.proofs.Membership.{has_meet}
use Rattle.mel_stages.specs.Mel.{goal}
use Rattle.mel_stages.specs.Masks.{goal_with, Noted, OwnGoals}
use Rattle.mel_stages.proofs.Masks.{goal_with-here, goal_with-on, goal_with-none}

-- one store; `more` says whether a later one is at place x
pub note_more : (more : Bool) (own : List ℕ) (y s x : ℕ) → x < length own → cond more s (get_or (set own y s) x 0) ≡ cond (eqb y x || more) s (get_or own x 0)
note_more more own y s x h = go (eqb y x) refl
  where
    same : (b : Bool) → cond b s s ≡ s
    same true = refl
    same false = refl

    go : (b : Bool) → eqb y x ≡ b → cond more s (get_or (set own y s) x 0) ≡ cond (b || more) s (get_or own x 0)
    go true e =
        let i : y ≡ x = eqb-true y x e in
        let stored : get_or (set own y s) x 0 ≡ s = ap (λ (k : ℕ). get_or (set own k s) x 0) i ∙ get_or-set_same own x s 0 h in
        rw stored (same more)
    go false e = let d : y ≡ x → ⊥ = eqb-false y x e in rw (get_or-set_other own y x s 0 (λ t. d (sym t)))

-- nothing is stored yet
pub own-none : (w : ℕ) (sets : List ℕ) (q k : ℕ) (own : List ℕ) → own ≡ replicate w 0 → OwnGoals w sets q q k own
unfolding OwnGoals
own-none w sets q k own e x l h = ap (λ (o : List ℕ). get_or o x 0) e ∙ get_or-replicate w x 0 0 l ∙ goal_with-none sets q q x (le_refl q)

-- one goal more
pub own_more : (w : ℕ) (sets : List ℕ) (g q k : ℕ) (own new : List ℕ) → g < q → OwnGoals w sets (g + 1) q k own
    → ((x : ℕ) → x < w → get_or new x 0 ≡ cond (has (meet (goal sets (g + 1)) k) x) (goal sets (g + 1)) (get_or own x 0))
    → OwnGoals w sets g q k new
unfolding OwnGoals
own_more w sets g q k own new h f n x l e =
    n x l ∙ ap (λ (b : Bool). cond b (goal sets (g + 1)) (get_or own x 0)) (has_meet (goal sets (g + 1)) k x ∙ ap (λ (b : Bool). has (goal sets (g + 1)) x && b) e)
    ∙ go (has (goal sets (g + 1)) x) refl
  where
    go : (b : Bool) → has (goal sets (g + 1)) x ≡ b → cond (b && true) (goal sets (g + 1)) (get_or own x 0) ≡ goal_with sets g q x
    go true t = goal_with-here sets g q x h t
    go false t = f x l e ∙ sym (goal_with-on sets g q x h t)

-- the same, as the code finds it
pub own_turn : (w : ℕ) (sets : List ℕ) (g q k s m : ℕ) (own new : List ℕ) → s ≡ goal sets g → m ≡ meet s k → OwnGoals w sets g q k own → Noted w own m s new → 0 < g → g ≤ q
    → OwnGoals w sets (g - 1) q k new
unfolding Noted
own_turn w sets g q k s m own new es em f n h l =
    let e : g - 1 + 1 ≡ g = omega arith in
    own_more w sets (g - 1) q k own new (omega arith) (rw e f) (λ x i. rw (e, sym es, sym em) (n x i))
