-- A goal of the first member: the lowest, and for a sequence from there back to a goal that none comes before.
use mathlib.Core.Path.{◌≡◌, refl, sym, ap, ◌∙◌, subst}
use mathlib.Core.Bool.{Bool, true, false, cond}
use mathlib.Core.List.{List}
use Prim.Native.Nat.{ℕ, suc, ◌^◌, ◌≤◌, ◌<◌}
use lib.ListN.{get_or}
use Rattle.logic.proofs.Bools.{and_l, and_r, and_i, is_false, clash}
use Rattle.sets.specs.Sets.{meet, first, count}
use Rattle.sets.proofs.Membership.{first_member}
use Rattle.sets.proofs.Members.{first_in_lem}
use Rattle.graph.specs.Graph.{has_goal, behind}
use Rattle.graph.proofs.Goals.{goal-meet, goal-none, Part, part_lt, part_less, lowest_in, lowest-has, lowest_least}
use Rattle.expression.specs.Split.{Starts}
use Rattle.expression.specs.Arrange.{Strict}
use Rattle.form_split.specs.Split.{Has}
use Rattle.form_split.specs.Hang.{earlier}

module _ (prior : List ℕ) (k : Bool) (rest : ℕ) where
  earlier_in : (x g : ℕ) → k ≡ true → Has rest g → behind prior g (suc x) ≡ true → Has (earlier prior k rest x) g
  unfolding earlier
  earlier_in x g e h b =
      ap (λ (t : Bool). has_goal (cond t (meet (get_or prior x 0) rest) 0) g) e
      ∙ goal-meet (get_or prior x 0) rest g ∙ and_i (has_goal (get_or prior x 0) g) (has_goal rest g) b h

  earlier_out : (x g : ℕ) → Has (earlier prior k rest x) g → (k ≡ true) × Has rest g × (behind prior g (suc x) ≡ true)
  unfolding earlier
  earlier_out x g h = go k refl h
    where
      go : (t : Bool) → k ≡ t → Has (cond t (meet (get_or prior x 0) rest) 0) g → (k ≡ true) × Has rest g × (behind prior g (suc x) ≡ true)
      go true e h =
          let m = sym (goal-meet (get_or prior x 0) rest g) ∙ h in
          (e, and_r (has_goal (get_or prior x 0) g) (has_goal rest g) m, and_l (has_goal (get_or prior x 0) g) (has_goal rest g) m)
      go false e h = clash h (goal-none g)

  module _ (w : ℕ) where
    -- in a group x is the lowest
    pub record Tried (x before : ℕ) : Type 0 where
      pub under : x < w
      pub there : Has rest (suc x)
      pub low : k ≡ false → (i : ℕ) → Has rest i → suc x ≤ i
      pub back : before ≡ earlier prior k rest x

    module _ (l : rest < 2 ^ w) where
      pub try_first : (g : ℕ) → Has rest g → (before : ℕ) → before ≡ earlier prior k rest (first w rest) → Tried (first w rest) before
      try_first g h before e =
          record { under = lowest_in w rest l g h; there = lowest-has w rest l g h; low = λ _ i p. lowest_least w rest i p; back = e }

      -- none comes before it
      pub tried : {x before : ℕ} → Tried x before → before ≡ 0 → Starts (behind prior) k (Has rest) (suc x)
      tried {x} {before} st z = (
        st.low,
        λ e i p. is_false (behind prior i (suc x)) (λ b. clash (ap (λ (m : ℕ). has_goal m i) st.back ∙ earlier_in x i e p b) (ap (λ (m : ℕ). has_goal m i) z ∙ goal-none i)),
      )

      module _ (o : Strict (behind prior) (Has rest)) {x before : ℕ} (st : Tried x before) (some : before ≡ 0 → ⊥) where
        step_part : Part before rest
        step_part g h = (earlier_out x g (ap (λ (m : ℕ). has_goal m g) (sym st.back) ∙ h)).1

        step_small : before < 2 ^ w
        step_small = part_lt w before rest step_part l

        pub step-under : first w before < w
        step-under = first_in_lem w before step_small some

        step_there : Has before (suc (first w before))
        step_there = first_member w before step-under

        step_facts : (k ≡ true) × Has rest (suc (first w before)) × (behind prior (suc (first w before)) (suc x) ≡ true)
        step_facts = earlier_out x (suc (first w before)) (ap (λ (m : ℕ). has_goal m (suc (first w before))) (sym st.back) ∙ step_there)

        pub try_next : (next : ℕ) → next ≡ earlier prior k rest (first w before) → Tried (first w before) next
        try_next next e =
            record { under = step-under; there = step_facts.1; low = λ f. clash step_facts.0 f; back = e }

        -- fewer come before the one that is tried next
        pub try_less : count (earlier prior k rest (first w before)) < count before
        try_less = part_less w (earlier prior k rest (first w before)) before inside step_small differ
          where
            inside : Part (earlier prior k rest (first w before)) before
            inside g h =
                let t = earlier_out (first w before) g h in
                ap (λ (m : ℕ). has_goal m g) st.back
                ∙ earlier_in x g t.0 t.1 (o.chained g (suc (first w before)) (suc x) t.1 step_facts.1 st.there t.2 step_facts.2)

            differ : earlier prior k rest (first w before) ≡ before → ⊥
            differ e =
                let t = earlier_out (first w before) (suc (first w before)) (ap (λ (m : ℕ). has_goal m (suc (first w before))) e ∙ step_there) in
                clash t.2 (o.unlike (suc (first w before)) step_facts.1)

    -- the same, as the loop finds it
    pub try_begin : rest < 2 ^ w → (g : ℕ) × Has rest g → {x before : ℕ} → x ≡ first w rest → before ≡ earlier prior k rest x → Tried x before
    try_begin l s {x} {before} e b =
        subst (λ (y : ℕ). Tried y before) (sym e) (try_first l s.0 s.1 before (b ∙ ap (earlier prior k rest) e))

    pub try_step : rest < 2 ^ w → Strict (behind prior) (Has rest) → {x before y next : ℕ} → Tried x before → (before ≡ 0 → ⊥) → y ≡ first w before
        → next ≡ earlier prior k rest y → Tried y next × (count next < count before)
    try_step l o {x} {before} {y} {next} st n e b =
        let z : next ≡ earlier prior k rest (first w before) = b ∙ ap (earlier prior k rest) e in (
          subst (λ (i : ℕ). Tried i next) (sym e) (try_next l o st n next z),
          subst (λ (i : ℕ). count i < count before) (sym z) (try_less l o st n),
        )
