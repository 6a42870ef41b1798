-- What request 4 says of starts, ticks and runs, on the operations. For any well-formed record: a form is not asked for.
use Rattle.std.specs.Prelude.{Err}
use mathlib.Core.Path.{◌≡◌, refl, sym, ap, ap₂, ◌∙◌, subst, fun_ext}
use mathlib.Core.Bool.{Bool, true, false, ◌&&◌}
use mathlib.Core.Logic.{◌⊎◌, inl, inr, ⊎_elim, ◌↔◌}
use mathlib.Core.List.{List}
use Prim.Native.Nat.{ℕ, zero, suc, ◌+◌, ◌-◌, ◌*◌, ◌<◌, ◌≤◌, ◌^◌}
use native.Mathlib.Omega.{arith}
use lib.Dec.{leb}
use lib.ListN.{length, replicate, length-replicate}
use borrow.Author.Tests.{le-leb, leb-true, leb-false}
use Rattle.logic.proofs.Bools.{test, iff, and-true, is_false, clash}
use Rattle.sets.specs.Sets.{goal_limit}
use Rattle.graph.specs.Graph.{has_goal, goals_of}
use Rattle.graph.proofs.Goals.{goal-none}
use Rattle.graph.proofs.Rows.{goals_ext, goals-has, goals_lt}
use Rattle.record_fields.specs.Facts.{ticks_at}
use Rattle.record_fields.specs.Fields.{goal_count}
use Rattle.record_rules.specs.declared.Refusal.{Refusal}
use Rattle.record_rules.specs.Reading.{reading}
use Rattle.record_rules.specs.Outcome.{Outcome, refused, accepted, started, read_then, only_if, values, Accepted}
use Rattle.record_rules.proofs.Outcomes.{All, all-refused, all_accepted, all_read, all-only, all-next, read-fine, number-zero, one_value}
use Rattle.record.specs.Limits.{Bytes, OfReading}
use Rattle.record.specs.WellFormed.{WellFormed}
use Rattle.record.proofs.Refusals.{refusal_number, refusal_limit}
use Rattle.record.proofs.WellFormed.{well_formed_fine}
use Rattle.order.specs.Order.{before}
use Rattle.order.proofs.Theorems.{before-order}
use Rattle.lfj_words.specs.Words.{tick_word}
use Rattle.lfj_words.proofs.Encoding.{number_says}
use Rattle.schedule.specs.Range.{Goals}
use Rattle.schedule.specs.Heaviest.{IsHeaviest}
use Rattle.schedule.proofs.Heaviest.{heaviest_is}
use Rattle.dispatch_rule.specs.declared.Head.{Head}
use Rattle.dispatch_rule.specs.Rule.{State, idle, start, tick}
use Rattle.dispatch_rule.specs.Validity.{Valid, is_valid}
use Rattle.dispatch_rule.specs.Run.{working, after, LastWorking}
use Rattle.dispatch_rule.proofs.Ticks.{works, done_tick, done_works, valid-tick, long_tick}
use Rattle.dispatch_rule.proofs.Bound.{start-valid, after-valid, after_long, last_bound, last-working}
use Rattle.dispatch_rule.proofs.Validity.{valid_is}
use Rattle.dispatch_steps.specs.Steps.{state_of}
use Rattle.dispatch_steps.proofs.Turning.{has-wide}
use Rattle.dispatcher.specs.Ticks.{head_limit, few, start_outcome, acceptable, tick_outcome, set_of_state, row_after, start_answer, start_row, tick_answer, tick_row}
use Rattle.dispatcher.specs.Runs.{run, at_work, run_work, AllEnded, LastTick, all_ticks, heaviest_chain, WordSays}
use Rattle.dispatcher.proofs.Meaning.{ticks_from}

-- 1 to 8 heads
few_is : (k : ℕ) → (few k ≡ true) ↔ ((1 ≤ k) × (k ≤ head_limit))
few_is k = (λ e. let f = and-true (leb 1 k) (leb k head_limit) e in (leb-true 1 k f.0, leb-true k head_limit f.1), λ a. ap₂ ◌&&◌ (le-leb 1 k a.0) (le-leb k head_limit a.1))

module _ (b : List ℕ) (w : WellFormed b) where
  abbrev R : ℕ → ℕ → Bool
  R = before b

  abbrev n : ℕ
  n = goal_count b

  abbrev t : ℕ → ℕ
  t = ticks_at b

  -- ---- which calls are accepted
  start-said : (hs : List Head) → start_outcome b hs ≡ only_if (few (length hs)) 20 0 (accepted (start (length hs)))
  unfolding start_outcome
  start-said hs = sym (read-fine b _ refl (well_formed_fine b w))

  tick-said : (hs : List Head) (m : ℕ) → tick_outcome b hs m ≡ only_if (acceptable b hs m) 20 0 (accepted (tick R n t (state_of hs m)))
  unfolding tick_outcome
  tick-said hs m = sym (read-fine b _ refl (well_formed_fine b w))

  -- "a row of 0 or more than 8 heads" alone is refused
  pub start_accepted : (hs : List Head) → Accepted (start_answer b hs) ↔ ((1 ≤ length hs) × (length hs ≤ head_limit))
  unfolding start_answer
  start_accepted hs = subst (λ u. Accepted (set_of_state u) ↔ ((1 ≤ length hs) × (length hs ≤ head_limit))) (sym (start-said hs)) (by (few (length hs)) refl)
    where
      by : (f : Bool) → few (length hs) ≡ f → Accepted (set_of_state (only_if f 20 0 (accepted (start (length hs))))) ↔ ((1 ≤ length hs) × (length hs ≤ head_limit))
      by true e = (λ a. (few_is (length hs)).0 e, λ a. tt)
      by false e = (λ a. absurd a, λ a. clash ((few_is (length hs)).1 a) e)

  -- a tick is accepted exactly if there are 1 to 8 heads and none of the other reasons of 20 applies
  pub tick_accepted : (hs : List Head) (m : ℕ) → m < 2 ^ 32 → Accepted (tick_answer b hs m) ↔ ((1 ≤ length hs) × (length hs ≤ head_limit) × Valid R n t (state_of hs m))
  unfolding tick_answer
  tick_accepted hs m l = subst (λ u. Accepted (set_of_state u) ↔ Fine) (sym (tick-said hs m)) (by (acceptable b hs m) refl)
    where
      Fine : Type 0
      Fine = (1 ≤ length hs) × (length hs ≤ head_limit) × Valid R n t (state_of hs m)

      same : (is_valid R n t goal_limit (state_of hs m) ≡ true) ↔ Valid R n t (state_of hs m)
      same = valid_is R n t goal_limit (state_of hs m) (λ g. has-wide goal_limit m g l)

      by : (f : Bool) → acceptable b hs m ≡ f → Accepted (set_of_state (only_if f 20 0 (accepted (tick R n t (state_of hs m))))) ↔ Fine
      by true e =
          let k = and-true (few (length hs)) (is_valid R n t goal_limit (state_of hs m)) e in
          let a = (few_is (length hs)).0 k.0 in
          (λ _. (a.0, a.1, same.0 k.1), λ _. tt)
      by false e = (λ a. absurd a, λ a. clash (ap₂ ◌&&◌ ((few_is (length hs)).1 (a.0, a.1)) (same.1 a.2)) e)

  -- every other call is refused by 20, at place 0
  pub start-refused : (hs : List Head) → ((1 ≤ length hs) × (length hs ≤ head_limit) → ⊥) → start_answer b hs ≡ refused 20 0
  unfolding start_answer
  start-refused hs f = ap set_of_state (start-said hs ∙ ap (λ x. only_if x 20 0 (accepted (start (length hs)))) (is_false (few (length hs)) (λ e. f ((few_is (length hs)).0 e))))

  pub tick-refused : (hs : List Head) (m : ℕ) → m < 2 ^ 32 → ((1 ≤ length hs) × (length hs ≤ head_limit) × Valid R n t (state_of hs m) → ⊥) → tick_answer b hs m ≡ refused 20 0
  unfolding tick_answer
  tick-refused hs m l f = by (acceptable b hs m) refl
    where
      by : (x : Bool) → acceptable b hs m ≡ x → set_of_state (tick_outcome b hs m) ≡ refused 20 0
      by true e = absurd (f ((tick_accepted hs m l).0 (subst (λ u. Accepted (set_of_state u)) (sym (tick-said hs m ∙ ap (λ x. only_if x 20 0 (accepted (tick R n t (state_of hs m)))) e)) tt)))
      by false e = ap set_of_state (tick-said hs m ∙ ap (λ x. only_if x 20 0 (accepted (tick R n t (state_of hs m)))) e)

  -- ---- a tick that is accepted
  module _ (hs : List Head) (m : ℕ) (l : m < 2 ^ 32) (ac : Accepted (tick_answer b hs m)) where
    fine : (1 ≤ length hs) × (length hs ≤ head_limit) × Valid R n t (state_of hs m)
    fine = (tick_accepted hs m l).0 ac

    valid : Valid R n t (state_of hs m)
    valid = fine.2

    taken_up : acceptable b hs m ≡ true
    taken_up = ap₂ ◌&&◌ ((few_is (length hs)).1 (fine.0, fine.1)) ((valid_is R n t goal_limit (state_of hs m) (λ g. has-wide goal_limit m g l)).1 valid)

    abbrev ticked : State
    ticked = tick R n t (state_of hs m)

    said : tick_outcome b hs m ≡ accepted ticked
    said = tick-said hs m ∙ ap (λ x. only_if x 20 0 (accepted ticked)) taken_up

    row_is : tick_row b hs m ≡ ticked.heads
    unfolding tick_row
    row_is = ap (λ u. row_after u hs) said

    answer_is : tick_answer b hs m ≡ accepted (goals_of goal_limit ticked.ended)
    unfolding tick_answer
    answer_is = ap set_of_state said

    -- the set that is answered, as a set of goals
    set_says : (g : ℕ) → has_goal (goals_of goal_limit ticked.ended) g ≡ ticked.ended g
    set_says g =
        let v = valid-tick R n t (before-order b) (ticks_from b w) (state_of hs m) valid in
        let f = ticked.ended in
        iff (has_goal (goals_of goal_limit f) g) (f g)
        (λ h. let a = has-wide goal_limit (goals_of goal_limit f) g (goals_lt goal_limit f) h in sym (goals-has goal_limit f g a.0 a.1) ∙ h)
        (λ h. let a = v.known g h in goals-has goal_limit f g a.0 (omega (arith, a.1, w.goals_to)) ∙ h)

    -- "Each tick does what this rule says": the answer is a set, and with the row it is the rule's state
    pub tick-rule : (s : ℕ) × (tick_answer b hs m ≡ accepted s) × (s < 2 ^ 32) × (state_of (tick_row b hs m) s ≡ tick R n t (state_of hs m))
    tick-rule =
        let s = goals_of goal_limit ticked.ended in
        let q : has_goal s ≡ ticked.ended = fun_ext set_says in
        (s, answer_is, goals_lt goal_limit ticked.ended, λ i. record { heads = row_is i; ended = q i })

    -- what it leaves is accepted by the next
    pub tick-next : (s : ℕ) → tick_answer b hs m ≡ accepted s → Accepted (tick_answer b (tick_row b hs m) s)
    tick-next s e =
        let r = tick-rule in
        let st : state_of (tick_row b hs m) s ≡ ticked = ap (state_of (tick_row b hs m)) (one_value (sym e ∙ r.1)) ∙ r.3 in
        let v = valid-tick R n t (before-order b) (ticks_from b w) (state_of hs m) valid in
        let long : length (tick_row b hs m) ≡ length hs = ap length row_is ∙ long_tick R n t (before-order b) (ticks_from b w) (state_of hs m) valid in
        (tick_accepted (tick_row b hs m) s (subst (λ (x : ℕ). x < 2 ^ 32) (one_value (sym r.1 ∙ e)) r.2)).1
        (omega (arith, fine.0, long), omega (arith, fine.1, long), subst (Valid R n t) (sym st) v)

    -- "until all goals have ended at least one head works"
    pub tick_works : (g : ℕ) → Goals n g → has_goal m g ≡ false → 1 ≤ at_work b hs m
    unfolding at_work
    tick_works g a f = works R n t (before-order b) (ticks_from b w) (state_of hs m) valid fine.0 (g, a, f)

    -- "after that a tick changes nothing", and no head works
    pub tick_done : AllEnded b m → (tick_row b hs m ≡ hs) × (tick_answer b hs m ≡ accepted m) × (at_work b hs m ≡ 0)
    unfolding at_work
    tick_done a =
        let d = done_tick R n t (before-order b) (ticks_from b w) (state_of hs m) valid a in (
          row_is ∙ ap (λ (x : State). x.heads) d,
          answer_is ∙ ap accepted (ap (λ (x : State). goals_of goal_limit x.ended) d ∙ sym (goals_ext goal_limit m (has_goal m) l (λ g a c. refl))),
          done_works R n t (before-order b) (ticks_from b w) (state_of hs m) valid a,
        )

  -- ---- runs
  module _ (hs : List Head) (lo : 1 ≤ length hs) (hi : length hs ≤ head_limit) where
    abbrev k : ℕ
    k = length hs

    enough : few k ≡ true
    enough = (few_is k).1 (lo, hi)

    from_start : Valid R n t (start k)
    from_start = start-valid R n t (before-order b) (ticks_from b w) k

    -- after j ticks: the rule's state, which the next tick accepts: no tick of a run is refused
    pub record Going (j : ℕ) : Type 0 where
      pub says : state_of (run b hs j).row (run b hs j).set ≡ after R n t j (start k)
      pub small : (run b hs j).set < 2 ^ 32
      pub goes : Accepted (tick_answer b (run b hs j).row (run b hs j).set)

    goes_on : (l : List Head) (m j : ℕ) → state_of l m ≡ after R n t j (start k) → m < 2 ^ 32 → Accepted (tick_answer b l m)
    goes_on l m j e small =
        let v = after-valid R n t (before-order b) (ticks_from b w) (start k) from_start j in
        let long : length l ≡ k = ap (λ (x : State). length x.heads) e ∙ (after_long R n t (before-order b) (ticks_from b w) (start k) from_start j ∙ length-replicate k idle) in
        (tick_accepted l m small).1 (omega (arith, long, lo), omega (arith, long, hi), subst (Valid R n t) (sym e) v)

    -- the run of the operations is the run of the rule
    pub run_is : (j : ℕ) → Going j
    unfolding run start_row start_answer
    run_is zero =
        let said : start_outcome b hs ≡ accepted (start k) = start-said hs ∙ ap (λ x. only_if x 20 0 (accepted (start k))) enough in
        let er : start_row b hs ≡ replicate k idle = ap (λ u. row_after u hs) said in
        let es : (values 0 (start_answer b hs)).value ≡ 0 = ap (λ u. (values 0 (set_of_state u)).value) said ∙ sym (goals_ext goal_limit 0 (λ g. false) (omega arith) (λ g a c. goal-none g)) in
        let q : has_goal (values 0 (start_answer b hs)).value ≡ (λ g. false) = fun_ext (λ g. ap (λ (m : ℕ). has_goal m g) es ∙ goal-none g) in
        let e : state_of (start_row b hs) (values 0 (start_answer b hs)).value ≡ start k = λ i. record { heads = er i; ended = q i } in
        let small : (values 0 (start_answer b hs)).value < 2 ^ 32 = omega (arith, es) in
        record { says = e; small = small; goes = goes_on (start_row b hs) (values 0 (start_answer b hs)).value 0 e small }
    run_is (suc j) =
        let g = run_is j in
        let s = run b hs j in
        let r = tick-rule s.row s.set g.small g.goes in
        let v : (values 0 (tick_answer b s.row s.set)).value ≡ r.0 = ap (λ u. (values 0 u).value) r.1 in
        let e = ap (state_of (tick_row b s.row s.set)) v ∙ (r.3 ∙ ap (tick R n t) g.says) in
        let small : (values 0 (tick_answer b s.row s.set)).value < 2 ^ 32 = subst (λ (x : ℕ). x < 2 ^ 32) (sym v) r.2 in
        record { says = e; small = small; goes = goes_on (tick_row b s.row s.set) (values 0 (tick_answer b s.row s.set)).value (suc j) e small }

    run_work_lem : (j : ℕ) → run_work b hs j ≡ working R n t (after R n t j (start k))
    unfolding at_work
    run_work_lem j = ap (working R n t) (run_is j).says

    -- the last working tick by the operations and by the rule
    last_to : (T : ℕ) → LastTick b hs T → LastWorking R n t (start k) T
    last_to T u =
        record {
          works = λ j l. subst (λ (x : ℕ). 1 ≤ x) (run_work_lem j) (u.works j l);
          rests = λ j l. sym (run_work_lem j) ∙ u.rests j l;
        }

    last-from : (T : ℕ) → LastWorking R n t (start k) T → LastTick b hs T
    last-from T u =
        record {
          works = λ j l. subst (λ (x : ℕ). 1 ≤ x) (sym (run_work_lem j)) (u.works j l);
          rests = λ j l. run_work_lem j ∙ u.rests j l;
        }

    -- "k × T is at most W + (k − 1) × C"
    pub run_bound : (T : ℕ) → LastTick b hs T → length hs * T ≤ all_ticks b + (length hs - 1) * heaviest_chain b
    unfolding all_ticks heaviest_chain
    run_bound T u = last_bound R n t (before-order b) (ticks_from b w) k T lo (last_to T u)

    -- there is a last working tick, and after it all goals have ended
    pub run_ends : (T : ℕ) × LastTick b hs T × AllEnded b (run b hs T).set
    run_ends =
        let r = last-working R n t (before-order b) (ticks_from b w) (start k) from_start (omega (arith, length-replicate k idle, lo)) in
        (r.0, last-from r.0 r.1, λ g a. ap (λ (x : State). x.ended g) (run_is r.0).says ∙ r.2 g a)

    -- a tick in which a head works, and after which none does, is that one
    pub run-last : (j : ℕ) → 1 ≤ run_work b hs j → ((i : ℕ) → j < i → run_work b hs i ≡ 0) → LastTick b hs (suc j)
    run-last j works rests =
        let r = run_ends in
        let T = r.0 in
        subst (LastTick b hs)
        (⊎_elim (λ e. absurd (omega (arith, works, r.1.rests j (leb-true T j e))))
        (λ e.
        let l : j < T = leb-false T j e in
        ⊎_elim (λ u. omega (arith, l, leb-true T (suc j) u))
        (λ u. absurd (omega (arith, r.1.works (suc j) (leb-false T (suc j) u), rests (suc j) (omega arith)))) (test (leb T (suc j))))
        (test (leb T j)))
        r.1

-- ---- refusals of the record, and what a refusal leaves
module _ (b : List ℕ) (hs : List Head) where
  -- "20, after the record's refusals"
  pub record_first : (m : ℕ) (r : Refusal) → reading b ≡ Err r → (start_answer b hs ≡ refused r.number r.place) × (tick_answer b hs m ≡ refused r.number r.place)
  unfolding start_answer start_outcome tick_answer tick_outcome read_then
  record_first m r e = (
    ap (λ x. set_of_state (started x (only_if (few (length hs)) 20 0 (accepted (start (length hs)))))) e,
    ap (λ x. set_of_state (started x (only_if (acceptable b hs m) 20 0 (accepted (tick (before b) (goal_count b) (ticks_at b) (state_of hs m)))))) e,
  )

  kept : (u : Outcome State) (k p : ℕ) → set_of_state u ≡ refused k p → row_after u hs ≡ hs
  kept (refused k' p') k p e = refl
  kept (accepted s) k p e = absurd (subst Accepted e tt)

  -- "with lent buffers unchanged": the row stays, and the set is 0
  pub start_keeps : (k p : ℕ) → start_answer b hs ≡ refused k p → (start_row b hs ≡ hs) × ((values 0 (start_answer b hs)).value ≡ 0)
  unfolding start_answer start_row
  start_keeps k p e = (kept (start_outcome b hs) k p e, ap (λ (u : Outcome ℕ). (values 0 u).value) e)

  pub tick_keeps : (m k p : ℕ) → tick_answer b hs m ≡ refused k p → (tick_row b hs m ≡ hs) × ((values 0 (tick_answer b hs m)).value ≡ 0)
  unfolding tick_answer tick_row
  tick_keeps m k p e = (kept (tick_outcome b hs m) k p e, ap (λ (u : Outcome ℕ). (values 0 u).value) e)

-- C is the weight of the heaviest chain of the record's order: no chain weighs more, and some chain weighs it
pub chain_heaviest : (b : List ℕ) → IsHeaviest (before b) (goal_count b) (ticks_at b) (heaviest_chain b)
unfolding heaviest_chain
chain_heaviest b = heaviest_is (before b) (goal_count b) (ticks_at b) (before-order b)

-- ---- the answer words
module _ (b : List ℕ) (bytes : Bytes b) where
  abbrev Turned : ℕ → ℕ → Type 0
  Turned k p = (OfReading k ⊎ (k ≡ 20)) × (p < 2 ^ 32)

  abbrev Set : ℕ → Type 0
  Set m = m < 2 ^ 32

  outcome_fits : (f : Bool) (s : State) → All Turned Set (set_of_state (read_then b (only_if f 20 0 (accepted s))))
  outcome_fits f s =
      all-next Turned Set (λ s. Unit {0}) (read_then b (only_if f 20 0 (accepted s))) (λ s. accepted (goals_of goal_limit s.ended))
      (all_read Turned (λ s. Unit {0}) b (only_if f 20 0 (accepted s)) (λ r e. (inl (refusal_number b r e), omega (arith, refusal_limit b r e bytes)))
      (λ e. all-only Turned (λ s. Unit {0}) f 20 0 (accepted s) (inr refl, omega arith) (λ u. tt)))
      (λ s u. goals_lt goal_limit s.ended)

  -- the numbers of reading start with 1
  some_number : (k : ℕ) → OfReading k ⊎ (k ≡ 20) → 1 ≤ k
  some_number k (inl (inl a)) = a.0
  some_number k (inl (inr a)) = omega (arith, a.0)
  some_number k (inr e) = omega arith

  word_says : (o : Outcome ℕ) → All Turned Set o → WordSays o
  unfolding tick_word
  word_says o a =
      let n = number_says (λ m. m) 0 o (wide o a) in
      record {
        numbers = λ k p e. (all-refused Turned Set a e).0;
        place_fits = λ k p e. (all-refused Turned Set a e).1;
        set_fits = λ m e. all_accepted Turned Set a e;
        number_is = n;
        zero_accepted =
            let z = number-zero 0 o (λ k p e. some_number k (all-refused Turned Set a e).0) in
            (λ e. z.0 (sym n ∙ e), λ u. n ∙ z.1 u);
      }
    where
      wide : (o : Outcome ℕ) → All Turned Set o → All (λ k p. Unit {0}) (λ m. m < 2 ^ 56) o
      wide (refused k p) a = tt
      wide (accepted m) a = omega arith

  pub start_word : (hs : List Head) → WordSays (start_answer b hs)
  unfolding start_answer start_outcome
  start_word hs = word_says _ (outcome_fits (few (length hs)) (start (length hs)))

  pub tick_word_lem : (hs : List Head) (m : ℕ) → WordSays (tick_answer b hs m)
  unfolding tick_answer tick_outcome
  tick_word_lem hs m = word_says _ (outcome_fits (acceptable b hs m) (tick (before b) (goal_count b) (ticks_at b) (state_of hs m)))
