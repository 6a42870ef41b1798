-- What the steps of a start and of a tick do, from what they begin with, is what the rule says.
use Rattle.std.specs.Prelude.{Ok, Err}
use mathlib.Core.Path.{◌≡◌, refl, sym, ap, ap₂, ◌∙◌, subst}
use mathlib.Core.Bool.{Bool, true, false, not, ◌&&◌, ◌||◌, cond, true≢false, or-true, and-true as and_yes, and-false as and_no}
use mathlib.Core.List.{List}
use mathlib.Core.Logic.{⊎_elim}
use Prim.Native.Nat.{ℕ, zero, suc, ◌^◌, ◌≤◌, ◌<◌}
use native.Mathlib.Omega.{arith}
use lib.Dec.{leb}
use lib.ListN.{length}
use borrow.Author.Tests.{lt-ltb, ltb-true, le-leb, leb-true}
use Rattle.logic.specs.Quantifiers.{some_below}
use Rattle.logic.proofs.Bools.{test, iff, is_false, clash, and_l, and_r, and_i, not-i, not-true, implies_in, implies_out}
use Rattle.logic.proofs.Quantifiers.{below_in, below_out}
use Rattle.logic.proofs.Table.{table_at}
use Rattle.sets.specs.Sets.{goal_limit, has, without, below, subset}
use Rattle.sets.proofs.Membership.{has-without, has-below, subset-has, has-subset, below_of}
use Rattle.graph.specs.Graph.{has_goal}
use Rattle.graph.proofs.Goals.{goal-none}
use Rattle.graph.proofs.Rows.{goals_ext, goals-has}
use Rattle.record_fields.specs.Facts.{ticks_at}
use Rattle.record_fields.specs.Fields.{goal_count}
use Rattle.record_rules.specs.declared.Refusal.{Refusal}
use Rattle.record_rules.specs.Outcome.{Outcome, refused, accepted, started, read_then, only_if}
use Rattle.record_rules.specs.Reading.{reading, Reading}
use Rattle.record.specs.WellFormed.{WellFormed}
use Rattle.record.proofs.WellFormed.{fine_well_formed}
use Rattle.record.proofs.Facts.{ticks_range}
use Rattle.clause.specs.Clause.{goal_ticks}
use Rattle.graph.specs.Closure.{wait, link}
use Rattle.order.specs.Order.{waits, Before, before}
use Rattle.order.specs.Arrays.{waiting_on}
use Rattle.order.proofs.Theorems.{before_is, before-goals, before-order}
use Rattle.lfj_words.specs.Words.{refusal_word, tick_word}
use Rattle.schedule.specs.Range.{Goals, each}
use Rattle.schedule.proofs.Range.{each_at, each_all}
use Rattle.dispatch_rule.specs.declared.Head.{Head}
use Rattle.dispatch_rule.specs.Rule.{State, count, start, ready, tick}
use Rattle.dispatch_rule.specs.Validity.{all_heads, fine_head, is_valid}
use Rattle.dispatch_rule.proofs.Ticks.{valid-tick}
use Rattle.dispatch_rule.proofs.Validity.{valid_is}
use Rattle.dispatch_steps.specs.declared.Phase.TheVariants.{Look, Go, Rest, Idle}
use Rattle.dispatch_steps.specs.declared.Board.{Board}
use Rattle.dispatch_steps.specs.declared.Opening.{Opening}
use Rattle.dispatch_steps.specs.Steps.{state_of, turn_heads, turn_board}
use Rattle.dispatch_steps.proofs.Free.{Free, Planned}
use Rattle.dispatch_steps.proofs.Turning.{has-wide, turn_rests, turn_idles, turn_accepts, turn_refuses}
use Rattle.dispatcher.specs.Ticks.{few, start_outcome, acceptable, tick_outcome, set_of_state, row_after, start_answer, start_row, tick_answer, tick_row}
use Rattle.dispatcher.specs.Openings.{left_of, waiting_of, bad_row, shut, start_open, tick_open, opened, start_opening, tick_opening, board_word, turn_word}
use Rattle.dispatcher.proofs.Making.{word_is}

-- ---- ready by the waits alone, and by the order
module _ (b : List ℕ) (E : ℕ → Bool) where
  -- what is ready by the order is ready by the waits
  pub ready_fewer : (g : ℕ) → ready (before b) (goal_count b) E g ≡ true → ready (waits b) (goal_count b) E g ≡ true
  ready_fewer g h =
      each_all (λ i. not (waits b i g) || E i) (goal_count b)
      (λ i a. implies_in (waits b i g) (E i) (λ w. implies_out (before b i g) (E i) (each_at (λ i. not (before b i g) || E i) (goal_count b) i h a) ((before_is b i g).1 (wait w))))

  -- where the ended goals are ready by the waits, so is everything that a chain of waits leads from
  chain_ended : ((g : ℕ) → E g ≡ true → ready (waits b) (goal_count b) E g ≡ true) → (i g : ℕ) → Before b i g → ready (waits b) (goal_count b) E g ≡ true → E i ≡ true
  chain_ended f i g (wait w) h =
      implies_out (waits b i g) (E i) (each_at (λ i. not (waits b i g) || E i) (goal_count b) i h (before-goals b i g ((before_is b i g).1 (wait w))).0) w
  chain_ended f i g (link {j = j} a c d) h = chain_ended f i j c (f j (chain_ended f j g d h))

  pub ready_by_waits : ((g : ℕ) → E g ≡ true → ready (waits b) (goal_count b) E g ≡ true) → (g : ℕ) → ready (waits b) (goal_count b) E g ≡ ready (before b) (goal_count b) E g
  ready_by_waits f g =
      iff (ready (waits b) (goal_count b) E g) (ready (before b) (goal_count b) E g)
      (λ h. each_all (λ i. not (before b i g) || E i) (goal_count b) (λ i a. implies_in (before b i g) (E i) (λ r. chain_ended f i g ((before_is b i g).0 r) h)))
      (ready_fewer g)

-- ---- the sets of a well-formed record
module _ (b : List ℕ) (w : WellFormed b) where
  abbrev n : ℕ
  n = goal_count b

  abbrev few_goals : n ≤ goal_limit
  few_goals = w.goals_to

  pub ticks_from : (g : ℕ) → Goals n g → 1 ≤ ticks_at b g
  ticks_from g a = (ticks_range b w g a.0 a.1).0

  pub planned : (E : ℕ → Bool) → Planned (before b) n (ticks_at b) E few_goals (record { ticks = goal_ticks goal_limit b })
  unfolding goal_ticks
  planned E zero a = absurd (omega (arith, a.0))
  planned E (suc i) a = table_at goal_limit n (λ i. ticks_at b (suc i)) i (omega (arith, a.1, few_goals)) a.1

  module _ (m : ℕ) where
    abbrev E : ℕ → Bool
    E = has_goal m

    -- it waits for some goal that has not ended
    abbrev held : ℕ → Bool
    held g = some_below n (λ i. has (left_of b m) i && waits b (suc i) g)

    waiting-at : (g : ℕ) → Goals n g → has_goal (waiting_of b m) g ≡ held g
    unfolding waiting_on
    waiting-at g a = goals-has n held g a.0 a.1

    -- the goals that do not are ready, by the waits
    ready_is : (g : ℕ) → Goals n g → not (has_goal (waiting_of b m) g) ≡ ready (waits b) n E g
    ready_is g a =
        ap not (waiting-at g a)
        ∙ iff (not (held g)) (ready (waits b) n E g)
        (λ h. each_all (λ i. not (waits b i g) || E i) n (λ i c. implies_in (waits b i g) (E i) (λ r. to i c (not-true (held g) h) r)))
        (λ h. not-i (held g) (λ u. from h u))
      where
        to : (i : ℕ) → Goals n i → held g ≡ false → waits b i g ≡ true → E i ≡ true
        to zero c h r = absurd (omega (arith, c.0))
        to (suc i) c h r =
            ⊎_elim (λ (e : has m i ≡ true). e)
            (λ (e : has m i ≡ false).
            let l : has (left_of b m) i ≡ true = has-without (below n) m i ∙ and_i (has (below n) i) (not (has m i)) (has-below n i ∙ lt-ltb i n c.1) (ap not e) in
            clash (below_in n (λ i. has (left_of b m) i && waits b (suc i) g) i c.1 (and_i (has (left_of b m) i) (waits b (suc i) g) l r)) h)
            (test (has m i))

        from : ready (waits b) n E g ≡ true → held g ≡ true → ⊥
        from h u =
            let s = below_out n (λ i. has (left_of b m) i && waits b (suc i) g) u in
            let l = and_l (has (left_of b m) s.x) (waits b (suc s.x) g) s.so in
            let r = and_r (has (left_of b m) s.x) (waits b (suc s.x) g) s.so in
            let e : has m s.x ≡ false = not-true (has m s.x) (and_r (has (below n) s.x) (not (has m s.x)) (sym (has-without (below n) m s.x) ∙ l)) in
            true≢false (sym (implies_out (waits b (suc s.x) g) (E (suc s.x)) (each_at (λ i. not (waits b i g) || E i) n (suc s.x) h (omega arith, s.under)) r) ∙ e)

    -- no ended goal is above n or waits for one that has not ended
    abbrev known : Bool
    known = subset m (without (below n) (waiting_of b m))

    known_at : known ≡ true → (g : ℕ) → E g ≡ true → Goals n g × (ready (waits b) n E g ≡ true)
    known_at h zero e = absurd (true≢false (sym e))
    known_at h (suc i) e =
        let k = sym (has-without (below n) (waiting_of b m) i) ∙ subset-has m (without (below n) (waiting_of b m)) h i e in
        let l = ltb-true i n (sym (has-below n i) ∙ and_l (has (below n) i) (not (has (waiting_of b m) i)) k) in
        ((omega arith, l), sym (ready_is (suc i) (omega arith, l)) ∙ and_r (has (below n) i) (not (has (waiting_of b m) i)) k)

    -- then a goal is ready by the waits exactly if it is ready by the order
    ready-same : known ≡ true → (g : ℕ) → ready (waits b) n E g ≡ ready (before b) n E g
    ready-same h = ready_by_waits b E (λ g e. (known_at h g e).1)

    -- the goals that can be taken
    pub free_is : known ≡ true → Free (before b) n (ticks_at b) E few_goals (λ g. false) (without (left_of b m) (waiting_of b m))
    free_is h = record { inside = λ g. inside g; says = λ g. says g }
      where
        inside : (g : ℕ) → has_goal (without (left_of b m) (waiting_of b m)) g ≡ true → Goals n g
        inside zero e = absurd (true≢false (sym e))
        inside (suc i) e =
            let l = and_l (has (left_of b m) i) (not (has (waiting_of b m) i)) (sym (has-without (left_of b m) (waiting_of b m) i) ∙ e) in
            let a = and_l (has (below n) i) (not (has m i)) (sym (has-without (below n) m i) ∙ l) in
            (omega arith, ltb-true i n (sym (has-below n i) ∙ a))

        says : (g : ℕ) → Goals n g → has_goal (without (left_of b m) (waiting_of b m)) g ≡ (not (E g) && true && ready (before b) n E g)
        says zero a = absurd (omega (arith, a.0))
        says (suc i) a =
            has-without (left_of b m) (waiting_of b m) i
            ∙ ap₂ ◌&&◌
            (has-without (below n) m i ∙ (ap (λ x. x && not (has m i)) (has-below n i ∙ lt-ltb i n a.1) ∙ sym (and_yes (not (has m i)))))
            (ready_is (suc i) a ∙ ready-same h (suc i))

    -- the goals that have ended are as they may be
    pub ended_is : m < 2 ^ goal_limit → known ≡ each (λ g. not (E g) || (leb g n && ready (before b) n E g)) goal_limit
    ended_is small =
        iff _ _ (λ h. each_all (λ g. not (E g) || (leb g n && ready (before b) n E g)) goal_limit (λ g a. to g h))
        (λ h. has-subset m (without (below n) (waiting_of b m)) (λ i e. from i e h))
      where
        to : (g : ℕ) → known ≡ true → not (E g) || (leb g n && ready (before b) n E g) ≡ true
        to g h =
            ⊎_elim
            (λ (e : E g ≡ true).
            let k = known_at h g e in
            ap₂ (λ x y. not (E g) || (x && y)) (le-leb g n k.0.1) (sym (ready-same h g) ∙ k.1) ∙ or-true (not (E g)))
            (λ (e : E g ≡ false). ap (λ x. not x || (leb g n && ready (before b) n E g)) e) (test (E g))

        from : (i : ℕ) → has m i ≡ true → each (λ g. not (E g) || (leb g n && ready (before b) n E g)) goal_limit ≡ true → has (without (below n) (waiting_of b m)) i ≡ true
        from i e h =
            let k = each_at (λ g. not (E g) || (leb g n && ready (before b) n E g)) goal_limit (suc i) h (has-wide goal_limit m (suc i) small e) in
            let q = sym (ap (λ x. not x || (leb (suc i) n && ready (before b) n E (suc i))) e) ∙ k in
            let l = leb-true (suc i) n (and_l (leb (suc i) n) (ready (before b) n E (suc i)) q) in
            let r = ready_is (suc i) (omega arith, l) ∙ ready_fewer b E (suc i) (and_r (leb (suc i) n) (ready (before b) n E (suc i)) q) in
            has-without (below n) (waiting_of b m) i ∙ and_i (has (below n) i) (not (has (waiting_of b m) i)) (has-below n i ∙ lt-ltb i n l) r

    -- ---- a tick of an accepted record
    module _ (hs : List Head) (small : m < 2 ^ goal_limit) where
      abbrev o : Opening
      o = tick_open b (length hs) m

      abbrev after : State
      after = tick (before b) n (ticks_at b) (state_of hs m)

      abbrev valid : Bool
      valid = is_valid (before b) n (ticks_at b) goal_limit (state_of hs m)

      abbrev said : Outcome State
      said = only_if (few (length hs) && valid) 20 0 (accepted after)

      pub record Met (u : Outcome State) : Type 0 where
        pub word : board_word (turn_board o hs) bad_row ≡ tick_word (set_of_state u)
        pub row : turn_heads o hs ≡ row_after u hs

      -- refused by 20, with the row as it was
      turned_down : (turn_board o hs).phase ≡ Rest → turn_heads o hs ≡ hs → Met (refused 20 0)
      unfolding tick_word
      turned_down p r = record { word = sym (word_is (turn_board o hs) bad_row Rest p); row = r }

      goes : o.board.phase ≡ Look → known ≡ true → valid ≡ true → Met (accepted after)
      unfolding tick_open tick_word
      goes ph k e =
          let a = turn_accepts o hs (before b) n (ticks_at b) m few_goals (planned E) (before-order b) ticks_from small ph refl (free_is k) e in
          let v = (valid_is (before b) n (ticks_at b) goal_limit (state_of hs m) (λ g. has-wide goal_limit m g small)).0 e in
          let v' = valid-tick (before b) n (ticks_at b) (before-order b) ticks_from (state_of hs m) v in
          let d = (turn_board o hs).done in
          let same : (g : ℕ) → has_goal d g ≡ after.ended g = λ g. ap (λ (x : State). x.ended g) a.state in
          let fits : d < 2 ^ goal_limit = below_of goal_limit d (λ i l. is_false (has d i) (λ z. let k = v'.known (suc i) (sym (same (suc i)) ∙ z) in absurd (omega (arith, k.1, few_goals)))) in
          record {
            word = sym (word_is (turn_board o hs) bad_row Go a.phase) ∙ goals_ext goal_limit d after.ended fits (λ g l u. same g);
            row = ap (λ (x : State). x.heads) a.state;
          }

      looks : o.board.phase ≡ Look → known ≡ true → Met (only_if valid 20 0 (accepted after))
      unfolding tick_open
      looks ph k =
          ⊎_elim (λ e. subst Met (sym (ap (λ x. cond x (accepted after) (refused 20 0)) e)) (goes ph k e))
          (λ e.
          let r =
          turn_refuses o hs (before b) n (ticks_at b) m few_goals (planned E) (before-order b) ticks_from small ph refl (free_is k) (sym (ended_is small) ∙ k) e in
          subst Met (sym (ap (λ x. cond x (accepted after) (refused 20 0)) e)) (turned_down r.phase r.heads))
          (test valid)

      rests : o.board.phase ≡ Rest → Met (refused 20 0)
      unfolding tick_open
      rests ph =
          let r = turn_rests o hs ph in
          turned_down (ap (λ (x : Board). x.phase) r.1 ∙ ph) r.0

      pub open_met : Met said
      unfolding tick_open
      open_met =
          ⊎_elim
          (λ f.
          ⊎_elim
          (λ k.
          subst Met (sym (ap (λ x. only_if (x && valid) 20 0 (accepted after)) f))
          (looks (ap₂ (λ x y. cond (x && y) Look Rest) f k) k))
          (λ k.
          let not_valid : valid ≡ false = is_false valid
          (λ e.
          true≢false
          (sym (ended_is small ∙ and_r (each (λ g. leb (count hs g) 1) n) _ (and_r (all_heads (fine_head (before b) n (ticks_at b) E) hs) _ e)) ∙ k)) in
          subst Met (sym (ap (λ x. only_if x 20 0 (accepted after)) (ap (λ x. few (length hs) && x) not_valid ∙ and_no (few (length hs)))))
          (rests (ap (λ x. cond x Look Rest) (ap (λ x. few (length hs) && x) k ∙ and_no (few (length hs))))))
          (test known))
          (λ f.
          subst Met (sym (ap (λ x. only_if (x && valid) 20 0 (accepted after)) f)) (rests (ap (λ x. cond (x && known) Look Rest) f)))
          (test (few (length hs)))

-- ---- a refused record
shut-met : (x : Refusal) (hs : List Head) → (board_word (turn_board (shut x) hs) x ≡ refusal_word x.number x.place) × (turn_heads (shut x) hs ≡ hs)
unfolding shut
shut-met x hs = let r = turn_rests (shut x) hs refl in (ap (λ b. board_word b x) r.1 ∙ sym (word_is (shut x).board x Rest refl), r.0)

-- ---- the operations
pub tick-met : (b : List ℕ) (hs : List Head) (m : ℕ) → m < 2 ^ 32
    → (turn_word (tick_opening b (length hs) m) hs ≡ tick_word (tick_answer b hs m)) × (turn_heads (tick_opening b (length hs) m) hs ≡ tick_row b hs m)
unfolding tick_opening tick_answer tick_row tick_outcome read_then tick_word tick_open shut
tick-met b hs m small = by (reading b) refl
  where
    by : (s : Reading) → reading b ≡ s
        → (turn_word (opened s (tick_open b (length hs) m)) hs ≡ tick_word (set_of_state (started s (only_if (acceptable b hs m) 20 0 (accepted (tick (before b) (goal_count b) (ticks_at b) (state_of hs m)))))))
        × (turn_heads (opened s (tick_open b (length hs) m)) hs ≡ row_after (started s (only_if (acceptable b hs m) 20 0 (accepted (tick (before b) (goal_count b) (ticks_at b) (state_of hs m))))) hs)
    by (Ok _) e = let r = open_met b (fine_well_formed b e) m hs small in (r.word, r.row)
    by (Err x) e = shut-met x hs

pub start-met : (b : List ℕ) (hs : List Head)
    → (turn_word (start_opening b (length hs)) hs ≡ tick_word (start_answer b hs)) × (turn_heads (start_opening b (length hs)) hs ≡ start_row b hs)
unfolding start_opening start_answer start_row start_outcome read_then start_open tick_word shut
start-met b hs = by (reading b)
  where
    open_start : (f : Bool) → few (length hs) ≡ f
        → (turn_word (start_open (length hs)) hs ≡ tick_word (set_of_state (only_if f 20 0 (accepted (start (length hs))))))
        × (turn_heads (start_open (length hs)) hs ≡ row_after (only_if f 20 0 (accepted (start (length hs)))) hs)
    open_start true e =
        let ph : (start_open (length hs)).board.phase ≡ Idle = ap (λ x. cond x Idle Rest) e in
        let r = turn_idles (start_open (length hs)) hs ph in (
          ap (λ b. board_word b bad_row) r.1 ∙ sym (word_is (start_open (length hs)).board bad_row Idle ph)
              ∙ goals_ext goal_limit 0 (λ g. false) (omega arith) (λ g l u. goal-none g),
          r.0,
        )
    open_start false e =
        let ph : (start_open (length hs)).board.phase ≡ Rest = ap (λ x. cond x Idle Rest) e in
        let r = turn_rests (start_open (length hs)) hs ph in
        (ap (λ b. board_word b bad_row) r.1 ∙ sym (word_is (start_open (length hs)).board bad_row Rest ph), r.0)

    by : (s : Reading)
        → (turn_word (opened s (start_open (length hs))) hs ≡ tick_word (set_of_state (started s (only_if (few (length hs)) 20 0 (accepted (start (length hs)))))))
        × (turn_heads (opened s (start_open (length hs))) hs ≡ row_after (started s (only_if (few (length hs)) 20 0 (accepted (start (length hs))))) hs)
    by (Ok _) = open_start (few (length hs)) refl
    by (Err x) = shut-met x hs
