-- One law for each way out of the whole reading.
use mathlib.Core.Path.{◌≡◌, refl, sym, ap, ap₂, ◌∙◌, subst}
use mathlib.Core.Bool.{Bool, true, false, ◌||◌, cond, true≢false}
use mathlib.Core.List.{List, []}
use mathlib.Core.Option.{Option, none, some}
use mathlib.Core.Logic.{⊎_elim, dite}
use Prim.Native.Nat.{ℕ, zero, suc, ◌^◌, ◌<◌, ◌≤◌}
use native.Mathlib.Omega.{arith}
use native.Mathlib.Decide.{dec_lt}
use lib.Dec.{ltb}
use lib.ListN.{length, get_or, get_or-replicate}
use borrow.Author.Tests.{leb-true, le-leb, lt-leb, lt-ltb, le-ltb, ltb-true}
use Rattle.logic.proofs.Bools.{test, is_false}
use Rattle.sets.specs.Sets.{goal_limit, has, subset, below}
use Rattle.sets.proofs.Membership.{has_empty, has-below, member_below, none_empty, subset-has, has-subset}
use Rattle.sets.proofs.Builder.{members_lt}
use Rattle.graph.specs.declared.Graph.{Graph}
use Rattle.graph.specs.Graph.{edgeless, has_goal, behind, goals_of, rows_of, Within, transposed, Words}
use Rattle.graph.proofs.Rows.{goals_ext, rows_ext, rows_within, transposed-turned}
use Rattle.expression.specs.Search.{or_else}
use Rattle.expression.specs.Expr.{Expr, times, stands, before, UsesOnce}
use Rattle.expression.proofs.Spec.{in_stands, before_in}
use Rattle.expression_grammar.specs.Reader.{reads, read}
use Rattle.expression_grammar.specs.Numbers.{numbers, fault, missing, misuse}
use Rattle.record_rules.specs.Outcome.{refused}
use Rattle.expression_grammar.specs.TextRules.{expression_limit, open_limit, numbered, decided, read_text}
use Rattle.expression_grammar.proofs.Decides.{read_accepts}
use Rattle.expression_grammar.proofs.Goals.{count, values, count-goals, text-goals, fault_good, missing-none, none-missing, misuse-none}
use Rattle.expression_number.specs.declared.Node.{Node}
use Rattle.expression_number.specs.Nodes.{bit}
use Rattle.expression_parser.specs.Readers.{Parsed}
use Rattle.record_rules.specs.declared.Refusal.{Refusal}
use Rattle.expression_reading.specs.declared.Drawn.{Drawn}
use Rattle.std.specs.Prelude.{Result, Ok, Err, None, Some}
use Rattle.expression_reading.specs.TextReading.{spot, fault_in, Counted, text_answer}

spot-none : (o : Option ℕ) → None ≡ spot o → o ≡ none
spot-none none h = refl
spot-none (some p) h = cc

spot_some : (o : Option ℕ) (p : ℕ) → Some p ≡ spot o → o ≡ some p
spot_some none p h = cc
spot_some (some q) p h = let e : p ≡ q = cc in ap (λ z. some z) (sym e)

-- ---- goals that are missing
module _ (w n : ℕ) (x : Expr) (set : ℕ) (few : n ≤ w) (told : (i : ℕ) → i < w → has set i ≡ stands x (suc i)) where
  all_there : subset (below n) set ≡ true → missing n x ≡ false
  all_there h = none-missing n x (λ i. at i)
    where
      at : (i : ℕ) → 1 ≤ i → i ≤ n → 1 ≤ times x i
      at zero a b = absurd (omega arith)
      at (suc i) a b = leb-true 1 (times x (suc i)) (sym (told i (omega arith)) ∙ subset-has (below n) set h i (has-below n i ∙ lt-ltb i n (omega arith)))

  some_lack : subset (below n) set ≡ false → missing n x ≡ true
  some_lack h = ⊎_elim (λ t. t) (λ t. absurd (true≢false (sym (whole t) ∙ h))) (test (missing n x))
    where
      whole : missing n x ≡ false → subset (below n) set ≡ true
      whole t =
          has-subset (below n) set (λ i e.
          let l = ltb-true i n (sym (has-below n i) ∙ e) in
          told i (omega arith) ∙ le-leb 1 (times x (suc i)) (missing-none n x t (suc i) (omega arith) (omega arith)))

-- ---- each goal stands once: nothing is at fault
module _ (w n : ℕ) (few : n ≤ w) (s : List ℕ) (set extra : ℕ) (h : Counted w s set extra) (z : extra ≡ 0) (e : set ≡ below n) where
  member : (i : ℕ) → has set i ≡ ltb i n
  member i = ap (λ z. has z i) e ∙ has-below n i

  uses : UsesOnce n h.0
  uses zero = let l = h.3 z zero in omega arith
  uses (suc i) =
      let most = h.3 z (suc i) in
      dite (dec_lt i n)
      (λ l.
      let yes : has set i ≡ true = member i ∙ lt-ltb i n l in
      let one : bit set (suc i) ≡ 1 = ap (λ b. cond {A = ℕ} b 1 0) yes in
      let least = leb-true 1 (times h.0 (suc i)) (sym (h.2 i (omega arith)) ∙ yes) in
      rw (le-leb 1 (suc i) (omega arith), le-leb (suc i) n (omega arith)) (omega arith))
      (λ l.
      let nought : bit set (suc i) ≡ 0 = ap (λ b. cond {A = ℕ} b 1 0) (member i ∙ le-ltb i n (omega arith)) in
      rw (le-leb 1 (suc i) (omega arith), lt-leb (suc i) n (omega arith)) (omega arith))

  first-none : (a b : Option ℕ) → or_else a b ≡ none → a ≡ none
  first-none none b q = refl
  first-none (some p) b q = cc

  pub fault-none : None ≡ fault_in n s
  fault-none =
      sym (ap spot (first-none (fault n [] (numbers s)) (cond (missing n h.0) (some (length s)) none) ((misuse-none open_limit n s h.0 ((read_accepts open_limit s h.0).0 h.1)).1 uses)))

-- ---- nothing is at fault: no number is above n
low : (n : ℕ) (s : List ℕ) (x : Expr) → read open_limit s ≡ reads x → fault n [] (numbers s) ≡ none → (v : ℕ) → stands x v ≡ true → v ≤ n
low n s x q f v h =
    let same : count (values (numbers s)) v ≡ times x v = ap (λ z. count z v) (text-goals open_limit s x ((read_accepts open_limit s x).0 q)) ∙ count-goals x v in
    (fault_good n [] (numbers s) f v (omega (arith, leb-true 1 (times x v) h))).0

-- ---- the graph and the set of an expression that has no number above n
module _ (w n : ℕ) (x : Expr) (set : ℕ) (now : List ℕ) (few : n ≤ w) (most : (v : ℕ) → stands x v ≡ true → v ≤ n) (small : set < 2 ^ w)
    (stand : (i : ℕ) → i < w → has set i ≡ stands x (suc i)) (order : (i j : ℕ) → i < w → j < w → behind now (suc i) (suc j) ≡ before x (suc i) (suc j)) (words : Words w now) where
  met_is : set ≡ goals_of n (stands x)
  met_is = goals_ext n set (stands x) (members_lt n set (λ i e. omega (arith, most (suc i) (sym (stand i (member_below w set i small e)) ∙ e)))) (λ g. at g)
    where
      at : (g : ℕ) → 1 ≤ g → g ≤ n → has_goal set g ≡ stands x g
      at zero a b = absurd (omega arith)
      at (suc i) a b = stand i (omega arith)

  -- a bit of a row is an order of two goals
  edge : (j i : ℕ) → j < w → has (get_or now j 0) i ≡ true → (j < n) × (i < n)
  edge j i l h =
      let b = before_in x (suc i) (suc j) (sym (order i j (member_below w (get_or now j 0) i (words.small j) h) l) ∙ h) in
      (omega (arith, most (suc j) (in_stands x (suc j) b.1)), omega (arith, most (suc i) (in_stands x (suc i) b.0)))

  turned_are : now ≡ rows_of w n (λ j i. before x i j)
  turned_are =
      rows_ext w n (λ j i. before x i j) now few words.size (λ j l. members_lt n (get_or now j 0) (λ i e. (edge j i (omega arith) e).1)) (λ j i. at j i)
      (λ j l p. none_empty (get_or now j 0) (λ i. is_false (has (get_or now j 0) i) (λ e. absurd (omega (arith, p, (edge j i l e).0)))))
    where
      at : (j i : ℕ) → 1 ≤ j → j ≤ n → 1 ≤ i → i ≤ n → behind now i j ≡ before x i j
      at zero i a b c d = absurd (omega arith)
      at (suc j) zero a b c d = absurd (omega arith)
      at (suc j) (suc i) a b c d = order i j (omega arith) (omega arith)

  turned-within : Within w n now
  turned-within = subst (Within w n) (sym turned_are) (rows_within w n (λ j i. before x i j) few)

  rows_are : transposed w n now ≡ rows_of w n (before x)
  rows_are = transposed-turned w n (before x) now few turned_are

abbrev drawn : ℕ → List ℕ → ℕ → Result Drawn Refusal
drawn n rows met = Ok (record { graph = record { n = n; rows = rows }; met = met })

module _ (n : ℕ) (s : List ℕ) where
  pub text_short : length s < 1 → refused 15 0 ≡ read_text n s
  unfolding read_text
  text_short h = rw (lt-leb 1 (length s) h)

  pub text_long : expression_limit < length s → refused 15 0 ≡ read_text n s
  unfolding read_text
  text_long h = rw (le-leb 1 (length s) (omega arith), lt-leb (length s) expression_limit h)

  module _ (lo : 1 ≤ length s) (hi : length s ≤ expression_limit) where
    sized : read_text n s ≡ decided n s (read open_limit s)
    unfolding read_text
    sized = rw (le-leb 1 (length s) lo, le-leb (length s) expression_limit hi)

    module _ (g : Graph) (blank : g ≡ edgeless n) (now : List ℕ) where
      pub text_bad : (p : ℕ) → Parsed goal_limit s g.rows (Err p) now → refused 16 p ≡ read_text n s
      text_bad p h = sym (sized ∙ ap (λ z. decided n s z) h.0)

      module _ (nd : Node) (parsed : Parsed goal_limit s g.rows (Ok nd) now) where
        whole-read : read_text n s ≡ numbered parsed.0 (misuse n s parsed.0)
        whole-read = sized ∙ ap (λ z. decided n s z) parsed.1

        pub counted : Counted goal_limit s nd.set nd.extra
        counted = (parsed.0, parsed.1, parsed.3.stand, parsed.3.once)

        pub text-fault : (p : ℕ) → Some p ≡ fault_in n s → refused 17 p ≡ read_text n s
        text-fault p f =
            let m : misuse n s parsed.0 ≡ some p = rw (spot_some (fault n [] (numbers s)) p f) in
            sym (whole-read ∙ ap (λ o. numbered parsed.0 o) m)

        module _ (few : n ≤ goal_limit) (f : None ≡ fault_in n s) where
          misused : (b : Bool) → missing n parsed.0 ≡ b → misuse n s parsed.0 ≡ cond b (some (length s)) none
          misused b e = rw (spot-none (fault n [] (numbers s)) f) (ap (λ z. cond z (some (length s)) none) e)

          pub text_lacks : subset (below n) nd.set ≡ false → refused 17 (length s) ≡ read_text n s
          text_lacks l =
              sym (whole-read ∙ ap (λ o. numbered parsed.0 o) (misused true (some_lack goal_limit n parsed.0 nd.set few parsed.3.stand l)))

          module _ (small : nd.set < 2 ^ 32) where
            most : (v : ℕ) → stands parsed.0 v ≡ true → v ≤ n
            most v e = low n s parsed.0 parsed.1 (spot-none (fault n [] (numbers s)) f) v e

            order : (i j : ℕ) → i < goal_limit → j < goal_limit → behind now (suc i) (suc j) ≡ before parsed.0 (suc i) (suc j)
            order i j a b =
                parsed.3.order i j a b
                ∙ ap (λ z. z || before parsed.0 (suc i) (suc j)) (ap (λ x. behind x.rows (suc i) (suc j)) blank ∙ ap (λ z. has z i) (get_or-replicate goal_limit j 0 0 b) ∙ has_empty i)

            -- the rows are turned round
            pub text-within : Within goal_limit n now
            text-within = turned-within goal_limit n parsed.0 nd.set now few most small parsed.3.stand order parsed.3.words

            pub text_done : subset (below n) nd.set ≡ true → (rows : List ℕ) → rows ≡ transposed goal_limit n now
                → ◌≡◌ {A = Result Drawn Refusal} (Ok (record { graph = record { n = g.n; rows = rows }; met = nd.set })) (text_answer n (read_text n s))
            text_done l rows e =
                let w = parsed.3.words in
                ap (λ x. drawn x.n rows nd.set) blank
                ∙ ap₂ (λ a b. drawn n a b)
                (e ∙ rows_are goal_limit n parsed.0 nd.set now few most small parsed.3.stand order w)
                (met_is goal_limit n parsed.0 nd.set now few most small parsed.3.stand order w)
                ∙ sym (ap (λ z. text_answer n z) (whole-read ∙ ap (λ o. numbered parsed.0 o) (misused false (all_there goal_limit n parsed.0 nd.set few parsed.3.stand l))))
