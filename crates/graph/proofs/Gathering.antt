-- A pass by rows is the pass of the relation.
use mathlib.Core.Path.{◌≡◌, refl, sym, ap, ◌∙◌, subst}
use mathlib.Core.Bool.{Bool, true, false, not, ◌&&◌, ◌||◌, cond, false≢true, or-false}
use mathlib.Core.Logic.{⊎_elim}
use mathlib.Core.List.{List, [], ◌∷◌}
use Prim.Native.Nat.{ℕ, suc, ◌-◌, ◌^◌, ◌≤◌, ◌<◌}
use native.Mathlib.Decide.{ℕ_discrete}
use native.Mathlib.Omega.{arith}
use lib.Dec.{eqb, ltb}
use lib.ListN.{length, get_or, set, replicate, length-set, get_or-replicate, length-replicate}
use lib.Seq.{get_or-set_same, get_or-set_other}
use lib.Pow.{pow_pos}
use borrow.Author.Tests.{lt-ltb, eq-eqb, ne_eqb, eqb-true}
use Rattle.logic.specs.Quantifiers.{some_below}
use Rattle.logic.proofs.Bools.{test, by_test, iff, is_false, and_l, and_r, and_i, or_elim, or_l, or_r}
use Rattle.logic.proofs.Quantifiers.{below_in, below_out}
use Rattle.sets.specs.Sets.{has, union, without, single, below, first, members}
use Rattle.sets.proofs.Membership.{has_empty, has-union, has-without, has-single, has-below, member_below}
use Rattle.sets.proofs.Members.{fewer, no_more, members_step, members-none, step_in, step_has, step_none}
use Rattle.sets.proofs.Builder.{single_lt, members_lt, union_lt, has-set_of, has-set_of_in, set_of_ext, set_of_cong}
use Rattle.logic.specs.Table.{table}
use Rattle.logic.proofs.Table.{table_ext, table_at}
use Rattle.graph.specs.Graph.{ahead, goals_of, Within}
use Rattle.graph.specs.Passes.{pass}
use Rattle.graph.specs.PassRows.{gather, Still, same_rows}
use Rattle.graph.proofs.Rows.{goals-has, rows_length, row-past, row_lt}

-- ---- the loop over a row's goals
module _ (w : ℕ) (rows : List ℕ) where
  abbrev via : ℕ → ℕ → Bool
  via left j = some_below w (λ k. has left k && has (get_or rows k 0) j)

  -- a turn of the loop over the members; and its end
  pub gather_turn : (all left k others : ℕ) → members w left ≡ k ∷ members w others
      → gather w rows (union all (get_or rows k 0)) others ≡ gather w rows all left
  unfolding gather
  gather_turn all left k others e =
      set_of_cong w _ _
      (λ j l. ap (λ (t : Bool). t || via others j) (has-union all (get_or rows k 0) j) ∙ iff _ _ (there j) (back j))
    where
      in_via : (m i j : ℕ) → i < w → has m i ≡ true → has (get_or rows i 0) j ≡ true → via m j ≡ true
      in_via m i j l p q = below_in w (λ i. has m i && has (get_or rows i 0) j) i l (and_i (has m i) (has (get_or rows i 0) j) p q)

      has_left : (i : ℕ) → i < w → (eqb k i || has others i) ≡ true → has left i ≡ true
      has_left i l p = step_has w left k others e i l ∙ p

      there : (j : ℕ) → (has all j || has (get_or rows k 0) j) || via others j ≡ true → has all j || via left j ≡ true
      there j h =
          or_elim (has all j || has (get_or rows k 0) j) (via others j) h
          (λ t.
          or_elim (has all j) (has (get_or rows k 0) j) t (or_l (has all j) (via left j))
          (λ u. or_r (has all j) (via left j) (in_via left k j (step_in w left k others e) (has_left k (step_in w left k others e) (or_l (eqb k k) (has others k) (eq-eqb k k refl))) u)))
          (λ t.
          let r = below_out w (λ i. has others i && has (get_or rows i 0) j) t in
          or_r (has all j) (via left j)
          (in_via left r.x j r.under (has_left r.x r.under (or_r (eqb k r.x) (has others r.x) (and_l (has others r.x) (has (get_or rows r.x 0) j) r.so)))
          (and_r (has others r.x) (has (get_or rows r.x 0) j) r.so)))

      back : (j : ℕ) → has all j || via left j ≡ true → (has all j || has (get_or rows k 0) j) || via others j ≡ true
      back j h =
          or_elim (has all j) (via left j) h
          (λ t. or_l (has all j || has (get_or rows k 0) j) (via others j) (or_l (has all j) (has (get_or rows k 0) j) t))
          (λ t.
          let r = below_out w (λ i. has left i && has (get_or rows i 0) j) t in
          let in_row = and_r (has left r.x) (has (get_or rows r.x 0) j) r.so in
          or_elim (eqb k r.x) (has others r.x) (sym (step_has w left k others e r.x r.under) ∙ and_l (has left r.x) (has (get_or rows r.x 0) j) r.so)
          (λ i.
          or_l (has all j || has (get_or rows k 0) j) (via others j)
          (or_r (has all j) (has (get_or rows k 0) j) (ap (λ (z : ℕ). has (get_or rows z 0) j) (eqb-true k r.x i) ∙ in_row)))
          (λ i. or_r (has all j || has (get_or rows k 0) j) (via others j) (in_via others r.x j r.under i in_row)))

  pub gather_over : (all left : ℕ) → members w left ≡ [] → all < 2 ^ w → all ≡ gather w rows all left
  unfolding gather
  gather_over all left e h =
      set_of_ext w all (λ j. has all j || via left j) h
      (λ j l. sym (or-false (has all j)) ∙ ap (λ (t : Bool). has all j || t) (sym (none j)))
    where
      none : (j : ℕ) → via left j ≡ false
      none j =
          is_false (via left j)
          (λ q.
          let r = below_out w (λ k. has left k && has (get_or rows k 0) j) q in
          false≢true (sym (step_none w left e r.x r.under) ∙ and_l (has left r.x) (has (get_or rows r.x 0) j) r.so))

  pub gather_end : (all left : ℕ) → all < 2 ^ w → left ≡ 0 → all ≡ gather w rows all left
  gather_end all left h z = gather_over all left (ap (members w) z ∙ members-none w) h

  module _ (left : ℕ) (h : left < 2 ^ w) (n : left ≡ 0 → ⊥) where
    abbrev x : ℕ
    x = first w left

    abbrev rest : ℕ
    rest = without left (single x)

    pub gather_more : (all : ℕ) → gather w rows (union all (get_or rows x 0)) rest ≡ gather w rows all left
    gather_more all = gather_turn all left x rest (members_step w left h n)

    -- the goals of a row that stays as it is may be passed over
    pub gather_skip : (all still : ℕ) → Still rows still → has still x ≡ true
        → gather w rows (union all (get_or rows x 0)) (without rest (get_or rows x 0)) ≡ gather w rows all left
    unfolding gather
    gather_skip all still s e =
        set_of_cong w _ _ (λ j l. iff _ _ (there j) (back j)) ∙ gather_more all
      where
        row : ℕ
        row = get_or rows x 0

        there : (j : ℕ) → has (union all row) j || via (without rest row) j ≡ true → has (union all row) j || via rest j ≡ true
        there j h =
            or_elim (has (union all row) j) (via (without rest row) j) h (or_l (has (union all row) j) (via rest j))
            (λ t.
            let r = below_out w (λ k. has (without rest row) k && has (get_or rows k 0) j) t in
            or_r (has (union all row) j) (via rest j)
            (below_in w (λ k. has rest k && has (get_or rows k 0) j) r.x r.under
            (and_i (has rest r.x) (has (get_or rows r.x 0) j)
            (and_l (has rest r.x) (not (has row r.x)) (sym (has-without rest row r.x) ∙ and_l (has (without rest row) r.x) (has (get_or rows r.x 0) j) r.so))
            (and_r (has (without rest row) r.x) (has (get_or rows r.x 0) j) r.so))))

        back : (j : ℕ) → has (union all row) j || via rest j ≡ true → has (union all row) j || via (without rest row) j ≡ true
        back j h =
            or_elim (has (union all row) j) (via rest j) h (or_l (has (union all row) j) (via (without rest row) j))
            (λ t.
            let r = below_out w (λ k. has rest k && has (get_or rows k 0) j) t in
            go r.x r.under (and_l (has rest r.x) (has (get_or rows r.x 0) j) r.so) (and_r (has rest r.x) (has (get_or rows r.x 0) j) r.so))
          where
            go : (k : ℕ) → k < w → has rest k ≡ true → has (get_or rows k 0) j ≡ true → has (union all row) j || via (without rest row) j ≡ true
            go k l p q =
                ⊎_elim
                (λ (t : has row k ≡ true).
                or_l (has (union all row) j) (via (without rest row) j) (has-union all row j ∙ or_r (has all j) (has row j) (s x k j e t q)))
                (λ (t : has row k ≡ false).
                or_r (has (union all row) j) (via (without rest row) j)
                (below_in w (λ k. has (without rest row) k && has (get_or rows k 0) j) k l
                (and_i (has (without rest row) k) (has (get_or rows k 0) j)
                (has-without rest row k ∙ and_i (has rest k) (not (has row k)) p (ap not t)) q)))
                (test (has row k))

    pub turn_less : (z : ℕ) → length (members w (without rest z)) < length (members w left)
    turn_less z =
        omega (
          arith,
          fewer w left h n,
          no_more w 0 (without rest z) rest (λ j e. and_l (has rest j) (not (has z j)) (sym (has-without rest z j) ∙ e)),
        )

-- ---- an array filled from the last place down
pub record Filled (w n : ℕ) (f : ℕ → ℕ) (i : ℕ) (l : List ℕ) : Type 0 where
  pub size : length l ≡ w
  pub done : (k : ℕ) → i ≤ k → k < n → get_or l k 0 ≡ f k
  pub past : (k : ℕ) → k < w → n ≤ k → get_or l k 0 ≡ 0

pub filled_none : (w n : ℕ) (f : ℕ → ℕ) → Filled w n f n (replicate w 0)
filled_none w n f =
    record { size = length-replicate w 0; done = λ k a b. absurd (omega arith); past = λ k a b. get_or-replicate w k 0 0 a }

pub filled_more : (w n : ℕ) (f : ℕ → ℕ) (i : ℕ) (l : List ℕ) (v : ℕ) → n ≤ w → 0 < i → i ≤ n → Filled w n f i l → v ≡ f (i - 1)
    → Filled w n f (i - 1) (set l (i - 1) v)
filled_more w n f i l v few pos le r e =
    record {
      size = length-set l (i - 1) v ∙ r.size;
      done = λ k a b. at k a b (ℕ_discrete k (i - 1));
      past = λ k a b. get_or-set_other l (i - 1) k v 0 (λ q. omega arith) ∙ r.past k a b;
    }
  where
    at : (k : ℕ) → i - 1 ≤ k → k < n → Dec (k ≡ i - 1) → get_or (set l (i - 1) v) k 0 ≡ f k
    at k a b (yes q) =
        ap (λ (z : ℕ). get_or (set l (i - 1) v) z 0) q ∙ get_or-set_same l (i - 1) v 0 (omega (arith, r.size)) ∙ e ∙ ap f (sym q)
    at k a b (no q) = get_or-set_other l (i - 1) k v 0 q ∙ r.done k (omega arith) b

pub filled-all : (w n : ℕ) (f : ℕ → ℕ) (i : ℕ) (l : List ℕ) → i ≡ 0 → Filled w n f i l → l ≡ table w n f
filled-all w n f i l z r = table_ext w n f l r.size (λ k a b. r.done k (omega arith) b) (λ k a b. r.past k a b)

-- ---- the set of the places from i on at which an array keeps what it had
pub record Kept (n : ℕ) (f : ℕ → ℕ) (old : List ℕ) (i still : ℕ) : Type 0 where
  pub low : still < 2 ^ n
  pub done : (k : ℕ) → i ≤ k → k < n → has still k ≡ eqb (f k) (get_or old k 0)
  pub rest : (k : ℕ) → k < i → has still k ≡ false

pub kept_none : (n : ℕ) (f : ℕ → ℕ) (old : List ℕ) → Kept n f old n 0
kept_none n f old = record { low = pow_pos n; done = λ k a b. absurd (omega arith); rest = λ k a. has_empty k }

pub kept_more : (n : ℕ) (f : ℕ → ℕ) (old : List ℕ) (i still v : ℕ) → 0 < i → i ≤ n → Kept n f old i still → v ≡ f (i - 1)
    → Kept n f old (i - 1) (cond (eqb v (get_or old (i - 1) 0)) (union still (single (i - 1))) still)
kept_more n f old i still v pos le r e =
    record {
      low = by_test (λ m. m < 2 ^ n) b (λ t. union_lt n still (single x) r.low (single_lt n x (omega arith))) (λ t. r.low);
      done = λ k a l. at k a l (ℕ_discrete x k);
      rest = λ k a. others k (λ q. omega arith) ∙ r.rest k (omega arith);
    }
  where
    x : ℕ
    x = i - 1

    b : Bool
    b = eqb v (get_or old x 0)

    others : (k : ℕ) → (x ≡ k → ⊥) → has (cond b (union still (single x)) still) k ≡ has still k
    others k q =
        by_test (λ m. has m k ≡ has still k) b
        (λ t. has-union still (single x) k ∙ ap (λ (u : Bool). has still k || u) (has-single x k ∙ ne_eqb x k q) ∙ or-false (has still k))
        (λ t. refl)

    own : has (cond b (union still (single x)) still) x ≡ b
    own =
        by_test (λ m. has m x ≡ b) b
        (λ t. has-union still (single x) x ∙ or_r (has still x) (has (single x) x) (has-single x x ∙ eq-eqb x x refl) ∙ sym t)
        (λ t. r.rest x (omega arith) ∙ sym t)

    at : (k : ℕ) → i - 1 ≤ k → k < n → Dec (x ≡ k) → has (cond b (union still (single x)) still) k ≡ eqb (f k) (get_or old k 0)
    at k a l (yes q) = rw (sym q) (own ∙ ap (λ (m : ℕ). eqb m (get_or old x 0)) e)
    at k a l (no q) = others k q ∙ r.done k (omega arith) l

pub kept_all : (n : ℕ) (f : ℕ → ℕ) (old new : List ℕ) (i still : ℕ) → i ≡ 0 → Kept n f old i still → ((k : ℕ) → k < n → get_or new k 0 ≡ f k)
    → still ≡ same_rows n old new
unfolding same_rows
kept_all n f old new i still z r e =
    set_of_ext n still (λ k. eqb (get_or new k 0) (get_or old k 0)) r.low
    (λ k l. r.done k (omega arith) l ∙ ap (λ (m : ℕ). eqb m (get_or old k 0)) (sym (e k l)))

-- ---- a row of a pass
some_cut : (n w : ℕ) (f : ℕ → Bool) → n ≤ w → ((k : ℕ) → n ≤ k → f k ≡ false) → some_below w f ≡ some_below n f
some_cut n w f h none =
    iff (some_below w f) (some_below n f)
    (λ e.
    let r = below_out w f e in
    let l : n ≤ r.x → ⊥ = λ l. false≢true (sym (none r.x l) ∙ r.so) in
    below_in n f r.x (omega arith) r.so)
    (λ e. let r = below_out n f e in below_in w f r.x (omega (arith, r.under)) r.so)

module _ (w n : ℕ) (rows : List ℕ) (h : n ≤ w) (inside : Within w n rows) where
  pub within_lt : (i : ℕ) → get_or rows i 0 < 2 ^ n
  within_lt i = subst (λ (l : List ℕ). get_or l i 0 < 2 ^ n) (sym inside) (row_lt w n (ahead rows) i h)

  pub pass-row : (i : ℕ) → i < n → gather w rows (get_or rows i 0) (get_or rows i 0) ≡ goals_of n (pass n (ahead rows) (suc i))
  unfolding gather goals_of
  pass-row i l =
      set_of_ext n (gather w rows row row) (λ j. pass n (ahead rows) (suc i) (suc j)) small
      (λ j k.
      has-set_of_in w (λ j. has row j || some_below w (λ k. has row k && has (get_or rows k 0) j)) j (omega arith)
      ∙ ap (λ (t : Bool). has row j || t)
      (some_cut n w (λ k. has row k && has (get_or rows k 0) j) h
      (λ k m.
      is_false (has row k && has (get_or rows k 0) j)
      (λ e. absurd (omega (arith, member_below n row k (within_lt i) (and_l (has row k) (has (get_or rows k 0) j) e)))))))
    where
      row : ℕ
      row = get_or rows i 0

      small : gather w rows row row < 2 ^ n
      small =
          members_lt n (gather w rows row row)
          (λ j e.
          or_elim (has row j) (some_below w (λ k. has row k && has (get_or rows k 0) j))
          (and_r (ltb j w) (has row j || some_below w (λ k. has row k && has (get_or rows k 0) j)) (sym (has-set_of w (λ j. has row j || some_below w (λ k. has row k && has (get_or rows k 0) j)) j) ∙ e))
          (member_below n row j (within_lt i))
          (λ t.
          let r = below_out w (λ k. has row k && has (get_or rows k 0) j) t in
          member_below n (get_or rows r.x 0) j (within_lt r.x) (and_r (has row r.x) (has (get_or rows r.x 0) j) r.so)))

  -- to the rows that the pass keeps their members' rows add nothing
  pub kept_still : (i still : ℕ) → Kept n (λ k. goals_of n (pass n (ahead rows) (suc k))) rows i still → Still rows still
  kept_still i still r k a b e p q =
      let row = get_or rows k 0 in
      let two : ℕ → Bool = λ c. has row c && has (get_or rows c 0) b in
      let f = pass n (ahead rows) (suc k) in
      let from : k < i → ⊥ = λ u. false≢true (sym (r.rest k u) ∙ e) in
      let same : goals_of n f ≡ row = eqb-true (goals_of n f) row (sym (r.done k (omega arith) (member_below n still k r.low e)) ∙ e) in
      ap (λ (m : ℕ). has m b) (sym same) ∙ goals-has n f (suc b) (omega arith) (member_below n (get_or rows a 0) b (within_lt a) q)
      ∙ or_r (has row b) (some_below n two)
      (below_in n two a (member_below n row a (within_lt k) p) (and_i (has row a) (has (get_or rows a 0) b) p q))

-- ---- the rows that are the same before and after
module _ (n : ℕ) (old new : List ℕ) where
  pub same_at : same_rows n old new ≡ below n → (i : ℕ) → i < n → get_or new i 0 ≡ get_or old i 0
  unfolding same_rows
  same_at e i l =
      eqb-true (get_or new i 0) (get_or old i 0)
      (sym (has-set_of_in n (λ i. eqb (get_or new i 0) (get_or old i 0)) i l) ∙ ap (λ (m : ℕ). has m i) e ∙ has-below n i ∙ lt-ltb i n l)

  pub same-all : ((i : ℕ) → i < n → get_or new i 0 ≡ get_or old i 0) → same_rows n old new ≡ below n
  unfolding same_rows
  same-all e =
      sym
      (set_of_ext n (below n) (λ i. eqb (get_or new i 0) (get_or old i 0)) (omega (arith, pow_pos n))
      (λ i l. has-below n i ∙ lt-ltb i n l ∙ sym (eq-eqb (get_or new i 0) (get_or old i 0) (e i l))))

  -- rows of n goals in which none differs are the same array
  pub same_whole : (w : ℕ) (f : ℕ → ℕ) → Within w n old → new ≡ table w n f → same_rows n old new ≡ below n → old ≡ new
  same_whole w f inside t e =
      table_ext w n f old (ap length inside ∙ rows_length w n (ahead old))
      (λ i a l. sym (same_at e i l) ∙ ap (λ (r : List ℕ). get_or r i 0) t ∙ table_at w n f i a l)
      (λ i a l. ap (λ (r : List ℕ). get_or r i 0) inside ∙ row-past w n (ahead old) i l)
      ∙ sym t
