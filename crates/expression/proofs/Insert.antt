-- T2, the step: `insert` puts a goal that is larger than all others into a house form that fits R, and the result is a house form that fits R.
use mathlib.Core.Path.{◌≡◌, refl, sym, ap, ◌∙◌, subst, subst₂}
use mathlib.Core.Bool.{Bool, true, false, not, true≢false, false≢true, not-not}
use mathlib.Core.Logic.{◌⊎◌, inl, inr, ⊎_elim, ◌↔◌}
use Prim.Native.Nat.{ℕ, ◌<◌}
use native.Mathlib.Omega.{arith}
use Rattle.expression.specs.Expr.{Expr, goal, join, Members, one, more, NoJoin, House, HouseM, least, NoN, Order}
use Rattle.expression.specs.Form.{joined, suits, suits_m, unsuited, aside, gather, insert, insert_m}
use Rattle.logic.proofs.Bools.{by_test, not-true, not_self}
use Rattle.expression.proofs.Fits.{In, InM, Apart, Cross, Fits, FitsM, tie_of, tie_back}
use Rattle.expression.proofs.Least.{least_in, least_le, least_m_le}
use Rattle.expression.proofs.Pick.{InP, inp_in, in_inp, pick_in, in_pick, pick-fits, pick_house, pick_joins, ascend, joined_in, in_joined, joined-fits, joined_house}
use Rattle.expression.proofs.Suits.{suits_all, suits_m_all, suits_not, suits_m_not, suited, no_back, apart, spread, spread_m}

-- in a group "apart" goes both ways
pub apart_sym : {R : ℕ → ℕ → Bool} {i j : ℕ} → Apart R false i j → Apart R false j i
apart_sym h = record { differ = λ e. h.differ (sym e); forth = h.back; back = h.forth }

-- the members that pass a test and those that do not
sorted : (R : ℕ → ℕ → Bool) (p : Expr → Bool) (ms : Members) → FitsM R false ms → (i j : ℕ) → InP (λ m. not (p m)) i ms → InP p j ms → Apart R false i j
sorted R p (one m) f i j h g = absurd (true≢false (sym g.0 ∙ not-true (p m) h.0))
sorted R p (more m ms) f i j (inl h) (inl g) = absurd (true≢false (sym g.0 ∙ not-true (p m) h.0))
sorted R p (more m ms) f i j (inl h) (inr g) = f.2 i j h.1 (inp_in p ms j g)
sorted R p (more m ms) f i j (inr h) (inl g) = apart_sym (f.2 j i g.1 (inp_in (λ m. not (p m)) ms i h))
sorted R p (more m ms) f i j (inr h) (inr g) = sorted R p ms f.1 i j h g

module _ (R : ℕ → ℕ → Bool) (S : ℕ → Type 0) (o : Order R S) (none : NoN R S) (v : ℕ) (sv : S v) where
  -- what is to be shown of the result e' of putting v into e
  pub record Inserted (e e' : Expr) : Type 0 where
    pub covers : (i : ℕ) → In i e' ↔ (In i e ⊎ (i ≡ v))
    pub fits : Fits R e'
    pub house : House e'
    pub keeps : (k : Bool) → NoJoin k e → suits R v k e ≡ false → NoJoin k e'

  pub record InsertedM (k : Bool) (ms ms' : Members) : Type 0 where
    pub covers : (i : ℕ) → InM i ms' ↔ (InM i ms ⊎ (i ≡ v))
    pub fits : FitsM R k ms'
    pub house : HouseM k ms'

  -- ---- x does not suit, and stands in an earlier member of a k join than j, which suits: so the join is a group
  module _ (k : Bool) {x j : ℕ} (sx : S x) (sj : S j) (hx : R x v ≡ not k) (a : Apart R k x j) (hj : R j v ≡ k) where
    no_later : k ≡ true → ⊥
    no_later h = false≢true (ap not (sym h) ∙ sym hx ∙ o.chained x j v sx sj sv (a.forth ∙ h) (hj ∙ h))

    v-first : j < v → Apart R k v j
    v-first l = go k refl
      where
        go : (h : Bool) → k ≡ h → Apart R k v j
        go true h = absurd (no_later h)
        go false h = subst (λ b. Apart R b v j) (sym h) (apart_sym (apart R S o v sv (sj, l) (hj ∙ h)))

  -- ---- two members or more do not suit
  module _ (k : Bool) (e : Expr) (ms : Members) (f : FitsM R k (more e ms)) (w : HouseM k (more e ms)) (l : (i : ℕ) → InM i (more e ms) → S i × (i < v))
      (se : suits R v k e ≡ false) (sm : suits_m R v k ms ≡ false) where
    -- v is to all of them as in a join of the other kind
    v-unsuited : (i : ℕ) → InM i (unsuited R v k e ms) → R i v ≡ not k
    v-unsuited i h =
        let z = suits_m_not R v k ms sm in
        let x = suits_not R v k e se in
        ⊎_elim
        (λ r. spread R S o v sv none k e f.0 w.1 (λ i p. l i (inl p)) z.0 (l z.0 (inr z.1)) z.2 (λ i p. tie_back (f.2 i z.0 p z.1)) se i r)
        (λ r. spread_m R S o v sv none k ms f.1 w.3 (λ i p. l i (inr p)) x.0 (l x.0 (inl x.1)) x.2 (λ i p. tie_of (f.2 x.0 i x.1 p)) i r)
        (pick_in (λ m. not (suits R v k m)) e ms i h)

    unsuited_in : (i : ℕ) → InM i (unsuited R v k e ms) → In i e ⊎ InM i ms
    unsuited_in i h = ⊎_elim inl (λ r. inr (inp_in (λ m. not (suits R v k m)) ms i r)) (pick_in (λ m. not (suits R v k m)) e ms i h)

    unsuited_house : HouseM k (unsuited R v k e ms)
    unsuited_house =
        pick_house (λ m. not (suits R v k m)) k e ms w.0 w.1 w.3
        (λ t j r. omega (arith, w.2 t, least_m_le ms j (inp_in (λ m. not (suits R v k m)) ms j r)))

    unsuited-fits : FitsM R k (unsuited R v k e ms)
    unsuited-fits = pick-fits (λ m. not (suits R v k m)) R k e ms f.0 f.1 (λ i j r s. f.2 i j r (inp_in (λ m. not (suits R v k m)) ms j s))

    -- one of ms does not suit
    unsuited_some : (i : ℕ) × InP (λ m. not (suits R v k m)) i ms
    unsuited_some =
        let z = suits_m_not R v k ms sm in (
          z.0,
          ⊎_elim (λ h. absurd (not_self k (sym (suited R v k ms z.0 h) ∙ z.2))) (λ h. h) (in_inp (λ m. suits R v k m) ms z.0 z.1),
        )

    aside_in : (i : ℕ) → In i (aside R v k e ms) → InM i (unsuited R v k e ms) ⊎ (i ≡ v)
    aside_in i (inl h) = inl (joined_in k (unsuited R v k e ms) i h)
    aside_in i (inr h) = inr h

    aside-fits : Fits R (aside R v k e ms)
    aside-fits = (
      joined-fits R k (unsuited R v k e ms) unsuited-fits,
      no_back R S o sv sv (omega arith),
      λ i j r s.
          let t = joined_in k (unsuited R v k e ms) i r in
          subst (λ x. Apart R (not k) i x) (sym s) (apart R S o v sv (l i (unsuited_in i t)) (v-unsuited i t)),
    )

    aside_house : House (aside R v k e ms)
    aside_house =
        let y = joined k (unsuited R v k e ms) in
        let t = joined_in k (unsuited R v k e ms) (least y) (least_in y) in (
          joined_house k (unsuited R v k e ms) unsuited_house,
          pick_joins (λ m. not (suits R v k m)) k e ms unsuited_some.0 unsuited_some.1,
          λ _. (l (least y) (unsuited_in (least y) t)).1,
          (tt, tt),
        )

    -- a member of ms that suits is apart from v and from those that do not suit; in a sequence there is none
    gather-apart : Cross R k (λ i. In i (aside R v k e ms)) (λ j. InP (λ m. suits R v k m) j ms)
    gather-apart i j r s = ⊎_elim there here (aside_in i r)
      where
        x : (i : ℕ) × In i e × (R i v ≡ not k)
        x = suits_not R v k e se

        here : i ≡ v → Apart R k i j
        here h =
            let t = inp_in (λ m. suits R v k m) ms j s in
            subst (λ z. Apart R k z j) (sym h) (v-first k (l x.0 (inl x.1)).0 (l j (inr t)).0 x.2 (f.2 x.0 j x.1 t) (suited R v k ms j s) (l j (inr t)).1)

        later : InP (λ m. not (suits R v k m)) i ms → (h : Bool) → k ≡ h → Apart R k i j
        later u true h = let t = inp_in (λ m. suits R v k m) ms j s in absurd (no_later k (l x.0 (inl x.1)).0 (l j (inr t)).0 x.2 (f.2 x.0 j x.1 t) (suited R v k ms j s) h)
        later u false h = subst (λ b. Apart R b i j) (sym h) (sorted R (λ m. suits R v k m) ms (subst (λ b. FitsM R b ms) h f.1) i j u s)

        there : InM i (unsuited R v k e ms) → Apart R k i j
        there h =
            ⊎_elim (λ u. f.2 i j u (inp_in (λ m. suits R v k m) ms j s)) (λ u. later u k refl)
            (pick_in (λ m. not (suits R v k m)) e ms i h)

    in_aside : (i : ℕ) → In i e ⊎ InP (λ m. not (suits R v k m)) i ms → In i (aside R v k e ms)
    in_aside i h = inl (in_joined k (unsuited R v k e ms) i (in_pick (λ m. not (suits R v k m)) e ms i h))

    in_gather : (i : ℕ) → In i (aside R v k e ms) ⊎ InP (λ m. suits R v k m) i ms → InM i (gather R v k e ms)
    in_gather i h = in_pick (λ m. suits R v k m) (aside R v k e ms) ms i h

    gathered : InsertedM k (more e ms) (gather R v k e ms)
    gathered =
        record {
          covers =
              λ i. (
                (λ h.
                    ⊎_elim (λ r. ⊎_elim (λ t. inl (unsuited_in i t)) inr (aside_in i r)) (λ r. inl (inr (inp_in (λ m. suits R v k m) ms i r)))
                    (pick_in (λ m. suits R v k m) (aside R v k e ms) ms i h)),
                ⊎_elim
                    (⊎_elim (λ h. in_gather i (inl (in_aside i (inl h))))
                    (λ h. ⊎_elim (λ r. in_gather i (inr r)) (λ r. in_gather i (inl (in_aside i (inr r)))) (in_inp (λ m. suits R v k m) ms i h)))
                    (λ h. in_gather i (inl (inr h))),
              );
          fits = pick-fits (λ m. suits R v k m) R k (aside R v k e ms) ms aside-fits f.1 gather-apart;
          house =
              pick_house (λ m. suits R v k m) k (aside R v k e ms) ms aside_house refl w.3
              (λ t j r.
              omega (
                arith,
                least_le (aside R v k e ms) (least e) (in_aside (least e) (inl (least_in e))),
                w.2 t,
                least_m_le ms j (inp_in (λ m. suits R v k m) ms j r),
              ));
        }

    -- if some goal suits, several members are left
    gather_joins : (z : ℕ) → InM z (more e ms) → R z v ≡ k → NoJoin (not k) (joined k (gather R v k e ms))
    gather_joins z h t = ⊎_elim (λ r. absurd (clash (inl r))) (λ r. ⊎_elim suit (λ u. absurd (clash (inr u))) (in_inp (λ m. suits R v k m) ms z r)) h
      where
        clash : In z e ⊎ InP (λ m. not (suits R v k m)) z ms → ⊥
        clash r = not_self k (sym t ∙ v-unsuited z (in_pick (λ m. not (suits R v k m)) e ms z r))

        suit : InP (λ m. suits R v k m) z ms → NoJoin (not k) (joined k (gather R v k e ms))
        suit r = pick_joins (λ m. suits R v k m) k (aside R v k e ms) ms z r

    whole : Inserted (join k e ms) (joined k (gather R v k e ms))
    whole =
        let g = gather R v k e ms in
        record {
          covers = λ i. (λ h. (gathered.covers i).0 (joined_in k g i h), λ h. in_joined k g i ((gathered.covers i).1 h));
          fits = joined-fits R k g gathered.fits;
          house = joined_house k g gathered.house;
          keeps =
              λ h n s.
              let z = suits_not R v h (join k e ms) s in
              subst (λ b. NoJoin b (joined k g)) (ap not n ∙ not-not h) (gather_joins z.0 z.1 (z.2 ∙ sym n));
        }

  -- ---- the first member suits: v goes to the later ones
  later : (k : Bool) (e : Expr) (ms ms' : Members) → FitsM R k (more e ms) → HouseM k (more e ms) → ((i : ℕ) → InM i (more e ms) → S i × (i < v))
      → suits R v k e ≡ true → InsertedM k ms ms' → InsertedM k (more e ms) (more e ms')
  later k e ms ms' f w l s c =
      record {
        covers =
            λ i. (
              ⊎_elim (λ h. inl (inl h)) (λ h. ⊎_elim (λ r. inl (inr r)) inr ((c.covers i).0 h)),
              ⊎_elim (⊎_elim inl (λ h. inr ((c.covers i).1 (inl h)))) (λ h. inr ((c.covers i).1 (inr h))),
            );
        fits = (
          f.0,
          c.fits,
          λ i j p q.
              ⊎_elim (λ h. f.2 i j p h) (λ h. subst (λ z. Apart R k i z) (sym h) (apart R S o v sv (l i (inl p)) (suits_all R v k e s i p))) ((c.covers j).0 q),
        );
        house = (
          w.0,
          w.1,
          ascend k e ms'
              (λ t j q.
              ⊎_elim (λ h. omega (arith, w.2 t, least_m_le ms j h)) (λ h. omega (arith, (l (least e) (inl (least_in e))).1)) ((c.covers j).0 q)),
          c.house,
        );
      }

  -- ---- only the first member does not suit: v goes into it
  here : (k : Bool) (e e' : Expr) (ms : Members) → FitsM R k (more e ms) → HouseM k (more e ms) → ((i : ℕ) → InM i (more e ms) → S i × (i < v))
      → suits R v k e ≡ false → suits_m R v k ms ≡ true → Inserted e e' → InsertedM k (more e ms) (more e' ms)
  here k e e' ms f w l s t c =
      record {
        covers =
            λ i. (
              ⊎_elim (λ h. ⊎_elim (λ r. inl (inl r)) inr ((c.covers i).0 h)) (λ h. inl (inr h)),
              ⊎_elim (⊎_elim (λ h. inl ((c.covers i).1 (inl h))) inr) (λ h. inl ((c.covers i).1 (inr h))),
            );
        fits = (
          c.fits,
          f.1,
          λ i j p q.
              let x = suits_not R v k e s in
              ⊎_elim (λ h. f.2 i j h q)
              (λ h. subst (λ z. Apart R k z j) (sym h) (v-first k (l x.0 (inl x.1)).0 (l j (inr q)).0 x.2 (f.2 x.0 j x.1 q) (suits_m_all R v k ms t j q) (l j (inr q)).1))
              ((c.covers i).0 p),
        );
        house = (
          c.house,
          c.keeps k w.1 s,
          ascend k e' ms
              (λ u j q. omega (arith, least_le e' (least e) ((c.covers (least e)).1 (inl (least_in e))), w.2 u, least_m_le ms j q)),
          w.3,
        );
      }

  -- a join of two or more members is as its members are
  of_more : {k : Bool} {e e' : Expr} {ms ms' : Members} → InsertedM k (more e ms) (more e' ms') → Inserted (join k e ms) (join k e' ms')
  of_more c = record { covers = c.covers; fits = c.fits; house = c.house; keeps = λ h n s. n }

  mutual
    pub inserted : (e : Expr) → Fits R e → House e → ((i : ℕ) → In i e → S i × (i < v)) → Inserted e (insert R v e)
    inserted (goal g) f w l =
        record {
          covers = λ i. (λ h. h, λ h. h);
          fits = (f, no_back R S o sv sv (omega arith), λ i j p q. subst₂ (Apart R (R g v)) (sym p) (sym q) (apart R S o v sv (l g refl) refl));
          house = (tt, tt, λ _. (l g refl).1, (tt, tt));
          keeps = λ k n s. let x = suits_not R v k (goal g) s in ap (λ z. R z v) (sym x.1) ∙ x.2;
        }
    inserted (join k e ms) f w l =
        by_test (Inserted (join k e ms)) (suits R v k e)
        (λ s. of_more (later k e ms (insert_m R v k ms) f w l s (inserted_m k ms f.1 w.3 (λ i p. l i (inr p)))))
        (λ s.
        by_test (Inserted (join k e ms)) (suits_m R v k ms)
        (λ t. of_more (here k e (insert R v e) ms f w l s t (inserted e f.0 w.0 (λ i p. l i (inl p)))))
        (λ t. whole k e ms f w l s t))

    pub inserted_m : (k : Bool) (ms : Members) → FitsM R k ms → HouseM k ms → ((i : ℕ) → InM i ms → S i × (i < v)) → InsertedM k ms (insert_m R v k ms)
    inserted_m k (one e) f w l =
        by_test (InsertedM k (one e)) (suits R v k e)
        (λ s.
        record {
          covers = λ i. (λ h. h, λ h. h);
          fits = (f, no_back R S o sv sv (omega arith), λ i j p q. subst (λ z. Apart R k i z) (sym q) (apart R S o v sv (l i p) (suits_all R v k e s i p)));
          house = (w.0, w.1, λ _. (l (least e) (least_in e)).1, (tt, tt));
        })
        (λ s. let c = inserted e f w.0 l in record { covers = c.covers; fits = c.fits; house = (c.house, c.keeps k w.1 s) })
    inserted_m k (more e ms) f w l =
        by_test (InsertedM k (more e ms)) (suits R v k e)
        (λ s. later k e ms (insert_m R v k ms) f w l s (inserted_m k ms f.1 w.3 (λ i p. l i (inr p))))
        (λ s.
        by_test (InsertedM k (more e ms)) (suits_m R v k ms)
        (λ t. here k e (insert R v e) ms f w l s t (inserted e f.0 w.0 (λ i p. l i (inl p))))
        (λ t. gathered k e ms f w l s t))
