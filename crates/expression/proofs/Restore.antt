-- `restore` keeps the goals and the order and gives house form; a house form it leaves as it is.
use mathlib.Core.Path.{◌≡◌, refl, sym, ap, ap₂, ◌∙◌, subst}
use mathlib.Core.Bool.{Bool, true, false, cond, beq, true≢false, false≢true}
use mathlib.Core.Logic.{◌⊎◌, inl, inr, ⊎_elim, ◌↔◌}
use Prim.Native.Nat.{ℕ, ◌+◌, ◌≤◌, ◌<◌}
use native.Mathlib.Omega.{arith}
use borrow.Author.Tests.{leb-true, le-leb}
use Rattle.logic.proofs.Bools.{iff}
use Rattle.expression.specs.Expr.{Expr, goal, join, Members, one, more, times, times_m, before, Once, NoJoin, Ascend, House, HouseM, least}
use Rattle.expression.specs.Form.{joined}
use Rattle.expression.specs.Restore.{parts, ahead, put, merge, restore, restore_m}
use Rattle.expression.proofs.Fits.{In, InM, Apart, Cross, Fits, FitsM}
use Rattle.expression.proofs.Least.{least_in, least_le, least_m_le}
use Rattle.expression.proofs.Pick.{ascend, joined_in, in_joined, joined-fits, joined_house}
use Rattle.expression.proofs.Insert.{apart_sym}
use Rattle.logic.proofs.Bools.{by_test, or-true as or_cases, or-false as or_parts, beq_true, beq_false}
use Rattle.expression.proofs.Unique.{unique}
use Rattle.expression.proofs.Spec.{in_times, times_in, fits-before, before-fits, before_in}

-- ---- which goals stand in what comes out
pub put_in : (k : Bool) (e : Expr) (ms : Members) (i : ℕ) → InM i (put k e ms) ↔ (In i e ⊎ InM i ms)
put_in k e (one m) i =
    by_test (λ z. InM i z ↔ (In i e ⊎ In i m)) (ahead k e m) (λ t. (λ h. h, λ h. h)) (λ t. (⊎_elim inr inl, ⊎_elim inr inl))
put_in k e (more m ms) i =
    by_test (λ z. InM i z ↔ (In i e ⊎ (In i m ⊎ InM i ms))) (ahead k e m)
    (λ t. (λ h. h, λ h. h))
    (λ t.
    let c = put_in k e ms i in
    (⊎_elim (λ h. inr (inl h)) (λ h. ⊎_elim inl (λ r. inr (inr r)) (c.0 h)), ⊎_elim (λ h. inr (c.1 (inl h))) (⊎_elim inl (λ h. inr (c.1 (inr h))))))

pub merge_in : (k : Bool) (es ms : Members) (i : ℕ) → InM i (merge k es ms) ↔ (InM i es ⊎ InM i ms)
merge_in k (one e) ms i = put_in k e ms i
merge_in k (more e es) ms i =
    let c = merge_in k es ms i in
    let d = put_in k e (merge k es ms) i in (
      (λ h. ⊎_elim (λ r. inl (inl r)) (λ r. ⊎_elim (λ s. inl (inr s)) inr (c.0 r)) (d.0 h)),
      ⊎_elim (⊎_elim (λ r. d.1 (inl r)) (λ r. d.1 (inr (c.1 (inl r))))) (λ r. d.1 (inr (c.1 (inr r)))),
    )

pub parts_in : (k : Bool) (e : Expr) (i : ℕ) → InM i (parts k e) ↔ In i e
parts_in k (goal g) i = (λ h. h, λ h. h)
parts_in k (join h e ms) i = by_test (λ z. InM i z ↔ In i (join h e ms)) (beq h k) (λ t. (λ r. r, λ r. r)) (λ t. (λ r. r, λ r. r))

-- ---- how often: as often as before, also in an expression that uses a number twice
put_times : (k : Bool) (e : Expr) (ms : Members) (i : ℕ) → times_m (put k e ms) i ≡ times e i + times_m ms i
put_times k e (one m) i = by_test (λ z. times_m z i ≡ times e i + times m i) (ahead k e m) (λ t. refl) (λ t. omega arith)
put_times k e (more m ms) i =
    by_test (λ z. times_m z i ≡ times e i + (times m i + times_m ms i)) (ahead k e m) (λ t. refl) (λ t. omega (arith, put_times k e ms i))

merge_times : (k : Bool) (es ms : Members) (i : ℕ) → times_m (merge k es ms) i ≡ times_m es i + times_m ms i
merge_times k (one e) ms i = put_times k e ms i
merge_times k (more e es) ms i = omega (arith, put_times k e (merge k es ms) i, merge_times k es ms i)

parts_times : (k : Bool) (e : Expr) (i : ℕ) → times_m (parts k e) i ≡ times e i
parts_times k (goal g) i = refl
parts_times k (join h e ms) i = by_test (λ z. times_m z i ≡ times (join h e ms) i) (beq h k) (λ t. refl) (λ t. refl)

joined_times : (k : Bool) (ms : Members) (i : ℕ) → times (joined k ms) i ≡ times_m ms i
joined_times k (one e) i = refl
joined_times k (more e ms) i = refl

mutual
  pub restore_times : (e : Expr) (i : ℕ) → times (restore e) i ≡ times e i
  restore_times (goal g) i = refl
  restore_times (join k e ms) i =
      let g = merge k (parts k (restore e)) (restore_m k ms) in
      omega (
        arith,
        joined_times k g i,
        merge_times k (parts k (restore e)) (restore_m k ms) i,
        parts_times k (restore e) i,
        restore_times e i,
        restore_times_m k ms i,
      )

  restore_times_m : (k : Bool) (ms : Members) (i : ℕ) → times_m (restore_m k ms) i ≡ times_m ms i
  restore_times_m k (one e) i = parts_times k (restore e) i ∙ restore_times e i
  restore_times_m k (more e ms) i =
      omega (arith, merge_times k (parts k (restore e)) (restore_m k ms) i, parts_times k (restore e) i, restore_times e i, restore_times_m k ms i)

-- ---- one more member, of which no goal stands in the others
module _ (R : ℕ → ℕ → Bool) (k : Bool) where
  -- members change places only in a group, and there they may
  turn : (e m : Expr) → ahead k e m ≡ false → Cross R k (λ i. In i e) (λ i. In i m) → Cross R k (λ i. In i m) (λ i. In i e)
  turn e m t x i j p q =
      let h : k ≡ false = (or_parts k _ t).0 in
      subst (λ b. Apart R b i j) (sym h) (apart_sym (subst (λ b. Apart R b j i) h (x j i q p)))

  pub put-fits : (e : Expr) (ms : Members) → Fits R e → FitsM R k ms → Cross R k (λ i. In i e) (λ i. InM i ms) → FitsM R k (put k e ms)
  put-fits e (one m) f g x =
      by_test (FitsM R k) (ahead k e m) (λ t. (f, g, x))
      (λ t. (g, f, turn e m t x))
  put-fits e (more m ms) f g x =
      by_test (FitsM R k) (ahead k e m) (λ t. (f, g, x))
      (λ t. (
        g.0,
        put-fits e ms f g.1 (λ i j p q. x i j p (inr q)),
        λ i j p q.
            ⊎_elim (λ r. turn e m t (λ i j p q. x i j p (inl q)) i j p r) (λ r. g.2 i j p r)
            ((put_in k e ms j).0 q),
      ))

  -- the first of two has the smaller least goal, if their goals differ
  front : (e m : Expr) → ((i : ℕ) → In i e → In i m → ⊥) → ahead k e m ≡ true → k ≡ false → least e < least m
  front e m d t h =
      let g = leb-true (least e) (least m) (⊎_elim (λ r. absurd (true≢false (sym r ∙ h))) (λ r. r) (or_cases k _ t)) in
      let n : least e ≡ least m → ⊥ = λ q. d (least e) (least_in e) (subst (λ z. In z m) (sym q) (least_in m)) in
      omega arith

  back : (e m : Expr) → ahead k e m ≡ false → least m < least e
  back e m t =
      let n : least e ≤ least m → ⊥ = λ q. true≢false (sym (le-leb (least e) (least m) q) ∙ (or_parts k _ t).1) in
      omega arith

  pub put_house : (e : Expr) (ms : Members) → House e → NoJoin k e → HouseM k ms → ((i : ℕ) → In i e → InM i ms → ⊥) → HouseM k (put k e ms)
  put_house e (one m) w n h d =
      by_test (HouseM k) (ahead k e m)
      (λ t. (w, n, λ q. front e m d t q, h))
      (λ t. (h.0, h.1, λ q. back e m t, (w, n)))
  put_house e (more m ms) w n h d =
      by_test (HouseM k) (ahead k e m)
      (λ t. (w, n, λ q. omega (arith, front e m (λ i p r. d i p (inl r)) t q, h.2 q), h))
      (λ t. (
        h.0,
        h.1,
        ascend k m (put k e ms)
            (λ q j r. ⊎_elim (λ s. omega (arith, back e m t, least_le e j s)) (λ s. omega (arith, h.2 q, least_m_le ms j s)) ((put_in k e ms j).0 r)),
        put_house e ms w n h.3 (λ i p r. d i p (inr r)),
      ))

  -- ---- several members
  pub merge-fits : (es ms : Members) → FitsM R k es → FitsM R k ms → Cross R k (λ i. InM i es) (λ i. InM i ms) → FitsM R k (merge k es ms)
  merge-fits (one e) ms f g x = put-fits e ms f g x
  merge-fits (more e es) ms f g x =
      put-fits e (merge k es ms) f.0 (merge-fits es ms f.1 g (λ i j p q. x i j (inr p) q))
      (λ i j p q. ⊎_elim (λ r. f.2 i j p r) (λ r. x i j (inl p) r) ((merge_in k es ms j).0 q))

  pub merge_house : (es ms : Members) → FitsM R k es → HouseM k es → HouseM k ms → ((i : ℕ) → InM i es → InM i ms → ⊥) → HouseM k (merge k es ms)
  merge_house (one e) ms f w h d = put_house e ms w.0 w.1 h d
  merge_house (more e es) ms f w h d =
      put_house e (merge k es ms) w.0 w.1 (merge_house es ms f.1 w.3 h (λ i p q. d i (inr p) q))
      (λ i p q. ⊎_elim (λ r. (f.2 i i p r).differ refl) (λ r. d i (inl p) r) ((merge_in k es ms i).0 q))

  pub parts-fits : (e : Expr) → Fits R e → FitsM R k (parts k e)
  parts-fits (goal g) f = f
  parts-fits (join h e ms) f = by_test (FitsM R k) (beq h k) (λ t. subst (λ (b : Bool). Fits R (join b e ms)) (beq_true h k t) f) (λ t. f)

  pub parts_house : (e : Expr) → House e → HouseM k (parts k e)
  parts_house (goal g) w = (tt, tt)
  parts_house (join h e ms) w = by_test (HouseM k) (beq h k) (λ t. subst (λ (b : Bool). House (join b e ms)) (beq_true h k t) w) (λ t. (w, beq_false h k t))

-- ---- the whole
module _ (R : ℕ → ℕ → Bool) where
  pub record Restored (e e' : Expr) : Type 0 where
    pub covers : (i : ℕ) → In i e' ↔ In i e
    pub fits : Fits R e'
    pub house : House e'

  pub record RestoredM (k : Bool) (ms ms' : Members) : Type 0 where
    pub covers : (i : ℕ) → InM i ms' ↔ InM i ms
    pub fits : FitsM R k ms'
    pub house : HouseM k ms'

  -- one member
  of_one : (k : Bool) (e e' : Expr) → Restored e e' → RestoredM k (one e) (parts k e')
  of_one k e e' c =
      record {
        covers = λ i. (λ h. (c.covers i).0 ((parts_in k e' i).0 h), λ h. (parts_in k e' i).1 ((c.covers i).1 h));
        fits = parts-fits R k e' c.fits;
        house = parts_house R k e' c.house;
      }

  -- several
  of_several : (k : Bool) (e e' : Expr) (ms ms' : Members) → Cross R k (λ i. In i e) (λ i. InM i ms) → Restored e e' → RestoredM k ms ms'
      → RestoredM k (more e ms) (merge k (parts k e') ms')
  of_several k e e' ms ms' x c d =
      let b = of_one k e e' c in
      let y : Cross R k (λ i. InM i (parts k e')) (λ i. InM i ms') = λ i j p q. x i j ((b.covers i).0 p) ((d.covers j).0 q) in
      record {
        covers =
            λ i. (
              (λ h. ⊎_elim (λ r. inl ((b.covers i).0 r)) (λ r. inr ((d.covers i).0 r)) ((merge_in k (parts k e') ms' i).0 h)),
              (λ h. (merge_in k (parts k e') ms' i).1 (⊎_elim (λ r. inl ((b.covers i).1 r)) (λ r. inr ((d.covers i).1 r)) h)),
            );
        fits = merge-fits R k (parts k e') ms' b.fits d.fits y;
        house = merge_house R k (parts k e') ms' b.fits b.house d.house (λ i p q. (y i i p q).differ refl);
      }

  mutual
    pub restored : (e : Expr) → Fits R e → Restored e (restore e)
    restored (goal g) f = record { covers = λ i. (λ h. h, λ h. h); fits = f; house = tt }
    restored (join k e ms) f =
        let c = of_several k e (restore e) ms (restore_m k ms) f.2 (restored e f.0) (restored_m k ms f.1) in
        let g = merge k (parts k (restore e)) (restore_m k ms) in
        record {
          covers = λ i. (λ h. (c.covers i).0 (joined_in k g i h), λ h. in_joined k g i ((c.covers i).1 h));
          fits = joined-fits R k g c.fits;
          house = joined_house k g c.house;
        }

    pub restored_m : (k : Bool) (ms : Members) → FitsM R k ms → RestoredM k ms (restore_m k ms)
    restored_m k (one e) f = of_one k e (restore e) (restored e f)
    restored_m k (more e ms) f = of_several k e (restore e) ms (restore_m k ms) f.2 (restored e f.0) (restored_m k ms f.1)

-- ---- in the words of the spec
module _ (e : Expr) (u : Once e) where
  -- e fits its own order
  own : Fits (before e) e
  own = before-fits (before e) e u (λ i j p q. refl)

  pub restore_house : House (restore e)
  restore_house = (restored (before e) e own).house

  pub restore_before : (i j : ℕ) → before (restore e) i j ≡ before e i j
  restore_before i j = iff (before (restore e) i j) (before e i j) back forth
    where
      r : Restored (before e) e (restore e)
      r = restored (before e) e own

      back : before (restore e) i j ≡ true → before e i j ≡ true
      back t = let p = before_in (restore e) i j t in sym (fits-before (before e) (restore e) r.fits i j p.0 p.1) ∙ t

      forth : before e i j ≡ true → before (restore e) i j ≡ true
      forth t = let p = before_in e i j t in fits-before (before e) (restore e) r.fits i j ((r.covers i).1 p.0) ((r.covers j).1 p.1) ∙ t

-- Two expressions that use no number twice, with the same goals and the same order, are restored to the same.
pub restore_eq : (e e' : Expr) → Once e → ((i : ℕ) → times e i ≡ times e' i) → ((i j : ℕ) → before e i j ≡ before e' i j) → restore e ≡ restore e'
restore_eq e e' u t b =
    let u' : Once e' = λ i. subst (λ n. n ≤ 1) (t i) (u i) in
    let r = restored (before e) e (own e u) in
    let r' = restored (before e) e' (before-fits (before e) e' u' (λ i j p q. sym (b i j))) in
    unique (before e) (restore e) (restore e') r.fits r'.fits r.house r'.house
    (λ i. (
      (λ p. (r'.covers i).1 (times_in e' i (subst (λ n. 1 ≤ n) (t i) (in_times e i ((r.covers i).0 p))))),
      (λ p. (r.covers i).1 (times_in e i (subst (λ n. 1 ≤ n) (sym (t i)) (in_times e' i ((r'.covers i).0 p))))),
    ))

-- ---- a house form stays
put_first : (k : Bool) (e : Expr) (ms : Members) → Ascend k e ms → put k e ms ≡ more e ms
put_first true e (one m) a = refl
put_first true e (more m ms) a = refl
put_first false e (one m) a = ap (λ b. cond b (more e (one m)) (more m (one e))) (le-leb (least e) (least m) (omega (arith, a refl)))
put_first false e (more m ms) a =
    ap (λ b. cond b (more e (more m ms)) (more m (put false e ms))) (le-leb (least e) (least m) (omega (arith, a refl)))

parts-alone : (k : Bool) (e : Expr) → NoJoin k e → parts k e ≡ one e
parts-alone k (goal g) n = refl
parts-alone true (join true e ms) n = absurd (true≢false n)
parts-alone true (join false e ms) n = refl
parts-alone false (join true e ms) n = refl
parts-alone false (join false e ms) n = absurd (false≢true n)

mutual
  pub restore_same : (e : Expr) → House e → restore e ≡ e
  restore_same (goal g) w = refl
  restore_same (join k e ms) w =
      ap (joined k) (ap₂ (merge k) (ap (parts k) (restore_same e w.0) ∙ parts-alone k e w.1) (restore_same_m k ms w.3) ∙ put_first k e ms w.2)

  restore_same_m : (k : Bool) (ms : Members) → HouseM k ms → restore_m k ms ≡ ms
  restore_same_m k (one e) w = ap (parts k) (restore_same e w.0) ∙ parts-alone k e w.1
  restore_same_m k (more e ms) w =
      ap₂ (merge k) (ap (parts k) (restore_same e w.0) ∙ parts-alone k e w.1) (restore_same_m k ms w.3) ∙ put_first k e ms w.2
