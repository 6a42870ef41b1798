-- T2 for any strict order, also against the numbers: an order without an N has a house form, `form_list` of any list without repetition.
use mathlib.Core.Path.{◌≡◌, refl, sym, ap, ◌∙◌, subst, subst₂}
use mathlib.Core.Bool.{Bool, true, false, true≢false}
use mathlib.Core.List.{List, [], ◌∷◌}
use mathlib.Core.Logic.{◌⊎◌, inl, inr, ⊎_elim, ◌↔◌}
use Prim.Native.Nat.{ℕ, zero, suc, ◌≤◌, ◌<◌}
use native.Mathlib.Omega.{arith}
use native.Mathlib.Decide.{dec_le}
use lib.ListN.{length}
use Rattle.logic.proofs.Bools.{is_false}
use Rattle.expression.specs.Expr.{Expr, goal, join, Members, one, more, Goals, HouseForm, NoN, Order}
use Rattle.expression.specs.Form.{form, chosen, up_from}
use Rattle.expression.specs.Arrange.{Strict, rename, rename_m, at, row, along, place, arrange, form_row, form_list, form_on_any, form_any}
use Rattle.expression.proofs.Fits.{In, InM, Apart, Cross, Fits, FitsM}
use Rattle.logic.proofs.Bools.{by_test}
use Rattle.expression.proofs.Exists.{Form, form-set, form_on_lem, Member, chosen_member, chosen-goals, member_up}
use Rattle.expression.proofs.Restore.{restored}
use Rattle.expression.proofs.Search.{is_n_lem, n_is}
use Rattle.expression.proofs.Uses.{form_house, all_pass}

-- ---- other numbers
module _ (f : ℕ → ℕ) where
  mutual
    rename_in : (e : Expr) (j : ℕ) → In j (rename f e) → (i : ℕ) × In i e × (j ≡ f i)
    rename_in (goal g) j h = (g, refl, h)
    rename_in (join k e ms) j (inl h) = let x = rename_in e j h in (x.0, inl x.1, x.2)
    rename_in (join k e ms) j (inr h) = let x = rename_in_m ms j h in (x.0, inr x.1, x.2)

    rename_in_m : (ms : Members) (j : ℕ) → InM j (rename_m f ms) → (i : ℕ) × InM i ms × (j ≡ f i)
    rename_in_m (one e) j h = rename_in e j h
    rename_in_m (more e ms) j (inl h) = let x = rename_in e j h in (x.0, inl x.1, x.2)
    rename_in_m (more e ms) j (inr h) = let x = rename_in_m ms j h in (x.0, inr x.1, x.2)

  mutual
    in_rename : (e : Expr) (i : ℕ) → In i e → In (f i) (rename f e)
    in_rename (goal g) i h = ap f h
    in_rename (join k e ms) i (inl h) = inl (in_rename e i h)
    in_rename (join k e ms) i (inr h) = inr (in_rename_m ms i h)

    in_rename_m : (ms : Members) (i : ℕ) → InM i ms → InM (f i) (rename_m f ms)
    in_rename_m (one e) i h = in_rename e i h
    in_rename_m (more e ms) i (inl h) = inl (in_rename e i h)
    in_rename_m (more e ms) i (inr h) = inr (in_rename_m ms i h)

  -- f writes different numbers for different ones of the set S
  module _ (R : ℕ → ℕ → Bool) (S : ℕ → Type 0) (inj : (i j : ℕ) → S i → S j → f i ≡ f j → i ≡ j) where
    rename_cross : (k : Bool) (e : Expr) (ms : Members) → ((i : ℕ) → In i e ⊎ InM i ms → S i) → Cross (λ i j. R (f i) (f j)) k (λ i. In i e) (λ i. InM i ms)
        → Cross R k (λ i. In i (rename f e)) (λ i. InM i (rename_m f ms))
    rename_cross k e ms s x i j p q =
        let a = rename_in e i p in
        let b = rename_in_m ms j q in
        let h = x a.0 b.0 a.1 b.1 in
        subst₂ (Apart R k) (sym a.2) (sym b.2)
        (record { differ = λ t. h.differ (inj a.0 b.0 (s a.0 (inl a.1)) (s b.0 (inr b.1)) t); forth = h.forth; back = h.back })

    mutual
      rename_fits : (e : Expr) → ((i : ℕ) → In i e → S i) → Fits (λ i j. R (f i) (f j)) e → Fits R (rename f e)
      rename_fits (goal g) s h = h
      rename_fits (join k e ms) s h =
          (rename_fits e (λ i p. s i (inl p)) h.0, rename_fits_m k ms (λ i p. s i (inr p)) h.1, rename_cross k e ms s h.2)

      rename_fits_m : (k : Bool) (ms : Members) → ((i : ℕ) → InM i ms → S i) → FitsM (λ i j. R (f i) (f j)) k ms → FitsM R k (rename_m f ms)
      rename_fits_m k (one e) s h = rename_fits e s h
      rename_fits_m k (more e ms) s h =
          (rename_fits e (λ i p. s i (inl p)) h.0, rename_fits_m k ms (λ i p. s i (inr p)) h.1, rename_cross k e ms s h.2)

-- ---- lists without repetition, and their places
abbrev pub Distinct : List ℕ → Type 0
Distinct [] = Unit {0}
Distinct (x ∷ l) = (Member x l → ⊥) × Distinct l

at_member : (l : List ℕ) (i : ℕ) → i < length l → Member (at l i) l
at_member [] i h = absurd (omega arith)
at_member (x ∷ l) zero h = inl refl
at_member (x ∷ l) (suc i) h = inr (at_member l i (omega (arith, h)))

member_at : (l : List ℕ) (x : ℕ) → Member x l → (i : ℕ) × (i < length l) × (x ≡ at l i)
member_at [] x h = absurd h
member_at (y ∷ l) x (inl h) = (0, omega arith, h)
member_at (y ∷ l) x (inr h) = let r = member_at l x h in (suc r.0, omega (arith, r.1), r.2)

at-differ : (l : List ℕ) → Distinct l → (i j : ℕ) → i < length l → j < length l → at l i ≡ at l j → i ≡ j
at-differ [] d i j h g e = absurd (omega arith)
at-differ (x ∷ l) d zero zero h g e = refl
at-differ (x ∷ l) d zero (suc j) h g e = absurd (d.0 (subst (λ z. Member z l) (sym e) (at_member l j (omega (arith, g)))))
at-differ (x ∷ l) d (suc i) zero h g e = absurd (d.0 (subst (λ z. Member z l) e (at_member l i (omega (arith, h)))))
at-differ (x ∷ l) d (suc i) (suc j) h g e = ap suc (at-differ l d.1 i j (omega (arith, h)) (omega (arith, g)) e)

module _ (R : ℕ → ℕ → Bool) where
  -- ---- rows: none stands behind one that it comes before
  abbrev Row : List ℕ → Type 0
  Row [] = Unit {0}
  Row (x ∷ l) = ((y : ℕ) → Member y l → R y x ≡ false) × Row l

  place_member : (v : ℕ) (l : List ℕ) (i : ℕ) → Member i (place R v l) ↔ ((i ≡ v) ⊎ Member i l)
  place_member v [] i = (λ h. h, λ h. h)
  place_member v (x ∷ l) i =
      by_test (λ z. Member i z ↔ ((i ≡ v) ⊎ ((i ≡ x) ⊎ Member i l))) (R v x)
      (λ t. (λ h. h, λ h. h))
      (λ t.
      let c = place_member v l i in
      (⊎_elim (λ h. inr (inl h)) (λ h. ⊎_elim inl (λ r. inr (inr r)) (c.0 h)), ⊎_elim (λ h. inr (c.1 (inl h))) (⊎_elim inl (λ h. inr (c.1 (inr h))))))

  place-distinct : (v : ℕ) (l : List ℕ) → (Member v l → ⊥) → Distinct l → Distinct (place R v l)
  place-distinct v [] n d = (n, tt)
  place-distinct v (x ∷ l) n d =
      by_test Distinct (R v x) (λ t. (n, d))
      (λ t. ((λ h. ⊎_elim (λ r. n (inl (sym r))) d.0 ((place_member v l x).0 h)), place-distinct v l (λ h. n (inr h)) d.1))

  module _ (S : ℕ → Type 0) (o : Strict R S) where
    unback : (i j : ℕ) → S i → S j → R i j ≡ true → R j i ≡ false
    unback i j si sj h = is_false (R j i) (λ t. true≢false (sym (o.chained i j i si sj si h t) ∙ o.unlike i si))

    place-row : (v : ℕ) (l : List ℕ) → S v → ((i : ℕ) → Member i l → S i) → Row l → Row (place R v l)
    place-row v [] sv s r = ((λ y h. absurd h), tt)
    place-row v (x ∷ l) sv s r =
        by_test Row (R v x)
        (λ t. (
          (λ y h.
              ⊎_elim (λ e. subst (λ z. R z v ≡ false) (sym e) (unback v x sv (s x (inl refl)) t))
              (λ m. is_false (R y v) (λ u. true≢false (sym (o.chained y v x (s y (inr m)) sv (s x (inl refl)) u t) ∙ r.0 y m))) h),
          r,
        ))
        (λ t. (
          (λ y h. ⊎_elim (λ e. subst (λ z. R z x ≡ false) (sym e) t) (λ m. r.0 y m) ((place_member v l y).0 h)),
          place-row v l sv (λ i m. s i (inr m)) r.1,
        ))

    arrange_member : (l : List ℕ) (i : ℕ) → Member i (arrange R l) ↔ Member i l
    arrange_member [] i = (λ h. h, λ h. h)
    arrange_member (x ∷ l) i =
        let c = arrange_member l i in
        let d = place_member x (arrange R l) i in
        (λ h. ⊎_elim inl (λ m. inr (c.0 m)) (d.0 h), λ h. d.1 (⊎_elim inl (λ m. inr (c.1 m)) h))

    arrange-distinct : (l : List ℕ) → Distinct l → Distinct (arrange R l)
    arrange-distinct [] d = tt
    arrange-distinct (x ∷ l) d = place-distinct x (arrange R l) (λ h. d.0 ((arrange_member l x).0 h)) (arrange-distinct l d.1)

    arrange-row : (l : List ℕ) → ((i : ℕ) → Member i l → S i) → Row (arrange R l)
    arrange-row [] s = tt
    arrange-row (x ∷ l) s =
        place-row x (arrange R l) (s x (inl refl)) (λ i h. s i (inr ((arrange_member l i).0 h))) (arrange-row l (λ i h. s i (inr h)))

    -- the order goes up along a row
    row_back : (l : List ℕ) → ((i : ℕ) → Member i l → S i) → Row l → (i j : ℕ) → i < length l → j ≤ i → R (at l i) (at l j) ≡ false
    row_back [] s r i j h g = absurd (omega arith)
    row_back (x ∷ l) s r zero zero h g = o.unlike x (s x (inl refl))
    row_back (x ∷ l) s r zero (suc j) h g = absurd (omega arith)
    row_back (x ∷ l) s r (suc i) zero h g = r.0 (at l i) (at_member l i (omega (arith, h)))
    row_back (x ∷ l) s r (suc i) (suc j) h g = row_back l (λ i m. s i (inr m)) r.1 i j (omega (arith, h)) (omega (arith, g))

    -- ---- the form of a row
    module _ (free : NoN R S) (l : List ℕ) (d : Distinct l) (s : (i : ℕ) → Member i l → S i) (r : Row l) (some : 1 ≤ length l) where
      in_row : (i : ℕ) → Goals (length l) i → Member (row l i) l
      in_row zero h = absurd (omega (arith, h.0))
      in_row (suc i) h = at_member l i (omega (arith, h.1))

      rises : (i j : ℕ) → Goals (length l) i → Goals (length l) j → R (row l i) (row l j) ≡ true → i < j
      rises zero j h g t = absurd (omega (arith, h.0))
      rises (suc i) zero h g t = absurd (omega (arith, g.0))
      rises (suc i) (suc j) h g t = go (dec_le j i)
        where
          go : Dec (j ≤ i) → suc i < suc j
          go (yes q) = absurd (true≢false (sym t ∙ row_back l s r i j (omega (arith, h.1)) q))
          go (no q) = omega arith

      order : Order (along R l) (Goals (length l))
      order =
          record {
            rising = rises;
            chained = λ i j k a b c. o.chained (row l i) (row l j) (row l k) (s (row l i) (in_row i a)) (s (row l j) (in_row j b)) (s (row l k) (in_row k c));
          }

      free' : NoN (along R l) (Goals (length l))
      free' a b c e ha hb hc he x =
          free (row l a) (row l b) (row l c) (row l e) (s (row l a) (in_row a ha)) (s (row l b) (in_row b hb)) (s (row l c) (in_row c hc)) (s (row l e) (in_row e he))
          (is_n_lem R (n_is (along R l) x))

      differ : (i j : ℕ) → Goals (length l) i → Goals (length l) j → row l i ≡ row l j → i ≡ j
      differ zero j h g t = absurd (omega (arith, h.0))
      differ (suc i) zero h g t = absurd (omega (arith, g.0))
      differ (suc i) (suc j) h g t = ap suc (at-differ l d i j (omega (arith, h.1)) (omega (arith, g.1)) t)

      pub form_row_lem : Form R (λ i. Member i l) (form_row R l)
      form_row_lem =
          let n = length l in
          let f = row l in
          let e = form (along R l) (length l) in
          let h = all_pass (along R l) n e (form_on_lem (along R l) n order free' (λ _. true) 1 (omega arith, some) refl) in
          let g = rename_fits f R (Goals n) differ e (λ i p. (h.covers i).0 p) h.fits in
          let c = restored R (rename f e) g in
          record {
            covers =
                λ i. (
                  (λ p. let x = rename_in f e i ((c.covers i).0 p) in subst (λ z. Member z l) (sym x.2) (in_row x.0 ((h.covers x.0).0 x.1))),
                  (λ p.
                      let x = member_at l i p in
                      (c.covers i).1
                      (subst (λ z. In z (rename f e)) (sym x.2) (in_rename f e (suc x.0) ((h.covers (suc x.0)).1 (omega arith, omega (arith, x.1)))))),
                );
            fits = c.fits;
            house = c.house;
          }

    -- The form of the numbers of a list.
    pub form_list-any : NoN R S → (l : List ℕ) → Distinct l → ((i : ℕ) → Member i l → S i) → (i : ℕ) → Member i l → Form R (λ i. Member i l) (form_list R l)
    form_list-any free l d s i h =
        form-set (arrange_member l)
        (form_row_lem free (arrange R l) (arrange-distinct l d) (λ i m. s i ((arrange_member l i).0 m)) (arrange-row l s)
        (let x = member_at (arrange R l) i ((arrange_member l i).1 h) in omega (arith, x.1)))

pub up_distinct : (c a : ℕ) → Distinct (up_from a c)
up_distinct zero a = tt
up_distinct (suc c) a = ((λ h. omega (arith, (member_up c (suc a) a h).0)), up_distinct c (suc a))

pub chosen-distinct : (p : ℕ → Bool) (l : List ℕ) → Distinct l → Distinct (chosen p l)
chosen-distinct p [] d = tt
chosen-distinct p (x ∷ l) d = by_test Distinct (p x) (λ t. (λ h. d.0 (chosen_member p l x h).0, chosen-distinct p l d.1)) (λ t. chosen-distinct p l d.1)

-- ---- The form of a set of goals that is not empty.
pub form_on_any_lem : (R : ℕ → ℕ → Bool) (n : ℕ) → Strict R (Goals n) → NoN R (Goals n) → (p : ℕ → Bool) → (i : ℕ) → Goals n i → p i ≡ true
    → Form R (λ i. Goals n i × (p i ≡ true)) (form_on_any R n p)
form_on_any_lem R n o free p i gi hi =
    form-set (chosen-goals n p)
    (form_list-any R (Goals n) o free (chosen p (up_from 1 n)) (chosen-distinct p (up_from 1 n) (up_distinct n 1)) (λ i h. ((chosen-goals n p i).0 h).0) i
    ((chosen-goals n p i).1 (gi, hi)))

-- The form of all goals.
pub form_any_lem : (R : ℕ → ℕ → Bool) (n : ℕ) → Strict R (Goals n) → NoN R (Goals n) → 1 ≤ n → HouseForm R n (form_any R n)
form_any_lem R n o free h = form_house R n (form_any R n) (all_pass R n (form_any R n) (form_on_any_lem R n o free (λ _. true) 1 (omega arith, h) refl))
