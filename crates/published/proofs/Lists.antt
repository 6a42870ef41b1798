-- Laws of lists as sets.
--     every_in, in_every, every-false, any-true, in_any, any_false, none_any     what a test of a whole list says of what stands in it
--     those_in, in_those, those_le, those_fewer     those that pass a test
--     Pair, pair-those, pair-two     what holds of each and each later one
--     among_in, in_among, subset_in, in_subset, ..     sets of numbers
--     distinct_in, in_distinct, distinct-pair     a list of sets, each kept once
use mathlib.Core.Path.{◌≡◌, refl, sym, ap, ap₂, ◌∙◌, subst}
use mathlib.Core.Bool.{Bool, true, false, not, ◌&&◌, ◌||◌, true≢false, false≢true}
use mathlib.Core.List.{List, [], ◌∷◌, map}
use mathlib.Core.Logic.{◌⊎◌, inl, inr, ⊎_elim}
use Prim.Native.Nat.{ℕ, suc, ◌≤◌, ◌<◌}
use native.Mathlib.Omega.{arith}
use lib.Dec.{eqb}
use lib.ListN.{length}
use borrow.Author.Tests.{eqb-true, eq-eqb}
use Rattle.logic.proofs.Bools.{test, by_test, and-true, and-false, or-true, or-false, not-true}
use Rattle.published.specs.Sets.{◌is_in◌, every, any, those, among, subset, disjoint, same, distinct}

module _ {A : Type 0} where
  -- ---- tests of a whole list
  module _ (p : A → Bool) where
    pub every_in : (l : List A) → every p l ≡ true → (x : A) → x is_in l → p x ≡ true
    every_in [] h x m = absurd m
    every_in (y ∷ l) h x (inl e) = ap p e ∙ (and-true _ _ h).0
    every_in (y ∷ l) h x (inr m) = every_in l (and-true (p y) (every p l) h).1 x m

    pub in_every : (l : List A) → ((x : A) → x is_in l → p x ≡ true) → every p l ≡ true
    in_every [] f = refl
    in_every (y ∷ l) f = ap₂ ◌&&◌ (f y (inl refl)) (in_every l (λ x m. f x (inr m)))

    pub every-false : (l : List A) → every p l ≡ false → (x : A) × (x is_in l) × (p x ≡ false)
    every-false [] h = absurd (true≢false h)
    every-false (y ∷ l) h =
        ⊎_elim (λ t. (y, inl refl, t)) (λ t. let r = every-false l t in (r.0, inr r.1, r.2)) (and-false (p y) (every p l) h)

    pub any-true : (l : List A) → any p l ≡ true → (x : A) × (x is_in l) × (p x ≡ true)
    any-true [] h = absurd (false≢true h)
    any-true (y ∷ l) h =
        ⊎_elim (λ t. (y, inl refl, t)) (λ t. let r = any-true l t in (r.0, inr r.1, r.2)) (or-true (p y) (any p l) h)

    pub any_false : (l : List A) → any p l ≡ false → (x : A) → x is_in l → p x ≡ false
    any_false [] h x m = absurd m
    any_false (y ∷ l) h x (inl e) = ap p e ∙ (or-false _ _ h).0
    any_false (y ∷ l) h x (inr m) = any_false l (or-false (p y) (any p l) h).1 x m

    pub none_any : (l : List A) → ((x : A) → x is_in l → p x ≡ false) → any p l ≡ false
    none_any [] f = refl
    none_any (y ∷ l) f = ap₂ ◌||◌ (f y (inl refl)) (none_any l (λ x m. f x (inr m)))

    pub in_any : (l : List A) (x : A) → x is_in l → p x ≡ true → any p l ≡ true
    in_any l x m h = ⊎_elim (λ t. t) (λ t. absurd (true≢false (sym h ∙ any_false l t x m))) (test (any p l))

    -- ---- those that pass
    pub those_in : (l : List A) (x : A) → x is_in those p l → (x is_in l) × (p x ≡ true)
    those_in [] x h = absurd h
    those_in (y ∷ l) x h =
        by_test (λ z. x is_in z → (x is_in (y ∷ l)) × (p x ≡ true)) (p y)
        (λ t. ⊎_elim (λ e. (inl e, ap p e ∙ t)) (λ g. let r = those_in l x g in (inr r.0, r.1)))
        (λ t g. let r = those_in l x g in (inr r.0, r.1))
        h

    pub in_those : (l : List A) (x : A) → x is_in l → p x ≡ true → x is_in those p l
    in_those [] x h g = absurd h
    in_those (y ∷ l) x h g =
        by_test (λ z. x is_in z) (p y)
        (λ t. ⊎_elim inl (λ m. inr (in_those l x m g)) h)
        (λ t. ⊎_elim (λ e. absurd (true≢false (sym g ∙ ap p e ∙ t))) (λ m. in_those l x m g) h)

    pub those_le : (l : List A) → length (those p l) ≤ length l
    those_le [] = omega arith
    those_le (y ∷ l) = by_test (λ z. length z ≤ suc (length l)) (p y) (λ t. omega (arith, those_le l)) (λ t. omega (arith, those_le l))

    pub those_fewer : (l : List A) (x : A) → x is_in l → p x ≡ false → length (those p l) < length l
    those_fewer [] x m h = absurd m
    those_fewer (y ∷ l) x (inl e) h =
        by_test (λ z. length z < suc (length l)) (p y) (λ t. absurd (true≢false (sym t ∙ ap p (sym e) ∙ h))) (λ t. omega (arith, those_le l))
    those_fewer (y ∷ l) x (inr m) h =
        by_test (λ z. length z < suc (length l)) (p y) (λ t. omega (arith, those_fewer l x m h)) (λ t. omega (arith, those_fewer l x m h))

  pub every-same : (p q : A → Bool) (l : List A) → ((x : A) → x is_in l → p x ≡ q x) → every p l ≡ every q l
  every-same p q [] f = refl
  every-same p q (y ∷ l) f = ap₂ ◌&&◌ (f y (inl refl)) (every-same p q l (λ x m. f x (inr m)))

  -- ---- r holds of each and each later one
  module _ (r : A → A → Type 0) where
    abbrev pub Pair : List A → Type 0
    Pair [] = Unit {0}
    Pair (x ∷ l) = ((y : A) → y is_in l → r x y) × Pair l

    pub pair-those : (p : A → Bool) (l : List A) → Pair l → Pair (those p l)
    pair-those p [] h = tt
    pair-those p (x ∷ l) h =
        by_test Pair (p x) (λ t. ((λ y m. h.0 y (those_in p l y m).0), pair-those p l h.1)) (λ t. pair-those p l h.1)

    pub pair-two : ((x y : A) → r x y → r y x) → (l : List A) → Pair l → (x y : A) → x is_in l → y is_in l → (x ≡ y) ⊎ r x y
    pair-two s [] h x y m n = absurd m
    pair-two s (z ∷ l) h x y (inl m) (inl n) = inl (m ∙ sym n)
    pair-two s (z ∷ l) h x y (inl m) (inr n) = inr (subst (λ w. r w y) (sym m) (h.0 y n))
    pair-two s (z ∷ l) h x y (inr m) (inl n) = inr (subst (λ w. r x w) (sym n) (s z x (h.0 x m)))
    pair-two s (z ∷ l) h x y (inr m) (inr n) = pair-two s l h.1 x y m n

-- ---- images
module _ {A B : Type 0} (f : A → B) where
  pub map_in : (l : List A) (y : B) → y is_in map f l → (x : A) × (x is_in l) × (y ≡ f x)
  map_in [] y m = absurd m
  map_in (x ∷ l) y (inl e) = (x, inl refl, e)
  map_in (x ∷ l) y (inr m) = let r = map_in l y m in (r.0, inr r.1, r.2)

  pub in_map : (l : List A) (x : A) → x is_in l → f x is_in map f l
  in_map [] x m = absurd m
  in_map (y ∷ l) x (inl e) = inl (ap f e)
  in_map (y ∷ l) x (inr m) = inr (in_map l x m)

-- ---- sets of numbers
pub among_in : (a : List ℕ) (x : ℕ) → among x a ≡ true → x is_in a
among_in a x h = let r = any-true (eqb x) a h in subst (λ z. z is_in a) (sym (eqb-true x r.0 r.2)) r.1

pub in_among : (a : List ℕ) (x : ℕ) → x is_in a → among x a ≡ true
in_among a x m = in_any (eqb x) a x m (eq-eqb x x refl)

pub out_among : (a : List ℕ) (x : ℕ) → (x is_in a → ⊥) → among x a ≡ false
out_among a x n = ⊎_elim (λ t. absurd (n (among_in a x t))) (λ t. t) (test (among x a))

pub subset_in : (a b : List ℕ) → subset a b ≡ true → (x : ℕ) → x is_in a → x is_in b
subset_in a b h x m = among_in b x (every_in (λ z. among z b) a h x m)

pub in_subset : (a b : List ℕ) → ((x : ℕ) → x is_in a → x is_in b) → subset a b ≡ true
in_subset a b f = in_every (λ z. among z b) a (λ x m. in_among b x (f x m))

-- one of a that is not in b
pub subset-false : (a b : List ℕ) → subset a b ≡ false → (x : ℕ) × (x is_in a) × (x is_in b → ⊥)
subset-false a b h =
    let r = every-false (λ z. among z b) a h in
    (r.0, r.1, λ m. true≢false (sym (in_among b r.0 m) ∙ r.2))

pub disjoint_in : (a b : List ℕ) → disjoint a b ≡ true → (x : ℕ) → x is_in a → x is_in b → ⊥
disjoint_in a b h x m n = true≢false (sym (in_among b x n) ∙ not-true (among x b) (every_in (λ z. not (among z b)) a h x m))

pub disjoint-false : (a b : List ℕ) → disjoint a b ≡ false → (x : ℕ) × (x is_in a) × (x is_in b)
disjoint-false a b h =
    let r = every-false (λ z. not (among z b)) a h in
    (r.0, r.1, ⊎_elim (λ t. among_in b r.0 t) (λ t. absurd (true≢false (sym (ap not t) ∙ r.2))) (test (among r.0 b)))

-- ---- a list of sets, each kept once
pub distinct_in : (l : List (List ℕ)) (s : List ℕ) → s is_in distinct l → s is_in l
distinct_in [] s m = m
distinct_in (t ∷ l) s m =
    by_test (λ z. s is_in z → s is_in (t ∷ l)) (any (same t) (distinct l)) (λ _ h. inr (distinct_in l s h)) (λ _. ⊎_elim inl (λ h. inr (distinct_in l s h))) m

pub in_distinct : (l : List (List ℕ)) (s : List ℕ) → s is_in l → (t : List ℕ) × (t is_in distinct l) × (same s t ≡ true)
in_distinct [] s m = absurd m
in_distinct (t ∷ l) s (inl e) =
    by_test (λ z. (t : List ℕ) × (t is_in z) × (same s t ≡ true)) (any (same t) (distinct l))
    (λ h. let r = any-true (same t) (distinct l) h in (r.0, r.1, ap (λ z. same z r.0) e ∙ r.2))
    (λ _. (t, inl refl, ap (λ z. same z t) e ∙ ap₂ ◌&&◌ (in_subset t t (λ x m. m)) (in_subset t t (λ x m. m))))
in_distinct (t ∷ l) s (inr m) =
    let r = in_distinct l s m in
    by_test (λ z. (t : List ℕ) × (t is_in z) × (same s t ≡ true)) (any (same t) (distinct l)) (λ _. r) (λ _. (r.0, inr r.1, r.2))

pub distinct-pair : (l : List (List ℕ)) → Pair (λ s t. same s t ≡ false) (distinct l)
distinct-pair [] = tt
distinct-pair (t ∷ l) =
    by_test (Pair (λ s t. same s t ≡ false)) (any (same t) (distinct l)) (λ _. distinct-pair l)
    (λ h. (any_false (same t) (distinct l) h, distinct-pair l))
