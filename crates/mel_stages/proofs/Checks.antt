-- The list of a stage's checks has exactly those that the words ask for.
use mathlib.Core.Path.{◌≡◌, refl, sym, ap, ap₂, ◌∙◌, subst}
use mathlib.Core.Logic.{◌⊎◌, inl, inr, ⊎_elim}
use mathlib.Core.Bool.{Bool, true, false, cond, true≢false, false≢true}
use mathlib.Core.List.{List, [], ◌∷◌, ◌++◌, map}
use Prim.Native.Nat.{ℕ, zero, suc, ◌+◌, ◌≤◌, ◌<◌, zero-le}
use native.Mathlib.Nat.{eq-or-lt_of_le}
use native.Mathlib.Omega.{arith}
use Rattle.logic.proofs.Bools.{by_test}
use Rattle.mel_stages.specs.Mel.{Facts, Check, Ground, Indep, those_from, ground_check, indep_check, indeps_from, checks}
use Rattle.mel_stages.specs.Plain.{Among, Before, Ascending, Grounded, Separate}
use Rattle.mel_stages.proofs.Words.{ground_out, ground_in, indep_out, indep_in}

among_l : {A : Type 0} (a : A) (l m : List A) → Among a l → Among a (l ++ m)
among_l a [] m h = absurd h
among_l a (b ∷ l) m (inl e) = inl e
among_l a (b ∷ l) m (inr h) = inr (among_l a l m h)

among_r : {A : Type 0} (a : A) (l m : List A) → Among a m → Among a (l ++ m)
among_r a [] m h = h
among_r a (b ∷ l) m h = inr (among_r a l m h)

among-or : {A : Type 0} (a : A) (l m : List A) → Among a (l ++ m) → Among a l ⊎ Among a m
among-or a [] m h = inr h
among-or a (b ∷ l) m (inl e) = inl (inl e)
among-or a (b ∷ l) m (inr h) = ⊎_elim (λ k. inl (inr k)) (λ k. inr k) (among-or a l m h)

among-map : {A B : Type 0} (f : A → B) (a : A) (l : List A) → Among a l → Among (f a) (map f l)
among-map f a [] h = absurd h
among-map f a (b ∷ l) (inl e) = inl (ap f e)
among-map f a (b ∷ l) (inr h) = inr (among-map f a l h)

-- what a member of a mapped list comes from
pub record From {A B : Type 0} (f : A → B) (b : B) (l : List A) : Type 0 where
  pub a : A
  pub is : b ≡ f a
  pub there : Among a l

map-among : {A B : Type 0} (f : A → B) (b : B) (l : List A) → Among b (map f l) → From f b l
map-among f b [] h = absurd h
map-among f b (x ∷ l) (inl e) = record { a = x; is = e; there = inl refl }
map-among f b (x ∷ l) (inr h) = let r = map-among f b l h in record { a = r.a; is = r.is; there = inr r.there }

-- ---- the numbers of which f holds

those_out : (k i : ℕ) (f : ℕ → Bool) (x : ℕ) → Among x (those_from k i f) → (i ≤ x) × ((x < i + k) × (f x ≡ true))
unfolding those_from
those_out zero i f x = λ h. absurd h
those_out (suc k) i f x =
    let rest : Among x (those_from k (suc i) f) → (i ≤ x) × ((x < i + suc k) × (f x ≡ true)) =
    λ h. let r = those_out k (suc i) f x h in (omega arith, (omega arith, r.1.1))
    in
    by_test (λ (l : List ℕ). Among x l → (i ≤ x) × ((x < i + suc k) × (f x ≡ true))) (f i)
    (λ e. ⊎_elim (λ q. (omega arith, (omega arith, ap f q ∙ e))) rest) (λ e. rest)

those_in : (k i : ℕ) (f : ℕ → Bool) (x : ℕ) → i ≤ x → x < i + k → f x ≡ true → Among x (those_from k i f)
unfolding those_from
those_in zero i f x l h e = absurd (omega arith)
those_in (suc k) i f x l h e = go (λ g. those_in k (suc i) f x g (omega arith) e) (eq-or-lt_of_le l)
  where
    go : (i < x → Among x (those_from k (suc i) f)) → (i ≡ x) ⊎ (i < x) → Among x (cond (f i) (i ∷ those_from k (suc i) f) (those_from k (suc i) f))
    go r (inl q) = by_test (Among x) (f i) (λ p. inl (sym q)) (λ p. absurd (false≢true (sym p ∙ ap f q ∙ e)))
    go r (inr g) = by_test (Among x) (f i) (λ p. inr (r g)) (λ p. r g)

-- ---- telling the two kinds apart

ground_of : Check → ℕ
ground_of (Ground x) = x
ground_of (Indep x y) = 0

is_ground : Check → Bool
is_ground (Ground x) = true
is_ground (Indep x y) = false

lower_of : Check → ℕ
lower_of (Ground x) = 0
lower_of (Indep x y) = x

higher_of : Check → ℕ
higher_of (Ground x) = 0
higher_of (Indep x y) = y

module _ (c : Facts) (p q : ℕ) where
  indeps_out : (k i : ℕ) (d : Check) → Among d (indeps_from c k i p q) →
      (is_ground d ≡ false) × ((i ≤ lower_of d) × ((lower_of d < i + k) × ((higher_of d < c.width) × (indep_check c p q (lower_of d) (higher_of d) ≡ true))))
  unfolding indeps_from is_ground lower_of higher_of
  indeps_out zero i d = λ h. absurd h
  indeps_out (suc k) i d = λ h.
      ⊎_elim
      (λ m.
      let r = map-among (Indep i) d (those_from c.width 0 (indep_check c p q i)) m in
      let t = those_out c.width 0 (indep_check c p q i) r.a r.there in
      let l : lower_of d ≡ i = ap lower_of r.is in
      let u : higher_of d ≡ r.a = ap higher_of r.is in
      (ap is_ground r.is, (omega arith, (omega arith, (omega (arith, t.1.0), ap₂ (indep_check c p q) l u ∙ t.1.1)))))
      (λ m. let r = indeps_out k (suc i) d m in (r.0, (omega (arith, r.1.0), (omega (arith, r.1.1.0), r.1.1.1))))
      (among-or d (map (Indep i) (those_from c.width 0 (indep_check c p q i))) (indeps_from c k (suc i) p q) h)

  indeps_in : (k i x y : ℕ) → i ≤ x → x < i + k → y < c.width → indep_check c p q x y ≡ true → Among (Indep x y) (indeps_from c k i p q)
  unfolding indeps_from
  indeps_in zero i x y l u b e = absurd (omega arith)
  indeps_in (suc k) i x y l u b e =
      ⊎_elim
      (λ s. among_l (Indep x y) (map (Indep i) (those_from c.width 0 (indep_check c p q i))) (indeps_from c k (suc i) p q)
      (subst (λ (j : ℕ). Among (Indep x y) (map (Indep j) (those_from c.width 0 (indep_check c p q j)))) (sym s)
      (among-map (Indep x) y (those_from c.width 0 (indep_check c p q x)) (those_in c.width 0 (indep_check c p q x) y zero-le (omega arith) e))))
      (λ g. among_r (Indep x y) (map (Indep i) (those_from c.width 0 (indep_check c p q i))) (indeps_from c k (suc i) p q) (indeps_in k (suc i) x y g (omega arith) b e))
      (eq-or-lt_of_le l)

  -- ---- soundness and completeness

  pub grounds_listed : (x : ℕ) → Among (Ground x) (checks c p q) → (x < c.width) × Grounded c p q x
  unfolding checks is_ground ground_of
  grounds_listed x h =
      ⊎_elim
      (λ m.
      let r = map-among Ground (Ground x) (those_from c.width 0 (ground_check c p q)) m in
      let t = those_out c.width 0 (ground_check c p q) r.a r.there in
      let s : x ≡ r.a = ap ground_of r.is in
      (omega (arith, t.1.0), ground_out c p q x (ap (ground_check c p q) s ∙ t.1.1)))
      (λ m. absurd (true≢false (indeps_out c.width 0 (Ground x) m).0))
      (among-or (Ground x) (map Ground (those_from c.width 0 (ground_check c p q))) (indeps_from c c.width 0 p q) h)

  pub listed_grounds : (x : ℕ) → x < c.width → Grounded c p q x → Among (Ground x) (checks c p q)
  unfolding checks
  listed_grounds x b g =
      among_l (Ground x) (map Ground (those_from c.width 0 (ground_check c p q))) (indeps_from c c.width 0 p q)
      (among-map Ground x (those_from c.width 0 (ground_check c p q)) (those_in c.width 0 (ground_check c p q) x zero-le (omega arith) (ground_in c p q x g)))

  pub indeps_listed : (x y : ℕ) → Among (Indep x y) (checks c p q) → (x < c.width) × ((y < c.width) × Separate c p q x y)
  unfolding checks is_ground lower_of higher_of
  indeps_listed x y h =
      ⊎_elim
      (λ m. let r = map-among Ground (Indep x y) (those_from c.width 0 (ground_check c p q)) m in absurd (false≢true (ap is_ground r.is)))
      (λ m. let r = indeps_out c.width 0 (Indep x y) m in (omega (arith, r.1.1.0), (r.1.1.1.0, indep_out c p q x y r.1.1.1.1)))
      (among-or (Indep x y) (map Ground (those_from c.width 0 (ground_check c p q))) (indeps_from c c.width 0 p q) h)

  pub listed_indeps : (x y : ℕ) → x < c.width → y < c.width → Separate c p q x y → Among (Indep x y) (checks c p q)
  unfolding checks
  listed_indeps x y a b s =
      among_r (Indep x y) (map Ground (those_from c.width 0 (ground_check c p q))) (indeps_from c c.width 0 p q)
      (indeps_in c.width 0 x y zero-le (omega arith) b (indep_in c p q x y s))

-- ---- the order

abbrev Rising : List ℕ → Type 0
Rising [] = Unit {0}
Rising (x ∷ l) = ((y : ℕ) → Among y l → x < y) × Rising l

those_rise : (k i : ℕ) (f : ℕ → Bool) → Rising (those_from k i f)
unfolding those_from
those_rise zero i f = tt
those_rise (suc k) i f =
    by_test Rising (f i) (λ e. (λ y h. (those_out k (suc i) f y h).0, those_rise k (suc i) f)) (λ e. those_rise k (suc i) f)

rise_map : (f : ℕ → Check) → ((x y : ℕ) → x < y → Before (f x) (f y)) → (l : List ℕ) → Rising l → Ascending (map f l)
rise_map f m [] r = tt
rise_map f m (x ∷ l) r =
    (λ e h. let o = map-among f e l h in subst (Before (f x)) (sym o.is) (m x o.a (r.0 o.a o.there)), rise_map f m l r.1)

ascend_append : (a b : List Check) → Ascending a → Ascending b → ((d e : Check) → Among d a → Among e b → Before d e) → Ascending (a ++ b)
ascend_append [] b p q h = q
ascend_append (d ∷ a) b p q h =
    (λ e m. ⊎_elim (λ k. p.0 e k) (λ k. h d e (inl refl) k) (among-or e a b m), ascend_append a b p.1 q (λ x y m n. h x y (inr m) n))

before_lower : (d e : Check) → is_ground d ≡ false → is_ground e ≡ false → lower_of d < lower_of e → Before d e
unfolding is_ground lower_of
before_lower (Ground x) e h k l = absurd (true≢false h)
before_lower (Indep x y) (Ground z) h k l = absurd (true≢false k)
before_lower (Indep x y) (Indep z t) h k l = inl l

before_kinds : (d e : Check) → is_ground d ≡ true → is_ground e ≡ false → Before d e
unfolding is_ground
before_kinds (Ground x) (Ground y) h k = absurd (true≢false k)
before_kinds (Ground x) (Indep y z) h k = tt
before_kinds (Indep x y) e h k = absurd (false≢true h)

module _ (c : Facts) (p q : ℕ) where
  indeps_ascend : (k i : ℕ) → Ascending (indeps_from c k i p q)
  unfolding indeps_from is_ground lower_of
  indeps_ascend zero i = tt
  indeps_ascend (suc k) i =
      let l = those_from c.width 0 (indep_check c p q i) in
      ascend_append (map (Indep i) l) (indeps_from c k (suc i) p q)
      (rise_map (Indep i) (λ x y h. inr (refl, h)) l (those_rise c.width 0 (indep_check c p q i))) (indeps_ascend k (suc i))
      (λ d e m n.
      let o = map-among (Indep i) d l m in
      let r = indeps_out c p q k (suc i) e n in
      let low : lower_of d ≡ i = ap lower_of o.is in
      before_lower d e (ap is_ground o.is) r.0 (omega (arith, low, r.1.0)))

  pub checks_ascend : Ascending (checks c p q)
  unfolding checks is_ground
  checks_ascend =
      let l = those_from c.width 0 (ground_check c p q) in
      ascend_append (map Ground l) (indeps_from c c.width 0 p q)
      (rise_map Ground (λ x y h. h) l (those_rise c.width 0 (ground_check c p q))) (indeps_ascend c.width 0)
      (λ d e m n. before_kinds d e (ap is_ground (map-among Ground d l m).is) (indeps_out c p q c.width 0 e n).0)
