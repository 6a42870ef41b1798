-- T3: two house forms over the same goals that induce the same order are equal.
use mathlib.Core.Path.{◌≡◌, refl, sym, ap, ◌∙◌, subst}
use mathlib.Core.Bool.{Bool, true, false, not, true≢false, not-eq-not}
use mathlib.Core.Logic.{◌⊎◌, inl, inr, ◌↔◌}
use Prim.Native.Nat.{ℕ, ◌<◌}
use native.Mathlib.Omega.{arith}
use Rattle.expression.specs.Expr.{Expr, goal, join, Members, one, more, NoJoin, Ascend, House, HouseM, least, least_m}
use Rattle.expression.proofs.Fits.{In, InM, Cross, Fits, FitsM, stay_in, connected, first, first_m, first_in_lem, first_m_in}
use Rattle.expression.proofs.Least.{least_in, least_m_le}

-- what has P has Q, and the other way round
abbrev pub Same : (ℕ → Type 0) → (ℕ → Type 0) → Type 0
Same P Q = (i : ℕ) → P i ↔ Q i

abbrev Sub : (ℕ → Type 0) → (ℕ → Type 0) → Type 0
Sub P Q = (i : ℕ) → P i → Q i

module _ (R : ℕ → ℕ → Bool) where
  -- a, which cannot be split the k way, shares a goal with b, so it lies in b, if all its goals are in b or k apart from b
  within : (k : Bool) (a : Expr) → Fits R a → NoJoin k a → {P Q : ℕ → Type 0} → Cross R k P Q → Sub (λ i. In i a) (λ i. P i ⊎ Q i)
      → (x : ℕ) → In x a → P x → Sub (λ i. In i a) P
  within k a f n {P} x sub m p q i r = connected R k a f n P (λ i j s t h u. stay_in R x h u (sub j t)) m i p r q

  -- a part of a join is not the whole
  not-all : {k : Bool} (P : ℕ → Type 0) (ms : Members) → Cross R k P (λ i. InM i ms) → Sub (λ i. InM i ms) P → ⊥
  not-all P ms x sub = (x (first_m ms) (first_m ms) (sub (first_m ms) (first_m_in ms)) (first_m_in ms)).differ refl

  module _ (k : Bool) (a : Expr) (cs : Members) (b : Expr) (bs : Members) (x : Cross R k (λ i. In i a) (λ i. InM i cs))
      (y : Cross R k (λ i. In i b) (λ i. InM i bs)) (s : Same (λ i. In i a ⊎ InM i cs) (λ i. In i b ⊎ InM i bs)) where
    -- the first members of two equal joins share a goal: of two sequences, since nothing comes before the first member; of two groups, the smallest
    shared_sequence : k ≡ true → (i : ℕ) × In i a × In i b
    shared_sequence e = go ((s (first a)).0 (inl (first_in_lem a))) ((s (first b)).1 (inl (first_in_lem b)))
      where
        go : In (first a) b ⊎ InM (first a) bs → In (first b) a ⊎ InM (first b) cs → (i : ℕ) × In i a × In i b
        go (inl p) q = (first a, first_in_lem a, p)
        go (inr p) (inl q) = (first b, q, first_in_lem b)
        go (inr p) (inr q) =
            absurd (true≢false (sym e ∙ sym (x (first a) (first b) (first_in_lem a) q).forth ∙ (y (first b) (first a) (first_in_lem b) p).back))

    shared-group : least a < least_m cs → least b < least_m bs → (i : ℕ) × In i a × In i b
    shared-group la lb = go ((s (least a)).0 (inl (least_in a))) ((s (least b)).1 (inl (least_in b)))
      where
        go : In (least a) b ⊎ InM (least a) bs → In (least b) a ⊎ InM (least b) cs → (i : ℕ) × In i a × In i b
        go (inl p) q = (least a, least_in a, p)
        go (inr p) (inl q) = (least b, q, least_in b)
        go (inr p) (inr q) = absurd (omega (arith, least_m_le bs (least a) p, least_m_le cs (least b) q))

    shared : Ascend k a cs → Ascend k b bs → (i : ℕ) × In i a × In i b
    shared la lb = go k refl
      where
        go : (h : Bool) → k ≡ h → (i : ℕ) × In i a × In i b
        go true e = shared_sequence e
        go false e = shared-group (la e) (lb e)

    -- so they have the same goals, and so have the others
    module _ (fa : Fits R a) (na : NoJoin k a) (la : Ascend k a cs) (fb : Fits R b) (nb : NoJoin k b) (lb : Ascend k b bs) where
      heads : Same (λ i. In i a) (λ i. In i b)
      heads i =
          let c = shared la lb in (
            within k a fa na y (λ i p. (s i).0 (inl p)) c.0 c.1 c.2 i,
            within k b fb nb x (λ i p. (s i).1 (inl p)) c.0 c.2 c.1 i,
          )

      tails : Same (λ i. InM i cs) (λ i. InM i bs)
      tails i = (λ p. there p ((s i).0 (inr p)), λ p. back p ((s i).1 (inr p)))
        where
          there : InM i cs → In i b ⊎ InM i bs → InM i bs
          there p (inl q) = absurd ((x i i ((heads i).1 q) p).differ refl)
          there p (inr q) = q

          back : InM i bs → In i a ⊎ InM i cs → InM i cs
          back p (inl q) = absurd ((y i i ((heads i).0 q) p).differ refl)
          back p (inr q) = q

  -- a sequence is no group
  one_kind : (k h : Bool) (a : Expr) (cs : Members) (b : Expr) (bs : Members) → Fits R (join k a cs) → Fits R (join h b bs)
      → Same (λ i. In i (join k a cs)) (λ i. In i (join h b bs)) → h ≡ not k → ⊥
  one_kind k h a cs b bs f g s n =
      not-all (λ i. In i a) cs f.2
      (λ i p. within k (join h b bs) g n f.2 (λ i. (s i).1) (first a) ((s (first a)).0 (inl (first_in_lem a))) (first_in_lem a) i ((s i).0 (inr p)))

  -- a goal alone is no join
  lone : {k : Bool} (g : ℕ) (b : Expr) (bs : Members) → Cross R k (λ i. In i b) (λ i. InM i bs) → Sub (λ i. In i b ⊎ InM i bs) (λ i. i ≡ g) → ⊥
  lone g b bs y s = (y (first b) (first_m bs) (first_in_lem b) (first_m_in bs)).differ (s (first b) (inl (first_in_lem b)) ∙ sym (s (first_m bs) (inr (first_m_in bs))))

  flip : {P Q : ℕ → Type 0} → Same P Q → Same Q P
  flip s i = ((s i).1, (s i).0)

  -- one member against several
  one_many : (k : Bool) (a b : Expr) (bs : Members) → Fits R a → NoJoin k a → Cross R k (λ i. In i b) (λ i. InM i bs)
      → Same (λ i. In i a) (λ i. In i b ⊎ InM i bs) → ⊥
  one_many k a b bs f n y s =
      not-all (λ i. In i b) bs y
      (λ i p. within k a f n y (λ i. (s i).0) (first b) ((s (first b)).1 (inl (first_in_lem b))) (first_in_lem b) i ((s i).1 (inr p)))

  mutual
    pub unique : (e e' : Expr) → Fits R e → Fits R e' → House e → House e' → Same (λ i. In i e) (λ i. In i e') → e ≡ e'
    unique (goal g) (goal h) f f' w w' s = ap goal ((s g).0 refl)
    unique (goal g) (join h b bs) f f' w w' s = absurd (lone g b bs f'.2 (λ i. (s i).1))
    unique (join k a cs) (goal h) f f' w w' s = absurd (lone h a cs f.2 (λ i. (s i).0))
    unique (join k a cs) (join h b bs) f f' w w' s =
        let q : k ≡ h = sym ((not-eq-not {a = h} {b = k}).0 (one_kind k h a cs b bs f f' s)) in
        let f'' : Fits R (join k b bs) = subst (λ (l : Bool). Fits R (join l b bs)) (sym q) f' in
        let w'' : House (join k b bs) = subst (λ (l : Bool). House (join l b bs)) (sym q) w' in
        let p = unique a b f.0 f''.0 w.0 w''.0 (heads k a cs b bs f.2 f''.2 s f.0 w.1 w.2 f''.0 w''.1 w''.2) in
        let r = unique_m k cs bs f.1 f''.1 w.3 w''.3 (tails k a cs b bs f.2 f''.2 s f.0 w.1 w.2 f''.0 w''.1 w''.2) in
        λ i. join (q i) (p i) (r i)

    unique_m : (k : Bool) (ms ns : Members) → FitsM R k ms → FitsM R k ns → HouseM k ms → HouseM k ns → Same (λ i. InM i ms) (λ i. InM i ns) → ms ≡ ns
    unique_m k (one a) (one b) f g w v s = ap one (unique a b f g w.0 v.0 s)
    unique_m k (one a) (more b bs) f g w v s = absurd (one_many k a b bs f w.1 g.2 s)
    unique_m k (more a cs) (one b) f g w v s = absurd (one_many k b a cs g v.1 f.2 (flip s))
    unique_m k (more a cs) (more b bs) f g w v s =
        let p = unique a b f.0 g.0 w.0 v.0 (heads k a cs b bs f.2 g.2 s f.0 w.1 w.2 g.0 v.1 v.2) in
        let r = unique_m k cs bs f.1 g.1 w.3 v.3 (tails k a cs b bs f.2 g.2 s f.0 w.1 w.2 g.0 v.1 v.2) in
        λ i. more (p i) (r i)
