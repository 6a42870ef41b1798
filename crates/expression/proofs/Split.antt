-- What an algorithm that splits a set of goals finds: the connected component of the smallest goal is the first member of the form, and what is left is the form of the
-- other members.
use mathlib.Core.Path.{◌≡◌, refl, sym, ap, ◌∙◌}
use mathlib.Core.Bool.{Bool, true, false, true≢false, false≢true}
use mathlib.Core.Logic.{◌⊎◌, inl, inr, ⊎_elim, ◌↔◌}
use Prim.Native.Nat.{ℕ, ◌≤◌}
use native.Mathlib.Omega.{arith}
use Rattle.expression.specs.Expr.{Expr, goal, join, Members, one, more, stands, NoJoin, HouseM, least}
use Rattle.expression.specs.Split.{Component, Starts}
use Rattle.expression.proofs.Fits.{In, InM, FitsM, stay_in, connected, first, first_in_lem, first_m, first_m_in}
use Rattle.expression.proofs.Least.{least_in, least_m_le}
use Rattle.expression.proofs.Exists.{Form}
use Rattle.expression.proofs.Unique.{Same, unique}
use Rattle.expression.proofs.Spec.{stands_in, in_stands}

-- Members that fit R, in house form, over the goals of P.
pub record FormM (R : ℕ → ℕ → Bool) (k : Bool) (P : ℕ → Type 0) (ms : Members) : Type 0 where
  pub covers : (i : ℕ) → InM i ms ↔ P i
  pub fits : FitsM R k ms
  pub house : HouseM k ms

-- A form is the only one over its goals.
pub form_eq : (R : ℕ → ℕ → Bool) {P Q : ℕ → Type 0} (e e' : Expr) → Form R P e → Form R Q e' → Same P Q → e ≡ e'
form_eq R e e' f g s =
    unique R e e' f.fits g.fits f.house g.house
    (λ i. (λ p. (g.covers i).1 ((s i).0 ((f.covers i).0 p)), λ p. (f.covers i).1 ((s i).1 ((g.covers i).0 p))))

-- what is left of P without C
abbrev pub Without : (ℕ → Type 0) → (ℕ → Type 0) → ℕ → Type 0
Without P C i = P i × (C i → ⊥)

-- one member
pub form-one : {R : ℕ → ℕ → Bool} {k : Bool} {P : ℕ → Type 0} {e : Expr} → FormM R k P (one e) → Form R P e
form-one f = record { covers = f.covers; fits = f.fits; house = f.house.0 }

-- the members of a form that is a join
pub form-members : {R : ℕ → ℕ → Bool} {k : Bool} {P : ℕ → Type 0} {e : Expr} {ms : Members} → Form R P (join k e ms) → FormM R k P (more e ms)
form-members f = record { covers = f.covers; fits = f.fits; house = f.house }

-- One step of taking off the members of a k join, each with the smallest goal that is left: the component C is all of P and the last member's, or it is the
-- first member's and the others are the form of what is left.
pub data Peeled (R : ℕ → ℕ → Bool) (k : Bool) (P C : ℕ → Type 0) : Members → Type 0 where
  final : {b : Expr} → NoJoin k b → Form R C b → ((i : ℕ) → P i → C i) → Peeled R k P C (one b)
  further : {b : Expr} {bs : Members} → NoJoin k b → Form R C b → FormM R k (Without P C) bs → (i : ℕ) × Without P C i → Peeled R k P C (more b bs)

module _ (R : ℕ → ℕ → Bool) (k : Bool) {P C : ℕ → Type 0} {x : ℕ} (c : Component R k P x C) where
  -- a form that is no k join is connected
  pub unsplit : (e : Expr) → Form R P e → NoJoin k e → (i : ℕ) → P i → C i
  unsplit e f n i p =
      connected R k e f.fits n C (λ i j r s t u. c.closed i j u ((f.covers j).0 s) t) x i
      ((f.covers x).1 (c.inside x c.start)) ((f.covers i).1 p) c.start

  module _ (st : Starts R k P x) (a : Expr) (ms : Members) (f : FormM R k P (more a ms)) where
    -- the goal that starts stands in the first member
    low_first : In x a
    low_first = go ((f.covers x).1 (c.inside x c.start))
      where
        later : InM x ms → (h : Bool) → k ≡ h → ⊥
        later p true h =
            let q = (f.covers (first a)).0 (inl (first_in_lem a)) in
            true≢false (sym h ∙ sym (f.fits.2 (first a) x (first_in_lem a) p).forth ∙ st.1 h (first a) q)
        later p false h =
            omega (arith, f.house.2 h, least_m_le ms x p, st.0 h (least a) ((f.covers (least a)).0 (inl (least_in a))))

        go : In x a ⊎ InM x ms → In x a
        go (inl p) = p
        go (inr p) = absurd (later p k refl)

    into : (i : ℕ) → C i → In i a
    into i p =
        stands_in a i
        (c.smallest (stands a) (in_stands a x low_first)
        (λ i j q r t. in_stands a j (stay_in R f.fits.2 t (stands_in a i q) ((f.covers j).1 r))) i p)

    out_of : (i : ℕ) → In i a → C i
    out_of i p =
        connected R k a f.fits.0 f.house.1 C (λ i j r s t u. c.closed i j u ((f.covers j).0 (inl s)) t) x i low_first p c.start

    -- The component is the form of the first member,
    pub split_first : Form R C a
    split_first = record { covers = λ i. (out_of i, into i); fits = f.fits.0; house = f.house.0 }

    -- and the rest is the form of the others, of which there is one at least.
    pub split_others : FormM R k (Without P C) ms
    split_others =
        record {
          covers =
              λ i. (
                (λ p. ((f.covers i).0 (inr p), λ q. (f.fits.2 i i (into i q) p).differ refl)),
                λ p. ⊎_elim (λ q. absurd (p.1 (out_of i q))) (λ q. q) ((f.covers i).1 p.0),
              );
          fits = f.fits.1;
          house = f.house.3;
        }

    pub split_left : (i : ℕ) × Without P C i
    split_left = (first_m ms, (split_others.covers (first_m ms)).0 (first_m_in ms))

  pub peel_at : Starts R k P x → (ms : Members) → FormM R k P ms → Peeled R k P C ms
  peel_at st (one b) f =
      let all = unsplit b (form-one f) f.house.1 in
      let g : Form R C b = record {
        covers = λ i. (λ p. all i ((f.covers i).0 p), λ p. (f.covers i).1 (c.inside i p));
        fits = f.fits;
        house = f.house.0;
      } in
      final f.house.1 g all
  peel_at st (more b bs) f = further f.house.1 (split_first st b bs f) (split_others st b bs f) (split_left st b bs f)

-- The first question, whether a form is a group, is answered by the component of its smallest goal in the graph of what is in order.
module _ (R : ℕ → ℕ → Bool) {P C : ℕ → Type 0} {x : ℕ} (c : Component R false P x C) (low : (i : ℕ) → P i → x ≤ i) where
  -- it is all: a goal or a sequence
  pub no_group : (e : Expr) → Form R P e → ((i : ℕ) → P i → C i) → NoJoin false e
  no_group (goal g) f all = tt
  no_group (join true e ms) f all = refl
  no_group (join false e ms) f all = let t = split_left R false c (λ _. low, λ h. absurd (false≢true h)) e ms (form-members f) in absurd (t.1.1 (all t.0 t.1.0))

  -- it is not: a group
  pub is_group : (e : Expr) → Form R P e → (i : ℕ) → Without P C i → (a : Expr) × (ms : Members) × (e ≡ join false a ms)
  is_group (goal g) f i h = absurd (h.1 (unsplit R false c (goal g) f tt i h.0))
  is_group (join true e ms) f i h = absurd (h.1 (unsplit R false c (join true e ms) f refl i h.0))
  is_group (join false e ms) f i h = (e, ms, refl)

-- A form over one goal is that goal.
pub is_goal : {R : ℕ → ℕ → Bool} {P : ℕ → Type 0} (e : Expr) → Form R P e → (g : ℕ) → ((i : ℕ) → P i → i ≡ g) → e ≡ goal g
is_goal (goal h) f g only = ap goal (only h ((f.covers h).0 refl))
is_goal (join k a ms) f g only =
    let p = (f.covers (first a)).0 (inl (first_in_lem a)) in
    let q = (f.covers (first_m ms)).0 (inr (first_m_in ms)) in
    absurd ((f.fits.2 (first a) (first_m ms) (first_in_lem a) (first_m_in ms)).differ (only (first a) p ∙ sym (only (first_m ms) q)))

-- A form over two goals or more that is no group is a sequence.
pub is_sequence : {R : ℕ → ℕ → Bool} {P : ℕ → Type 0} (e : Expr) → Form R P e → NoJoin false e → (i j : ℕ) → P i → P j → (i ≡ j → ⊥)
    → (a : Expr) × (ms : Members) × (e ≡ join true a ms)
is_sequence (goal g) f n i j p q d = absurd (d ((f.covers i).1 p ∙ sym ((f.covers j).1 q)))
is_sequence (join true a ms) f n i j p q d = (a, ms, refl)
is_sequence (join false a ms) f n i j p q d = absurd (false≢true n)
