-- A goal v is put into an expression: what `suits` says, and what follows where there is no N.
use mathlib.Core.Path.{◌≡◌, refl, sym, ap, ◌∙◌}
use mathlib.Core.Bool.{Bool, true, false, not, true≢false}
use mathlib.Core.Logic.{inl, inr, ⊎_elim}
use Prim.Native.Nat.{ℕ, ◌≤◌, ◌<◌}
use native.Mathlib.Omega.{arith}
use Rattle.logic.proofs.Bools.{is_false}
use Rattle.expression.specs.Expr.{Expr, goal, join, Members, one, more, NoJoin, HouseM, NoN, Order}
use Rattle.expression.specs.Form.{suits, suits_m}
use Rattle.expression.specs.Split.{tie}
use Rattle.expression.proofs.Fits.{In, InM, Apart, Fits, FitsM, connected}
use Rattle.expression.proofs.Pick.{InP}
use Rattle.logic.proofs.Bools.{and-true, and-false, or-true, or-false, not-true, either, beq_true, beq_false}

module _ (R : ℕ → ℕ → Bool) (v : ℕ) (k : Bool) where
  mutual
    pub suits_all : (e : Expr) → suits R v k e ≡ true → (i : ℕ) → In i e → R i v ≡ k
    suits_all (goal g) h i p = ap (λ x. R x v) p ∙ beq_true (R g v) k h
    suits_all (join l e ms) h i (inl p) = suits_all e (and-true (suits R v k e) (suits_m R v k ms) h).0 i p
    suits_all (join l e ms) h i (inr p) = suits_m_all ms (and-true (suits R v k e) (suits_m R v k ms) h).1 i p

    pub suits_m_all : (ms : Members) → suits_m R v k ms ≡ true → (i : ℕ) → InM i ms → R i v ≡ k
    suits_m_all (one e) h i p = suits_all e h i p
    suits_m_all (more e ms) h i (inl p) = suits_all e (and-true (suits R v k e) (suits_m R v k ms) h).0 i p
    suits_m_all (more e ms) h i (inr p) = suits_m_all ms (and-true (suits R v k e) (suits_m R v k ms) h).1 i p

  mutual
    pub suits_not : (e : Expr) → suits R v k e ≡ false → (i : ℕ) × In i e × (R i v ≡ not k)
    suits_not (goal g) h = (g, refl, beq_false (R g v) k h)
    suits_not (join l e ms) h =
        ⊎_elim (λ t. let x = suits_not e t in (x.0, inl x.1, x.2)) (λ t. let x = suits_m_not ms t in (x.0, inr x.1, x.2))
        (and-false (suits R v k e) (suits_m R v k ms) h)

    pub suits_m_not : (ms : Members) → suits_m R v k ms ≡ false → (i : ℕ) × InM i ms × (R i v ≡ not k)
    suits_m_not (one e) h = suits_not e h
    suits_m_not (more e ms) h =
        ⊎_elim (λ t. let x = suits_not e t in (x.0, inl x.1, x.2)) (λ t. let x = suits_m_not ms t in (x.0, inr x.1, x.2))
        (and-false (suits R v k e) (suits_m R v k ms) h)

  -- the goals of the members that suit
  pub suited : (ms : Members) (i : ℕ) → InP (λ m. suits R v k m) i ms → R i v ≡ k
  suited (one m) i h = suits_all m h.0 i h.1
  suited (more m ms) i (inl h) = suits_all m h.0 i h.1
  suited (more m ms) i (inr h) = suited ms i h

-- v is put in, and is larger than the goals that are there
module _ (R : ℕ → ℕ → Bool) (S : ℕ → Type 0) (o : Order R S) where
  pub no_back : {i j : ℕ} → S i → S j → i ≤ j → R j i ≡ false
  no_back {i} {j} si sj h = is_false (R j i) (λ t. omega (arith, o.rising j i sj si t))

  module _ (v : ℕ) (sv : S v) where
    pub apart : {k : Bool} {i : ℕ} → S i × (i < v) → R i v ≡ k → Apart R k i v
    apart h e = record { differ = omega arith; forth = e; back = no_back h.0 sv (omega arith) }

    module _ (none : NoN R S) where
      -- z - v - i - j would be an N: each is to the next as no two members of a k join are, and no other two of them are so
      no_path : (k : Bool) {z i j : ℕ} → S z × (z < v) → S i × (i < v) → S j × (j < v) → R z v ≡ not k → R i v ≡ not k → R j v ≡ k
          → tie R i j ≡ not k → tie R z i ≡ k → tie R z j ≡ k → ⊥
      no_path false {z} {i} {j} (sz, lz) (si, li) (sj, lj) zv iv jv ij zi zj =
          let zi' = or-false (R z i) (R i z) zi in
          let zj' = or-false (R z j) (R j z) zj in
          let i-j : R i j ≡ true
          = ⊎_elim (λ h. h) (λ h. absurd (true≢false (sym (o.chained j i v sj si sv h iv) ∙ jv))) (or-true (R i j) (R j i) ij) in
          none z i v j sz si sv sj
          (record {
            ac = zv;
            bc = iv;
            bd = i-j;
            ab = zi'.0;
            ba = zi'.1;
            ad = zj'.0;
            da = zj'.1;
            cd = no_back sj sv (omega arith);
            dc = jv;
            ca = no_back sz sv (omega arith);
            cb = no_back si sv (omega arith);
            db = no_back si sj (omega (arith, o.rising i j si sj i-j));
          })
      no_path true {z} {i} {j} (sz, lz) (si, li) (sj, lj) zv iv jv ij zi zj =
          let ij' = or-false (R i j) (R j i) ij in
          let j-z : R j z ≡ true
          = ⊎_elim (λ h. absurd (true≢false (sym (o.chained z j v sz sj sv h jv) ∙ zv))) (λ h. h) (or-true (R z j) (R j z) zj) in
          let i-z : R i z ≡ true
          = ⊎_elim (λ h. absurd (true≢false (sym (o.chained j z i sj sz si j-z h) ∙ ij'.1))) (λ h. h) (or-true (R z i) (R i z) zi) in
          none i j z v si sj sz sv
          (record {
            ac = i-z;
            bc = j-z;
            bd = jv;
            ab = ij'.0;
            ba = ij'.1;
            ad = iv;
            da = no_back si sv (omega arith);
            cd = zv;
            dc = no_back sz sv (omega arith);
            ca = no_back si sz (omega (arith, o.rising i z si sz i-z));
            cb = no_back sj sz (omega (arith, o.rising j z sj sz j-z));
            db = no_back sj sv (omega arith);
          })

      -- Two members of a k join do not suit, one of them because of z: then no goal of the other, m, suits
      pub spread : (k : Bool) (m : Expr) → Fits R m → NoJoin k m → ((i : ℕ) → In i m → S i × (i < v)) → (z : ℕ) → S z × (z < v) → R z v ≡ not k
          → ((i : ℕ) → In i m → tie R z i ≡ k) → suits R v k m ≡ false → (i : ℕ) → In i m → R i v ≡ not k
      spread k m f n l z lz hz t s i p =
          let x = suits_not R v k m s in
          connected R k m f n (λ i. R i v ≡ not k)
          (λ i j p q h e. ⊎_elim (λ u. absurd (no_path k lz (l i p) (l j q) hz e u h (t i p) (t j q))) (λ u. u) (either (R j v) k))
          x.0 i x.1 p x.2

      pub spread_m : (k : Bool) (ms : Members) → FitsM R k ms → HouseM k ms → ((i : ℕ) → InM i ms → S i × (i < v)) → (z : ℕ) → S z × (z < v)
          → R z v ≡ not k → ((i : ℕ) → InM i ms → tie R z i ≡ k) → (i : ℕ) → InP (λ m. not (suits R v k m)) i ms → R i v ≡ not k
      spread_m k (one m) f w l z lz hz t i h = spread k m f w.1 l z lz hz t (not-true (suits R v k m) h.0) i h.1
      spread_m k (more m ms) f w l z lz hz t i (inl h) =
          spread k m f.0 w.1 (λ i p. l i (inl p)) z lz hz (λ i p. t i (inl p)) (not-true (suits R v k m) h.0) i h.1
      spread_m k (more m ms) f w l z lz hz t i (inr h) =
          spread_m k ms f.1 w.3 (λ i p. l i (inr p)) z lz hz (λ i p. t i (inr p)) i h
