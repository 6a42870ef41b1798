-- T1: the order that an expression induces has no N.
use mathlib.Core.Path.{◌≡◌, refl, sym, ap₂, ◌∙◌}
use mathlib.Core.Bool.{Bool, true, false, ◌||◌, true≢false}
use mathlib.Core.Logic.{◌⊎◌, inl, inr, ⊎_elim}
use Prim.Native.Nat.{ℕ}
use Rattle.expression.specs.Expr.{Expr, goal, join, Members, one, more, N}
use Rattle.expression.specs.Split.{tie}
use Rattle.expression.proofs.Fits.{In, InM, Cross, Fits, FitsM, stay_in, stay_out}

module _ (R : ℕ → ℕ → Bool) where
  tied : {i j : ℕ} → R i j ≡ true → tie R i j ≡ true
  tied {i} {j} h = ap₂ ◌||◌ h (refl {a = R j i})

  tied' : {i j : ℕ} → R i j ≡ false → R j i ≡ true → tie R i j ≡ true
  tied' h g = ap₂ ◌||◌ h g

  free : {i j : ℕ} → R i j ≡ false → R j i ≡ false → tie R i j ≡ false
  free h g = ap₂ ◌||◌ h g

  module _ {a b c d : ℕ} (n : N R a b c d) where
    -- the four stand all in the first member, or all in the others: in a group because of a - c - b - d, which are in order, in a sequence
    -- because of b - a - d - c, which are not
    sides : (k : Bool) {P Q : ℕ → Type 0} → Cross R k P Q → P a ⊎ Q a → P b ⊎ Q b → P c ⊎ Q c → P d ⊎ Q d
        → (P a × P b × P c × P d) ⊎ (Q a × Q b × Q c × Q d)
    sides false x (inl pa) b c d =
        let pc = stay_in R x (tied n.ac) pa c in
        let pb = stay_in R x (tied' n.cb n.bc) pc b in
        inl (pa, pb, pc, stay_in R x (tied n.bd) pb d)
    sides false x (inr pa) b c d =
        let pc = stay_out R x (tied n.ac) pa c in
        let pb = stay_out R x (tied' n.cb n.bc) pc b in
        inr (pa, pb, pc, stay_out R x (tied n.bd) pb d)
    sides true x (inl pa) b c d =
        let pd = stay_in R x (free n.ad n.da) pa d in
        inl (pa, stay_in R x (free n.ab n.ba) pa b, stay_in R x (free n.dc n.cd) pd c, pd)
    sides true x (inr pa) b c d =
        let pd = stay_out R x (free n.ad n.da) pa d in
        inr (pa, stay_out R x (free n.ab n.ba) pa b, stay_out R x (free n.dc n.cd) pd c, pd)

    mutual
      pub no_n : (e : Expr) → Fits R e → In a e → In b e → In c e → In d e → ⊥
      no_n (goal g) f ia ib ic id = true≢false (sym n.ac ∙ ap₂ R ia ic ∙ f)
      no_n (join k e ms) f ia ib ic id =
          ⊎_elim (λ s. no_n e f.0 s.0 s.1 s.2 s.3) (λ s. no_n_m k ms f.1 s.0 s.1 s.2 s.3)
          (sides k f.2 ia ib ic id)

      no_n_m : (k : Bool) (ms : Members) → FitsM R k ms → InM a ms → InM b ms → InM c ms → InM d ms → ⊥
      no_n_m k (one e) f ia ib ic id = no_n e f ia ib ic id
      no_n_m k (more e ms) f ia ib ic id =
          ⊎_elim (λ s. no_n e f.0 s.0 s.1 s.2 s.3) (λ s. no_n_m k ms f.1 s.0 s.1 s.2 s.3)
          (sides k f.2 ia ib ic id)
