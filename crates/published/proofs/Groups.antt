-- Expressions beside each other, and sets so that none stands in front of one that holds it.
use mathlib.Core.Path.{◌≡◌, refl, sym, ap, ap₂, ◌∙◌, subst}
use mathlib.Core.Bool.{Bool, true, false, not, ◌&&◌, true≢false}
use mathlib.Core.List.{List, [], ◌∷◌}
use mathlib.Core.Logic.{◌⊎◌, inl, inr, ⊎_elim}
use Prim.Native.Nat.{ℕ}
use Rattle.expression.specs.Expr.{Expr, stands}
use Rattle.expression.proofs.Fits.{In, InM, Cross, Fits, FitsM}
use Rattle.expression.proofs.Pick.{joined_in, in_joined, joined-fits}
use Rattle.expression.proofs.Spec.{stands_in, in_stands}
use Rattle.expression.proofs.Insert.{apart_sym}
use Rattle.logic.proofs.Bools.{test, by_test, not-true}
use Rattle.published.specs.Sets.{◌is_in◌, subset, same}
use Rattle.published.specs.Linear.{members, group, place, inwards, meets}
use Rattle.published.proofs.Lists.{any-true, in_any, Pair, subset_in, in_subset}

-- ---- i stands in one of the expressions
abbrev pub InOne : ℕ → List Expr → Type 0
InOne i es = (e : Expr) × (e is_in es) × In i e

members_in : (e : Expr) (l : List Expr) (i : ℕ) → InM i (members e l) → InOne i (e ∷ l)
members_in e [] i p = (e, inl refl, p)
members_in e (f ∷ l) i (inl p) = (e, inl refl, p)
members_in e (f ∷ l) i (inr p) = let r = members_in f l i p in (r.0, inr r.1, r.2)

in_members : (e : Expr) (l : List Expr) (i : ℕ) (f : Expr) → f is_in (e ∷ l) → In i f → InM i (members e l)
in_members e [] i f (inl h) p = subst (λ z. In i z) h p
in_members e [] i f (inr h) p = absurd h
in_members e (g ∷ l) i f (inl h) p = inl (subst (λ z. In i z) h p)
in_members e (g ∷ l) i f (inr h) p = inr (in_members g l i f h p)

-- ---- the group of a list that is not empty
pub group_in : (es : List Expr) (x : Expr) → x is_in es → (i : ℕ) → In i (group es) → InOne i es
group_in [] x m i p = absurd m
group_in (e ∷ l) x m i p = members_in e l i (joined_in false (members e l) i p)

pub in_group : (es : List Expr) (i : ℕ) (f : Expr) → f is_in es → In i f → In i (group es)
in_group [] i f m p = absurd m
in_group (e ∷ l) i f m p = in_joined false (members e l) i (in_members e l i f m p)

module _ (R : ℕ → ℕ → Bool) where
  -- no goal of the one is in order with a goal of the other
  abbrev pub Beside : Expr → Expr → Type 0
  Beside e f = Cross R false (λ i. In i e) (λ j. In j f)

  pub beside_sym : (e f : Expr) → Beside e f → Beside f e
  beside_sym e f x i j p q = apart_sym (x j i q p)

  members-fits : (e : Expr) (l : List Expr) → ((f : Expr) → f is_in (e ∷ l) → Fits R f) → Pair Beside (e ∷ l) → FitsM R false (members e l)
  members-fits e [] f p = f e (inl refl)
  members-fits e (g ∷ l) f p = (
    f e (inl refl),
    members-fits g l (λ h m. f h (inr m)) p.1,
    λ i j a b. let r = members_in g l j b in p.0 r.0 r.1 i j a r.2,
  )

  pub group-fits : (es : List Expr) (x : Expr) → x is_in es → ((f : Expr) → f is_in es → Fits R f) → Pair Beside es → Fits R (group es)
  group-fits [] x m f p = absurd m
  group-fits (e ∷ l) x m f p = joined-fits R false (members e l) (members-fits e l f p)

-- ---- a vertex of s stands in e
pub meets_in : (s : List ℕ) (e : Expr) → meets s e ≡ true → (p : ℕ) × (p is_in s) × In p e
meets_in s e h = let r = any-true (stands e) s h in (r.0, r.1, stands_in e r.0 r.2)

pub in_meets : (s : List ℕ) (e : Expr) (p : ℕ) → p is_in s → In p e → meets s e ≡ true
in_meets s e p m h = in_any (stands e) s p m (in_stands e p h)

pub unmet : (s : List ℕ) (e : Expr) → not (meets s e) ≡ true → (p : ℕ) → p is_in s → In p e → ⊥
unmet s e h p m i = true≢false (sym (in_meets s e p m i) ∙ not-true (meets s e) h)

-- ---- no later set holds an earlier one
abbrev pub Inwards : List (List ℕ) → Type 0
Inwards = Pair (λ s t. subset s t ≡ false)

place_in : (s : List ℕ) (l : List (List ℕ)) (t : List ℕ) → t is_in place s l → (t ≡ s) ⊎ (t is_in l)
place_in s [] t m = m
place_in s (u ∷ l) t m =
    by_test (λ z. t is_in z → (t ≡ s) ⊎ (t is_in (u ∷ l))) (subset u s) (λ _ h. h)
    (λ _. ⊎_elim (λ h. inr (inl h)) (λ h. ⊎_elim inl (λ g. inr (inr g)) (place_in s l t h))) m

in_place : (s : List ℕ) (l : List (List ℕ)) (t : List ℕ) → (t ≡ s) ⊎ (t is_in l) → t is_in place s l
in_place s [] t m = m
in_place s (u ∷ l) t m =
    by_test (λ z. t is_in z) (subset u s) (λ _. m)
    (λ _. ⊎_elim (λ h. inr (in_place s l t (inl h))) (⊎_elim inl (λ h. inr (in_place s l t (inr h)))) m)

-- s is not the same as any of l
place-row : (s : List ℕ) (l : List (List ℕ)) → ((t : List ℕ) → t is_in l → same s t ≡ false) → Inwards l → Inwards (place s l)
place-row s [] d r = ((λ t m. absurd m), tt)
place-row s (u ∷ l) d r =
    by_test Inwards (subset u s)
    (λ h. (
      (λ t m.
          ⊎_elim (λ w. absurd (holds h t m w)) (λ w. w) (test (subset s t))),
      r,
    ))
    (λ h. (
      (λ t m. ⊎_elim (λ e. ap (subset u) e ∙ h) (λ n. r.0 t n) (place_in s l t m)),
      place-row s l (λ t m. d t (inr m)) r.1,
    ))
  where
    holds : subset u s ≡ true → (t : List ℕ) → t is_in (u ∷ l) → subset s t ≡ true → ⊥
    holds h t (inl e) w = true≢false (sym (ap₂ ◌&&◌ (ap (subset s) (sym e) ∙ w) h) ∙ d u (inl refl))
    holds h t (inr m) w = true≢false (sym (in_subset u t (λ x n. subset_in s t w x (subset_in u s h x n))) ∙ r.0 t m)

pub inwards_in : (l : List (List ℕ)) (t : List ℕ) → t is_in inwards l → t is_in l
inwards_in [] t m = m
inwards_in (s ∷ l) t m = ⊎_elim inl (λ h. inr (inwards_in l t h)) (place_in s (inwards l) t m)

pub in_inwards : (l : List (List ℕ)) (t : List ℕ) → t is_in l → t is_in inwards l
in_inwards [] t m = m
in_inwards (s ∷ l) t m = in_place s (inwards l) t (⊎_elim inl (λ h. inr (in_inwards l t h)) m)

pub inwards-row : (l : List (List ℕ)) → Pair (λ s t. same s t ≡ false) l → Inwards (inwards l)
inwards-row [] d = tt
inwards-row (s ∷ l) d = place-row s (inwards l) (λ t m. d.0 t (inwards_in l t m)) (inwards-row l d.1)
