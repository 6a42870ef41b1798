-- Two clauses that agree on what the annotation looks at have the same text.
use mathlib.Core.Path.{◌≡◌, refl, sym, ap, ap₂, subst}
use mathlib.Core.Bool.{Bool, false, not, ◌&&◌, ◌||◌, cond}
use mathlib.Core.List.{List, [], ◌∷◌, ◌++◌, map}
use Prim.Native.Nat.{ℕ, zero, suc, ◌+◌, ◌≤◌, ◌<◌}
use native.Mathlib.Nat.{le_refl}
use native.Mathlib.Omega.{arith}
use lib.Dec.{ltb, eqb}
use lib.ListN.{length}
use Rattle.sets.specs.Sets.{has}
use Rattle.buffer.specs.Text.{join_from, non_empty}
use Rattle.buffer.specs.Decimal.{decimal}
use Rattle.mel_stages.proofs.Stages.{all_append, by_stages, start_falls, stages-none, stages-last}
use Rattle.mel_stages.specs.Plain.{All}
use Rattle.mel_stages.specs.Mel.{start, Facts, Stage, Check, Ground, Indep, those_from, shared, across, met, ground_check, indep_check, indeps_from, checks, stages, checks_from, arrow_if, goals_text, stage_text, stages_text, mel_text}

those-same : (k i : ℕ) (f g : ℕ → Bool) → ((x : ℕ) → x < i + k → f x ≡ g x) → those_from k i f ≡ those_from k i g
unfolding those_from
those-same zero i f g h = refl
those-same (suc k) i f g h = ap₂ (λ (b : Bool) (r : List ℕ). cond b (i ∷ r) r) (h i (omega arith)) (those-same k (suc i) f g (λ x l. h x (omega arith)))

module _ (w head : ℕ) (sets : List ℕ) (g₁ g₂ : ℕ → ℕ) (k₁ k₂ : ℕ → ℕ → ℕ → Bool)
    (hg : (n : ℕ) → 0 < n → n ≤ length sets → g₁ n ≡ g₂ n)
    (hk : (n x y : ℕ) → 0 < n → n ≤ length sets → x < w → y < w → k₁ n x y ≡ k₂ n x y) where
  abbrev a : Facts
  a = record { width = w; head = head; sets = sets; grounded = g₁; known = k₁ }

  abbrev b : Facts
  b = record { width = w; head = head; sets = sets; grounded = g₂; known = k₂ }

  ground-same : (p q x : ℕ) → p < length sets → ground_check a p q x ≡ ground_check b p q x
  unfolding ground_check
  ground-same p q x u = ap (λ (m : ℕ). shared sets p q x && not (has m x)) (hg (p + 1) (omega arith) (omega arith))

  indep_same : (p q x y : ℕ) → p < length sets → x < w → y < w → indep_check a p q x y ≡ indep_check b p q x y
  unfolding indep_check
  indep_same p q x y u lx ly =
      ap (λ (t : Bool). (ltb x y && across sets p q x y && not (shared sets p q x || shared sets p q y)) && not (t || not (met head sets p x) || not (met head sets p y))) (hk (p + 1) x y (omega arith) (omega arith) lx ly)

  indeps_same : (p q k x : ℕ) → p < length sets → x + k ≤ w → indeps_from a k x p q ≡ indeps_from b k x p q
  unfolding indeps_from
  indeps_same p q zero x u h = refl
  indeps_same p q (suc k) x u h =
      ap₂ (λ (l : List ℕ) (r : List Check). map (Indep x) l ++ r)
      (those-same w 0 (indep_check a p q x) (indep_check b p q x) (λ y l. indep_same p q x y u (omega arith) (omega arith))) (indeps_same p q k (suc x) u (omega arith))

  checks-same : (p q : ℕ) → p < length sets → checks a p q ≡ checks b p q
  unfolding checks
  checks-same p q u =
      ap₂ (λ (l : List ℕ) (r : List Check). map Ground l ++ r)
      (those-same w 0 (ground_check a p q) (ground_check b p q) (λ x l. ground-same p q x u)) (indeps_same p q w 0 u (omega arith))

  stage_same : (s : Stage) → s.after < length sets → stage_text a s ≡ stage_text b s
  unfolding stage_text
  stage_same s u =
      ap (λ (l : List Check). cond (eqb s.last (s.after + 1)) (decimal s.last)
      ((40 ∷ []) ++ checks_from false l ++ arrow_if (non_empty (checks_from false l)) ++ goals_text s.after s.last ++ (41 ∷ []))) (checks-same s.after s.last u)

  abbrev Inside : Stage → Type 0
  Inside s = s.after < length sets

  stages-same : (l : List Stage) → All Inside l → map (stage_text a) l ≡ map (stage_text b) l
  stages-same [] h = refl
  stages-same (s ∷ l) h = ap₂ (λ (t : List ℕ) (r : List (List ℕ)). t ∷ r) (stage_same s h.0) (stages-same l h.1)

  inside : (q : ℕ) → q ≤ length sets → All Inside (stages w head sets q)
  inside =
      by_stages w head sets (λ q. q ≤ length sets → All Inside (stages w head sets q)) (λ h. subst (All Inside) (sym (stages-none w head sets)) tt) (λ q l ih h.
      let f = start_falls w head sets q l in
      subst (All Inside) (sym (stages-last w head sets q l))
      (all_append Inside (stages w head sets (start w head sets q)) (record { after = start w head sets q; last = q } ∷ []) (ih (omega (arith, f, h))) (omega (arith, f, h), tt)))

  -- what the record's words say of ground sets and known pairs may be exchanged for masks that agree at its goals, below the width
  pub mel-same : mel_text a ≡ mel_text b
  unfolding mel_text stages_text
  mel-same = ap (join_from false 44) (stages-same (stages w head sets (length sets)) (inside (length sets) (le_refl (length sets))))
