-- The loop that looks for refusal 17: at a digit it takes two bytes.
use mathlib.Core.Path.{◌≡◌, refl, sym, ap, ap₂, ◌∙◌}
use mathlib.Core.Bool.{true, false, ◌&&◌, ◌||◌, cond, or_comm, true≢false}
use mathlib.Core.List.{List, [], ◌∷◌}
use mathlib.Core.Option.{none, some}
use mathlib.Core.Logic.{⊎_elim, dite}
use Prim.Native.Nat.{ℕ, suc, ◌+◌, ◌-◌, ◌<◌, ◌≤◌}
use native.Mathlib.Omega.{arith}
use native.Mathlib.Decide.{dec_lt}
use native.Mathlib.Numerals.{add-one, add-two}
use lib.Dec.{eqb, leb, ltb}
use lib.ListN.{length, get_or, drop, drop_of_length-le, get_or-eq_default}
use borrow.Author.Tests.{eqb-true, eqb-false, eq-eqb, ne_eqb, leb-true, le-leb, lt-ltb, le-ltb}
use Rattle.logic.proofs.Bools.{test, and-true}
use Rattle.sets.specs.Sets.{has, union, single}
use Rattle.sets.proofs.Membership.{has-union, has_empty, has-single}
use Rattle.expression_grammar.specs.Reader.{Sign, digit, joiner, opener, closer, other, sign}
use Rattle.expression_grammar.specs.Numbers.{Found, found, fresh, grown, scan, numbers, among, fault}
use Rattle.expression_grammar.proofs.Signs.{Is, sign_is, sign_digit}
use Rattle.expression_number.proofs.Runs.{drop_at}
use Rattle.std.specs.Prelude.{Some}
use Rattle.expression_reading.specs.TextReading.{is_digit, found_at, value_at, spot, fault_in}

-- ---- one number
grown-place : (x : Found) (c : Sign) → (grown x c).place ≡ x.place
grown-place x (digit w) = refl
grown-place x (joiner k) = refl
grown-place x opener = refl
grown-place x closer = refl
grown-place x other = refl

grown_other : (x : Found) (b : ℕ) (c : Sign) → Is c b → is_digit b ≡ false → grown x c ≡ x
grown_other x b (digit w) i h = absurd (digit_not b w i h)
  where
    digit_not : (b w : ℕ) → Is (digit w) b → is_digit b ≡ false → ⊥
    digit_not b w i h = let z : true ≡ false = sym (ap₂ (λ p q. p && q) (le-leb 48 b (omega (arith, i.0))) (le-leb b 57 (omega (arith, i.0, i.1)))) ∙ h in absurd (true≢false z)
grown_other x b (joiner k) i h = refl
grown_other x b opener i h = refl
grown_other x b closer i h = refl
grown_other x b other i h = refl

-- a digit is 48 to 57
pub digit_is : (b : ℕ) → is_digit b ≡ true → (48 ≤ b) × (b ≤ 57)
digit_is b h = let p = and-true (leb 48 b) (leb b 57) h in (leb-true 48 b p.0, leb-true b 57 p.1)

module _ (s : List ℕ) (a : ℕ) where
  after_digit : (x : Found) → scan (drop (suc a) s) (suc a) (some x) ≡ grown x (sign (get_or s (a + 1) 0)) ∷ scan (drop (a + 2) s) (a + 2) none
  after_digit x =
      rw (add-one a, add-two a)
      (dite (dec_lt (suc a) (length s))
      (λ h. ap (λ t. scan t (suc a) (some x)) (drop_at s (suc a) h))
      (λ h. ap (λ t. scan t (suc a) (some x)) (drop_of_length-le s {i = suc a} (omega arith))
      ∙ sym (ap₂ (λ b t. grown x (sign b) ∷ scan t (suc (suc a)) none) (get_or-eq_default s 0 {n = suc a} (omega arith)) (drop_of_length-le s {i = suc (suc a)} (omega arith)))))

  scan_digit : a < length s → 48 ≤ get_or s a 0 → get_or s a 0 ≤ 57 → scan (drop a s) a none ≡ found_at s a ∷ scan (drop (a + 2) s) (a + 2) none
  scan_digit h lo hi =
      let v = get_or s a 0 - 48 in
      let e : get_or s a 0 ≡ 48 + v = omega arith in
      ap (λ t. scan t a none) (drop_at s a h)
      ∙ ap (λ c. scan (drop (suc a) s) (suc a) (fresh c a)) (ap (λ z. sign z) e ∙ sign_digit v (omega arith))
      ∙ after_digit (found v a)

  fresh-none : (b : ℕ) (c : Sign) → Is c b → is_digit b ≡ false → fresh c a ≡ none
  fresh-none b (digit w) i h = absurd (true≢false (sym (ap₂ (λ p q. p && q) (le-leb 48 b (omega (arith, i.0))) (le-leb b 57 (omega (arith, i.0, i.1)))) ∙ h))
  fresh-none b (joiner k) i h = refl
  fresh-none b opener i h = refl
  fresh-none b closer i h = refl
  fresh-none b other i h = refl

  scan_other : a < length s → is_digit (get_or s a 0) ≡ false → scan (drop a s) a none ≡ scan (drop (a + 1) s) (a + 1) none
  scan_other h n =
      rw (add-one a)
      (ap (λ t. scan t a none) (drop_at s a h) ∙ ap (λ o. scan (drop (suc a) s) (suc a) o) (fresh-none (get_or s a 0) (sign (get_or s a 0)) (sign_is (get_or s a 0)) n))

eqb_sym : (a b : ℕ) → eqb a b ≡ eqb b a
eqb_sym a b = ⊎_elim (λ t. t ∙ sym (eq-eqb b a (sym (eqb-true a b t)))) (λ t. t ∙ sym (ne_eqb b a (λ e. eqb-false a b t (sym e)))) (test (eqb a b))

-- ---- the loop
pub record Scanned (n : ℕ) (s : List ℕ) (at met : ℕ) : Type 0 where
  pub list : List ℕ
  pub met_is : (v : ℕ) → v ≤ n → has met v ≡ among v list
  pub from : fault n [] (numbers s) ≡ fault n list (scan (drop at s) at none)

pub scanned_start : (n : ℕ) (s : List ℕ) → Scanned n s 0 0
scanned_start n s = record { list = []; met_is = λ v h. has_empty v; from = refl }

module _ (n : ℕ) (s : List ℕ) (at met : ℕ) (h : Scanned n s at met) where
  pub scanned_skip : at < length s → is_digit (get_or s at 0) ≡ false → Scanned n s (at + 1) met
  scanned_skip lt e = record { list = h.list; met_is = h.met_is; from = h.from ∙ ap (λ l. fault n h.list l) (scan_other s at lt e) }

  module _ (lt : at < length s) (is : is_digit (get_or s at 0) ≡ true) where
    abbrev v : ℕ
    v = value_at s at

    here : fault n [] (numbers s) ≡ cond (ltb n v || among v h.list) (some at) (fault n (v ∷ h.list) (scan (drop (at + 2) s) (at + 2) none))
    here =
        h.from ∙ ap (λ l. fault n h.list l) (scan_digit s at lt (digit_is (get_or s at 0) is).0 (digit_is (get_or s at 0) is).1)
        ∙ ap (λ p. cond (ltb n v || among v h.list) (some p) (fault n (v ∷ h.list) (scan (drop (at + 2) s) (at + 2) none))) (grown-place (found (get_or s at 0 - 48) at) (sign (get_or s (at + 1) 0)))

    pub scanned_above : n < v → fault_in n s ≡ Some at
    scanned_above a = ap spot (here ∙ ap (λ b. cond (b || among v h.list) (some at) (fault n (v ∷ h.list) (scan (drop (at + 2) s) (at + 2) none))) (lt-ltb n v a))

    module _ (le : v ≤ n) where
      pub scanned_met : has met v ≡ true → fault_in n s ≡ Some at
      scanned_met t =
          ap spot (here ∙ ap₂ (λ b c. cond (b || c) (some at) (fault n (v ∷ h.list) (scan (drop (at + 2) s) (at + 2) none))) (le-ltb n v le) (sym (h.met_is v le) ∙ t))

      pub scanned_more : has met v ≡ false → Scanned n s (at + 2) (union met (single v))
      scanned_more t =
          record {
            list = v ∷ h.list;
            met_is = λ u lu. has-union met (single v) u ∙ or_comm (has met u) (has (single v) u) ∙ ap₂ (λ b c. b || c) (power u) (h.met_is u lu);
            from = here ∙ ap₂ (λ b c. cond (b || c) (some at) (fault n (v ∷ h.list) (scan (drop (at + 2) s) (at + 2) none))) (le-ltb n v le) (sym (h.met_is v le) ∙ t);
          }
        where
          power : (u : ℕ) → has (single v) u ≡ eqb u v
          power u = has-single v u ∙ eqb_sym v u
