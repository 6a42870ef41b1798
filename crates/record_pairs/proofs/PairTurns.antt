-- One pair after the other, as a loop takes them.
use Rattle.std.specs.Prelude.{Ok, Err, is_ok}
use mathlib.Core.Path.{◌≡◌, refl, sym, ap, ◌∙◌}
use mathlib.Core.Bool.{Bool, true, false, ◌&&◌}
use mathlib.Core.List.{List}
use Prim.Native.Nat.{ℕ, zero, suc, ◌+◌, ◌*◌, ◌<◌}
use native.Mathlib.Numerals.{add-one}
use native.Mathlib.Omega.{arith}
use lib.Dec.{ltb, leb}
use lib.ListN.{length}
use borrow.Author.Tests.{lt-ltb, ltb-true}
use Rattle.logic.proofs.Bools.{and_l}
use Rattle.record_fields.specs.Fields.{byte, number, var_count, pairs_place, pair_at}
use Rattle.record_fields.proofs.Digits.{number_two}
use Rattle.record_rules.specs.declared.Refusal.{Refusal}
use Rattle.record_rules.proofs.Must.{must_err, must_ok}
use Rattle.record_rules.specs.Reading.{Reading, ◌must◌else◌place◌, pair, pairs, ordered, ascends}
use Rattle.record_rules.proofs.Fine.{pairs_next, pairs_stop}
use Rattle.record_pairs.specs.Order.{pair_fine}

module _ (b : List ℕ) where
  -- the number of the pair before pair k, or 0: every pair that is lower then higher is above 0
  unfoldable pub last : ℕ → ℕ
  last zero = 0
  last (suc k) = number b (pair_at b k) 2

  pub last_zero : 0 ≡ last 0
  unfolding last
  last_zero = refl

  last_more : (k : ℕ) → last (k + 1) ≡ byte b (pair_at b k) * 256 + byte b (pair_at b k + 1)
  unfolding last
  last_more k = rw add-one (number_two b (pair_at b k))

  pub last_turn : (from low high k : ℕ) → from ≡ pairs_place b → low ≡ byte b (from + 2 * k) → high ≡ byte b (from + 2 * k + 1) → low * 256 + high ≡ last (k + 1)
  last_turn from low high k ef el eh = cc (last_more k)

  and-true : (p q : Bool) → (p ≡ true → q ≡ true) → p && q ≡ p && true
  and-true true q h = h refl
  and-true false q h = refl

  in_turn : (k : ℕ)
      → pair_fine (byte b (pair_at b k)) (byte b (pair_at b k + 1)) (var_count b) (last k) (byte b (pair_at b k) * 256 + byte b (pair_at b k + 1))
      ≡ ordered b (pair_at b k) && ascends b k
  unfolding ordered ascends last
  in_turn zero =
      let low = byte b (pair_at b 0) in
      let high = byte b (pair_at b 0 + 1) in
      and-true (ltb low high && ltb high (var_count b)) (ltb 0 (low * 256 + high))
      (λ e.
      let l : low < high = ltb-true low high (and_l (ltb low high) (ltb high (var_count b)) e) in
      lt-ltb 0 (low * 256 + high) (omega arith))
  in_turn (suc k) =
      ap (pair_fine (byte b (pair_at b (suc k))) (byte b (pair_at b (suc k) + 1)) (var_count b) (number b (pair_at b k) 2)) (sym (number_two b (pair_at b (suc k))))

  -- ---- the loop goes on, or stops with a refusal

  module _ (from k : ℕ) (ef : from ≡ pairs_place b) (h : pairs b k (Ok tt) ≡ Ok tt) where
    -- whether pair k is whole
    abbrev pub Whole : Reading
    Whole = Ok tt must leb (from + 2 * k + 2) (length b) else 7 place length b

    turn : pair b k (Ok tt) ≡ (Whole must ordered b (pair_at b k) && ascends b k else 10 place (from + 2 * k))
    unfolding pair
    turn = rw ef

    pub short : (p : ℕ) (r : Refusal) → k < p → Whole ≡ Err r → Err r ≡ pairs b p (Ok tt)
    short p r l e = let t = turn ∙ must_err Whole _ 10 (from + 2 * k) r e in sym t ∙ pairs_stop b k p l h (ap is_ok t)

    module _ (v low high before key : ℕ) (ev : v ≡ var_count b) (el : low ≡ byte b (from + 2 * k)) (eh : high ≡ byte b (from + 2 * k + 1)) (ek : key ≡ low * 256 + high)
        (eb : before ≡ last k) (w : Whole ≡ Ok tt) (q : Bool) (eq : q ≡ pair_fine low high v before key) where
      whole_turn : pair b k (Ok tt) ≡ (Ok tt must q else 10 place (from + 2 * k))
      whole_turn =
          let z : q ≡ ordered b (pair_at b k) && ascends b k = cc (in_turn k) in
          turn ∙ must_ok Whole _ 10 (from + 2 * k) w ∙ ap (λ (t : Bool). Ok tt must t else 10 place (from + 2 * k)) (sym z)

      pub go : (Ok tt must q else 10 place (from + 2 * k)) ≡ Ok tt → pairs b (k + 1) (Ok tt) ≡ Ok tt
      go t = pairs_next b k h ∙ whole_turn ∙ t

      pub stop : (p : ℕ) (r : Refusal) → k < p → (Ok tt must q else 10 place (from + 2 * k)) ≡ Err r → Err r ≡ pairs b p (Ok tt)
      stop p r l e = let t = whole_turn ∙ e in sym t ∙ pairs_stop b k p l h (ap is_ok t)
