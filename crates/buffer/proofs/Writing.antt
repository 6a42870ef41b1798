-- Laws of writing.
use mathlib.Core.Path.{◌≡◌, refl, sym, ap, ◌∙◌, subst}
use mathlib.Core.Bool.{Bool, true, false, cond}
use mathlib.Core.List.{List, [], ◌∷◌, ◌++◌, append_assoc}
use Prim.Native.Nat.{ℕ, suc, ◌+◌, ◌≤◌, ◌<◌}
use native.Mathlib.Nat.{add-zero, add-suc, suc-add}
use native.Mathlib.Omega.{arith}
use lib.ListN.{length, set, take, drop, length-append}
use borrow.Rule.Slice.PartMut.{put_mid}
use Rattle.std.proofs.Math.Seq.{take-length}
use Rattle.std.proofs.lemmas.Slice.{put_mid-paste}
use lib.Dec.{ltb}
use borrow.Author.Tests.{lt-ltb, le-ltb}
use lib.Seq.{sets, sets-eq, length-sets, set-set, set_comm, set_out}
use Rattle.buffer.specs.Text.{Wrote, only, join_from, non_empty, some_texts}

-- stores of t, and then of u
pub sets_append : (t u : List ℕ) (l : List ℕ) (i : ℕ) → sets l i (t ++ u) ≡ sets (sets l i t) (i + length t) u
sets_append [] u l i = ap (λ (k : ℕ). sets l k u) (sym (add-zero i))
sets_append (a ∷ t) u l i =
    sets_append t u (set l i a) (suc i) ∙ ap (λ (k : ℕ). sets (sets (set l i a) (suc i) t) k u) (suc-add i (length t) ∙ sym (add-suc i (length t)))

-- nothing is written
pub none : (at : ℕ) (l : List ℕ) → Wrote [] at l at l
none at l = record { place = sym (add-zero at); bytes = refl }

-- t, and then u at the next place
pub then : {t u : List ℕ} {at m e : ℕ} {l n o : List ℕ} → Wrote t at l m n → Wrote u m n e o → Wrote (t ++ u) at l e o
then {t} {u} {at} {m} {e} {l} {n} {o} p q =
    record {
      place = omega (arith, length-append t u);
      bytes = q.bytes ∙ ap (λ (k : ℕ). sets n k u) p.place ∙ ap (λ (k : List ℕ). sets k (at + length t) u) p.bytes ∙ sym (sets_append t u l at);
    }

-- the buffer keeps its length
pub kept : {t : List ℕ} {at e : ℕ} {l o : List ℕ} → Wrote t at l e o → length o ≡ length l
kept {t} {at} {e} {l} {o} p = ap length p.bytes ∙ length-sets l at t

-- a text that is given another way
pub recast : {t u : List ℕ} {at e : ℕ} {l o : List ℕ} → t ≡ u → Wrote t at l e o → Wrote u at l e o
recast {t} {u} {at} {e} {l} {o} p w = subst (λ (k : List ℕ). Wrote k at l e o) p w

-- a place that is given another way
pub arrive : {t : List ℕ} {at e f : ℕ} {l o : List ℕ} → f ≡ e → Wrote t at l e o → Wrote t at l f o
arrive p w = record { place = p ∙ w.place; bytes = w.bytes }

-- within a buffer that has room, the bytes stand at their place and the rest is as it was
pub stands : {t : List ℕ} {at e : ℕ} {l o : List ℕ} → Wrote t at l e o → at + length t ≤ length l → o ≡ take at l ++ t ++ drop (at + length t) l
stands {t} {at} {e} {l} {o} p h = p.bytes ∙ sets-eq t l at h

-- past the buffer's end nothing is stored
sets_past : (t l : List ℕ) (at : ℕ) → length l ≤ at → sets l at t ≡ l
sets_past [] l at h = refl
sets_past (a ∷ t) l at h = ap (λ (k : List ℕ). sets k (suc at) t) (set_out l at a h) ∙ sets_past t l (suc at) (omega arith)

pub past : (t l : List ℕ) (at : ℕ) → length l ≤ at → Wrote t at l (at + length t) l
past t l at h = record { place = refl; bytes = sym (sets_past t l at h) }

-- a text that is copied into a buffer with room for it
pub copied : (t l t' : List ℕ) (at k : ℕ) → at + length t ≤ length l → k ≡ length t → t' ≡ t → Wrote t at l (at + length t) (put_mid at k l t')
copied t l t' at k h e p =
    record {
      place = refl;
      bytes = put_mid-paste at k l t' t (length t) p (sym e) refl ∙ rw take-length (sym (sets-eq t l at h));
    }

-- a store before the place where a text is written
set_sets : (t : List ℕ) (l : List ℕ) (i j : ℕ) (b : ℕ) → i < j → set (sets l j t) i b ≡ sets (set l i b) j t
set_sets [] l i j b h = refl
set_sets (a ∷ t) l i j b h =
    set_sets t (set l j a) i (suc j) b (omega arith) ∙ ap (λ (k : List ℕ). sets k (suc j) t) (set_comm l j i a b (λ (e : j ≡ i). omega arith))

-- a byte that is stored over the first of a text
pub over : {t : List ℕ} {a b at e f : ℕ} {l n o : List ℕ} → Wrote (a ∷ t) at l e n → Wrote (b ∷ []) at n f o → Wrote (b ∷ t) at l e o
over {t} {a} {b} {at} {e} {f} {l} {n} {o} w v =
    record {
      place = w.place;
      bytes =
          v.bytes ∙ ap (λ (k : List ℕ). set k at b) w.bytes ∙ set_sets t (set l at a) at (suc at) b (omega arith)
          ∙ ap (λ (k : List ℕ). sets k (suc at) t) (set-set l at a b);
    }

-- In a loop: of whole, begun at place at with the buffer l, rest is left to write at place o with the buffer n.
pub record Left (rest whole : List ℕ) (at : ℕ) (l : List ℕ) (o : ℕ) (n : List ℕ) : Type 0 where
  pub place : o + length rest ≡ at + length whole
  pub bytes : sets n o rest ≡ sets l at whole

pub start : (t : List ℕ) (at : ℕ) (l : List ℕ) → Left t t at l at l
start t at l = record { place = refl; bytes = refl }

pub onward : {rest whole t rest' : List ℕ} {at o o' : ℕ} {l n n' : List ℕ} → Left rest whole at l o n → Wrote t o n o' n' → rest ≡ t ++ rest' → Left rest' whole at l o' n'
onward {rest} {whole} {t} {rest'} {at} {o} {o'} {l} {n} {n'} h w e =
    record {
      place = omega (arith, length-append t rest', ap length e);
      bytes = ap (λ (k : ℕ). sets n' k rest') w.place ∙ ap (λ (k : List ℕ). sets k (o + length t) rest') w.bytes ∙ sym (sets_append t rest' n o) ∙ ap (sets n o) (sym e) ∙ h.bytes;
    }

pub done : {rest whole : List ℕ} {at o : ℕ} {l n : List ℕ} → Left rest whole at l o n → rest ≡ [] → Wrote whole at l o n
done {rest} {whole} {at} {o} {l} {n} h e = record { place = omega (arith, ap length e); bytes = ap (sets n o) (sym e) ∙ h.bytes }

-- what is left is written in one go
pub finish : {rest whole : List ℕ} {at o e : ℕ} {l n b : List ℕ} → Left rest whole at l o n → Wrote rest o n e b → Wrote whole at l e b
finish h w = record { place = omega arith; bytes = w.bytes ∙ h.bytes }

-- one text of several, joined
pub join_step : (more : Bool) (sep : ℕ) (t : List ℕ) (ts : List (List ℕ)) → join_from more sep (t ∷ ts) ≡ only more sep ++ t ++ join_from true sep ts
unfolding join_from
join_step more sep t ts = refl

pub join_none : (more : Bool) (sep : ℕ) → join_from more sep [] ≡ []
unfolding join_from
join_none more sep = refl

pub only-length : (b : Bool) (x : ℕ) → length (only b x) ≤ 1
unfolding only
only-length true x = omega arith
only-length false x = omega arith

-- the place moved exactly where something was written: the code's test `start < o` is `non_empty text`
pub moved : {t : List ℕ} {at e : ℕ} {l o : List ℕ} → Wrote t at l e o → ltb at e ≡ non_empty t
unfolding non_empty
moved {t = []} {at} {e} w = le-ltb at e (omega (arith, w.place))
moved {t = b ∷ t} {at} {e} w = lt-ltb at e (omega (arith, w.place))

-- two lists of texts, one after the other
pub join_append : (more : Bool) (sep : ℕ) (xs ys : List (List ℕ)) → join_from more sep (xs ++ ys) ≡ join_from more sep xs ++ join_from (cond (some_texts xs) true more) sep ys
unfolding join_from
join_append more sep [] ys = refl
join_append more sep (t ∷ ts) ys =
    ap (λ (k : List ℕ). only more sep ++ t ++ k) (join_append true sep ts ys ∙ ap (λ (b : Bool). join_from true sep ts ++ join_from b sep ys) (both (some_texts ts)))
    ∙ sym (append_assoc (only more sep ++ t) (join_from true sep ts) (join_from true sep ys))
  where
    both : (b : Bool) → cond b true true ≡ true
    both true = refl
    both false = refl
