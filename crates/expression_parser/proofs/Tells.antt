-- What nodes and rows tell of what is read: one member more, and the end of a join.
use mathlib.Core.Path.{◌≡◌, refl, sym, ap, ap₂, ◌∙◌, subst}
use mathlib.Core.Bool.{Bool, true, false, ◌&&◌, ◌||◌, cond, and-false, and_comm, or_assoc, or-false, true≢false}
use mathlib.Core.List.{List}
use mathlib.Core.Option.{none, some}
use Prim.Native.Nat.{ℕ, zero, suc, ◌+◌, ◌<◌, ◌≤◌}
use native.Mathlib.Omega.{arith}
use lib.Dec.{leb}
use borrow.Author.Tests.{le-leb}
use Rattle.logic.proofs.Bools.{or-false as neither}
use Rattle.sets.specs.Sets.{has, union, meet}
use Rattle.sets.proofs.Membership.{has-union, has_meet, has_empty, none_empty}
use Rattle.graph.specs.Graph.{behind, Words}
use Rattle.expression.specs.Expr.{Expr, join, Members, one, more, times, times_m, stands, stands_m, before, before_m}
use Rattle.expression_grammar.specs.Reader.{Front, close, push}
use Rattle.graph.specs.Linking.{Linked}
use Rattle.expression_number.specs.declared.Kind.{Kind}
use Rattle.expression_number.specs.declared.Kind.TheVariants.{Group as Groups, Sequence as Sequences}
use Rattle.expression_number.specs.Nodes.{kind_of, bit, Told}

-- ---- Booleans
bool_push : (r bx bm k s x y m : Bool) → (r || (bx || bm || (k && x && m) || (k && (s && (y || m))))) ≡ ((r || bx || (k && (s && y))) || (bm || (k && ((s || x) && m))))
bool_push true bx bm k s x y m = refl
bool_push false true bm k s x y m = refl
bool_push false false true true true x true m = refl
bool_push false false true true true x false m = refl
bool_push false false true true false x y m = refl
bool_push false false true false s x y m = refl
bool_push false false false true true true true true = refl
bool_push false false false true true true false true = refl
bool_push false false false true false true y true = refl
bool_push false false false true true true y false = refl
bool_push false false false true false true y false = refl
bool_push false false false true true false y m = refl
bool_push false false false true false false y m = refl
bool_push false false false false s x y m = refl

bool_first : (r bx bm k x y m : Bool) → (r || (bx || bm || (k && x && m))) ≡ ((r || bx || (k && (false && y))) || (bm || (k && (x && m))))
bool_first true bx bm k x y m = refl
bool_first false true bm k x y m = refl
bool_first false false true true x y m = refl
bool_first false false true false x y m = refl
bool_first false false false true x y m = refl
bool_first false false false false x y m = refl

nothing : (k a : Bool) → (a || (k && false)) ≡ a
nothing k a = ap (λ b. a || b) (and-false k) ∙ or-false a

-- ---- sets
stands-or : (a b : ℕ) → leb 1 (a + b) ≡ (leb 1 a || leb 1 b)
stands-or zero b = let e : zero + b ≡ b = omega arith in ap (λ z. leb 1 z) e
stands-or (suc a) b = le-leb 1 (suc a + b) (omega arith) ∙ ap (λ z. z || leb 1 b) (sym (le-leb 1 (suc a) (omega arith)))

union-none : (a b : ℕ) → union a b ≡ 0 → (a ≡ 0) × (b ≡ 0)
union-none a b z = (none_empty a (λ i. (parts i).0), none_empty b (λ i. (parts i).1))
  where
    parts : (i : ℕ) → (has a i ≡ false) × (has b i ≡ false)
    parts i = neither (has a i) (has b i) (sym (has-union a b i) ∙ ap (λ z. has z i) z ∙ has_empty i)

-- two sets that have nothing in common
bit-union : (a b : ℕ) → meet a b ≡ 0 → (v : ℕ) → bit a v + bit b v ≤ bit (union a b) v
bit-union a b z zero = omega arith
bit-union a b z (suc i) =
    subst (λ c. cond {A = ℕ} (has a i) 1 0 + cond (has b i) 1 0 ≤ cond c 1 0) (sym (has-union a b i))
    (go (has a i) (has b i) (sym (has_meet a b i) ∙ ap (λ z. has z i) z ∙ has_empty i))
  where
    go : (p q : Bool) → (p && q) ≡ false → cond {A = ℕ} p 1 0 + cond q 1 0 ≤ cond (p || q) 1 0
    go true true e = absurd (true≢false e)
    go true false e = omega arith
    go false true e = omega arith
    go false false e = omega arith

-- ---- the front of a join
abbrev pub join_kind : Bool → Kind
join_kind true = Sequences
join_kind false = Groups

kind_join : (k : Bool) (x : Expr) (ms : Members) → kind_of (join k x ms) ≡ join_kind k
kind_join true x ms = refl
kind_join false x ms = refl

-- x is what the members ms make of a front of which the set and the rows tell
pub record Tells (w : ℕ) (k : Bool) (x : Expr) (ms : Members) (rows₀ : List ℕ) (set extra : ℕ) (rows : List ℕ) : Type 0 where
  pub kinds : kind_of x ≡ join_kind k
  pub stand : (i : ℕ) → i < w → stands x (suc i) ≡ (has set i || stands_m ms (suc i))
  pub once : extra ≡ 0 → (v : ℕ) → times x v ≤ bit set v + times_m ms v
  pub order : (i j : ℕ) → i < w → j < w
      → (behind rows₀ (suc i) (suc j) || before x (suc i) (suc j)) ≡ (behind rows (suc i) (suc j) || (before_m k ms (suc i) (suc j) || (k && (has set i && stands_m ms (suc j)))))

abbrev pub FrontTold : ℕ → Bool → Front → List ℕ → ℕ → ℕ → List ℕ → Type 0
FrontTold w k none rows₀ set extra rows = (set ≡ 0) × (rows ≡ rows₀)
FrontTold w k (some h) rows₀ set extra rows = (ms : Members) → Tells w k (h ms) ms rows₀ set extra rows

-- a word that is 0 only if both parts' are and the parts have no number in common
abbrev pub clash : ℕ → ℕ → ℕ → ℕ → ℕ
clash extra new set part = union (union extra new) (meet set part)

clash-none : (extra new set part : ℕ) → clash extra new set part ≡ 0 → (extra ≡ 0) × (new ≡ 0) × (meet set part ≡ 0)
clash-none extra new set part z =
    let p = union-none (union extra new) (meet set part) z in
    let q = union-none extra new p.0 in
    (q.0, q.1, p.1)

-- in a sequence the members before are before the new one
pub record Links (w : ℕ) (k : Bool) (set part : ℕ) (rows now : List ℕ) : Type 0 where
  pub words : Words w now
  pub order : (i j : ℕ) → i < w → j < w → behind now (suc i) (suc j) ≡ (behind rows (suc i) (suc j) || (k && (has set i && has part j)))

pub links_sequence : (w set part : ℕ) (rows now : List ℕ) → Linked w part set rows now → Links w true set part rows now
links_sequence w set part rows now h =
    record { words = h.words; order = λ i j l l'. h.order j i l' ∙ ap (λ b. behind rows (suc i) (suc j) || b) (and_comm (has part j) (has set i)) }

pub links_group : (w set part : ℕ) (rows : List ℕ) → Words w rows → Links w false set part rows rows
links_group w set part rows ws = record { words = ws; order = λ i j l l'. sym (or-false (behind rows (suc i) (suc j))) }

module _ (w : ℕ) (k : Bool) (rows₀ : List ℕ) (set extra : ℕ) (rows : List ℕ) (x : Expr) (kind : Kind) (part new : ℕ) (mid now : List ℕ) where
  set_is : Told w x rows kind part new mid → (i : ℕ) → i < w → has (union set part) i ≡ (has set i || stands x (suc i))
  set_is t i h = has-union set part i ∙ ap (λ z. has set i || z) (t.stand i h)

  now_is : Told w x rows kind part new mid → Links w k set part mid now → (i j : ℕ) → i < w → j < w
      → behind now (suc i) (suc j) ≡ (behind rows (suc i) (suc j) || before x (suc i) (suc j) || (k && (has set i && stands x (suc j))))
  now_is t l i j h h' = l.order i j h h' ∙ ap₂ (λ a b. a || (k && (has set i && b))) (t.order i j h h') (t.stand j h')

  -- a first member alone: nothing is put before it
  pub told_alone : FrontTold w k none rows₀ set extra rows → Told w x rows kind part new mid → Links w k set part mid now → Told w x rows₀ kind part new now
  told_alone h t l =
      let blank : (i : ℕ) → has set i ≡ false = λ i. ap (λ z. has z i) h.0 ∙ has_empty i in
      record {
        kinds = t.kinds;
        stand = t.stand;
        once = t.once;
        order = λ i j lt lt'.
            l.order i j lt lt' ∙ ap (λ b. behind mid (suc i) (suc j) || (k && (b && has part j))) (blank i) ∙ nothing k (behind mid (suc i) (suc j))
            ∙ t.order i j lt lt' ∙ ap (λ z. behind z (suc i) (suc j) || before x (suc i) (suc j)) h.1;
        words = l.words;
      }

  pub told_push : (f : Front) → FrontTold w k f rows₀ set extra rows → Told w x rows kind part new mid → Links w k set part mid now
      → FrontTold w k (some (push k f x)) rows₀ (union set part) (clash extra new set part) now
  told_push none h t l = λ ms.
      let empty : (i : ℕ) → has set i ≡ false = λ i. ap (λ z. has z i) h.0 ∙ has_empty i in
      let set-now : (i : ℕ) → i < w → has (union set part) i ≡ stands x (suc i) = λ i lt. set_is t i lt ∙ ap (λ z. z || stands x (suc i)) (empty i) in
      record {
        kinds = kind_join k x ms;
        stand = λ i lt. stands-or (times x (suc i)) (times_m ms (suc i)) ∙ ap (λ z. z || stands_m ms (suc i)) (sym (set-now i lt));
        once = λ z v.
            let p = clash-none extra new set part z in
            omega (arith, t.once p.1 v, bit-union set part p.2 v);
        order = λ i j lt lt'.
            bool_first (behind rows₀ (suc i) (suc j)) (before x (suc i) (suc j)) (before_m k ms (suc i) (suc j)) k (stands x (suc i)) (stands x (suc j)) (stands_m ms (suc j))
            ∙ ap₂ (λ a b. a || (before_m k ms (suc i) (suc j) || (k && (b && stands_m ms (suc j)))))
            (ap₂ (λ a b. behind a (suc i) (suc j) || before x (suc i) (suc j) || (k && (b && stands x (suc j)))) (sym h.1) (sym (empty i)) ∙ sym (now_is t l i j lt lt'))
            (sym (set-now i lt));
      }
  told_push (some f) h t l = λ ms.
      let r = h (more x ms) in
      record {
        kinds = r.kinds;
        stand = λ i lt. r.stand i lt ∙ ap (λ z. has set i || z) (stands-or (times x (suc i)) (times_m ms (suc i))) ∙ sym (or_assoc (has set i) (stands x (suc i)) (stands_m ms (suc i)))
            ∙ ap (λ z. z || stands_m ms (suc i)) (sym (set_is t i lt));
        once = λ z v.
            let p = clash-none extra new set part z in
            omega (arith, r.once p.0 v, t.once p.1 v, bit-union set part p.2 v);
        order = λ i j lt lt'.
            r.order i j lt lt'
            ∙ ap (λ z. behind rows (suc i) (suc j) || (before_m k (more x ms) (suc i) (suc j) || (k && (has set i && z)))) (stands-or (times x (suc j)) (times_m ms (suc j)))
            ∙ bool_push (behind rows (suc i) (suc j)) (before x (suc i) (suc j)) (before_m k ms (suc i) (suc j)) k (has set i) (stands x (suc i)) (stands x (suc j)) (stands_m ms (suc j))
            ∙ ap₂ (λ a b. a || (before_m k ms (suc i) (suc j) || (k && (b && stands_m ms (suc j))))) (sym (now_is t l i j lt lt')) (sym (set_is t i lt));
      }

  pub told_close : (f : Members → Expr) → FrontTold w k (some f) rows₀ set extra rows → Told w x rows kind part new mid → Links w k set part mid now
      → Told w (close (some f) x) rows₀ (join_kind k) (union set part) (clash extra new set part) now
  told_close f h t l =
      let r = h (one x) in
      record {
        kinds = sym r.kinds;
        stand = λ i lt. set_is t i lt ∙ sym (r.stand i lt);
        once = λ z v.
            let p = clash-none extra new set part z in
            omega (arith, r.once p.0 v, t.once p.1 v, bit-union set part p.2 v);
        words = l.words;
        order = λ i j lt lt'. now_is t l i j lt lt' ∙ or_assoc (behind rows (suc i) (suc j)) (before x (suc i) (suc j)) (k && (has set i && stands x (suc j))) ∙ sym (r.order i j lt lt');
      }
