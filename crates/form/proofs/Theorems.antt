-- T5, T6 and T9, and request 3 of 02.
-- T9: the closed graph is the chain order (`before_is`), a strict order from lower to higher numbers (`before-order`), and closing again changes nothing
-- (`before-closed`). T5: the search finds q exactly if q is the first N by a, then b, c, d (`first_n_is`), and none exactly if there is none (`no_n_is`).
-- T6, demand 3 (`demand`): for every well-formed record "no form" is answered exactly if no expression has the record's order, with the first four goals
-- that show it; otherwise the call writes the text of the only house form of the record's order, or names its length. Its words are those of
-- specs/Demand.antt. The length estimate is exact (`length_exact`).
pub use Rattle.order.proofs.Theorems.{before_is, before-order, before-closed}
pub use Rattle.expression.proofs.Theorems.{first_n_is, no_n_is}
use Rattle.std.specs.Prelude.{Ok, Err}
use mathlib.Core.Path.{◌≡◌, refl, sym, ap, ◌∙◌, subst}
use mathlib.Core.Bool.{Bool, true, false, ◌||◌, cond, true≢false}
use mathlib.Core.List.{List, [], ◌++◌, append-nil}
use mathlib.Core.Logic.{inl, inr, ◌↔◌}
use mathlib.Core.Option.{Option, none, some}
use Prim.Native.Nat.{ℕ, ◌≤◌}
use native.Mathlib.Omega.{arith}
use lib.Dec.{eqb}
use lib.ListN.{length, replicate, length-replicate, drop_of_length-le}
use borrow.Author.Tests.{eqb-true}
use Rattle.logic.proofs.Bools.{iff, is_false, or_elim, cond_le}
use Rattle.buffer.specs.Lent.{fits}
use Rattle.record_fields.specs.Fields.{goal_count}
use Rattle.record.specs.WellFormed.{WellFormed}
use Rattle.record.proofs.WellFormed.{well_formed_fine, fine_well_formed}
use Rattle.order.specs.Order as O
use Rattle.order.proofs.Theorems as O'
use Rattle.expression.specs.Expr as E
use Rattle.expression.specs.Expr.{Expr, UsesOnce, HouseForm, N, times, stands, Once}
use Rattle.expression.specs.Induced as I
use Rattle.expression.specs.Search.{Four, IsN, first_n}
use Rattle.expression.specs.Form.{form}
use Rattle.expression.specs.Text.{form_limit, text}
use Rattle.expression.proofs.Search.{found_first, not_found}
use Rattle.expression.proofs.Spec.{stands_in, in_times}
use Rattle.expression.proofs.Theorems as E'
use Rattle.expression.proofs.Theorems.{uses_once, order_no_n, no_four, n-distinct, form_is, form_unique, text-fits}
use Rattle.record_rules.specs.Reading.{reading, Reading}
use Rattle.record_rules.specs.Outcome.{Outcome, refused, accepted, next, only_if, size_in}
use Rattle.record_rules.proofs.Outcomes.{told_apart, one_value, size_fits, size_short, buffer_short, same_answer, same_buffer}
use Rattle.form.specs.Form.{or_thirteen, form_text, form_answer, form_length, LengthExact}
use Rattle.form.specs.Demand.{Expresses, FourGoals, OneOf, ExpressesFour, NoForm, HasForm, Demand}
use Rattle.form.proofs.Outcomes.{thirteen-none, thirteen_some, form-refused, form-fine, shown-fine, Held, stored_fit, held-length}

-- 13 is answered for an N alone: else a text is written, or 12 answered
only-thirteen : (o : Option Four) (t buf : List ℕ) → size_in (or_thirteen o t) buf ≡ refused 13 0 → (q : Four) × (o ≡ some q)
only-thirteen none t buf e = absurd (by_room (fits t buf) e)
  where
    by_room : (x : Bool) → only_if x 12 (length t) (accepted (length t)) ≡ refused 13 0 → ⊥
    by_room true e = let z : ◌≡◌ {A = ℕ} 0 1 = cc in omega arith
    by_room false e = let z : ◌≡◌ {A = ℕ} 12 13 = cc in omega arith
only-thirteen (some q) t buf e = (q, refl)

module _ (b : List ℕ) where
  abbrev R : ℕ → ℕ → Bool
  R = O.before b

  abbrev n : ℕ
  n = goal_count b

  -- ---- the orders as tests
  module _ (e : Expr) (once : Once e) where
    to_test : (i j : ℕ) → (I.Before e i j ↔ O.Before b i j) → E.before e i j ≡ R i j
    to_test i j h =
        iff (E.before e i j) (R i j) (λ t. (O'.before_is b i j).1 (h.0 ((E'.before_is e once i j).0 t)))
        (λ t. (E'.before_is e once i j).1 (h.1 ((O'.before_is b i j).0 t)))

    of_test : (i j : ℕ) → E.before e i j ≡ R i j → I.Before e i j ↔ O.Before b i j
    of_test i j h = (
      (λ t. (O'.before_is b i j).0 (sym h ∙ (E'.before_is e once i j).1 t)),
      λ t. (E'.before_is e once i j).0 (h ∙ (O'.before_is b i j).1 t),
    )

  has-order : (e : Expr) → Expresses b e → E.Matches R n e
  has-order e x i j p q = to_test e (uses_once n e x.uses) i j (x.order i j p q)

  expresses : (e : Expr) → UsesOnce n e → E.Matches R n e → Expresses b e
  expresses e u h = record { uses = u; order = λ i j p q. of_test e (uses_once n e u) i j (h i j p q) }

  -- ---- four goals
  off : (i j : ℕ) → R i j ≡ false → O.Before b i j → ⊥
  off i j f t = true≢false (sym ((O'.before_is b i j).1 t) ∙ f)

  on : (i j : ℕ) → R i j ≡ true → O.Before b i j
  on i j = (O'.before_is b i j).0

  set : (i j : ℕ) → O.Before b i j → R i j ≡ true
  set i j = (O'.before_is b i j).1

  unset : (i j : ℕ) → (O.Before b i j → ⊥) → R i j ≡ false
  unset i j h = is_false (R i j) (λ t. h (on i j t))

  four-goals : (q : Four) → IsN R n q → FourGoals b q
  four-goals q (x, ga, gb, gc, gd) =
      record {
        goals = (ga, gb, gc, gd);
        distinct = n-distinct R q.a q.b q.c q.d x;
        before = (on _ _ x.ac, on _ _ x.bc, on _ _ x.bd);
        no_ab = (off _ _ x.ab, off _ _ x.ba);
        no_ad = (off _ _ x.ad, off _ _ x.da);
        no_cd = (off _ _ x.cd, off _ _ x.dc);
        no_back = (off _ _ x.ca, off _ _ x.cb, off _ _ x.db);
      }

  goals-four : (q : Four) → FourGoals b q → IsN R n q
  goals-four q f = (
    record {
      ac = set _ _ f.before.0;
      bc = set _ _ f.before.1;
      bd = set _ _ f.before.2;
      ab = unset _ _ f.no_ab.0;
      ba = unset _ _ f.no_ab.1;
      ad = unset _ _ f.no_ad.0;
      da = unset _ _ f.no_ad.1;
      cd = unset _ _ f.no_cd.0;
      dc = unset _ _ f.no_cd.1;
      ca = unset _ _ f.no_back.0;
      cb = unset _ _ f.no_back.1;
      db = unset _ _ f.no_back.2;
    },
    f.goals.0,
    f.goals.1,
    f.goals.2,
    f.goals.3,
  )

  -- no expression of the four goals alone has their order
  four-alone : (q : Four) → N R q.a q.b q.c q.d → (e : Expr) → ExpressesFour b q e → ⊥
  four-alone q x e y =
      no_four R q.a q.b q.c q.d x e y.uses
      (λ i j si sj. to_test e once i j (y.order i j (one_of i si) (one_of j sj)))
    where
      once : Once e
      once i = omega (arith, y.uses i, cond_le (eqb i q.a || eqb i q.b || eqb i q.c || eqb i q.d))

      of_four : (i : ℕ) → (eqb i q.a || eqb i q.b || eqb i q.c || eqb i q.d) ≡ true → OneOf q i
      of_four i t =
          or_elim (eqb i q.a || eqb i q.b || eqb i q.c) (eqb i q.d) t
          (λ t. or_elim (eqb i q.a || eqb i q.b) (eqb i q.c) t
          (λ t. or_elim (eqb i q.a) (eqb i q.b) t (λ t. inl (eqb-true i q.a t)) (λ t. inr (inl (eqb-true i q.b t))))
          (λ t. inr (inr (inl (eqb-true i q.c t)))))
          (λ t. inr (inr (inr (eqb-true i q.d t))))

      one_of : (i : ℕ) → stands e i ≡ true → OneOf q i
      one_of i s = go (eqb i q.a || eqb i q.b || eqb i q.c || eqb i q.d) refl (y.uses i)
        where
          go : (t : Bool) → (eqb i q.a || eqb i q.b || eqb i q.c || eqb i q.d) ≡ t → times e i ≡ cond t 1 0 → OneOf q i
          go true h u = of_four i h
          go false h u = absurd (omega (arith, in_times e i (stands_in e i s)))

  module _ (w : WellFormed b) where
    -- the search settles the answer: its N, or the form's text
    pub settles : form_text b ≡ or_thirteen (first_n R n) (text (form R n))
    settles = form-fine b (well_formed_fine b w)

    -- where there is no N, the form is the house form of the record's order
    pub the_form : first_n R n ≡ none → HouseForm R n (form R n)
    the_form e = form_is R n (O'.before-order b) (not_found R n e) w.goals_from

    -- 13 is answered exactly if the search finds an N
    pub found-thirteen : (buf : List ℕ) (q : Four) → first_n R n ≡ some q → form_answer b buf ≡ refused 13 0
    found-thirteen buf q e = same_answer buf (settles ∙ thirteen_some (text (form R n)) q e)

    pub thirteen-found : (buf : List ℕ) → form_answer b buf ≡ refused 13 0 → (q : Four) × (first_n R n ≡ some q)
    thirteen-found buf e = only-thirteen (first_n R n) (text (form R n)) buf (sym (same_answer buf settles) ∙ e)

    exactly : (buf : List ℕ) → (form_answer b buf ≡ refused 13 0) ↔ ((e : Expr) → Expresses b e → ⊥)
    exactly buf = (there, back (first_n R n) refl)
      where
        there : form_answer b buf ≡ refused 13 0 → (e : Expr) → Expresses b e → ⊥
        there t e x =
            let (q, h) = thirteen-found buf t in
            let (y, ga, gb, gc, gd) = (found_first R n q h).is in
            order_no_n R n e x.uses (has-order e x) q.a q.b q.c q.d ga gb gc gd y

        back : (o : Option Four) → first_n R n ≡ o → ((e : Expr) → Expresses b e → ⊥) → form_answer b buf ≡ refused 13 0
        back none h f = let g = the_form h in absurd (f (form R n) (expresses (form R n) g.uses g.order))
        back (some q) h f = found-thirteen buf q h

    -- the four goals of the search are those that show it
    pub no_form_lem : (q : Four) → first_n R n ≡ some q → NoForm b q
    no_form_lem q h =
        let f = found_first R n q h in
        let x : form_text b ≡ refused 13 0 = settles ∙ thirteen_some (text (form R n)) q h in
        record {
          shape = four-goals q f.is;
          first = λ r x. f.first r (goals-four r x);
          alone = four-alone q f.is.0;
          answers = λ buf. (same_answer buf x, same_buffer buf x);
          shows = shown-fine b (well_formed_fine b w) ∙ h;
        }

    pub has-form : first_n R n ≡ none → HasForm b (form R n)
    has-form h =
        let f = the_form h in
        let t = text (form R n) in
        let x : form_text b ≡ accepted t = settles ∙ thirteen-none t h in
        record {
          house = f.house;
          expresses = expresses (form R n) f.uses f.order;
          only = λ e g x. form_unique R n e (form R n) (record { uses = x.uses; order = has-order e x; house = g }) f;
          short = text-fits n (form R n) f.uses w.goals_to;
          writes = λ buf l. (same_answer buf x ∙ sym (size_fits t buf refl l), same_buffer buf x ∙ stored_fit t buf l);
          names = λ buf l. (same_answer buf x ∙ sym (size_short t buf refl l), same_buffer buf x ∙ sym (buffer_short t buf l));
        }

    -- 02, 3: for every record with a form, a buffer of the answered length is written, and one byte less is refused by 12 with this length
    pub length_exact : (e : Expr) → Expresses b e → LengthExact b
    length_exact e y = go (first_n R n) refl
      where
        t : List ℕ
        t = text (form R n)

        go : (o : Option Four) → first_n R n ≡ o → LengthExact b
        go none h =
            let f = has-form h in
            let x : form_text b ≡ accepted t = settles ∙ thirteen-none t h in
            record {
              size = length t;
              answers = ap (λ (o : Outcome (List ℕ)). next o (λ t. accepted (length t))) x;
              suffices = λ buf l.
                  let (a, k) = f.writes buf (omega (arith, l)) in
                  (a, ap accepted (k ∙ ap (◌++◌ t) (drop_of_length-le buf {i = length t} (omega (arith, l))) ∙ append-nil t) ∙ sym x);
              never = λ buf l. f.names buf (omega (arith, l));
            }
        go (some q) h = absurd ((exactly []).0 (found-thirteen [] q h) e y)

    pub demand : Demand b
    demand =
        record {
          exactly = exactly;
          without = λ buf t. let (q, h) = thirteen-found buf t in (q, no_form_lem q h);
          otherwise = λ buf h. go buf h (first_n R n) refl;
        }
      where
        go : (buf : List ℕ) → (form_answer b buf ≡ refused 13 0 → ⊥) → (o : Option Four) → first_n R n ≡ o → (e : Expr) × HasForm b e
        go buf h none e = (form R n, has-form e)
        go buf h (some q) e = absurd (h (found-thirteen buf q e))

  -- no form is longer than 146 bytes
  pub form_short : (t : List ℕ) → form_text b ≡ accepted t → length t ≤ form_limit
  form_short t e = by_reading_of (reading b) refl
    where
      searched : WellFormed b → (o : Option Four) → first_n R n ≡ o → length t ≤ form_limit
      searched w none h =
          let x : text (form R n) ≡ t = one_value (sym (settles w ∙ thirteen-none (text (form R n)) h) ∙ e) in
          subst (λ (l : List ℕ). length l ≤ form_limit) x (has-form w h).short
      searched w (some q) h = absurd (told_apart (sym (settles w ∙ thirteen_some (text (form R n)) q h) ∙ e))

      by_reading_of : (s : Reading) → reading b ≡ s → length t ≤ form_limit
      by_reading_of (Ok _) q = searched (fine_well_formed b q) (first_n R n) refl
      by_reading_of (Err r) q = absurd (told_apart (sym (form-refused b r q) ∙ e))

  -- an array of that length holds it
  pub form-held : Held (form_text b) (replicate form_limit 0)
  form-held t e = omega (arith, form_short t e, length-replicate {A = ℕ} form_limit 0)

  -- what writing into that array answers is the form's length
  pub length_is : form_answer b (replicate form_limit 0) ≡ form_length b
  length_is = held-length (form_text b) (replicate form_limit 0) form-held
