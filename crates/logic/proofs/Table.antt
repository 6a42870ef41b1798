-- Laws of tables: their length and elements, and how a loop fills one from the front.
use mathlib.Core.Path.{◌≡◌, refl, sym, ap, ◌∙◌}
use mathlib.Core.Logic.{⊎_elim}
use mathlib.Core.Bool.{cond}
use mathlib.Core.List.{List}
use Prim.Native.Nat.{ℕ, zero, suc, ◌+◌, ◌≤◌, ◌<◌}
use native.Mathlib.Nat.{le_of_suc-le-suc, not-suc-le-zero, eq-or-lt_of_le}
use native.Mathlib.Decide.{dec_lt}
use native.Mathlib.Omega.{arith}
use mathlib.Core.Logic.{dite}
use lib.Dec.{ltb}
use lib.ListN.{length, get_or, set, replicate, length-set, get_or-replicate, length-replicate, get_or-eq_default}
use lib.Seq.{ext_get_or, get_or-set_same, get_or-set_other}
use borrow.Author.Tests.{lt-ltb, le-ltb}
use Rattle.logic.specs.Table.{table_from, table}

from-length : (w i n : ℕ) (f : ℕ → ℕ) → length (table_from w i n f) ≡ w
unfolding table_from
from-length zero i n f = refl
from-length (suc w) i n f = ap suc (from-length w (suc i) n f)

from_at : (w i n : ℕ) (f : ℕ → ℕ) (k : ℕ) → k < w → get_or (table_from w i n f) k 0 ≡ cond (ltb (i + k) n) (f (i + k)) 0
unfolding table_from
from_at zero i n f k h = absurd (not-suc-le-zero h)
from_at (suc w) i n f zero h = let e : i + 0 ≡ i = omega arith in rw e
from_at (suc w) i n f (suc k) h =
    let e : suc i + k ≡ i + suc k = omega arith in
    from_at w (suc i) n f k (le_of_suc-le-suc h) ∙ ap (λ (x : ℕ). cond (ltb x n) (f x) 0) e

pub table-length : (w n : ℕ) (f : ℕ → ℕ) → length (table w n f) ≡ w
table-length w n f = from-length w 0 n f

pub table_at : (w n : ℕ) (f : ℕ → ℕ) (i : ℕ) → i < w → i < n → get_or (table w n f) i 0 ≡ f i
table_at w n f i h l = let e : 0 + i ≡ i = omega arith in from_at w 0 n f i h ∙ ap (λ (x : ℕ). cond (ltb x n) (f x) 0) e ∙ rw (lt-ltb i n l)

pub table-past : (w n : ℕ) (f : ℕ → ℕ) (i : ℕ) → n ≤ i → get_or (table w n f) i 0 ≡ 0
table-past w n f i l =
    dite (dec_lt i w)
    (λ h. let e : 0 + i ≡ i = omega arith in from_at w 0 n f i h ∙ ap (λ (x : ℕ). cond (ltb x n) (f x) 0) e ∙ rw (le-ltb i n l))
    (λ h. get_or-eq_default (table w n f) 0 (omega (arith, table-length w n f)))

-- a list with the same elements is the table
pub table_ext : (w n : ℕ) (f : ℕ → ℕ) (l : List ℕ) → length l ≡ w → ((i : ℕ) → i < w → i < n → get_or l i 0 ≡ f i)
    → ((i : ℕ) → i < w → n ≤ i → get_or l i 0 ≡ 0) → l ≡ table w n f
table_ext w n f l e inside past =
    ext_get_or 0 l (table w n f) (e ∙ sym (table-length w n f))
    (λ i h.
    let b : i < w = omega arith in
    dite (dec_lt i n) (λ k. inside i b k ∙ sym (table_at w n f i b k)) (λ k. past i b (omega arith) ∙ sym (table-past w n f i (omega arith))))

-- a table of nothing is all zeros
pub table-zero : (w : ℕ) (f : ℕ → ℕ) → replicate w 0 ≡ table w 0 f
table-zero w f = table_ext w 0 f (replicate w 0) (length-replicate w 0) (λ i h l. absurd (not-suc-le-zero l)) (λ i h l. get_or-replicate w i 0 0 h)

-- a loop stores the next element
pub table_more : (w g : ℕ) (f : ℕ → ℕ) (l : List ℕ) (v : ℕ) → g < w → l ≡ table w g f → v ≡ f g → set l g v ≡ table w (g + 1) f
table_more w g f l v h e q =
    let n : length l ≡ w = ap length e ∙ table-length w g f in
    table_ext w (g + 1) f (set l g v) (length-set l g v ∙ n)
    (λ i hi k.
    ⊎_elim
    (λ s. ap (λ (x : ℕ). get_or (set l g v) x 0) s ∙ get_or-set_same l g v 0 (omega arith) ∙ q ∙ ap f (sym s))
    (λ b. get_or-set_other l g i v 0 (λ s. absurd (omega arith)) ∙ ap (λ (x : List ℕ). get_or x i 0) e ∙ table_at w g f i hi b)
    (eq-or-lt_of_le (let b : i ≤ g = omega arith in b)))
    (λ i hi k. get_or-set_other l g i v 0 (λ s. absurd (omega arith)) ∙ ap (λ (x : List ℕ). get_or x i 0) e ∙ table-past w g f i (omega arith))

-- two rules that agree below n give the same table
pub table_cong : (w n : ℕ) (f g : ℕ → ℕ) → ((i : ℕ) → i < n → f i ≡ g i) → table w n f ≡ table w n g
table_cong w n f g h = table_ext w n g (table w n f) (table-length w n f) (λ i b k. table_at w n f i b k ∙ h i k) (λ i b k. table-past w n f i k)
