-- Laws of rows: what the rows of a relation have, and that nothing else has it.
use mathlib.Core.Path.{◌≡◌, sym, ap, ◌∙◌, subst}
use mathlib.Core.Bool.{Bool, true, false≢true}
use mathlib.Core.List.{List}
use mathlib.Core.Logic.{dite}
use Prim.Native.Nat.{ℕ, zero, suc, ◌^◌, ◌≤◌, ◌<◌}
use native.Mathlib.Decide.{dec_lt}
use native.Mathlib.Omega.{arith}
use lib.ListN.{length, get_or, replicate, length-replicate, get_or-replicate}
use lib.Pow.{pow_pos}
use Rattle.sets.specs.Sets.{has}
use Rattle.sets.proofs.Membership.{has_empty, member_below}
use Rattle.sets.proofs.Builder.{set_of_lt, has-set_of_in, set_of_ext}
use Rattle.logic.proofs.Table.{table-length, table_at, table-past, table_ext}
use Rattle.graph.specs.Graph.{has_goal, ahead, goals_of, rows_of, Within, transposed}

-- the set of goals of which f holds
pub goals-has : (n : ℕ) (f : ℕ → Bool) (g : ℕ) → 1 ≤ g → g ≤ n → has_goal (goals_of n f) g ≡ f g
unfolding goals_of
goals-has n f zero a b = absurd (omega arith)
goals-has n f (suc i) a b = has-set_of_in n (λ k. f (suc k)) i b

pub goals_lt : (n : ℕ) (f : ℕ → Bool) → goals_of n f < 2 ^ n
unfolding goals_of
goals_lt n f = set_of_lt n (λ k. f (suc k))

pub goals_ext : (n m : ℕ) (f : ℕ → Bool) → m < 2 ^ n → ((g : ℕ) → 1 ≤ g → g ≤ n → has_goal m g ≡ f g) → m ≡ goals_of n f
unfolding goals_of
goals_ext n m f h e = set_of_ext n m (λ k. f (suc k)) h (λ i l. e (suc i) (omega arith) l)

pub rows_length : (w n : ℕ) (R : ℕ → ℕ → Bool) → length (rows_of w n R) ≡ w
unfolding rows_of
rows_length w n R = table-length w n (λ i. goals_of n (R (suc i)))

pub row_at : (w n : ℕ) (R : ℕ → ℕ → Bool) (i : ℕ) → i < w → i < n → get_or (rows_of w n R) i 0 ≡ goals_of n (R (suc i))
unfolding rows_of
row_at w n R i h l = table_at w n (λ k. goals_of n (R (suc k))) i h l

pub row-past : (w n : ℕ) (R : ℕ → ℕ → Bool) (i : ℕ) → n ≤ i → get_or (rows_of w n R) i 0 ≡ 0
unfolding rows_of
row-past w n R i l = table-past w n (λ k. goals_of n (R (suc k))) i l

-- on the goals the rows say what the relation says
pub rows_say : (w n : ℕ) (R : ℕ → ℕ → Bool) (i j : ℕ) → n ≤ w → 1 ≤ i → i ≤ n → 1 ≤ j → j ≤ n → ahead (rows_of w n R) i j ≡ R i j
rows_say w n R zero j h a b c d = absurd (omega arith)
rows_say w n R (suc i) j h a b c d =
    ap (λ (m : ℕ). has_goal m j) (row_at w n R i (omega arith) b) ∙ goals-has n (R (suc i)) j c d

-- every row is a set of the goals 1 to n
pub row_lt : (w n : ℕ) (R : ℕ → ℕ → Bool) (i : ℕ) → n ≤ w → get_or (rows_of w n R) i 0 < 2 ^ n
row_lt w n R i h =
    dite (dec_lt i n)
    (λ l. subst (λ (m : ℕ). m < 2 ^ n) (sym (row_at w n R i (omega arith) l)) (goals_lt n (R (suc i))))
    (λ l. subst (λ (m : ℕ). m < 2 ^ n) (sym (row-past w n R i (omega arith))) (pow_pos n))

-- what a row has, by places
pub row_out : (w n : ℕ) (R : ℕ → ℕ → Bool) (i j : ℕ) → n ≤ w → has (get_or (rows_of w n R) i 0) j ≡ true → (i < n) × (j < n) × (R (suc i) (suc j) ≡ true)
row_out w n R i j h e =
    let lj = member_below n (get_or (rows_of w n R) i 0) j (row_lt w n R i h) e in
    dite (dec_lt i n) (λ l. (l, lj, sym (rows_say w n R (suc i) (suc j) h (omega arith) l (omega arith) lj) ∙ e))
    (λ l. absurd (false≢true (sym (ap (λ (m : ℕ). has m j) (row-past w n R i (omega arith)) ∙ has_empty j) ∙ e)))

-- rows that say the same on the goals, and nothing else, are those of the relation
pub rows_ext : (w n : ℕ) (R : ℕ → ℕ → Bool) (l : List ℕ) → n ≤ w → length l ≡ w → ((i : ℕ) → i < n → get_or l i 0 < 2 ^ n)
    → ((i j : ℕ) → 1 ≤ i → i ≤ n → 1 ≤ j → j ≤ n → ahead l i j ≡ R i j) → ((i : ℕ) → i < w → n ≤ i → get_or l i 0 ≡ 0) → l ≡ rows_of w n R
unfolding rows_of
rows_ext w n R l h e small say past =
    table_ext w n (λ i. goals_of n (R (suc i))) l e
    (λ i b k. goals_ext n (get_or l i 0) (R (suc i)) (small i k) (λ g c d. say (suc i) g (omega arith) k c d)) past

-- two relations that agree on the goals have the same rows
pub rows_cong : (w n : ℕ) (R Q : ℕ → ℕ → Bool) → n ≤ w → ((i j : ℕ) → 1 ≤ i → i ≤ n → 1 ≤ j → j ≤ n → R i j ≡ Q i j) → rows_of w n R ≡ rows_of w n Q
rows_cong w n R Q h e =
    rows_ext w n Q (rows_of w n R) h (rows_length w n R) (λ i k. row_lt w n R i h) (λ i j a b c d. rows_say w n R i j h a b c d ∙ e i j a b c d)
    (λ i b k. row-past w n R i k)

-- the rows of a relation have nothing but pairs of the goals
pub rows_within : (w n : ℕ) (R : ℕ → ℕ → Bool) → n ≤ w → Within w n (rows_of w n R)
rows_within w n R h = rows_cong w n R (ahead (rows_of w n R)) h (λ i j a b c d. sym (rows_say w n R i j h a b c d))

-- no goals, no rows
pub rows_zero : (w : ℕ) (R : ℕ → ℕ → Bool) → replicate w 0 ≡ rows_of w 0 R
rows_zero w R =
    rows_ext w 0 R (replicate w 0) (omega arith) (length-replicate {A = ℕ} w 0) (λ i k. absurd (omega arith)) (λ i j a b c d. absurd (omega arith))
    (λ i b k. get_or-replicate {A = ℕ} w i 0 0 b)

-- ---- rows with every edge turned round
-- on the goals they say the same the other way round
pub transposed-turned : (w n : ℕ) (R : ℕ → ℕ → Bool) (rows : List ℕ) → n ≤ w → rows ≡ rows_of w n (λ j i. R i j) → transposed w n rows ≡ rows_of w n R
unfolding transposed
transposed-turned w n R rows h e =
    rows_cong w n (λ j i. ahead rows i j) R h (λ j i a b c d. ap (λ (l : List ℕ). ahead l i j) e ∙ rows_say w n (λ j i. R i j) i j h c d a b)

pub transposed_says : (w n : ℕ) (rows : List ℕ) (i j : ℕ) → n ≤ w → 1 ≤ i → i ≤ n → 1 ≤ j → j ≤ n → ahead (transposed w n rows) j i ≡ ahead rows i j
unfolding transposed
transposed_says w n rows i j h a b c d = rows_say w n (λ k l. ahead rows l k) j i h c d a b

pub turned-has : (w n : ℕ) (rows prior : List ℕ) (i j : ℕ) → n ≤ w → prior ≡ transposed w n rows → i < n → j < n → has (get_or prior i 0) j ≡ has (get_or rows j 0) i
turned-has w n rows prior i j h e li lj =
    ap (λ (p : List ℕ). has (get_or p i 0) j) e ∙ transposed_says w n rows (suc j) (suc i) h (omega arith) lj (omega arith) li
