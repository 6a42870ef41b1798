-- Laws of texts and lent buffers: the two runs of a writing operation.
use mathlib.Core.Path.{◌≡◌, sym, ap, ◌∙◌}
use mathlib.Core.Bool.{Bool, true, false, cond}
use mathlib.Core.List.{List, ◌++◌}
use Prim.Native.Nat.{ℕ, ◌+◌, ◌≤◌, ◌<◌}
use native.Mathlib.Omega.{arith}
use lib.ListN.{length, drop}
use borrow.Author.Tests.{le-leb, lt-leb}
use Rattle.buffer.specs.Text.{Wrote}
use Rattle.buffer.specs.Lent.{fits, stored}
use Rattle.buffer.proofs.Writing.{stands}

pub fits_le : (t buf : List ℕ) → length t ≤ length buf → fits t buf ≡ true
unfolding fits
fits_le t buf h = le-leb (length t) (length buf) h

pub fits_lt : (t buf : List ℕ) → length buf < length t → fits t buf ≡ false
unfolding fits
fits_lt t buf h = lt-leb (length t) (length buf) h

-- a text written from the buffer's start, where it fits
pub stores : {t : List ℕ} {e : ℕ} {l o : List ℕ} → Wrote t 0 l e o → length t ≤ length l → o ≡ stored t l
unfolding stored
stores {t} {e} {l} {o} w h =
    let n : 0 + length t ≡ length t = omega arith in
    stands w (omega arith) ∙ ap (λ (k : ℕ). t ++ drop k l) n ∙ sym (ap (λ (b : Bool). cond b (t ++ drop (length t) l) l) (fits_le t l h))

-- a buffer that is too short stays as it was
pub keeps : (t l : List ℕ) → length l < length t → l ≡ stored t l
unfolding stored
keeps t l h = sym (ap (λ (b : Bool). cond b (t ++ drop (length t) l) l) (fits_lt t l h))
