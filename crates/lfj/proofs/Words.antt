-- The word of each case of an answer.
use mathlib.Core.Path.{◌≡◌, sym, ap, ◌∙◌}
use Prim.Native.Nat.{ℕ}

-- An answer's word, from that of the value that it is.
pub said : {S B : Type 0} (g : S → B) (f : B → ℕ) {s : S} (t : S) {o : B} {w : ℕ} → g s ≡ o → s ≡ t → w ≡ f (g t) → w ≡ f o
said g f t e q h = h ∙ ap f (ap g (sym q) ∙ e)
