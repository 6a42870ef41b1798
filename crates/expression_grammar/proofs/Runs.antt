-- The numbers that the grammar reads are the runs of digits.
--     number-run     NumberAt j p v exactly if the run of digits at p spells v
use mathlib.Core.Path.{◌≡◌, refl, sym, ap, ◌∙◌, subst}
use mathlib.Core.Bool.{Bool, true, false}
use mathlib.Core.List.{List, [], ◌∷◌, ◌++◌, append_assoc, append-nil}
use mathlib.Core.Option.{Option, none, some}
use mathlib.Core.Logic.{inl, inr, ◌↔◌}
use Prim.Native.Nat.{ℕ, suc, ◌+◌}
use native.Mathlib.Omega.{arith}
use lib.ListN.{length, length-append}
use Rattle.expression.specs.Expr.{Expr, Members}
use Rattle.expression.specs.Text.{mark}
use Rattle.expression_grammar.specs.Grammar.{Number, Joined, alone, several, Others, last, next, Member, group, number, parens, Text}
use Rattle.expression_grammar.specs.Reader.{Sign, digit, joiner, opener, closer, other, sign}
use Rattle.expression_grammar.specs.Numbers.{Found, fresh, grown, scan, numbers}
use Rattle.expression_grammar.proofs.Signs.{Is, sign_is}
use Rattle.expression_grammar.specs.Occurrences.{InJoined, InOthers, InMember, NumberAt, Digit, NumberRun}
use Rattle.expression_grammar.proofs.Occurrences.{Has, number-scan, number_at}
use Rattle.expression_grammar.proofs.Goals.{Parts}

-- no digit is the last of a list; the first
abbrev NoEnd : List ℕ → Type 0
NoEnd s = (l : List ℕ) (x : ℕ) → s ≡ l ++ (x ∷ []) → Digit x → ⊥

abbrev NoStart : List ℕ → Type 0
NoStart s = (x : ℕ) (r : List ℕ) → s ≡ x ∷ r → Digit x → ⊥

abbrev last_of : List ℕ → ℕ → ℕ
last_of [] x = x
last_of (y ∷ l) x = last_of l y

last_is : (l : List ℕ) (x y : ℕ) → last_of (l ++ (x ∷ [])) y ≡ x
last_is [] x y = refl
last_is (z ∷ l) x y = last_is l x z

no_end : (s : List ℕ) (y : ℕ) → (Digit y → ⊥) → NoEnd (s ++ (y ∷ []))
no_end s y f l x q d = f (subst Digit (sym (last_is l x 0) ∙ sym (ap (λ z. last_of z 0) q) ∙ last_is s y 0) d)

no_start : (y : ℕ) (s : List ℕ) → (Digit y → ⊥) → NoStart (y ∷ s)
no_start y s f x r q d = let e : x ≡ y = cc in f (subst Digit e d)

mark-not : (k : Bool) → Digit (mark k) → ⊥
mark-not true d = omega (arith, d.0)
mark-not false d = omega (arith, d.0)

-- ---- texts, regrouped
-- what stands before the part w of t ++ (mark k ∷ w)
abbrev behind : Bool → List ℕ → List ℕ → List ℕ
behind k t L = (L ++ t) ++ (mark k ∷ [])

length-behind : (k : Bool) (t L : List ℕ) → length (behind k t L) ≡ suc (length L + length t)
length-behind k t L = omega (arith, length-append (L ++ t) (mark k ∷ []), length-append L t)

whole : (k : Bool) (s t w U : List ℕ) → s ≡ t ++ (mark k ∷ w) → s ++ U ≡ t ++ (mark k ∷ (w ++ U))
whole k s t w U q = ap (λ z. z ++ U) q ∙ append_assoc t (mark k ∷ w) U

regroup : (k : Bool) (s t w L U : List ℕ) → s ≡ t ++ (mark k ∷ w) → behind k t L ++ (w ++ U) ≡ L ++ (s ++ U)
regroup k s t w L U q = append_assoc (L ++ t) (mark k ∷ []) (w ++ U) ∙ append_assoc L t (mark k ∷ (w ++ U)) ∙ ap (λ z. L ++ z) (sym (whole k s t w U q))

unwrap : (s t L U : List ℕ) → s ≡ 40 ∷ (t ++ (41 ∷ [])) → (L ++ (40 ∷ [])) ++ (t ++ (41 ∷ U)) ≡ L ++ (s ++ U)
unwrap s t L U q =
    append_assoc L (40 ∷ []) (t ++ (41 ∷ U)) ∙ ap (λ (z : List ℕ). L ++ (40 ∷ z)) (sym (append_assoc t (41 ∷ []) U)) ∙ ap (λ z. L ++ (z ++ U)) (sym q)

-- ---- Each number is a run, also in a text L ++ (t ++ U) of which t is a part.
more : (L : List ℕ) → suc (length L) ≡ length (L ++ (40 ∷ []))
more L = omega (arith, length-append L (40 ∷ []))

mutual
  joined-run : {k : Bool} {d : ℕ} {t : List ℕ} {e : Expr} (j : Joined k d t e) (L U : List ℕ) → NoEnd L → NoStart U → (p v : ℕ) → InJoined j (length L) p v → NumberRun (L ++ (t ++ U)) p v
  joined-run (alone m) L U a b p v i = member_run m L U a b p v i
  joined-run (several {k = k} {t = s} {u = t} {w = w} m o q) L U a b p v (inl i) =
      subst (λ z. NumberRun (L ++ z) p v) (sym (whole k s t w U q)) (member_run m L (mark k ∷ (w ++ U)) a (no_start (mark k) (w ++ U) (mark-not k)) p v i)
  joined-run (several {k = k} {t = s} {u = t} {w = w} m o q) L U a b p v (inr i) =
      subst (λ z. NumberRun z p v) (regroup k s t w L U q)
      (others-run o (behind k t L) U (no_end (L ++ t) (mark k) (mark-not k)) b p v (subst (λ z. InOthers o z p v) (sym (length-behind k t L)) i))

  others-run : {k : Bool} {d : ℕ} {t : List ℕ} {ms : Members} (o : Others k d t ms) (L U : List ℕ) → NoEnd L → NoStart U → (p v : ℕ) → InOthers o (length L) p v → NumberRun (L ++ (t ++ U)) p v
  others-run (last m) L U a b p v i = member_run m L U a b p v i
  others-run (next {k = k} {t = s} {u = t} {w = w} m o q) L U a b p v (inl i) =
      subst (λ z. NumberRun (L ++ z) p v) (sym (whole k s t w U q)) (member_run m L (mark k ∷ (w ++ U)) a (no_start (mark k) (w ++ U) (mark-not k)) p v i)
  others-run (next {k = k} {t = s} {u = t} {w = w} m o q) L U a b p v (inr i) =
      subst (λ z. NumberRun z p v) (regroup k s t w L U q)
      (others-run o (behind k t L) U (no_end (L ++ t) (mark k) (mark-not k)) b p v (subst (λ z. InOthers o z p v) (sym (length-behind k t L)) i))

  member_run : {k : Bool} {d : ℕ} {t : List ℕ} {e : Expr} (m : Member k d t e) (L U : List ℕ) → NoEnd L → NoStart U → (p v : ℕ) → InMember m (length L) p v → NumberRun (L ++ (t ++ U)) p v
  member_run (group j) L U a b p v i = joined-run j L U a b p v i
  member_run (number {t = t} {n = n} j) L U a b p v i =
      record { left = L; digits = t; right = U; split = refl; place = i.0; number = subst (Number t) (sym i.1) j; starts = a; ends = b }
  member_run (parens {t = s} {u = t} j q) L U a b p v i =
      subst (λ z. NumberRun z p v) (unwrap s t L U q)
      (joined-run j (L ++ (40 ∷ [])) (41 ∷ U) (no_end L 40 (λ d. omega (arith, d.0))) (no_start 41 U (λ d. omega (arith, d.0))) p v
      (subst (λ z. InJoined j z p v) (more L) i))

-- ---- Each run is found by the scan, in any text: where it begins no digit is pending.
fresh-none : (s : Sign) (b at : ℕ) → Is s b → (Digit b → ⊥) → fresh s at ≡ none
fresh-none (digit v) b at i f = absurd (f (omega (arith, i.0), omega (arith, i.0, i.1)))
fresh-none (joiner k) b at i f = refl
fresh-none opener b at i f = refl
fresh-none closer b at i f = refl
fresh-none other b at i f = refl

grown-none : (s : Sign) (b : ℕ) (x : Found) → Is s b → (Digit b → ⊥) → grown x s ≡ x
grown-none (digit v) b x i f = absurd (f (omega (arith, i.0), omega (arith, i.0, i.1)))
grown-none (joiner k) b x i f = refl
grown-none opener b x i f = refl
grown-none closer b x i f = refl
grown-none other b x i f = refl

parts : (u : List ℕ) → NoStart u → Parts u
parts [] h at x = refl
parts (b ∷ u) h at x =
    let f : Digit b → ⊥ = h b u refl in
    ap (λ z. z ∷ scan u (suc at) none) (grown-none (sign b) b x (sign_is b) f) ∙ ap (λ o. x ∷ scan u (suc at) o) (sym (fresh-none (sign b) b at (sign_is b) f))

module _ (w u : List ℕ) (v : ℕ) (j : Number w v) (h : NoStart u) where
  run-found : (l : List ℕ) (at : ℕ) (o : Option Found) → NoEnd l → (l ≡ [] → o ≡ none) → Has (scan (l ++ (w ++ u)) at o) (at + length l) v
  run-found [] at o f g =
      let e : at ≡ at + 0 = omega arith in
      subst (λ z. Has (scan (w ++ u) at z) (at + 0) v) (sym (g refl))
      (subst (λ z. Has z (at + 0) v) (sym (number-scan j u (parts u h) at)) (inl (sym e, refl)))
  run-found (y ∷ l) at none f g =
      subst (λ z. Has (scan (l ++ (w ++ u)) (suc at) (fresh (sign y) at)) z v) (omega arith)
      (run-found l (suc at) (fresh (sign y) at) (λ k x q. f (y ∷ k) x (ap (λ z. y ∷ z) q)) (λ q. fresh-none (sign y) y at (sign_is y) (f [] y (ap (λ z. y ∷ z) q))))
  run-found (y ∷ l) at (some x) f g =
      subst (λ z. Has (grown x (sign y) ∷ scan (l ++ (w ++ u)) (suc at) none) z v) (omega arith)
      (inr (run-found l (suc at) none (λ k x q. f (y ∷ k) x (ap (λ z. y ∷ z) q)) (λ q. refl)))

pub number-run : {d : ℕ} {t : List ℕ} {e : Expr} (j : Text d t e) (p v : ℕ) → NumberAt j p v ↔ NumberRun t p v
number-run {t = t} j p v = (
  λ i. subst (λ z. NumberRun z p v) (append-nil t) (joined-run j [] [] nothing nothing_starts p v i),
  λ r. let at : 0 + length r.left ≡ p = omega (arith, r.place) in (number_at j p v).1
      (subst (λ z. Has z p v) (ap numbers (sym r.split))
      (subst (λ z. Has (numbers (r.left ++ (r.digits ++ r.right))) z v) at (run-found r.digits r.right v r.number r.ends r.left 0 none r.starts (λ q. refl)))),
)
  where
    nothing : NoEnd []
    nothing l x q = let z : ◌≡◌ {A = ℕ} 0 1 = omega (arith, ap length q, length-append l (x ∷ [])) in absurd (omega arith)

    nothing_starts : NoStart []
    nothing_starts x r q = let z : ◌≡◌ {A = ℕ} 0 1 = cc in absurd (omega arith)
