-- The reader decides the grammar, each text has at most one expression, and the place of a refusal is the paper's.
use mathlib.Core.Path.{◌≡◌, refl, sym, ap, ◌∙◌, subst}
use mathlib.Core.List.{List, [], ◌∷◌, ◌++◌, append_assoc}
use mathlib.Core.Logic.{◌⊎◌, inl, inr, ⊎_elim, dite, ◌↔◌}
use Prim.Native.Nat.{ℕ, zero, suc, ◌<◌, ◌≤◌}
use native.Mathlib.Omega.{arith}
use native.Mathlib.Decide.{dec_lt}
use lib.ListN.{length, take, drop, length-append, take-append-drop}
use Rattle.expression.specs.Expr.{Expr}
use Rattle.expression_grammar.specs.Grammar.{Text, Grammatical, Begins, BadAt}
use Rattle.expression_grammar.specs.Reader.{Scan, reads, stops, read, start}
use Rattle.expression_grammar.proofs.Reached.{reached_start}
use Rattle.expression_grammar.proofs.Complete.{complete}
use Rattle.expression_grammar.proofs.Sound.{sound, not_both, Dead, Cut, refusal}

pub read_accepts : (d : ℕ) (t : List ℕ) (e : Expr) → (read d t ≡ reads e) ↔ Text d t e
read_accepts d t e = (λ h. sound d t [] 0 _ e (reached_start d) h, λ j. complete d t e j)

pub unambiguous : (d : ℕ) (t : List ℕ) (e e' : Expr) → Text d t e → Text d t e' → e ≡ e'
unambiguous d t e e' j j' = let p = complete d t e j in let p' = complete d t e' j' in cc (p, p')

-- ---- the place
take_front : (p q : List ℕ) → take (length p) (p ++ q) ≡ p
take_front [] q = refl
take_front (x ∷ p) q = ap (λ z. x ∷ z) (take_front p q)

take-further : (p q : List ℕ) (b : ℕ) → take (suc (length p)) (p ++ (b ∷ q)) ≡ p ++ (b ∷ [])
take-further [] q b = refl
take-further (x ∷ p) q b = ap (λ z. x ∷ z) (take-further p q b)

take_less : (i j : ℕ) (t : List ℕ) → i ≤ j → (z : List ℕ) × (take j t ≡ take i t ++ z)
take_less zero j t h = (take j t, refl)
take_less (suc i) zero t h = absurd (omega arith)
take_less (suc i) (suc j) [] h = ([], refl)
take_less (suc i) (suc j) (x ∷ t) h = let r = take_less i j t (omega arith) in (r.0, ap (λ z. x ∷ z) r.1)

-- a prefix of a viable text is viable
pub begins_less : (d : ℕ) (p z : List ℕ) → Begins d (p ++ z) → Begins d p
begins_less d p z h = (z ++ h.0, (h.1.0, subst (λ s. Text d s h.1.0) (append_assoc p z h.0) h.1.1))

pub begins-take : (d : ℕ) (t : List ℕ) (i j : ℕ) → i ≤ j → Begins d (take j t) → Begins d (take i t)
begins-take d t i j h b = let r = take_less i j t h in begins_less d (take i t) r.0 (subst (λ s. Begins d s) r.1 b)

begins-whole : (d : ℕ) (t : List ℕ) (k : ℕ) → Grammatical d t → Begins d (take k t)
begins-whole d t k g = (drop k t, subst (λ s. Grammatical d s) (sym (take-append-drop k t)) g)

pub read_bad : (d : ℕ) (t : List ℕ) (k : ℕ) → read d t ≡ stops k → BadAt d t k
read_bad d t k h = go (refusal d t [] 0 _ k (reached_start d) h)
  where
    out : Grammatical d t → ⊥
    out g = not_both g.0 k (sym h ∙ complete d t g.0 g.1)

    stopped : (pre post : List ℕ) → t ≡ pre ++ post → k ≡ length pre → Dead pre post 0 (start d) k
        → ((k ≡ length t) × (Grammatical d t → ⊥)) ⊎ ((k < length t) × (Begins d (take (suc k) t) → ⊥))
    stopped pre [] q n dead = inl (omega (arith, ap length q, length-append pre []), out)
    stopped pre (b ∷ w) q n dead =
        inr (
          omega (arith, ap length q, length-append pre (b ∷ w)),
          λ g. let here : take (suc k) t ≡ pre ++ (b ∷ []) = rw (n, q) (take-further pre w b) in
              let s : pre ++ (b ∷ []) ++ g.0 ≡ pre ++ (b ∷ g.0) = append_assoc pre (b ∷ []) g.0 in
              not_both g.1.0 k (sym (dead g.0) ∙ complete d (pre ++ (b ∷ g.0)) g.1.0 (subst (λ z. Text d z g.1.0) (ap (λ z. z ++ g.0) here ∙ s) g.1.1)),
        )

    go : Cut d [] t 0 (start d) k → BadAt d t k
    go c =
        let n : k ≡ length c.pre = omega (arith, c.place) in
        record {
          begins = rw (n, c.text, take_front c.pre c.post) c.begins;
          stops = stopped c.pre c.post c.text n c.dead;
        }

-- a text with a bad place is not in the grammar
pub bad_out : (d : ℕ) (t : List ℕ) (k : ℕ) → BadAt d t k → Grammatical d t → ⊥
bad_out d t k b g = ⊎_elim (λ s. s.1 g) (λ s. s.1 (begins-whole d t (suc k) g)) b.stops

bad_least : (d : ℕ) (t : List ℕ) (k l : ℕ) → BadAt d t k → BadAt d t l → k < l → ⊥
bad_least d t k l b c h =
    ⊎_elim (λ s. ⊎_elim (λ r. omega arith) (λ r. omega arith) c.stops) (λ s. s.1 (begins-take d t (suc k) l h c.begins)) b.stops

pub bad_unique : (d : ℕ) (t : List ℕ) (k l : ℕ) → BadAt d t k → BadAt d t l → k ≡ l
bad_unique d t k l b c = dite (dec_lt k l) (λ h. absurd (bad_least d t k l b c h)) (λ h. dite (dec_lt l k) (λ i. absurd (bad_least d t l k c b i)) (λ i. omega arith))

pub read_refuses : (d : ℕ) (t : List ℕ) (k : ℕ) → (read d t ≡ stops k) ↔ BadAt d t k
read_refuses d t k = (read_bad d t k, λ b. go b (read d t) refl)
  where
    go : BadAt d t k → (r : Scan) → read d t ≡ r → r ≡ stops k
    go b (reads e) h = absurd (bad_out d t k b (e, (read_accepts d t e).0 h))
    go b (stops l) h = ap stops (bad_unique d t l k (read_bad d t l h) b)
