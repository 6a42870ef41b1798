-- The texts of checks, stages and the whole, by masks.
use mathlib.Core.Path.{◌≡◌, refl, sym, ap, ap₂, ◌∙◌}
use mathlib.Core.Bool.{Bool, true, false, ◌&&◌, cond}
use mathlib.Core.List.{List, [], ◌∷◌, ◌++◌, map, append_assoc, append-nil, map-append}
use Prim.Native.Nat.{ℕ, zero, suc, ◌+◌, ◌≤◌, ◌<◌, max}
use native.Mathlib.Omega.{arith}
use borrow.Author.Tests.{eq-eqb, ne_eqb}
use lib.ListN.{length, get_or, length-append}
use Rattle.sets.specs.Sets.{has, members_from, members}
use Rattle.buffer.specs.Text.{Wrote, some_texts, join_from, non_empty, only}
use Rattle.buffer.specs.Decimal.{decimal}
use Rattle.buffer.proofs.Writing.{join_step, join_none, join_append}
use Rattle.mel_stages.specs.Mel as W
use Rattle.mel_stages.specs.Mel.{Stage, Check, Ground, Indep, checks_from, arrow_if, goals_text, checks, start, stages, those_from, indeps_from, indep_check}
use Rattle.mel_stages.specs.Masks.{given, partners}
use Rattle.mel_stages.proofs.Pairs.{those-members, those-none, grounds_mask, indep_masks}
use Rattle.mel_stages.proofs.Stages.{stages-none, stages-last}
use Rattle.mel_checks.specs.CheckTexts.{grounds_text, pairs_of, pairs_text}
use Rattle.mel_checks.proofs.Checks.{checks-append}
use Rattle.mel_text.specs.StageTexts.{ground_set, pair_set, checks_text, stage_text, stages_text}
use Rattle.mel_text.proofs.Opened.{opened, some_checks, comma_more}

module _ (w head : ℕ) (sets grounds listed : List ℕ) where
  module _ (p q : ℕ) where
    abbrev gset : ℕ
    gset = ground_set sets grounds p q

    abbrev kset : ℕ
    kset = pair_set head sets grounds p q

    pairs_masks : (k x : ℕ) → indeps_from (given w head sets grounds listed) k x p q ≡ pairs_of w sets listed p q kset (members_from k x kset)
    unfolding given indeps_from members_from pairs_of
    pairs_masks zero x = refl
    pairs_masks (suc k) x = go (has kset x) refl (pairs_masks k (suc x))
      where
        masks : (y : ℕ) → indep_check (given w head sets grounds listed) p q x y ≡ has kset x && has (partners sets p q kset (get_or listed x 0) x) y
        masks y = indep_masks (given w head sets grounds listed) p q x (get_or listed x 0) (λ z. refl) y

        go : (b : Bool) → has kset x ≡ b → indeps_from (given w head sets grounds listed) k (suc x) p q ≡ pairs_of w sets listed p q kset (members_from k (suc x) kset)
            → map (Indep x) (those_from w 0 (indep_check (given w head sets grounds listed) p q x)) ++ indeps_from (given w head sets grounds listed) k (suc x) p q
            ≡ pairs_of w sets listed p q kset (cond b (x ∷ members_from k (suc x) kset) (members_from k (suc x) kset))
        go true e ih =
            ap₂ (λ (a b : List Check). a ++ b)
            (ap (map (Indep x)) (those-members w 0 (partners sets p q kset (get_or listed x 0) x) (indep_check (given w head sets grounds listed) p q x)
            (λ y. masks y ∙ ap (λ (t : Bool). t && has (partners sets p q kset (get_or listed x 0) x) y) e))) ih
        go false e ih =
            ap (λ (l : List ℕ). map (Indep x) l ++ indeps_from (given w head sets grounds listed) k (suc x) p q)
            (those-none w 0 (indep_check (given w head sets grounds listed) p q x) (λ y. masks y ∙ ap (λ (t : Bool). t && has (partners sets p q kset (get_or listed x 0) x) y) e))
            ∙ ih

    pub checks_masks : checks (given w head sets grounds listed) p q ≡ map Ground (members w gset) ++ pairs_of w sets listed p q kset (members w kset)
    unfolding given checks
    checks_masks = ap₂ (λ (a : List ℕ) (b : List Check). map Ground a ++ b) (grounds_mask (given w head sets grounds listed) p q) (pairs_masks w 0)

    -- the ground checks, and then the independence checks
    pub checks-parts : grounds_text w gset ++ pairs_text w sets listed p q kset kset ≡ checks_text w head sets grounds listed true p q
    unfolding grounds_text pairs_text checks_text
    checks-parts = sym (ap (checks_from true) checks_masks ∙ checks-append (map Ground (members w gset)) (pairs_of w sets listed p q kset (members w kset)))

    -- the parenthesis in the place of the first comma, or alone
    pub checks-opened : {at c e : ℕ} {old n o : List ℕ} → Wrote (checks_text w head sets grounds listed true p q) at old c n → Wrote (40 ∷ []) at n e o
        → Wrote ((40 ∷ []) ++ checks_text w head sets grounds listed false p q) at old (max e c) o
    unfolding checks_text
    checks-opened t v = opened (checks (given w head sets grounds listed) p q) t v

    pub checks_some : non_empty (checks_text w head sets grounds listed true p q) ≡ non_empty (checks_text w head sets grounds listed false p q)
    unfolding checks_text
    checks_some = some_checks (checks (given w head sets grounds listed) p q)

    pub stage_one : q ≡ p + 1 → decimal q ≡ stage_text w head sets grounds listed p q
    unfolding stage_text W.stage_text
    stage_one e = rw (eq-eqb q (p + 1) e)

    pub stage_parts : (q ≡ p + 1 → ⊥) →
        (40 ∷ []) ++ checks_text w head sets grounds listed false p q ++ arrow_if (non_empty (checks_text w head sets grounds listed false p q)) ++ goals_text p q ++ (41 ∷ []) ≡ stage_text w head sets grounds listed p q
    unfolding stage_text W.stage_text checks_text
    stage_parts n = rw (ne_eqb q (p + 1) n)

    -- its checks take no more, with a comma before each
    pub stage_room : (q ≡ p + 1 → ⊥) → length (checks_text w head sets grounds listed true p q) ≤ length (stage_text w head sets grounds listed p q)
    unfolding checks_text
    stage_room n = omega (arith, comma_more (checks (given w head sets grounds listed) p q), simp length-append at (ap length (stage_parts n)))

  -- ---- the stages

  some_last : {A : Type 0} (f : A → List ℕ) (a : List A) (x : A) → some_texts (map f (a ++ (x ∷ []))) ≡ true
  some_last f [] x = refl
  some_last f (y ∷ a) x = refl

  abbrev texts : ℕ → List (List ℕ)
  texts q = map (W.stage_text (given w head sets grounds listed)) (stages w head sets q)

  texts-last : (q : ℕ) → 0 < q → texts q ≡ texts (start w head sets q) ++ (stage_text w head sets grounds listed (start w head sets q) q ∷ [])
  unfolding stage_text
  texts-last q h =
      ap (map (W.stage_text (given w head sets grounds listed))) (stages-last w head sets q h)
      ∙ map-append (W.stage_text (given w head sets grounds listed)) (stages w head sets (start w head sets q)) (record { after = start w head sets q; last = q } ∷ [])

  text_of : (q : ℕ) → stages_text w head sets grounds listed q ≡ join_from false 44 (texts q)
  unfolding stages_text W.stages_text given
  text_of q = refl

  text-last : (q : ℕ) → 0 < q → stages_text w head sets grounds listed q
      ≡ join_from false 44 (texts (start w head sets q)) ++ join_from (cond (some_texts (texts (start w head sets q))) true false) 44 (stage_text w head sets grounds listed (start w head sets q) q ∷ [])
  text-last q h = text_of q ∙ ap (join_from false 44) (texts-last q h) ∙ join_append false 44 (texts (start w head sets q)) (stage_text w head sets grounds listed (start w head sets q) q ∷ [])

  alone : (more : Bool) (t : List ℕ) → join_from more 44 (t ∷ []) ≡ only more 44 ++ t
  alone more t = join_step more 44 t [] ∙ ap (λ (r : List ℕ). only more 44 ++ t ++ r) (join_none true 44) ∙ append-nil (only more 44 ++ t)

  -- a single stage
  pub stages-one : (q : ℕ) → 0 < q → start w head sets q ≡ 0 → stage_text w head sets grounds listed (start w head sets q) q ≡ stages_text w head sets grounds listed q
  unfolding only
  stages-one q h z =
      let e : texts (start w head sets q) ≡ [] = ap texts z ∙ ap (map (W.stage_text (given w head sets grounds listed))) (stages-none w head sets) in
      sym (text-last q h
      ∙ ap (λ (l : List (List ℕ)). join_from false 44 l ++ join_from (cond (some_texts l) true false) 44 (stage_text w head sets grounds listed (start w head sets q) q ∷ [])) e
      ∙ ap₂ (λ (a b : List ℕ). a ++ b) (join_none false 44) (alone false (stage_text w head sets grounds listed (start w head sets q) q)))

  -- the stages before the last, a comma and the last
  pub stages_more : (q : ℕ) → 0 < q → (start w head sets q ≡ 0 → ⊥)
      → stages_text w head sets grounds listed (start w head sets q) ++ (44 ∷ []) ++ stage_text w head sets grounds listed (start w head sets q) q ≡ stages_text w head sets grounds listed q
  unfolding only
  stages_more q h n =
      let p = start w head sets q in
      let l : 0 < p = omega (arith, n) in
      let e : some_texts (texts p) ≡ true =
      ap (λ (s : List Stage). some_texts (map (W.stage_text (given w head sets grounds listed)) s)) (stages-last w head sets p l)
      ∙ some_last (W.stage_text (given w head sets grounds listed)) (stages w head sets (start w head sets p)) (record { after = start w head sets p; last = p })
      in
      sym (text-last q h
      ∙ ap (λ (b : Bool). join_from false 44 (texts p) ++ join_from (cond b true false) 44 (stage_text w head sets grounds listed p q ∷ [])) e
      ∙ ap₂ (λ (a b : List ℕ). a ++ b) (sym (text_of p)) (alone true (stage_text w head sets grounds listed p q))
      ∙ sym (append_assoc (stages_text w head sets grounds listed p) (44 ∷ []) (stage_text w head sets grounds listed p q)))
