-- The loop over the members of a sequence or a group: one law for each way through it.
use mathlib.Core.Path.{◌≡◌, refl, sym, ap, ◌∙◌}
use mathlib.Core.Bool.{Bool, true, false, cond, true≢false}
use mathlib.Core.List.{List}
use mathlib.Core.Option.{none, some}
use Prim.Native.Nat.{ℕ, ◌+◌, ◌<◌, ◌≤◌}
use native.Mathlib.Omega.{arith}
use lib.ListN.{length, get_or, drop}
use Rattle.std.specs.Prelude.{Result, Ok, Err, IsErr, IsErrAnd}
use Rattle.expression_grammar.specs.TextRules.{open_limit}
use Rattle.sets.specs.Sets.{union}
use Rattle.expression.specs.Expr.{Expr, one}
use Rattle.expression.specs.Text.{mark}
use Rattle.expression_grammar.specs.Reader.{Sign, digit, joiner, opener, closer, other, sign, Front, close, push, Level, due, done, goes, ends, run}
use Rattle.expression_grammar.proofs.Signs.{Is, sign_is}
use Rattle.expression_grammar.proofs.Sound.{next}
use Rattle.expression_grammar.proofs.Places.{byte_inside}
use Rattle.graph.specs.Graph.{Words}
use Rattle.graph.specs.Linking.{Linked}
use Rattle.expression_number.specs.declared.Node.{Node}
use Rattle.expression_number.specs.Nodes.{Comes, Answer, Primary}
use Rattle.expression_number.proofs.Runs.{takes, alike}
use Rattle.expression_parser.specs.Readers.{within, NoAnd, NoMark, Group, Sequence}
use Rattle.expression_parser.proofs.Tells.{join_kind, FrontTold, Links, links_sequence, links_group, clash, told_alone, told_push, told_close}

-- ---- what `?` hands on
pub handed_on : (r : Result Node ℕ) (p : ℕ) → IsErr r × IsErrAnd r (λ q. q ≡ p) → r ≡ Err p
handed_on (Ok n) p h = absurd (true≢false (sym h.0))
handed_on (Err q) p h = ap Err h.1

-- ---- what the next byte is not
abbrev Stop : Bool → ℕ → Type 0
Stop true b = NoMark b
Stop false b = NoAnd b

abbrev MStop : Bool → ℕ → Type 0
MStop true b = NoAnd b
MStop false b = Unit {0}

stop : (k : Bool) (b : ℕ) → MStop k b → ((b ≡ mark k) → ⊥) → Stop k b
stop true b m n = (m, n)
stop false b m n = n

-- where no mark follows, the join is ended
settles : (k : Bool) (d : ℕ) (os : List Level) (g f : Front) (x : Expr) (b : ℕ) (c : Sign) → Is c b → Stop k b
    → goes d os (cond k f g) (cond k none f) x c ≡ goes d os (cond k none g) (cond k none none) (close f x) c
settles true d os g f x b (digit v) i h = refl
settles true d os g f x b (joiner true) i h = absurd (h.1 i)
settles true d os g f x b (joiner false) i h = absurd (h.0 i)
settles true d os g f x b opener i h = refl
settles true d os g f x b closer i h = refl
settles true d os g f x b other i h = refl
settles false d os g f x b (digit v) i h = refl
settles false d os g f x b (joiner true) i h = refl
settles false d os g f x b (joiner false) i h = absurd (h i)
settles false d os g f x b opener i h = refl
settles false d os g f x b closer i h = refl
settles false d os g f x b other i h = refl

ends_alike : (k : Bool) (os : List Level) (g f : Front) (x : Expr) (e : ℕ) → ends os (cond k f g) (cond k none f) (done x) e ≡ ends os (cond k none g) (cond k none none) (done (close f x)) e
ends_alike true os g f x e = refl
ends_alike false os g f x e = refl

marks : (k : Bool) (d : ℕ) (os : List Level) (g f : Front) (x : Expr) → next (within k d os g f (done x)) (mark k) ≡ some (within k d os g (some (push k f x)) due)
marks true d os g f x = refl
marks false d os g f x = refl

mark_pos : (k : Bool) → 0 < mark k
mark_pos true = omega arith
mark_pos false = omega arith

-- ---- a member's answer, a join's answer
abbrev MemberAnswer : ℕ → Bool → List ℕ → ℕ → ℕ → List ℕ → Result Node ℕ → List ℕ → Type 0
MemberAnswer w k = Answer w (λ d os g f x. within k d os g f x) (MStop k)

abbrev JoinedAnswer : ℕ → Bool → List ℕ → ℕ → ℕ → List ℕ → Result Node ℕ → List ℕ → Type 0
JoinedAnswer w k = Answer w (λ d os g f x. within k d os g none x) (Stop k)

module _ (w : ℕ) (s : List ℕ) (a depth : ℕ) (rows : List ℕ) where
  group_member : (r : Result Node ℕ) (now : List ℕ) → Group w s a depth rows r now → MemberAnswer w true s a depth rows r now
  group_member (Err p) now h = λ d os g f q. h d os f f q
  group_member (Ok n) now h = (h.0, h.1, h.2, h.3, h.4, λ d os g f q. h.5 d os f f q)

-- ---- the loop over the members of a join
abbrev Shape : ℕ → ℕ → Front → Type 0
Shape a₀ a none = a ≡ a₀
Shape a₀ a (some f) = a₀ < a

-- the members before the place a are read
pub record Looped (w : ℕ) (k : Bool) (s : List ℕ) (depth a₀ a : ℕ) (rows₀ : List ℕ) (set extra : ℕ) (rows : List ℕ) : Type 0 where
  pub front : Front
  pub from : a₀ ≤ a
  pub shape : Shape a₀ a front
  pub told : FrontTold w k front rows₀ set extra rows
  pub words : Words w rows
  pub comes : (d : ℕ) (os : List Level) (g : Front) → d + depth ≡ open_limit → Comes s a₀ (within k d os g none due) a (within k d os g front due)

pub loop_start : (w : ℕ) (k : Bool) (s : List ℕ) (depth a : ℕ) (rows : List ℕ) → Words w rows → Looped w k s depth a a rows 0 0 rows
loop_start w k s depth a rows ws = record { front = none; from = omega arith; shape = refl; told = (refl, refl); words = ws; comes = λ d os g q. refl }

-- a member is read at the place a, and put behind those before it where the join is a sequence
pub record Turn (w : ℕ) (k : Bool) (s : List ℕ) (depth a₀ a : ℕ) (rows₀ : List ℕ) (set extra : ℕ) (rows : List ℕ) (n : Node) (mid now : List ℕ) : Type 0 where
  pub loop : Looped w k s depth a₀ a rows₀ set extra rows
  pub member : MemberAnswer w k s a depth rows (Ok n) mid
  pub links : Links w k set n.set mid now

module _ {w depth a₀ a : ℕ} {s rows₀ rows : List ℕ} {set extra : ℕ} where
  refuses : (k : Bool) (p : ℕ) (mid : List ℕ) → Looped w k s depth a₀ a rows₀ set extra rows → MemberAnswer w k s a depth rows (Err p) mid
      → JoinedAnswer w k s a₀ depth rows₀ (Err p) mid
  refuses k p mid l h = λ d os g f q. l.comes d os g q ∙ h d os g l.front q

  pub group_bad : Looped w false s depth a₀ a rows₀ set extra rows → (p : ℕ) (mid : List ℕ) → Primary w s a depth rows (Err p) mid → Group w s a₀ depth rows₀ (Err p) mid
  group_bad l p mid h = refuses false p mid l h

  pub sequence_bad : Looped w true s depth a₀ a rows₀ set extra rows → (p : ℕ) (mid : List ℕ) → Group w s a depth rows (Err p) mid → Sequence w s a₀ depth rows₀ (Err p) mid
  sequence_bad l p mid h = refuses true p mid l (group_member w s a depth rows (Err p) mid h)

  pub group_turn : Looped w false s depth a₀ a rows₀ set extra rows → (n : Node) (mid : List ℕ) → Primary w s a depth rows (Ok n) mid
      → Turn w false s depth a₀ a rows₀ set extra rows n mid mid
  group_turn l n mid h = record { loop = l; member = h; links = links_group w set n.set mid h.4.words }

  pub sequence_turn : Looped w true s depth a₀ a rows₀ set extra rows → (n : Node) (mid now : List ℕ) → Group w s a depth rows (Ok n) mid → Linked w n.set set mid now
      → Turn w true s depth a₀ a rows₀ set extra rows n mid now
  sequence_turn l n mid now h k = record { loop = l; member = group_member w s a depth rows (Ok n) mid h; links = links_sequence w set n.set mid now k }

-- the node of the members read, with that of the last
abbrev joined : Bool → ℕ → ℕ → Node → Result Node ℕ
joined k set extra n = Ok (record { kind = join_kind k; set = union set n.set; extra = clash extra n.extra set n.set; end = n.end })

module _ {w : ℕ} {k : Bool} {s : List ℕ} {depth a₀ a : ℕ} {rows₀ : List ℕ} {set extra : ℕ} {rows : List ℕ} {n : Node} {mid now : List ℕ}
    (u : Turn w k s depth a₀ a rows₀ set extra rows n mid now) where
  -- a byte follows
  pub turn_room : {b : ℕ} → 0 < b → get_or s n.end 0 ≡ b → (a₀ ≤ a) × (a < n.end) × (n.end < length s)
  turn_room {b} pos e = (u.loop.from, u.member.1, byte_inside s n.end b pos e)

  pub turn_more : get_or s n.end 0 ≡ mark k → Looped w k s depth a₀ (n.end + 1) rows₀ (union set n.set) (clash extra n.extra set n.set) now
  turn_more b =
      let l = u.loop in
      let m = u.member in
      let x = m.0 in
      let lt = m.1 in
      let le = l.from in
      record {
        front = some (push k l.front x);
        from = omega arith;
        shape = omega arith;
        told = told_push w k rows₀ set extra rows x n.kind n.set n.extra mid now l.front l.told m.4 u.links;
        words = u.links.words;
        comes = λ d os g p.
            l.comes d os g p ∙ m.5 d os g l.front p
            ∙ takes s n.end (mark k) (within k d os g l.front (done x)) (within k d os g (some (push k l.front x)) due) (mark_pos k) b (marks k d os g l.front x);
      }

  settled : (x : Expr) → ((get_or s n.end 0 ≡ mark k) → ⊥) → (f : Front) (d : ℕ) (os : List Level) (g : Front)
      → run (drop n.end s) n.end (within k d os g f (done x)) ≡ run (drop n.end s) n.end (within k d os g none (done (close f x)))
  settled x b f d os g =
      alike s n.end (within k d os g f (done x)) (within k d os g none (done (close f x)))
      (settles k d os g f x (get_or s n.end 0) (sign (get_or s n.end 0)) (sign_is (get_or s n.end 0)) (stop k (get_or s n.end 0) u.member.3 b)) (ends_alike k os g f x n.end)

  -- the first member is the only one: it is the join
  pub turn_one : a ≡ a₀ → ((get_or s n.end 0 ≡ mark k) → ⊥) → JoinedAnswer w k s a₀ depth rows₀ (Ok n) now
  turn_one same b = go u.loop.front u.loop.shape u.loop.told u.loop.comes
    where
      go : (f : Front) → Shape a₀ a f → FrontTold w k f rows₀ set extra rows → ((d : ℕ) (os : List Level) (g : Front) → d + depth ≡ open_limit → Comes s a₀ (within k d os g none due) a (within k d os g f due))
          → JoinedAnswer w k s a₀ depth rows₀ (Ok n) now
      go none sh td cm =
          let m = u.member in (
            m.0,
            omega (arith, m.1),
            m.2,
            stop k (get_or s n.end 0) m.3 b,
            told_alone w k rows₀ set extra rows m.0 n.kind n.set n.extra mid now td m.4 u.links,
            λ d os g f p. cm d os g p ∙ m.5 d os g none p,
          )
      go (some f) sh td cm = absurd (omega arith)

  pub turn_end : ((a ≡ a₀) → ⊥) → ((get_or s n.end 0 ≡ mark k) → ⊥) → JoinedAnswer w k s a₀ depth rows₀ (joined k set extra n) now
  turn_end other_place b = go u.loop.front u.loop.shape u.loop.told u.loop.comes
    where
      go : (f : Front) → Shape a₀ a f → FrontTold w k f rows₀ set extra rows → ((d : ℕ) (os : List Level) (g : Front) → d + depth ≡ open_limit → Comes s a₀ (within k d os g none due) a (within k d os g f due))
          → JoinedAnswer w k s a₀ depth rows₀ (joined k set extra n) now
      go none sh td cm = absurd (other_place sh)
      go (some f) sh td cm =
          let m = u.member in (
            f (one m.0),
            omega (arith, m.1),
            m.2,
            stop k (get_or s n.end 0) m.3 b,
            told_close w k rows₀ set extra rows m.0 n.kind n.set n.extra mid now f td m.4 u.links,
            λ d os g f' p. cm d os g p ∙ m.5 d os g (some f) p ∙ settled m.0 b (some f) d os g,
          )
