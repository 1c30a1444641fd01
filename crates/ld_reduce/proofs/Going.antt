-- What a bank and a derivation keep, as terms and equalities are added.
use Rattle.std.proofs.Common.{◌≡◌, ◌≤◌, ℕ, List, refl, ap, sym, ◌∙◌, subst, arith}
use Rattle.ld_terms.specs.Tree.{Tree}
use Rattle.ld_terms.specs.Entry.{Env}
use Rattle.ld_terms.specs.Item.{Item, One, tree, IsOne}
use Rattle.ld_terms.specs.Bank.{item_at, tree_at, IsTermAt, StandsFor, Extends}
use Rattle.ld_terms.specs.Known.{Known, Equality, equality_at, bound_by}
use Rattle.ld_terms.specs.Named.{IsNamed}
use Rattle.ld_terms.specs.declared.bank.TermId.{TermId}
use Rattle.ld_terms.proofs.Banks.{extends_refl, extends_trans}
use Rattle.ld_record.specs.declared.record.EqId.{EqId}
use Rattle.ld_record.specs.declared.record.EqStep.{EqStep}
use Rattle.ld_record.specs.declared.record.Kept.{Kept}
use Rattle.ld_record.specs.Equal.{eq_rule_of, FollowsEqual}
use Rattle.ld_record.specs.Kept.{known_of, equality_of, IsSound, FitsEqual, Begins}
use Rattle.ld_record.specs.Growth.{Adds, KnowsEquality}
use Rattle.ld_record.proofs.Keeping.{begins_refl, begins_trans}
use Rattle.ld_record.proofs.Growing.{adds_refl, adds_trans, adds_by, known_later, sound_later}
use Rattle.ld_record.proofs.CallerLemmas.{equal_fits, equality_said, sides_named}
use Rattle.ld_reduce.specs.Cost.{Equates, Goes}

-- terms alone are added
pub goes_terms : (old new : List Item) (kept : List Kept) → Extends old new → IsSound old kept → Goes old new kept kept
goes_terms old new kept e sound = record {
  extends = e;
  begins = begins_refl kept;
  adds = adds_by (known_of old kept) (known_of old kept) (known_of new kept) (adds_refl (known_of old kept)) (known_later old new kept e sound);
  sound = sound_later old new kept e sound;
}

pub goes_trans : (a b c : List Item) (j k l : List Kept) → Goes a b j k → Goes b c k l → Goes a c j l
goes_trans a b c j k l f g = record {
  extends = extends_trans a b c f.extends g.extends;
  begins = begins_trans j k l f.begins g.begins;
  adds = adds_trans (known_of a j) (known_of b k) (known_of c l) f.adds g.adds;
  sound = g.sound;
}

-- terms are added, and then a record
pub goes_kept : (old new : List Item) (j k : List Kept) → Extends old new → IsSound old j → Begins j k → Adds (known_of new j) (known_of new k) → IsSound new k → Goes old new j k
goes_kept old new j k e sound begins adds now =
    goes_trans old new new j j k (goes_terms old new j e sound) (record { extends = extends_refl new; begins = begins; adds = adds; sound = now })

is_one : (i : Item) → IsOne i → i ≡ One (tree i)
is_one (One t) h = refl
is_one (Item.Many us) h = absurd h

-- a term stands for its tree, and does so later
pub stands_later : (old new : List Item) (t : TermId) → Extends old new → IsTermAt old t → StandsFor new t (tree_at old t)
stands_later old new t e h = record { live = omega (arith, e.longer, h.live); item = e.kept t h.live ∙ is_one (item_at old t) h.form }

pub term_of : (items : List Item) (t : TermId) (u : Tree) → StandsFor items t u → IsTermAt items t
term_of items t u h = record { live = h.live; form = subst IsOne (sym h.item) tt }

-- a term names what is there, and does so later
pub named_later : (a b : List Item) (j k : List Kept) (t : TermId) → Goes a b j k → IsTermAt a t → IsNamed (known_of a j).env (tree_at a t) → IsNamed (known_of b k).env (tree_at b t)
named_later a b j k t g h named =
    let P : Item → Type 0 = λ x. IsNamed (known_of b k).env (tree x) in
    let Q : Env → Type 0 = λ env. IsNamed env (tree_at a t) in
    subst P (sym (g.extends.kept t h.live)) (subst Q (sym g.adds.env) named)

-- so does the right side of an equality that is kept
pub right_named : (items : List Item) (kept : List Kept) (e : EqId) (l r : Tree) (n : ℕ) → IsSound items kept → Equates (known_of items kept) e l r n → IsNamed (known_of items kept).env r
right_named items kept e l r n sound q =
    subst (IsNamed (known_of items kept).env) q.sides.right
    (sides_named items kept e (equality_at (known_of items kept) e.0) sound (record { live = q.sides.live; is = refl })).1

-- an equality stays as more is known
pub equates_later : (old new : Known) (e : EqId) (l r : Tree) (n : ℕ) → Adds old new → Equates old e l r n → Equates new e l r n
equates_later old new e l r n adds q =
    let same = adds.equality e.0 q.sides.live in
    record {
      sides = record {
        live = omega (arith, q.sides.live, adds.equalities);
        left = ap (λ (x : Equality). x.left) same ∙ q.sides.left;
        right = ap (λ (x : Equality). x.right) same ∙ q.sides.right;
      };
      most = omega (arith, q.most, ap (λ (x : Equality). x.bound) same);
    }

-- an equality of a higher bound
pub raised : (known : Known) (e : EqId) (l r : Tree) (m n : ℕ) → m ≤ n → Equates known e l r m → Equates known e l r n
raised known e l r m n le q = record { sides = q.sides; most = omega (arith, q.most, le) }

-- what is kept equates the trees that its numbers stand for
pub kept_equates : (items : List Item) (old new : Known) (e : EqId) (left right : TermId) (l r : Tree) (step : EqStep) (n : ℕ) → StandsFor items left l → StandsFor items right r
    → KnowsEquality new e (equality_of items old left right step) → bound_by old l (eq_rule_of step) ≤ n → Equates new e l r n
kept_equates items old new e left right l r step n l_is r_is knows le =
    let is = knows.is ∙ equality_said items old left right l r step l_is r_is in
    record {
      sides = record {
        live = knows.live;
        left = ap (λ (x : Equality). x.left) is;
        right = ap (λ (x : Equality). x.right) is;
      };
      most = omega (arith, le, ap (λ (x : Equality). x.bound) is);
    }

-- an equality may be kept that follows from what was known before a term was added
pub fits_later : (old new : List Item) (kept : List Kept) (t to : TermId) (r : Tree) (step : EqStep) → Extends old new → IsSound old kept → IsTermAt old t → StandsFor new to r
    → FollowsEqual (known_of old kept) (tree_at old t) r step → FitsEqual new (known_of new kept) t to step
fits_later old new kept t to r step e sound h is follows =
    let P : Known → Type 0 = λ known. FollowsEqual known (tree_at old t) r step in
    equal_fits new (known_of new kept) t to (tree_at old t) r step (stands_later old new t e h) is (subst P (sym (known_later old new kept e sound)) follows)
