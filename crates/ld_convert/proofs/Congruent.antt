-- The equality of two trees whose parts are equal.
use Rattle.std.proofs.Common.{Bool, Result, Ok, Err, IfOk, ◌≡◌, ◌≤◌, max, ℕ, suc, List, [], ◌∷◌, ◌++◌, length, map, Option, None, Some, refl, ap, sym, ◌∙◌, subst, arith, ◌==◌, if◌then◌else◌, true, false}
use Rattle.std.proofs.lemmas.Bool.Decides.{nat_tests}
use Rattle.std.specs.List.{AllByRecursion}
use mathlib.Core.Path.{ap₂, subst₂}
use Rattle.ld_terms.specs.Tree.{Tree, App, Const, Trees, Nil, ◌▸◌}
use Rattle.ld_terms.specs.Known.{Known, IsEquality, EquateAll, bound_at, bound_by, greatest}
use Rattle.ld_record.specs.declared.record.EqId.{EqId}
use Rattle.fb_base.specs.declared.texts.NoMemory.{NoMemory}
use Rattle.ld_terms.specs.Item.{Item}
use Rattle.ld_terms.specs.Bank.{item_at, item_of, tree_at, IsTermAt}
use Rattle.ld_terms.specs.Named.{IsNamed}
use Rattle.ld_terms.specs.declared.bank.TermId.{TermId}
use Rattle.ld_terms.specs.declared.bank.Node.{Node}
use Rattle.ld_terms.proofs.Banks.{extends_refl}
use Rattle.ld_record.specs.declared.record.EqStep.{EqStep}
use Rattle.ld_record.specs.Equal.{eq_numbers_of, eq_rule_of, ByTwo, ByConst, FollowsEqual}
use Rattle.ld_record.specs.Kept.{equality_of, FitsEqual}
use Rattle.ld_record.specs.Growth.{Adds, KnowsEquality}
use Rattle.ld_record.proofs.Equals.{eq_numbers_of-last, equate_none, equate_more}
use Rattle.ld_reduce.specs.Cost.{Equates}
use Rattle.ld_reduce.proofs.Going.{equates_later, kept_equates, stands_later}
use Rattle.ld_convert.specs.Apart.{Part, part, and_then, arguments, parts_of}
use Rattle.ld_convert.specs.Walks.{AreSame, SameParts}

-- the equalities of the parts stay as more is known
pub same_later : (old new : Known) (n : ℕ) (es : List EqId) (ps : List Part) → Adds old new → AreSame old n es ps → AreSame new n es ps
same_later old new n [] [] adds h = h
same_later old new n [] (p ∷ ps) adds h = absurd h
same_later old new n (e ∷ es) [] adds h = absurd h
same_later old new n (e ∷ es) (p ∷ ps) adds h = (equates_later old new e p.left p.right n adds h.0, same_later old new n es ps adds h.1)

pub as_many : (known : Known) (n : ℕ) (es : List EqId) (ps : List Part) → AreSame known n es ps → length es ≡ length ps
as_many known n [] [] h = refl
as_many known n [] (p ∷ ps) h = absurd h
as_many known n (e ∷ es) [] h = absurd h
as_many known n (e ∷ es) (p ∷ ps) h = ap suc (as_many known n es ps h.1)

-- the last equality is that of the last part
pub record SameLast (known : Known) (n : ℕ) (es : List EqId) (ps : List Part) (p : Part) : Type 0 where
  pub front : List EqId
  pub last : EqId
  pub is : es ≡ front ++ last ∷ []
  pub same : AreSame known n front ps
  pub equal : Equates known last p.left p.right n

pub same_last : (known : Known) (n : ℕ) (es : List EqId) (ps : List Part) (p : Part) → AreSame known n es (ps ++ p ∷ []) → SameLast known n es ps p
same_last known n [] [] p h = absurd h
same_last known n [] (q ∷ ps) p h = absurd h
same_last known n (e ∷ []) [] p h = record { front = []; last = e; is = refl; same = tt; equal = h.0 }
same_last known n (e ∷ f ∷ es) [] p h = absurd h.1
same_last known n (e ∷ es) (q ∷ ps) p h =
    let s = same_last known n es ps p h.1 in
    record { front = e ∷ s.front; last = s.last; is = ap (λ x. e ∷ x) s.is; same = (h.0, s.same); equal = s.equal }

-- one part more
pub record Then (o : Option (List Part)) (p : Part) (ps : List Part) : Type 0 where
  pub front : List Part
  pub is : o ≡ Some front
  pub all : ps ≡ front ++ p ∷ []

pub was_then : (o : Option (List Part)) (p : Part) (ps : List Part) → and_then o p ≡ Some ps → Then o p ps
was_then None p ps e = absurd (cc)
was_then (Some qs) p ps e = record { front = qs; is = refl; all = cc }

-- the parts of lists of arguments are equal one by one
pub arguments_equal : (known : Known) (n : ℕ) (us vs : Trees) (es : List EqId) (ps : List Part) → arguments us vs ≡ Some ps → AreSame known n es ps → EquateAll known (eq_numbers_of es) us vs
arguments_equal known n Nil Nil [] ps e h = equate_none known
arguments_equal known n Nil Nil (f ∷ es) ps e h = absurd (subst (AreSame known n (f ∷ es)) (sym (some e)) h)
  where
    some : {X : Type 0} {x y : X} → Some x ≡ Some y → x ≡ y
    some e = cc
arguments_equal known n Nil (vs ▸ v) es ps e h = absurd (cc)
arguments_equal known n (us ▸ u) Nil es ps e h = absurd (cc)
arguments_equal known n (us ▸ u) (vs ▸ v) es ps e h =
    let t = was_then (arguments us vs) (part u v 0) ps e in
    let s = same_last known n es t.front (part u v 0) (subst (AreSame known n es) t.all h) in
    let one = arguments_equal known n us vs s.front t.front t.is s.same in
    let numbers = ap eq_numbers_of s.is ∙ eq_numbers_of-last s.front s.last in
    subst (λ ns. EquateAll known ns (us ▸ u) (vs ▸ v)) (sym numbers) (equate_more known (eq_numbers_of s.front) s.last.0 us vs u v one s.equal.sides.left s.equal.sides.right)

pub all_live : (known : Known) (n : ℕ) (es : List EqId) (ps : List Part) → AreSame known n es ps → AllByRecursion (IsEquality known) (eq_numbers_of es)
all_live known n [] ps h = tt
all_live known n (e ∷ es) [] h = absurd h
all_live known n (e ∷ es) (p ∷ ps) h = (h.0.sides.live, all_live known n es ps h.1)

greatest_two : (x y n : ℕ) → x ≤ n → y ≤ n → max x y ≤ n
greatest_two x y n e f = grind arith

pub all_bounded : (known : Known) (n : ℕ) (es : List EqId) (ps : List Part) → AreSame known n es ps → greatest (map (bound_at known) (eq_numbers_of es)) ≤ n
all_bounded known n [] ps h = omega arith
all_bounded known n (e ∷ es) [] h = absurd h
all_bounded known n (e ∷ es) (p ∷ ps) h = greatest_two (bound_at known e.0) (greatest (map (bound_at known) (eq_numbers_of es))) n h.0.most (all_bounded known n es ps h.1)

pub same_split : (known : Known) (n : ℕ) (fs : List EqId) (e : EqId) (ps : List Part) (p : Part) → AreSame known n (fs ++ e ∷ []) (ps ++ p ∷ []) → AreSame known n fs ps × Equates known e p.left p.right n
same_split known n [] e [] p h = (tt, h.0)
same_split known n [] e (q ∷ []) p h = absurd h.1
same_split known n [] e (q ∷ r ∷ ps) p h = absurd h.1
same_split known n (f ∷ []) e [] p h = absurd h.1
same_split known n (f ∷ g ∷ fs) e [] p h = absurd h.1
same_split known n (f ∷ fs) e (q ∷ ps) p h = let s = same_split known n fs e ps p h.1 in ((h.0, s.0), s.1)

-- the equalities of two applications: those of the functions, and then that of the arguments
pub record SpineLast (known : Known) (fs : List EqId) (e : EqId) (f g u v : Tree) : Type 0 where
  pub parts : SameParts known fs (parts_of f g)
  pub equal : Equates known e u v (length known.env)

pub spine_last : (known : Known) (es fs : List EqId) (e : EqId) (l r f g u v : Tree) → l ≡ App f u → r ≡ App g v → es ≡ fs ++ e ∷ [] → SameParts known es (parts_of l r) → SpineLast known fs e f g u v
spine_last known es fs e l r f g u v d d' is h =
    let t = was_then (parts_of f g) (part u v 0) h.parts (sym (ap₂ parts_of d d') ∙ h.is) in
    let same = subst₂ (λ x y. AreSame known (length known.env) x y) is t.all h.same in
    let s = same_split known (length known.env) fs e t.front (part u v 0) same in
    record { parts = record { parts = t.front; is = t.is; same = s.0 }; equal = s.1 }

pub by_two : (known : Known) (make : Tree → Tree → Tree) (l r a b c d : Tree) (e f : EqId) (m n : ℕ) → l ≡ make a c → r ≡ make b d → Equates known e a b m → Equates known f c d n → ByTwo known make l r e f
by_two known make l r a b c d e f m n le re p q = record {
  first = p.sides.live;
  second = q.sides.live;
  left = le ∙ sym (ap₂ make p.sides.left q.sides.left);
  right = re ∙ sym (ap₂ make p.sides.right q.sides.right);
}

pub two_of : (known : Known) (es : List EqId) (o : Option (List Part)) (p q : Part) → SameParts known es o → o ≡ Some (p ∷ q ∷ []) → length es ≡ 2
two_of known es o p q h is = as_many known (length known.env) es h.parts h.same ∙ ap length (some (sym h.is ∙ is))
  where
    some : {X : Type 0} {x y : X} → Some x ≡ Some y → x ≡ y
    some e = cc

same_number : (k j : ℕ) → (k == j) ≡ true → k ≡ j
same_number k j e = grind (arith, nat_tests)

pub where_true : (t : Bool) (o : Option (List Part)) (ps : List Part) → (if t then o else None) ≡ Some ps → (t ≡ true) × (o ≡ Some ps)
where_true true o ps e = (refl, e)
where_true false o ps e = absurd (cc)

pub const_follows : (known : Known) (es : List EqId) (l r : Tree) (k j : ℕ) (us vs : Trees) → l ≡ Const k us → r ≡ Const j vs → IsNamed known.env l → SameParts known es (parts_of l r) → ByConst known l r es
const_follows known es l r k j us vs d d' named h =
    let t = where_true (k == j) (arguments us vs) h.parts (sym (ap₂ parts_of d d') ∙ h.is) in
    let there = subst (IsNamed known.env) d named in
    record {
      number = k;
      there = there.0;
      live = all_live known (length known.env) es h.parts h.same;
      lefts = us;
      rights = vs;
      equated = arguments_equal known (length known.env) us vs es h.parts t.1 h.same;
      as_many = there.1;
      left = d;
      right = d' ∙ ap (λ i. Const i vs) (sym (same_number k j t.0));
    }

-- what is kept equates the terms
pub kept_ok : (items : List Item) (old new : Known) (a b : TermId) (step : EqStep) (n : ℕ) (result : Result EqId NoMemory) → IsTermAt items a → IsTermAt items b
    → IfOk result (λ e. KnowsEquality new e (equality_of items old a b step)) → bound_by old (tree_at items a) (eq_rule_of step) ≤ n → IfOk result (λ e. Equates new e (tree_at items a) (tree_at items b) n)
kept_ok items old new a b step n (Ok e) ta tb knows le =
    kept_equates items old new e a b (tree_at items a) (tree_at items b) step n (stands_later items items a (extends_refl items) ta) (stands_later items items b (extends_refl items) tb) knows le
kept_ok items old new a b step n (Err x) ta tb knows le = tt

pub fits_here : (items : List Item) (known : Known) (a b : TermId) (step : EqStep) → IsTermAt items a → IsTermAt items b → FollowsEqual known (tree_at items a) (tree_at items b) step → FitsEqual items known a b step
fits_here items known a b step ta tb h = record { left_there = ta; right_there = tb; follows = h }

pub two_bounded : (known : Known) (e f : EqId) (a b c d : Tree) (n : ℕ) → Equates known e a b n → Equates known f c d n → max (bound_at known e.0) (bound_at known f.0) ≤ n
two_bounded known e f a b c d n p q = greatest_two (bound_at known e.0) (bound_at known f.0) n p.most q.most

-- the function part of an application that is named
pub function_named : (known : Known) (t f u : Tree) → t ≡ App f u → IsNamed known.env t → IsNamed known.env f
function_named known t f u e h = (subst (IsNamed known.env) e h).0

-- the node of a term is this one
pub right_is : (items : List Item) (b : TermId) (m n : Node) → m ≡ n → item_of items m ≡ item_at items b → item_of items n ≡ item_at items b
right_is items b m n e h = subst (λ x. item_of items x ≡ item_at items b) e h
