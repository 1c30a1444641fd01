-- When two trees are equal by a rule, as facts about their parts. The relation that reads like the rule table is IsEqualBy
-- of ld_terms, to which each of these leads. A side that is not one of an earlier equality names only entries that are
-- there, with as many arguments as parameters, since a derivation file can spell no other term.
use Rattle.std.specs.Prelude.{◌≡◌, ℕ, ◌<◌, List, length, map}
use Rattle.std.specs.List.{AllByRecursion}
use Rattle.ld_terms.specs.Tree.{Tree, App, Lam, Pi, Const, Trees, Nil, ◌▸◌, count}
use Rattle.ld_terms.specs.Put.{put}
use Rattle.ld_terms.specs.Entry.{Defined}
use Rattle.ld_terms.specs.Known.{Known, equality_at, IsEquality, EquateAll}
use Rattle.ld_terms.specs.Named.{IsNamed, AreNamed}
use Rattle.ld_terms.specs.Rule.{EqRule}
use Rattle.ld_record.specs.declared.record.EqId.{EqId}
use Rattle.ld_record.specs.declared.record.EqStep.{EqStep}
use Rattle.ld_record.specs.declared.record.EqStep.TheVariants as step
use Rattle.ld_record.specs.Follows.{entry_at}

abbrev pub eq_numbers_of : List EqId → List ℕ
eq_numbers_of es = map (λ e. e.0) es

abbrev pub eq_rule_of : EqStep → EqRule
eq_rule_of step.Refl = EqRule.Refl
eq_rule_of (step.Sym e) = EqRule.Sym e.0
eq_rule_of (step.Trans e f) = EqRule.Trans e.0 f.0
eq_rule_of step.Beta = EqRule.Beta
eq_rule_of step.Delta = EqRule.Delta
eq_rule_of (step.App e f) = EqRule.App e.0 f.0
eq_rule_of (step.Lam e f) = EqRule.Lam e.0 f.0
eq_rule_of (step.Pi e f) = EqRule.Pi e.0 f.0
eq_rule_of (step.Const es) = EqRule.Const (eq_numbers_of es)

-- A premise: it is there, and has these sides.
pub record HasSides (known : Known) (e : EqId) (l r : Tree) : Type 0 where
  pub live : e.0 < length known.equalities
  pub left : (equality_at known e.0).left ≡ l
  pub right : (equality_at known e.0).right ≡ r

pub record ByRefl (known : Known) (l r : Tree) : Type 0 where
  pub same : l ≡ r
  pub named : IsNamed known.env l

pub record BySym (known : Known) (l r : Tree) (e : EqId) : Type 0 where
  pub premise : HasSides known e r l

pub record ByTrans (known : Known) (l r : Tree) (e f : EqId) : Type 0 where
  pub between : Tree
  pub first : HasSides known e l between
  pub second : HasSides known f between r

-- an abstraction that is applied
pub record ByBeta (known : Known) (l r : Tree) : Type 0 where
  pub domain : Tree
  pub body : Tree
  pub argument : Tree
  pub left : l ≡ App (Lam domain body) argument
  pub right : r ≡ put body (Nil ▸ argument)
  pub named : IsNamed known.env l

-- an instance of an entry that unfolds, with as many arguments as parameters
pub record ByDelta (known : Known) (l r : Tree) : Type 0 where
  pub number : ℕ
  pub there : number < length known.env
  pub body : Tree
  pub unfolds : (entry_at known.env number).body ≡ Defined body
  pub arguments : Trees
  pub as_many : count arguments ≡ count (entry_at known.env number).params
  pub left : l ≡ Const number arguments
  pub right : r ≡ put body arguments
  pub named : AreNamed known.env arguments

-- the sides are made of those of two equalities
pub record ByTwo (known : Known) (make : Tree → Tree → Tree) (l r : Tree) (e f : EqId) : Type 0 where
  pub first : e.0 < length known.equalities
  pub second : f.0 < length known.equalities
  pub left : l ≡ make (equality_at known e.0).left (equality_at known f.0).left
  pub right : r ≡ make (equality_at known e.0).right (equality_at known f.0).right

-- instances of one entry that is there, whose arguments are equal in their order
pub record ByConst (known : Known) (l r : Tree) (es : List EqId) : Type 0 where
  pub number : ℕ
  pub there : number < length known.env
  pub live : AllByRecursion (IsEquality known) (eq_numbers_of es)
  pub lefts : Trees
  pub rights : Trees
  pub equated : EquateAll known (eq_numbers_of es) lefts rights
  pub as_many : count lefts ≡ count (entry_at known.env number).params
  pub left : l ≡ Const number lefts
  pub right : r ≡ Const number rights

abbrev pub FollowsEqual : Known → Tree → Tree → EqStep → Type 0
FollowsEqual known l r step.Refl = ByRefl known l r
FollowsEqual known l r (step.Sym e) = BySym known l r e
FollowsEqual known l r (step.Trans e f) = ByTrans known l r e f
FollowsEqual known l r step.Beta = ByBeta known l r
FollowsEqual known l r step.Delta = ByDelta known l r
FollowsEqual known l r (step.App e f) = ByTwo known App l r e f
FollowsEqual known l r (step.Lam e f) = ByTwo known Lam l r e f
FollowsEqual known l r (step.Pi e f) = ByTwo known Pi l r e f
FollowsEqual known l r (step.Const es) = ByConst known l r es
