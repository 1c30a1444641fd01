-- When a judgement follows from earlier ones by a rule, as facts about its parts. The relation that reads like the rule
-- table is FollowsBy of ld_terms, to which each of these leads.
use Rattle.std.specs.Prelude.{◌≡◌, ℕ, ◌+◌, ◌<◌, ◌≤◌, List, [], length, map, slice_index_or}
use Rattle.std.specs.List.{AllByRecursion}
use Rattle.ld_terms.specs.Tree.{Tree, Star, Box, Var, App, Lam, Pi, Const, Trees, Nil, ◌▸◌}
use Rattle.ld_terms.specs.Put.{lift, put}
use Rattle.ld_terms.specs.Entry.{Entry, Body, Defined, Primitive, Env}
use Rattle.ld_terms.specs.Derivable.{IsSort}
use Rattle.ld_terms.specs.Known.{Known, Judgement, equality_at, judgement_at, no_judgement, primitive_entry, IsNode, JudgeArguments}
use Rattle.ld_terms.specs.Rule.{Rule}
use Rattle.ld_record.specs.declared.record.JudgeId.{JudgeId}
use Rattle.ld_record.specs.declared.record.EqId.{EqId}
use Rattle.ld_record.specs.declared.record.Step.{Step}
use Rattle.ld_record.specs.declared.record.Step.TheVariants as step

abbrev pub numbers_of : List JudgeId → List ℕ
numbers_of js = map (λ j. j.0) js

abbrev pub rule_of : Step → Rule
rule_of step.Sort = Rule.Sort
rule_of (step.Var n) = Rule.Var n.0
rule_of (step.Weak n m) = Rule.Weak n.0 m.0
rule_of (step.Form n m) = Rule.Form n.0 m.0
rule_of (step.Appl n m) = Rule.Appl n.0 m.0
rule_of (step.Abst n m) = Rule.Abst n.0 m.0
rule_of (step.Conv n m e) = Rule.Conv n.0 m.0 e.0
rule_of (step.Def n) = Rule.Def n.0
rule_of (step.DefPrim n) = Rule.DefPrim n.0
rule_of (step.Inst n ns) = Rule.Inst n.0 (numbers_of ns)
rule_of (step.InstPrim n ns) = Rule.InstPrim n.0 (numbers_of ns)

abbrev pub entry_at : Env → ℕ → Entry
entry_at env k = slice_index_or env k (primitive_entry [] no_judgement)

abbrev pub IsDefined : Body → Type 0
IsDefined (Defined t) = Unit {0}
IsDefined Primitive = ⊥

-- A premise: it is there, over as many entries.
pub record IsPremise (known : Known) (s : Judgement) (n : JudgeId) : Type 0 where
  pub live : n.0 < length known.nodes
  pub entries : (judgement_at known n.0).entries ≡ s.entries

pub record BySort (s : Judgement) : Type 0 where
  pub entries : s.entries ≡ 0
  pub context : s.context ≡ Nil
  pub term : s.term ≡ Star
  pub type : s.type ≡ Box

pub record ByVar (known : Known) (s : Judgement) (n : JudgeId) : Type 0 where
  pub premise : IsPremise known s n
  pub sort : IsSort (judgement_at known n.0).type
  pub context : s.context ≡ (judgement_at known n.0).context ▸ (judgement_at known n.0).term
  pub term : s.term ≡ Var 0
  pub type : s.type ≡ lift (judgement_at known n.0).term 1 0

pub record ByWeak (known : Known) (s : Judgement) (n m : JudgeId) : Type 0 where
  pub first : IsPremise known s n
  pub second : IsPremise known s m
  pub same : (judgement_at known m.0).context ≡ (judgement_at known n.0).context
  pub sort : IsSort (judgement_at known m.0).type
  pub context : s.context ≡ (judgement_at known n.0).context ▸ (judgement_at known m.0).term
  pub term : s.term ≡ lift (judgement_at known n.0).term 1 0
  pub type : s.type ≡ lift (judgement_at known n.0).type 1 0

pub record ByForm (known : Known) (s : Judgement) (n m : JudgeId) : Type 0 where
  pub first : IsPremise known s n
  pub second : IsPremise known s m
  pub outer : (judgement_at known n.0).context ≡ s.context
  pub inner : (judgement_at known m.0).context ≡ s.context ▸ (judgement_at known n.0).term
  pub domain : IsSort (judgement_at known n.0).type
  pub range : IsSort (judgement_at known m.0).type
  pub term : s.term ≡ Pi (judgement_at known n.0).term (judgement_at known m.0).term
  pub type : s.type ≡ (judgement_at known m.0).type

-- the first premise is of a product, whose domain is the type of the second
pub record ByAppl (known : Known) (s : Judgement) (n m : JudgeId) : Type 0 where
  pub first : IsPremise known s n
  pub second : IsPremise known s m
  pub function : (judgement_at known n.0).context ≡ s.context
  pub argument : (judgement_at known m.0).context ≡ s.context
  pub range : Tree
  pub product : (judgement_at known n.0).type ≡ Pi (judgement_at known m.0).type range
  pub term : s.term ≡ App (judgement_at known n.0).term (judgement_at known m.0).term
  pub type : s.type ≡ put range (Nil ▸ (judgement_at known m.0).term)

-- the first premise is of the body under the variable, the second of the product
pub record ByAbst (known : Known) (s : Judgement) (n m : JudgeId) : Type 0 where
  pub first : IsPremise known s n
  pub second : IsPremise known s m
  pub outer : (judgement_at known m.0).context ≡ s.context
  pub domain : Tree
  pub inner : (judgement_at known n.0).context ≡ s.context ▸ domain
  pub product : (judgement_at known m.0).term ≡ Pi domain (judgement_at known n.0).type
  pub sort : IsSort (judgement_at known m.0).type
  pub term : s.term ≡ Lam domain (judgement_at known n.0).term
  pub type : s.type ≡ Pi domain (judgement_at known n.0).type

-- the first premise has a type that is equal to the term of the second, by entries that are there
pub record ByConv (known : Known) (s : Judgement) (n m : JudgeId) (e : EqId) : Type 0 where
  pub first : IsPremise known s n
  pub second : IsPremise known s m
  pub live : e.0 < length known.equalities
  pub typed : (judgement_at known n.0).context ≡ s.context
  pub wanted : (judgement_at known m.0).context ≡ s.context
  pub sort : IsSort (judgement_at known m.0).type
  pub left : (equality_at known e.0).left ≡ (judgement_at known n.0).type
  pub right : (equality_at known e.0).right ≡ s.type
  pub bound : (equality_at known e.0).bound ≤ s.entries
  pub term : s.term ≡ (judgement_at known n.0).term
  pub type : s.type ≡ (judgement_at known m.0).term

-- the same judgement over one entry less, which has a body or is a primitive
pub record Over (known : Known) (s : Judgement) (n : JudgeId) : Type 0 where
  pub live : n.0 < length known.nodes
  pub same : s ≡ record (judgement_at known n.0) { entries = (judgement_at known n.0).entries + 1 }
  pub there : (judgement_at known n.0).entries < length known.env

pub record ByDef (known : Known) (s : Judgement) (n : JudgeId) : Type 0 where
  pub over : Over known s n
  pub body : IsDefined (entry_at known.env (judgement_at known n.0).entries).body

pub record ByDefPrim (known : Known) (s : Judgement) (n : JudgeId) : Type 0 where
  pub over : Over known s n
  pub body : (entry_at known.env (judgement_at known n.0).entries).body ≡ Primitive

-- an instance, each of whose arguments has its parameter's type
pub record Instance (known : Known) (s : Judgement) (n : JudgeId) (ns : List JudgeId) : Type 0 where
  pub star : IsPremise known s n
  pub context : (judgement_at known n.0).context ≡ s.context
  pub star_term : (judgement_at known n.0).term ≡ Star
  pub star_type : (judgement_at known n.0).type ≡ Box
  pub number : ℕ
  pub below : number < s.entries
  pub there : number < length known.env
  pub arguments : Trees
  pub live : AllByRecursion (IsNode known) (numbers_of ns)
  pub judged : JudgeArguments known (numbers_of ns) s.entries s.context (entry_at known.env number).params arguments
  pub term : s.term ≡ Const number arguments
  pub type : s.type ≡ put (entry_at known.env number).type arguments

pub record ByInst (known : Known) (s : Judgement) (n : JudgeId) (ns : List JudgeId) : Type 0 where
  pub instance : Instance known s n ns
  pub body : IsDefined (entry_at known.env instance.number).body

pub record ByInstPrim (known : Known) (s : Judgement) (n : JudgeId) (ns : List JudgeId) : Type 0 where
  pub instance : Instance known s n ns
  pub body : (entry_at known.env instance.number).body ≡ Primitive

abbrev pub Follows : Known → Judgement → Step → Type 0
Follows known s step.Sort = BySort s
Follows known s (step.Var n) = ByVar known s n
Follows known s (step.Weak n m) = ByWeak known s n m
Follows known s (step.Form n m) = ByForm known s n m
Follows known s (step.Appl n m) = ByAppl known s n m
Follows known s (step.Abst n m) = ByAbst known s n m
Follows known s (step.Conv n m e) = ByConv known s n m e
Follows known s (step.Def n) = ByDef known s n
Follows known s (step.DefPrim n) = ByDefPrim known s n
Follows known s (step.Inst n ns) = ByInst known s n ns
Follows known s (step.InstPrim n ns) = ByInstPrim known s n ns
