-- The records of a derivation file: what each must meet over the records before it.
use Rattle.std.specs.Prelude.{◌≡◌, ℕ, ◌<◌, ◌≤◌, ◌^◌, List, [], ◌∷◌, ◌++◌, length, map, ⊤, Option, Some, None, slice_index_or}
use Rattle.std.specs.List.{AllByRecursion}
use Rattle.ld_terms.specs.Tree.{Tree, Trees, ◌▸◌, count}
use Rattle.ld_terms.specs.Tree as tree
use Rattle.ld_terms.specs.Entry.{Env}
use Rattle.ld_terms.specs.Rule.{EqRule, Rule, counted, equal_numbers, rule_numbers}
use Rattle.ld_terms.specs.Item.{One, IsSmall}
use Rattle.ld_terms.specs.Known.{Known, nothing, Judgement, context_at, judgement_at, trees, line_entry, primitive_entry, IsContext, IsEquality, IsNode, IsEqualBy, FollowsBy, bound_by, MayBeLine, MayBePrimitive, MayBeFlag, MayEnd, with_context, with_equality, with_node, with_entry, with_flag}
use Rattle.ld_terms.specs.Known as known

-- The numbers name earlier terms (t, u, l, r), contexts (c), equalities (e), nodes (n) and entries (k).
pub data Record : Type 0 where
  -- terms
  Star : Record
  Box : Record
  Var : (i : ℕ) → Record
  App : (t u : ℕ) → Record
  Lam : (t u : ℕ) → Record
  Pi : (t u : ℕ) → Record
  Const : (k : ℕ) (ts : List ℕ) → Record
  -- a context extended by a term
  Context : (c t : ℕ) → Record
  Equal : (l r : ℕ) → EqRule → Record
  -- a node: over m entries and the context, t has the type u
  Node : (m c t u : ℕ) → Rule → Record
  -- an entry with a body, one without, a flag, and the end
  Entry : (name : List ℕ) (n : ℕ) → Record
  PrimEntry : (name : List ℕ) (n : ℕ) → Record
  Flag : (n : ℕ) → Record
  End : (n : ℕ) → Record

-- the numbers before a record's name, with counts and lengths; its name; and those behind it
abbrev pub numbers_before : Record → List ℕ
numbers_before Star = []
numbers_before Box = []
numbers_before (Var i) = i ∷ []
numbers_before (App t u) = t ∷ u ∷ []
numbers_before (Lam t u) = t ∷ u ∷ []
numbers_before (Pi t u) = t ∷ u ∷ []
numbers_before (Const k ts) = k ∷ counted ts
numbers_before (Context c t) = c ∷ t ∷ []
numbers_before (Equal l r rule) = l ∷ r ∷ equal_numbers rule
numbers_before (Node m c t u rule) = m ∷ c ∷ t ∷ u ∷ rule_numbers rule
numbers_before (Entry bytes n) = length bytes ∷ []
numbers_before (PrimEntry bytes n) = length bytes ∷ []
numbers_before (Flag n) = n ∷ []
numbers_before (End n) = n ∷ []

abbrev pub name_of : Record → List ℕ
name_of (Entry bytes n) = bytes
name_of (PrimEntry bytes n) = bytes
name_of _ = []

abbrev pub numbers_behind : Record → List ℕ
numbers_behind (Entry bytes n) = n ∷ []
numbers_behind (PrimEntry bytes n) = n ∷ []
numbers_behind _ = []

abbrev pub numbers : Record → List ℕ
numbers r = numbers_before r ++ numbers_behind r

-- what has a spelling: each number is below 2 ^ 64, and each byte of a name is one
pub record HasSpelling (r : Record) : Type 0 where
  pub small_numbers : AllByRecursion (λ n. n < 2 ^ 64) (numbers r)
  pub name_bytes : AllByRecursion (λ b. b < 256) (name_of r)

-- the terms so far, by their numbers, and what is known besides
pub record State : Type 0 where
  pub terms : List Tree
  pub known : Known

abbrev pub start : State
start = record { terms = []; known = nothing }

abbrev pub term_at : State → ℕ → Tree
term_at s t = slice_index_or s.terms t tree.Star

-- how many parameters an entry has
abbrev pub params_at : Env → ℕ → ℕ
params_at env k = count (slice_index_or env k (primitive_entry [] known.no_judgement)).params

abbrev pub IsNoEnd : Record → Type 0
IsNoEnd (End n) = ⊥
IsNoEnd _ = ⊤

abbrev pub with_term : State → Option Tree → State
with_term s None = s
with_term s (Some t) = record s { terms = s.terms ++ t ∷ [] }

module _ (s : State) where
  -- what a record names is there
  abbrev pub IsTerm : ℕ → Type 0
  IsTerm t = t < length s.terms

  abbrev pub EqRuleIsThere : EqRule → Type 0
  EqRuleIsThere EqRule.Refl = ⊤
  EqRuleIsThere (EqRule.Sym e) = IsEquality s.known e
  EqRuleIsThere (EqRule.Trans e e') = IsEquality s.known e × IsEquality s.known e'
  EqRuleIsThere EqRule.Beta = ⊤
  EqRuleIsThere EqRule.Delta = ⊤
  EqRuleIsThere (EqRule.App e e') = IsEquality s.known e × IsEquality s.known e'
  EqRuleIsThere (EqRule.Lam e e') = IsEquality s.known e × IsEquality s.known e'
  EqRuleIsThere (EqRule.Pi e e') = IsEquality s.known e × IsEquality s.known e'
  EqRuleIsThere (EqRule.Const es) = AllByRecursion (IsEquality s.known) es

  abbrev pub RuleIsThere : Rule → Type 0
  RuleIsThere Rule.Sort = ⊤
  RuleIsThere (Rule.Var n) = IsNode s.known n
  RuleIsThere (Rule.Weak n n') = IsNode s.known n × IsNode s.known n'
  RuleIsThere (Rule.Form n n') = IsNode s.known n × IsNode s.known n'
  RuleIsThere (Rule.Appl n n') = IsNode s.known n × IsNode s.known n'
  RuleIsThere (Rule.Abst n n') = IsNode s.known n × IsNode s.known n'
  RuleIsThere (Rule.Conv n n' e) = IsNode s.known n × IsNode s.known n' × IsEquality s.known e
  RuleIsThere (Rule.Def n) = IsNode s.known n
  RuleIsThere (Rule.DefPrim n) = IsNode s.known n
  RuleIsThere (Rule.Inst n ns) = IsNode s.known n × AllByRecursion (IsNode s.known) ns
  RuleIsThere (Rule.InstPrim n ns) = IsNode s.known n × AllByRecursion (IsNode s.known) ns

  abbrev pub IsThere : Record → Type 0
  IsThere Star = ⊤
  IsThere Box = ⊤
  IsThere (Var i) = ⊤
  IsThere (App t u) = IsTerm t × IsTerm u
  IsThere (Lam t u) = IsTerm t × IsTerm u
  IsThere (Pi t u) = IsTerm t × IsTerm u
  IsThere (Const k ts) = (k < length s.known.env) × AllByRecursion IsTerm ts
  IsThere (Context c t) = IsContext s.known c × IsTerm t
  IsThere (Equal l r rule) = IsTerm l × IsTerm r × EqRuleIsThere rule
  IsThere (Node m c t u rule) = (m ≤ length s.known.env) × IsContext s.known c × IsTerm t × IsTerm u × RuleIsThere rule
  IsThere (Entry name n) = IsNode s.known n
  IsThere (PrimEntry name n) = IsNode s.known n
  IsThere (Flag n) = IsNode s.known n
  IsThere (End n) = IsNode s.known n

  -- the tree that a record of a term makes
  abbrev pub made : Record → Option Tree
  made Star = Some tree.Star
  made Box = Some tree.Box
  made (Var i) = Some (tree.Var i)
  made (App t u) = Some (tree.App (term_at s t) (term_at s u))
  made (Lam t u) = Some (tree.Lam (term_at s t) (term_at s u))
  made (Pi t u) = Some (tree.Pi (term_at s t) (term_at s u))
  made (Const k ts) = Some (tree.Const k (trees (map (term_at s) ts)))
  made _ = None

  -- what each record must meet, besides that what it names is there
  abbrev pub Meets : Record → Type 0
  Meets Star = ⊤
  Meets Box = ⊤
  Meets (Var i) = IsSmall (One (tree.Var i))
  Meets (App t u) = IsSmall (One (tree.App (term_at s t) (term_at s u)))
  Meets (Lam t u) = IsSmall (One (tree.Lam (term_at s t) (term_at s u)))
  Meets (Pi t u) = IsSmall (One (tree.Pi (term_at s t) (term_at s u)))
  Meets (Const k ts) = (length ts ≡ params_at s.known.env k) × IsSmall (One (tree.Const k (trees (map (term_at s) ts))))
  Meets (Context c t) = ⊤
  Meets (Equal l r rule) = IsEqualBy s.known (term_at s l) (term_at s r) rule
  Meets (Node m c t u rule) = FollowsBy s.known m (context_at s.known c) (term_at s t) (term_at s u) rule
  Meets (Entry name n) = MayBeLine s.known name n
  Meets (PrimEntry name n) = MayBePrimitive s.known name n
  Meets (Flag n) = MayBeFlag s.known n
  Meets (End n) = MayEnd s.known n

  -- what is known after a record that makes no term
  abbrev pub known_after : Record → Known
  known_after (Context c t) = with_context s.known (context_at s.known c ▸ term_at s t)
  known_after (Equal l r rule) = with_equality s.known (record { left = term_at s l; right = term_at s r; bound = bound_by s.known (term_at s l) rule })
  known_after (Node m c t u rule) = with_node s.known (record { entries = m; context = context_at s.known c; term = term_at s t; type = term_at s u })
  known_after (Entry name n) = with_entry s.known (line_entry name (judgement_at s.known n))
  known_after (PrimEntry name n) = with_entry s.known (primitive_entry name (judgement_at s.known n))
  known_after (Flag n) = with_flag s.known (judgement_at s.known n)
  known_after _ = s.known

  -- what the records have made after one more
  abbrev pub after : Record → State
  after r = with_term (record s { known = known_after r }) (made r)

  -- a record may stand here: what it names is there, and it meets its condition
  pub record Stands (r : Record) : Type 0 where
    pub spelling : HasSpelling r
    pub there : IsThere r
    pub meets : Meets r

-- From the state on the records stand, one after another; none of them is an end record.
abbrev pub Stand : State → List Record → Type 0
Stand s [] = ⊤
Stand s (r ∷ rs) = IsNoEnd r × Stands s r × Stand (after s r) rs

-- what they have made
abbrev pub final : State → List Record → State
final s [] = s
final s (r ∷ rs) = final (after s r) rs
