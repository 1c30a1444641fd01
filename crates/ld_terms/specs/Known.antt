-- What the records of a derivation have made known, and when one more judgement follows from it.
use Rattle.std.specs.Prelude.{◌≡◌, ℕ, suc, ◌<◌, ◌≤◌, max, List, [], ◌∷◌, ◌++◌, length, map, slice_index_or}
use Rattle.std.specs.List.{AllByRecursion}
use Rattle.ld_terms.specs.Tree.{Tree, Star, Box, Trees, Nil, ◌▸◌, count}
use Rattle.ld_terms.specs.Put.{lift, put}
use Rattle.ld_terms.specs.Entry.{Entry, Defined, Primitive, Env, EntryAt, IsFresh, HasBody, UnfoldsTo}
use Rattle.ld_terms.specs.Derivable.{IsSort}
use Rattle.ld_terms.specs.Rule.{EqRule, Rule}

-- what a flag or a line leaves in a derivation: the flag's context and type, or the entry
pub data Note : Type 0 where
  FlagNote : (context : Trees) (type : Tree) → Note
  EntryNote : Entry → Note

-- two trees that are equal by steps which unfold only entries below the bound
pub record Equality : Type 0 where
  pub left : Tree
  pub right : Tree
  pub bound : ℕ

-- over the first of the entries, so many, and in the context, the term has the type
pub record Judgement : Type 0 where
  pub entries : ℕ
  pub context : Trees
  pub term : Tree
  pub type : Tree

-- contexts, equalities and judgements by their numbers, the environment, and the notes in order
pub record Known : Type 0 where
  pub contexts : List Trees
  pub equalities : List Equality
  pub nodes : List Judgement
  pub env : Env
  pub notes : List Note

-- the empty context has the number 0
abbrev pub nothing : Known
nothing = record { contexts = Nil ∷ []; equalities = []; nodes = []; env = []; notes = [] }

abbrev pub no_judgement : Judgement
no_judgement = record { entries = 0; context = Nil; term = Star; type = Box }

abbrev pub no_equality : Equality
no_equality = record { left = Star; right = Star; bound = 0 }

abbrev pub context_at : Known → ℕ → Trees
context_at known c = slice_index_or known.contexts c Nil

abbrev pub equality_at : Known → ℕ → Equality
equality_at known e = slice_index_or known.equalities e no_equality

abbrev pub judgement_at : Known → ℕ → Judgement
judgement_at known n = slice_index_or known.nodes n no_judgement

-- a list of trees, the first outermost
abbrev pub extended : Trees → List Tree → Trees
extended us [] = us
extended us (t ∷ ts) = extended (us ▸ t) ts

abbrev pub trees : List Tree → Trees
trees ts = extended Nil ts

-- the terms and the types of some judgements
abbrev pub terms_of : List Judgement → Trees
terms_of js = trees (map (λ j. j.term) js)

abbrev pub types_of : List Judgement → Trees
types_of js = trees (map (λ j. j.type) js)

-- the parameters' types, each with the arguments before it put in
abbrev pub wanted : (params us : Trees) → Trees
wanted Nil us = Nil
wanted (ps ▸ p) Nil = Nil
wanted (ps ▸ p) (us ▸ u) = wanted ps us ▸ put p us

-- one more than the number of an instance
abbrev pub behind_entry : Tree → ℕ
behind_entry (Tree.Const k us) = suc k
behind_entry _ = 0

abbrev pub greatest : List ℕ → ℕ
greatest [] = 0
greatest (n ∷ ns) = max n (greatest ns)

-- the entry of a line, whose body and type are a node's term and type, and that of a primitive, whose type is a node's term
abbrev pub line_entry : List ℕ → Judgement → Entry
line_entry name j = record { name = name; params = j.context; body = Defined j.term; type = j.type }

abbrev pub primitive_entry : List ℕ → Judgement → Entry
primitive_entry name j = record { name = name; params = j.context; body = Primitive; type = j.term }

module _ (known : Known) where
  abbrev pub IsContext : ℕ → Type 0
  IsContext c = c < length known.contexts

  abbrev pub IsEquality : ℕ → Type 0
  IsEquality e = e < length known.equalities

  abbrev pub IsNode : ℕ → Type 0
  IsNode n = n < length known.nodes

  -- the sides of an equality
  abbrev pub Equates : ℕ → Tree → Tree → Type 0
  Equates e l r = ((equality_at known e).left ≡ l) × ((equality_at known e).right ≡ r)

  -- these equalities equate the trees of two lists, in order
  abbrev pub EquateAll : List ℕ → Trees → Trees → Type 0
  EquateAll es us vs = (trees (map (λ e. (equality_at known e).left) es) ≡ us) × (trees (map (λ e. (equality_at known e).right) es) ≡ vs)

  -- two trees are equal by the rule
  pub data IsEqualBy : Tree → Tree → EqRule → Type 0 where
    refl : {t : Tree} → IsEqualBy t t EqRule.Refl
    sym : {l r : Tree} {e : ℕ} → Equates e r l → IsEqualBy l r (EqRule.Sym e)
    trans : {l r : Tree} {e e' : ℕ} (q : Tree) → Equates e l q → Equates e' q r → IsEqualBy l r (EqRule.Trans e e')
    beta : {a m n : Tree} → IsEqualBy (Tree.App (Tree.Lam a m) n) (put m (Nil ▸ n)) EqRule.Beta
    delta : {k : ℕ} {us : Trees} {e : Entry} {body : Tree} → EntryAt known.env k e → UnfoldsTo e.body body →
        count us ≡ count e.params → IsEqualBy (Tree.Const k us) (put body us) EqRule.Delta
    app : {f g u v : Tree} {e e' : ℕ} → Equates e f g → Equates e' u v → IsEqualBy (Tree.App f u) (Tree.App g v) (EqRule.App e e')
    lam : {a b m n : Tree} {e e' : ℕ} → Equates e a b → Equates e' m n → IsEqualBy (Tree.Lam a m) (Tree.Lam b n) (EqRule.Lam e e')
    pi : {a b c d : Tree} {e e' : ℕ} → Equates e a b → Equates e' c d → IsEqualBy (Tree.Pi a c) (Tree.Pi b d) (EqRule.Pi e e')
    const : {k : ℕ} {us vs : Trees} {es : List ℕ} → EquateAll es us vs → IsEqualBy (Tree.Const k us) (Tree.Const k vs) (EqRule.Const es)

  -- node n is this judgement
  abbrev pub Judges : ℕ → ℕ → Trees → Tree → Tree → Type 0
  Judges n m ctx t u = judgement_at known n ≡ record { entries = m; context = ctx; term = t; type = u }

  -- These nodes, over m and the context, give each argument its parameter's type with the arguments put in.
  pub record JudgeArguments (ns : List ℕ) (m : ℕ) (ctx params us : Trees) : Type 0 where
    pub over : AllByRecursion (λ n. ((judgement_at known n).entries ≡ m) × ((judgement_at known n).context ≡ ctx)) ns
    pub terms : terms_of (map (judgement_at known) ns) ≡ us
    pub types : types_of (map (judgement_at known) ns) ≡ wanted params us
    pub as_many : count us ≡ count params

  -- A judgement follows by the rule from the nodes that the rule names.
  pub data FollowsBy : (m : ℕ) → Trees → Tree → Tree → Rule → Type 0 where
    sort : FollowsBy 0 Nil Star Box Rule.Sort
    var : {m n : ℕ} {ctx : Trees} {a s : Tree} → IsSort s → Judges n m ctx a s →
        FollowsBy m (ctx ▸ a) (Tree.Var 0) (lift a 1 0) (Rule.Var n)
    weak : {m n n' : ℕ} {ctx : Trees} {a b c s : Tree} → IsSort s → Judges n m ctx a b → Judges n' m ctx c s →
        FollowsBy m (ctx ▸ c) (lift a 1 0) (lift b 1 0) (Rule.Weak n n')
    form : {m n n' : ℕ} {ctx : Trees} {a b s1 s2 : Tree} → IsSort s1 → IsSort s2 → Judges n m ctx a s1 → Judges n' m (ctx ▸ a) b s2 →
        FollowsBy m ctx (Tree.Pi a b) s2 (Rule.Form n n')
    appl : {m n n' : ℕ} {ctx : Trees} {a b f u : Tree} → Judges n m ctx f (Tree.Pi a b) → Judges n' m ctx u a →
        FollowsBy m ctx (Tree.App f u) (put b (Nil ▸ u)) (Rule.Appl n n')
    abst : {m n n' : ℕ} {ctx : Trees} {a b p s : Tree} → IsSort s → Judges n m (ctx ▸ a) p b → Judges n' m ctx (Tree.Pi a b) s →
        FollowsBy m ctx (Tree.Lam a p) (Tree.Pi a b) (Rule.Abst n n')
    conv : {m n n' e : ℕ} {ctx : Trees} {a b b' s : Tree} → IsSort s → Judges n m ctx a b → Judges n' m ctx b' s → Equates e b b' → (equality_at known e).bound ≤ m →
        FollowsBy m ctx a b' (Rule.Conv n n' e)
    def : {m n : ℕ} {ctx : Trees} {a b body : Tree} {e : Entry} → Judges n m ctx a b → EntryAt known.env m e → HasBody e.body body →
        FollowsBy (suc m) ctx a b (Rule.Def n)
    def_prim : {m n : ℕ} {ctx : Trees} {a b : Tree} {e : Entry} → Judges n m ctx a b → EntryAt known.env m e → e.body ≡ Primitive →
        FollowsBy (suc m) ctx a b (Rule.DefPrim n)
    inst : {m n k : ℕ} {ns : List ℕ} {ctx us : Trees} {body : Tree} {e : Entry} → Judges n m ctx Star Box →
        k < m → EntryAt known.env k e → HasBody e.body body → JudgeArguments ns m ctx e.params us →
        FollowsBy m ctx (Tree.Const k us) (put e.type us) (Rule.Inst n ns)
    inst_prim : {m n k : ℕ} {ns : List ℕ} {ctx us : Trees} {e : Entry} → Judges n m ctx Star Box →
        k < m → EntryAt known.env k e → e.body ≡ Primitive → JudgeArguments ns m ctx e.params us →
        FollowsBy m ctx (Tree.Const k us) (put e.type us) (Rule.InstPrim n ns)

  abbrev pub bound_at : ℕ → ℕ
  bound_at e = (equality_at known e).bound

  -- the entries that an equality unfolds are below this number, where its left side is the tree
  abbrev pub bound_by : Tree → EqRule → ℕ
  bound_by l EqRule.Refl = 0
  bound_by l (EqRule.Sym e) = bound_at e
  bound_by l (EqRule.Trans e e') = max (bound_at e) (bound_at e')
  bound_by l EqRule.Beta = 0
  bound_by l EqRule.Delta = behind_entry l
  bound_by l (EqRule.App e e') = max (bound_at e) (bound_at e')
  bound_by l (EqRule.Lam e e') = max (bound_at e) (bound_at e')
  bound_by l (EqRule.Pi e e') = max (bound_at e) (bound_at e')
  bound_by l (EqRule.Const es) = greatest (map bound_at es)

  -- a name of 1 to 255 bytes that no entry has
  pub record IsFree (name : List ℕ) : Type 0 where
    pub some : 0 < length name
    pub short : length name ≤ 255
    pub fresh : IsFresh name known.env

  -- node n is over all entries so far
  abbrev pub IsOverAll : ℕ → Type 0
  IsOverAll n = (judgement_at known n).entries ≡ length known.env

  -- a node may be kept for a line, a primitive, a flag, and for the end
  pub record MayBeLine (name : List ℕ) (n : ℕ) : Type 0 where
    pub free : IsFree name
    pub over : IsOverAll n

  pub record MayBePrimitive (name : List ℕ) (n : ℕ) : Type 0 where
    pub free : IsFree name
    pub over : IsOverAll n
    pub sort : IsSort (judgement_at known n).type

  pub record MayBeFlag (n : ℕ) : Type 0 where
    pub over : IsOverAll n
    pub sort : IsSort (judgement_at known n).type

  abbrev pub MayEnd : ℕ → Type 0
  MayEnd n = Judges n (length known.env) Nil Star Box

  -- what is known with one more of a kind
  abbrev pub with_context : Trees → Known
  with_context ctx = record known { contexts = known.contexts ++ ctx ∷ [] }

  abbrev pub with_equality : Equality → Known
  with_equality e = record known { equalities = known.equalities ++ e ∷ [] }

  abbrev pub with_node : Judgement → Known
  with_node j = record known { nodes = known.nodes ++ j ∷ [] }

  abbrev pub with_entry : Entry → Known
  with_entry e = record known { env = known.env ++ e ∷ []; notes = known.notes ++ EntryNote e ∷ [] }

  abbrev pub with_flag : Judgement → Known
  with_flag j = record known { notes = known.notes ++ FlagNote j.context j.term ∷ [] }
