-- What the levels and variables of a theory say of the context that it stands for.
use Rattle.std.proofs.Common.{◌≡◌, ◌<◌, ◌≤◌, ◌-◌, ℕ, suc, List, length, take, get_or, set, refl, ap, sym, ◌∙◌, subst, arith}
use Rattle.std.proofs.lemmas.List.{take_all}
use Rattle.ld_terms.specs.Tree.{Tree, Trees, Nil, Star, Box, ◌▸◌, count}
use Rattle.ld_terms.specs.Item.{Item, One, Many, IsOne, tree}
use Rattle.ld_terms.specs.Bank.{Extends, StandsFor, IsTermAt, item_at, tree_at, listed}
use Rattle.ld_terms.specs.declared.bank.TermId.{TermId}
use Rattle.ld_terms.specs.Derivable.{IsSort, IsLegalContext, ◌⨾◌⊢◌∶◌}
use Rattle.ld_terms.specs.Known.{Known, Judgement, judgement_at}
use Rattle.ld_terms.specs.Named.{IsWellFormed}
use Rattle.ld_env.specs.Named.{Named}
use Rattle.ld_env.proofs.CallerLemmas.{length-env_of}
use Rattle.ld_laws.proofs.Scoping.{scopes}
use Rattle.ld_record.specs.declared.record.JudgeId.{JudgeId}
use Rattle.ld_record.specs.declared.record.Kept.{Kept}
use Rattle.ld_record.specs.declared.record.Judge.{Judge}
use Rattle.ld_record.specs.declared.record.Step.{Step}
use Rattle.ld_record.specs.Follows.{Follows}
use Rattle.ld_record.specs.Kept.{known_of, judgement_of, FitsNode, IsSound}
use Rattle.ld_record.specs.Growth.{Knows, KnowsContext, Adds, over_first}
use Rattle.ld_record.proofs.CallerLemmas.{Says, said, node_fits, named, derivable, derivable_over_all}
use Rattle.ld_infer.specs.declared.theory.Level.{Level}
use Rattle.ld_infer.specs.declared.variable.Variable.{Variable}
use Rattle.ld_infer.specs.Standing.{Standing, known, env, here, KnowsSort, without}
use Rattle.ld_infer.specs.Theory.{context_of, level_at, IsLevel, IsVariable, IsTheory}
use Rattle.ld_infer.specs.Variables.{judged_in, EndsWith}
use Rattle.ld_infer.proofs.Contexts.{count-context_of, context_of-later, context_of-without, without-ends}
use Rattle.ld_infer.proofs.Theories.{read_level, read_variable, variable_read, level_judgement, variable_judgement, judged_by, types_set}

one_tree : (x : Item) → IsOne x → x ≡ One (tree x)
one_tree (One t) h = refl
one_tree (Many us) h = absurd h

pub term_stands : (items : List Item) (t : TermId) → IsTermAt items t → StandsFor items t (tree_at items t)
term_stands items t h = record { live = h.live; item = one_tree (item_at items t) h.form }

-- all variables
context_of-all : (items : List Item) (vs : List Variable) (n : ℕ) → n ≡ length vs → context_of items (take n vs) ≡ context_of items vs
context_of-all items vs n e = ap (context_of items) (take_all n vs (omega arith))

-- the context stays as terms are added
pub context_stays : (old new : List Item) (kept : List Kept) (entries : List Named) (star box : TermId) (levels : List Level) (variables : List Variable)
    → Extends old new → IsTheory old kept entries star box levels variables → context_of new variables ≡ context_of old variables
context_stays old new kept entries star box levels variables e h =
    sym (context_of-all new variables (length variables) refl)
    ∙ context_of-later old new variables (length variables) e (λ i l. (h.levels_are.variable i l).term)
    ∙ context_of-all old variables (length variables) refl

-- there are as many entries as the environment has
pub entries_all : (s : Standing) (star box : TermId) (levels : List Level) (variables : List Variable) → IsTheory s.items s.kept s.entries star box levels variables → length s.entries ≡ length (env s)
entries_all s star box levels variables h = sym (length-env_of s.items s.entries) ∙ ap length h.env

-- a variable that the context has is one of the theory's
pub is_variable : (old s : Standing) (variables : List Variable) (out : ℕ) → s ≡ old → s.context ≡ context_of s.items variables → out < count old.context → out < length variables
is_variable old s variables out view context below =
    let all : count s.context ≡ length variables = ap count context ∙ count-context_of s.items variables in
    let same : count s.context ≡ count old.context = ap (λ (x : Standing). count x.context) view in
    omega arith

-- the numbers of a record say a judgement of the context without some variables
pub says_without : (s : Standing) (star box : TermId) (levels : List Level) (variables : List Variable) (out place : ℕ) (l : Level) (m : ℕ) (term of : TermId)
    → IsTheory s.items s.kept s.entries star box levels variables → s.context ≡ context_of s.items variables → out ≤ length variables → place ≡ length variables - out
    → l ≡ get_or levels place l → m ≡ length s.entries → IsTermAt s.items term → IsTermAt s.items of
    → Says s.items (known s) (record { entries = m; ctx = l.ctx; term = term; of = of }) (judged_in s (without out s.context) (tree_at s.items term) (tree_at s.items of))
says_without s star box levels variables out place l m term of h context within at is many term_there of_there =
    let level = read_level s.items (known s) levels variables place l h.levels_are (omega arith) is in
    record {
      entries = many ∙ entries_all s star box levels variables h;
      within = omega arith;
      context = record {
        live = level.there;
        is = level.is ∙ ap (λ n. context_of s.items (take n variables)) at ∙ sym (context_of-without s.items variables out within) ∙ ap (without out) (sym context);
      };
      term = term_stands s.items term term_there;
      type = term_stands s.items of of_there;
    }

-- the judgement of a term and its type, both numbers, in the context without some variables
abbrev pub judged_without : ℕ → (term of : TermId) → Standing → Judgement
judged_without out term of s = judged_in s (without out s.context) (tree_at s.items term) (tree_at s.items of)

-- A record of such a judgement may be kept where it follows, and says it, for the values that a theory had.
pub fits_without : (old s : Standing) (star box : TermId) (levels : List Level) (variables : List Variable) (out n : ℕ) (l : Level) (m : ℕ) (term of : TermId) (step : Step)
    → s ≡ old → IsTheory s.items s.kept s.entries star box levels variables → s.context ≡ context_of s.items variables → out ≤ count old.context → n ≡ length variables
    → l ≡ get_or levels (n - out) l → m ≡ length s.entries → IsTermAt old.items term → IsTermAt old.items of → Follows (known old) (judged_without out term of old) step
    → let judge : Judge = record { entries = m; ctx = l.ctx; term = term; of = of } in
    FitsNode s.items (known s) judge step × (judgement_of s.items (known s) judge ≡ judged_without out term of old)
fits_without old s star box levels variables out n l m term of step view h context within every is many term_there of_there follows =
    let There : TermId → Standing → Type 0 = λ t x. IsTermAt x.items t in
    let Next : Standing → Type 0 = λ x. Follows (known x) (judged_without out term of x) step in
    let all : count s.context ≡ length variables = ap count context ∙ count-context_of s.items variables in
    let same : count s.context ≡ count old.context = ap (λ (x : Standing). count x.context) view in
    let says = says_without s star box levels variables out (n - out) l m term of h context (omega arith) (omega arith) is many (subst (There term) (sym view) term_there) (subst (There of) (sym view) of_there) in
    let judge : Judge = record { entries = m; ctx = l.ctx; term = term; of = of } in (
      node_fits s.items (known s) judge (judged_without out term of s) step says (subst Next (sym view) follows),
      said s.items (known s) judge (judged_without out term of s) says ∙ ap (judged_without out term of) view,
    )

-- the judgement of the last level, over all entries, is that of the context
pub here_level : (s : Standing) (star box : TermId) (levels : List Level) (variables : List Variable) (i : ℕ) (l : Level) (m : ℕ)
    → IsTheory s.items s.kept s.entries star box levels variables → s.context ≡ context_of s.items variables → i ≡ length levels - 1 → l ≡ get_or levels i l → m ≡ length s.entries
    → over_first (judgement_at (known s) l.star.0) m ≡ here s Star Box
here_level s star box levels variables i l m h context at is many =
    let place : i ≡ length variables = omega (arith, h.levels_are.as_many) in
    let level = read_level s.items (known s) levels variables i l h.levels_are (omega arith) is in
    level_judgement (known s) _ l m level
    ∙ ap (λ (n : ℕ). let j : Judgement = record { entries = n; context = context_of s.items (take i variables); term = Star; type = Box } in j) (many ∙ entries_all s star box levels variables h)
    ∙ ap (λ (x : Trees). let j : Judgement = record { entries = length (env s); context = x; term = Star; type = Box } in j) (context_of-all s.items variables i place ∙ sym context)

-- the context of the last level
pub last_context : (items : List Item) (known : Known) (variables : List Variable) (i : ℕ) (l : Level) → IsLevel known (context_of items (take i variables)) l → i ≡ length variables → KnowsContext known l.ctx (context_of items variables)
last_context items known variables i l h at = record { live = h.there; is = h.is ∙ context_of-all items variables i at }

-- a type that has a sort in the context may be that of a variable behind it
pub variable_here : (s : Standing) (of : TermId) (sort : JudgeId) → IsTermAt s.items of → KnowsSort s sort (tree_at s.items of) → IsVariable s.items (known s) s.context (record { of = of; sort = sort })
variable_here s of sort at h = record {
  term = at;
  judged = judged_by (known s) sort (here s (tree_at s.items of) h.sort) h.knows (omega arith);
  sort = subst IsSort (sym (ap (λ (q : Judgement). q.type) h.knows.is)) h.is;
}

-- The context without some variables ends with the one whose judgement was led over all entries.
pub ends_with : (items : List Item) (old new : List Kept) (entries : List Named) (star box : TermId) (levels : List Level) (variables : List Variable) (out place : ℕ) (v : Variable) (sort : JudgeId) (m : ℕ)
    → IsTheory items old entries star box levels variables → Adds (known_of items old) (known_of items new) → out < length variables → place ≡ length variables - 1 - out
    → v ≡ get_or variables place v → m ≡ length entries → Knows (known_of items new) sort (over_first (judgement_at (known_of items old) v.sort.0) m)
    → EndsWith (record { items = items; kept = new; entries = entries; context = context_of items (set variables place (record { of = v.of; sort = sort })) }) out (record { of = v.of; sort = sort })
ends_with items old new entries star box levels variables out place v sort m h adds below at is many knows =
    let last : Variable = record { of = v.of; sort = sort } in
    let s : Standing = record { items = items; kept = new; entries = entries; context = context_of items (set variables place last) } in
    let before : Standing = record { items = items; kept = old; entries = entries; context = context_of items variables } in
    let read = variable_read variables place v (omega arith) is in
    let same : context_of items (set variables place last) ≡ context_of items variables = ap (listed items Nil) (types_set variables place v sort read) in
    let variable = read_variable items (known before) levels variables place v h.levels_are (omega arith) is in
    let Ends : Trees → Type 0 = λ ctx. without out ctx ≡ without (suc out) ctx ▸ tree_at items v.of in
    let outer : context_of items (take place variables) ≡ without (suc out) s.context =
    ap (λ n. context_of items (take n variables)) (omega arith) ∙ sym (context_of-without items variables (suc out) (omega arith)) ∙ ap (without (suc out)) (sym same) in
    let type = (judgement_at (known before) v.sort.0).type in
    let judgement : over_first (judgement_at (known before) v.sort.0) m ≡ judged_in s (without (suc out) s.context) (tree_at items v.of) type =
    variable_judgement items (known before) _ v m variable
    ∙ ap (λ (n : ℕ). let j : Judgement = record { entries = n; context = context_of items (take place variables); term = tree_at items v.of; type = type } in j)
    (many ∙ entries_all before star box levels variables h ∙ ap length (sym adds.env))
    ∙ ap (λ (x : Trees). let j : Judgement = record { entries = length (env s); context = x; term = tree_at items v.of; type = type } in j) outer in
    record {
      term = variable.term;
      last = subst Ends (sym same) (without-ends items variables out place below at ∙ ap (λ (x : Variable). without (suc out) (context_of items variables) ▸ tree_at items x.of) read);
      sort = record { sort = type; is = variable.sort; knows = subst (Knows (known s) sort) judgement knows };
    }

-- Judgements in the context, over all entries, are of terms and types over the entries and variables that are there.
pub well_formed : (s : Standing) (j : JudgeId) (t type : Tree) → IsSound s.items s.kept → Knows (known s) j (here s t type)
    → IsWellFormed (env s) (count s.context) t × IsWellFormed (env s) (count s.context) type
well_formed s j t type sound knows =
    let names = named s.items s.kept j (here s t type) sound knows in
    let within = scopes (derivable s.items s.kept j (here s t type) sound knows) in
    (record { named = names.0; scoped = within.of_term }, record { named = names.1; scoped = within.of_type })

-- The context is legal over the environment: the judgement of its last level is derivable over all entries.
pub context_legal : (s : Standing) (star box : TermId) (levels : List Level) (variables : List Variable) → IsTheory s.items s.kept s.entries star box levels variables
    → s.context ≡ context_of s.items variables → IsLegalContext (env s) s.context
context_legal s star box levels variables h context =
    let last = level_at levels (length variables) in
    let level = h.levels_are.level (length variables) (omega arith) in
    let judged = derivable_over_all s.items s.kept last.star (judgement_at (known s) last.star.0) h.sound (record { live = level.star.live; is = refl }) in
    let Holds : Judgement → Type 0 = λ j. env s ⨾ j.context ⊢ j.term ∶ j.type in
    subst (IsLegalContext (env s)) (context_of-all s.items variables (length variables) refl ∙ sym context)
    (subst Holds (level_judgement (known s) (context_of s.items (take (length variables) variables)) last 0 level) judged)
