-- What the judgements for tests say, and the entries that they allow.
use Rattle.std.proofs.Common.{◌≡◌, ◌<◌, ◌≤◌, ◌++◌, ◌∷◌, [], false, true, length, Contains, All, Some, None, Option, ℕ, List, ap, sym, ◌∙◌, subst, arith}
use Rattle.std.proofs.lemmas.List.Elements.{All-nil}
use Rattle.ld_terms.specs.Tree.{Tree, Nil}
use Rattle.ld_terms.specs.Derivable.{IsSort}
use Rattle.ld_terms.specs.Item.{Item, IsOne, tree}
use Rattle.ld_terms.specs.Bank.{StandsFor, IsTermAt, tree_at, listed}
use Rattle.ld_terms.specs.declared.bank.TermId.{TermId}
use Rattle.ld_terms.specs.Known.{Known, Judgement}
use Rattle.ld_terms.specs.Entry.{IsFresh, Defined}
use Rattle.ld_env.specs.declared.env.Entry.{Entry}
use Rattle.ld_env.specs.Named.{Named, named, names_of}
use Rattle.ld_env.specs.Entries.{body_of, env_of, AreLive, IsLiveEntry}
use Rattle.ld_env.proofs.CallerLemmas.{is_fresh, length-env_of, live-push}
use Rattle.ld_record.specs.declared.record.JudgeId.{JudgeId}
use Rattle.ld_record.specs.declared.record.Judge.{Judge}
use Rattle.ld_record.specs.declared.record.Kept.{Kept}
use Rattle.ld_record.specs.Kept.{known_of, FitsEntry, IsSound}
use Rattle.ld_record.specs.Growth.{Knows, KnowsContext, Adds, over_first}
use Rattle.ld_record.proofs.CallerLemmas.{Says}
use Rattle.ld_samples.specs.Samples.{IsOf, IsPrimitiveOf}

pub term_of : (items : List Item) (t : TermId) (u : Tree) → StandsFor items t u → IsTermAt items t
term_of items t u h = record { live = h.live; form = subst IsOne (sym h.item) tt }

-- the numbers are those of a judgement over no entries
pub says : (items : List Item) (known : Known) (judge : Judge) (s : Judgement) → judge.entries ≡ 0 → s.entries ≡ 0 → KnowsContext known judge.ctx s.context → StandsFor items judge.term s.term
    → StandsFor items judge.of s.type → Says items known judge s
says items known judge s zero none context term type = record { entries = zero ∙ sym none; within = omega (arith, none); context = context; term = term; type = type }

-- a judgement over all entries may be a line of a new name
pub line_fits : (items : List Item) (env : List Named) (old known : Known) (name new : List ℕ) (over : JudgeId) (s : Judgement) (n : ℕ) → new ≡ name → 0 < length name → length name ≤ 255
    → (Contains (names_of env) new → ⊥) → env_of items env ≡ old.env → Adds old known → n ≡ length env → Knows known over (over_first s n) → FitsEntry known name over false
line_fits items env old known name new over s n same some short free is adds count h =
    let all : env_of items env ≡ known.env = is ∙ sym adds.env in
    record {
      live = h.live;
      may = record {
        free = record { some = some; short = short; fresh = subst (IsFresh name) all (is_fresh items env name (λ c. free (subst (Contains (names_of env)) (sym same) c))) };
        over = ap (λ (q : Judgement). q.entries) h.is ∙ count ∙ sym (length-env_of items env) ∙ ap length all;
      };
    }

pub line_live : (items : List Item) (env later : List Named) (name : List ℕ) (entry : Entry) → AreLive items env → IsLiveEntry items entry → later ≡ env ++ named name entry ∷ [] → AreLive items later
line_live items env later name entry live h e = subst (AreLive items) (sym e) (live-push items env (named name entry) live h)

-- a judgement of a sort over all entries may be a primitive of a new name
pub primitive_fits : (items : List Item) (env : List Named) (old known : Known) (name new : List ℕ) (over : JudgeId) (s : Judgement) (n : ℕ) → new ≡ name → 0 < length name → length name ≤ 255
    → (Contains (names_of env) new → ⊥) → env_of items env ≡ old.env → Adds old known → n ≡ length env → Knows known over (over_first s n) → IsSort s.type → FitsEntry known name over true
primitive_fits items env old known name new over s n same some short free is adds count h kind =
    let all : env_of items env ≡ known.env = is ∙ sym adds.env in
    record {
      live = h.live;
      may = record {
        free = record { some = some; short = short; fresh = subst (IsFresh name) all (is_fresh items env name (λ c. free (subst (Contains (names_of env)) (sym same) c))) };
        over = ap (λ (q : Judgement). q.entries) h.is ∙ count ∙ sym (length-env_of items env) ∙ ap length all;
        sort = let P : Tree → Type 0 = λ t. IsSort t in subst P (sym (ap (λ (q : Judgement). q.type) h.is)) kind;
      };
    }

-- the parts of an entry are terms
entry_live : (items : List Item) (entry : Entry) (o : Option TermId) (of : TermId) → All (IsTermAt items) entry.params → entry.body ≡ o → entry.of ≡ of
    → ((t : TermId) → o ≡ Some t → IsTermAt items t) → IsTermAt items of → IsLiveEntry items entry
entry_live items entry o of params body_is of_is body type = record {
  params = params;
  body = λ t e. body t (sym body_is ∙ e);
  type = subst (IsTermAt items) (sym of_is) type;
}

-- the entry is that of the judgement, where its parts stand for the judgement's
pub is_of : (items : List Item) (known : Known) (entry : Entry) (body of : TermId) (j : JudgeId) (s : Judgement) → Knows known j s → s.entries ≡ 0 → All (IsTermAt items) entry.params
    → listed items Nil entry.params ≡ s.context → entry.body ≡ Some body → entry.of ≡ of → StandsFor items body s.term → StandsFor items of s.type → IsOf items known entry j
is_of items known entry body of j s knows none live params body_is of_is term type = record {
  live = knows.live;
  entries = ap (λ (q : Judgement). q.entries) knows.is ∙ none;
  there = entry_live items entry (Some body) of live body_is of_is (λ t e. (let same : body ≡ t = cc in subst (IsTermAt items) same (term_of items body s.term term))) (term_of items of s.type type);
  params = params ∙ sym (ap (λ (q : Judgement). q.context) knows.is);
  body = ap (body_of items) body_is ∙ ap (λ i. Defined (tree i)) term.item ∙ sym (ap (λ (q : Judgement). Defined q.term) knows.is);
  type = ap (tree_at items) of_is ∙ ap tree type.item ∙ sym (ap (λ (q : Judgement). q.type) knows.is);
}

no_term : (items : List Item) (t : TermId) → None ≡ Some t → IsTermAt items t
no_term items t e = absurd (cc)

-- the entry is a primitive of the judgement's term
pub is_primitive_of : (items : List Item) (known : Known) (entry : Entry) (of : TermId) (j : JudgeId) (s : Judgement) → Knows known j s → s.entries ≡ 0 → IsSort s.type → All (IsTermAt items) entry.params
    → listed items Nil entry.params ≡ s.context → entry.body ≡ None → entry.of ≡ of → StandsFor items of s.term → IsPrimitiveOf items known entry j
is_primitive_of items known entry of j s knows none kind live params body_is of_is term = record {
  live = knows.live;
  entries = ap (λ (q : Judgement). q.entries) knows.is ∙ none;
  sort = let P : Tree → Type 0 = λ t. IsSort t in subst P (sym (ap (λ (q : Judgement). q.type) knows.is)) kind;
  there = entry_live items entry None of live body_is of_is (no_term items) (term_of items of s.term term);
  params = params ∙ sym (ap (λ (q : Judgement). q.context) knows.is);
  body = ap (body_of items) body_is;
  type = ap (tree_at items) of_is ∙ ap tree term.item ∙ sym (ap (λ (q : Judgement). q.term) knows.is);
}

-- over no records
pub none_sound : (items : List Item) (kept : List Kept) → kept ≡ [] → IsSound items kept
none_sound items kept none = subst (IsSound items) (sym none) (record { all = tt })

pub none_live : (items : List Item) (env : List Named) → env ≡ [] → AreLive items env
none_live items env none = subst (AreLive items) (sym none) (record { each = All-nil _ })
