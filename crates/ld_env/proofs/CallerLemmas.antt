-- What a caller cites of an environment: its entries in trees, and what stays as terms and entries are added.
use Rattle.std.proofs.Common.{◌≡◌, ◌≢◌, ◌<◌, ◌-◌, ℕ, zero, suc, List, [], ◌∷◌, ◌++◌, length, map, get_or, take, Option, None, Some, slice_get, Contains, All, refl, ap, subst, ◌∙◌, arith}
use Rattle.std.proofs.lemmas.List.Elements.{All-cons, All-head, All-tail, All-push, All-take}
use Rattle.std.proofs.lemmas.List.{length_push}
use Rattle.ld_terms.specs.Tree.{Tree, Trees, Nil}
use Rattle.ld_terms.specs.Entry.{Body, Defined, EntryAt, IsFresh, Entry as TreeEntry}
use Rattle.ld_terms.specs.Item.{Item, tree}
use Rattle.ld_terms.specs.Bank.{Extends, IsTermAt, tree_at}
use Rattle.ld_terms.specs.declared.bank.TermId.{TermId}
use Rattle.ld_terms.proofs.Banks.{term_at_later}
use Rattle.ld_terms.proofs.Listing.{listed-later}
use Rattle.ld_env.specs.declared.env.Entry.{Entry}
use Rattle.ld_env.specs.Named.{Named, named, names_of, entries_of}
use Rattle.ld_env.specs.Entries.{body_of, entry_of, env_of, IsLiveEntry, AreLive}

-- the entries of two lists, one behind the other
pub env_of-append : (items : List Item) (env more : List Named) → env_of items (env ++ more) ≡ env_of items env ++ env_of items more
env_of-append items [] more = refl
env_of-append items (n ∷ env) more = ap (λ es. entry_of items n ∷ es) (env_of-append items env more)

pub length-env_of : (items : List Item) (env : List Named) → length (env_of items env) ≡ length env
length-env_of items [] = refl
length-env_of items (n ∷ env) = ap suc (length-env_of items env)

pub names-env_of : (items : List Item) (env : List Named) → map (λ e. e.name) (env_of items env) ≡ names_of env
names-env_of items [] = refl
names-env_of items (n ∷ env) = ap (λ ns. n.name ∷ ns) (names-env_of items env)

-- the entry in trees at a number, from what `Env::entry` says
pub record HasEntry (items : List Item) (env : List Named) (k : ℕ) (entry : Entry) : Type 0 where
  pub name : List ℕ
  pub at : EntryAt (env_of items env) k (entry_of items (named name entry))

pub has_entry : (items : List Item) (env : List Named) (k : ℕ) (entry : Entry) → slice_get (entries_of env) k ≡ Some entry → HasEntry items env k entry
has_entry items [] k entry e = absurd (cc)
has_entry items (n ∷ env) zero entry e =
    let same : n.entry ≡ entry = cc in
    record { name = n.name; at = ap (λ x. Some (entry_of items (named n.name x))) same }
has_entry items (n ∷ env) (suc k) entry e = let h = has_entry items env k entry e in record { name = h.name; at = h.at }

-- the entry in trees of a name, from what `Env::find` says
pub record HasName (items : List Item) (env : List Named) (k : ℕ) (name : List ℕ) : Type 0 where
  pub entry : TreeEntry
  pub at : EntryAt (env_of items env) k entry
  pub named : entry.name ≡ name

pub has_name : (items : List Item) (env : List Named) (k : ℕ) (name : List ℕ) → slice_get (names_of env) k ≡ Some name → HasName items env k name
has_name items [] k name e = absurd (cc)
has_name items (n ∷ env) zero name e = record { entry = entry_of items n; at = refl; named = cc }
has_name items (n ∷ env) (suc k) name e = let h = has_name items env k name e in record { entry = h.entry; at = h.at; named = h.named }

-- a name that no entry has is fresh
fresh_at : (items : List Item) (env : List Named) (name : List ℕ) → ((k : ℕ) → k < length (names_of env) → get_or (names_of env) k name ≡ name → ⊥) → IsFresh name (env_of items env)
fresh_at items [] name free = λ k d l. absurd (omega arith)
fresh_at items (n ∷ env) name free =
    All-cons (λ e. e.name ≢ name) (entry_of items n) (env_of items env)
    (λ e. free 0 (omega arith) e)
    (fresh_at items env name (λ k l e. free (suc k) (omega arith) e))

pub is_fresh : (items : List Item) (env : List Named) (name : List ℕ) → (Contains (names_of env) name → ⊥) → IsFresh name (env_of items env)
is_fresh items env name free = fresh_at items env name (λ k l e. free (k, l, e))

-- each entry has its name in the list of names
pub name_at : (env : List Named) (k : ℕ) (n : Named) → slice_get env k ≡ Some n → slice_get (names_of env) k ≡ Some n.name
name_at [] k n e = absurd (cc)
name_at (m ∷ env) zero n e = let same : m ≡ n = cc in ap (λ x. Some x.name) same
name_at (m ∷ env) (suc k) n e = name_at env k n e

-- a body stays as terms are added
body_later : (old new : List Item) (body : Option TermId) → Extends old new → ((t : TermId) → body ≡ Some t → IsTermAt old t) → body_of new body ≡ body_of old body
body_later old new None e live = refl
body_later old new (Some t) e live = ap (λ x. Defined (tree x)) (e.kept t (live t refl).live)

-- an entry stays as terms are added
pub entry_of-later : (old new : List Item) (n : Named) → Extends old new → IsLiveEntry old n.entry → entry_of new n ≡ entry_of old n
entry_of-later old new n e live =
    let made : Trees → Body → Tree → TreeEntry = λ ps b t. record { name = n.name; params = ps; body = b; type = t } in
    let params = listed-later old new Nil n.entry.params e live.params in
    let body = body_later old new n.entry.body e live.body in
    let type : tree_at new n.entry.of ≡ tree_at old n.entry.of = ap tree (e.kept n.entry.of live.type.live) in
    (λ i. made (params i) (body i) (type i))

-- the environment stays as terms are added
pub env_of-later : (old new : List Item) (env : List Named) → Extends old new → AreLive old env → env_of new env ≡ env_of old env
env_of-later old new env e live = each_later env live.each
  where
    each_later : (env : List Named) → All (λ n. IsLiveEntry old n.entry) env → env_of new env ≡ env_of old env
    each_later [] live = refl
    each_later (n ∷ env) live = (λ i. entry_of-later old new n e (All-head (λ n. IsLiveEntry old n.entry) n env live) i ∷ each_later env (All-tail (λ n. IsLiveEntry old n.entry) n env live) i)

-- an added entry that is live
pub live-push : (items : List Item) (env : List Named) (n : Named) → AreLive items env → IsLiveEntry items n.entry → AreLive items (env ++ n ∷ [])
live-push items env n live last = record { each = All-push (λ n. IsLiveEntry items n.entry) env n live.each last }

pub live-take : (items : List Item) (env : List Named) (k : ℕ) → AreLive items env → AreLive items (take k env)
live-take items env k live = record { each = All-take (λ n. IsLiveEntry items n.entry) k env live.each }

entry_live-later : (old new : List Item) (entry : Entry) → Extends old new → IsLiveEntry old entry → IsLiveEntry new entry
entry_live-later old new entry e live = record {
  params = λ k d l. term_at_later old new (get_or entry.params k d) e (live.params k d l);
  body = λ t is. term_at_later old new t e (live.body t is);
  type = term_at_later old new entry.of e live.type;
}

pub live-later : (old new : List Item) (env : List Named) → Extends old new → AreLive old env → AreLive new env
live-later old new env e live = record { each = λ k d l. entry_live-later old new (get_or env k d).entry e (live.each k d l) }

-- the entry that `Env::entry` gives is live
pub live_entry : (items : List Item) (env : List Named) (k : ℕ) (entry : Entry) → AreLive items env → slice_get (entries_of env) k ≡ Some entry → IsLiveEntry items entry
live_entry items env k entry live e = at env k live.each e
  where
    at : (env : List Named) (k : ℕ) → All (λ n. IsLiveEntry items n.entry) env → slice_get (entries_of env) k ≡ Some entry → IsLiveEntry items entry
    at [] k live e = absurd (cc)
    at (n ∷ env) zero live e = let same : n.entry ≡ entry = cc in subst (IsLiveEntry items) same (All-head (λ n. IsLiveEntry items n.entry) n env live)
    at (n ∷ env) (suc k) live e = at env k (All-tail (λ n. IsLiveEntry items n.entry) n env live) e

-- a push and a pop leave the list as it was
pub take-push : (env : List Named) (n : Named) → take (length (env ++ n ∷ []) - 1) (env ++ n ∷ []) ≡ env
take-push env n = ap (λ k. take k (env ++ n ∷ [])) (omega (arith, length_push env n)) ∙ first env
  where
    first : (env : List Named) → take (length env) (env ++ n ∷ []) ≡ env
    first [] = refl
    first (m ∷ env) = ap (λ ns. m ∷ ns) (first env)
