-- Whether a name is free, and how many parameters an entry has.
use Rattle.std.proofs.Common.{◌≡◌, ◌==◌, ℕ, List, length, [], ◌↔◌, Option, Some, None, is_none, is_some, not, Bool, true, false, refl, IsTrue, arith, MatchOption, Contains, slice_get, ap, sym, ◌∙◌, subst}
use Rattle.std.proofs.lemmas.Bool.Decides.{nat_tests}
use Rattle.std.proofs.lemmas.Option.{slice_get_within, get_or_from_slice_get}
use Rattle.ld_terms.specs.Item.{Item}
use Rattle.ld_terms.specs.Tree.{count}
use Rattle.ld_terms.specs.Entry.{Env, IsFresh}
use Rattle.ld_terms.specs.Known.{no_judgement, primitive_entry}
use Rattle.ld_terms.specs.Record.{params_at}
use Rattle.ld_env.specs.declared.env.Entry.{Entry}
use Rattle.ld_env.specs.Named.{Named, named, names_of}
use Rattle.ld_env.specs.Entries.{env_of, entry_of}
use Rattle.ld_env.proofs.CallerLemmas.{is_fresh, has_name}
use Rattle.dr_check.specs.Entered.{IsEnteredAt}
use Rattle.dr_check.proofs.Comparing.{count-listed}
use Rattle.dr_check.proofs.Deciding.{yes, no}

taken : (items : List Item) (env : List Named) (k : ℕ) (name : List ℕ) → slice_get (names_of env) k ≡ Some name → IsFresh name (env_of items env) → ⊥
taken items env k name at fresh =
    let h = has_name items env k name at in
    fresh k h.entry (slice_get_within (env_of items env) k h.entry h.at) (ap (λ e. e.name) (get_or_from_slice_get (env_of items env) k h.entry h.entry h.at) ∙ h.named)

-- what a look-up says of a name
pub found : (items : List Item) (env : List Named) (trees : Env) (name : List ℕ) (r : Option ℕ) → env_of items env ≡ trees
    → MatchOption r (¬ Contains (names_of env) name) (λ k. slice_get (names_of env) k ≡ Some name) → IsTrue (is_none r) ↔ IsFresh name trees
found items env trees name None e h = yes (subst (IsFresh name) e (is_fresh items env name h))
found items env trees name (Some k) e h = no (λ fresh. taken items env k name h (subst (IsFresh name) (sym e) fresh))

-- an entry has as many parameters as it is kept with
pub params_of : (items : List Item) (env : Env) (k : ℕ) (entry : Entry) → IsEnteredAt items env k entry → params_at env k ≡ length entry.params
params_of items env k entry h =
    ap (λ e. count e.params) (get_or_from_slice_get env k (entry_of items (named h.name entry)) (primitive_entry [] no_judgement) h.at) ∙ count-listed items entry.params

pub as_many : (a n p : ℕ) → p ≡ a → IsTrue (a == n) ↔ (n ≡ p)
as_many a n p e = (λ t. grind (arith, nat_tests), λ f. grind (arith, nat_tests))

pub flipped : (b : Bool) (r : Option ℕ) → is_some r ≡ not b → is_none r ≡ b
flipped true None e = refl
flipped true (Some k) e = cc
flipped false None e = cc
flipped false (Some k) e = refl
