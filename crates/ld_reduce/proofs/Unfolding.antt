-- What an instance unfolds to, from what is read of its entry.
use Rattle.std.proofs.Common.{◌≡◌, ◌≢◌, ◌≤◌, ◌<◌, ◌+◌, ℕ, zero, suc, Bool, true, false, ◌==◌, List, [], ◌∷◌, length, None, Some, slice_get, refl, ap, sym, ◌∙◌, arith}
use Rattle.std.proofs.lemmas.Bool.Decides.{nat_tests}
use Rattle.ld_terms.specs.Tree.{Tree, Trees, Nil, ◌▸◌, count}
use Rattle.ld_terms.specs.Put.{put}
use Rattle.ld_terms.specs.Entry.{Body, Defined, Primitive, Env}
use Rattle.ld_terms.specs.Entry as tree
use Rattle.ld_terms.specs.Item.{Item}
use Rattle.ld_terms.specs.Bank.{tree_at, IsTermAt, listed}
use Rattle.ld_terms.specs.declared.bank.TermId.{TermId}
use Rattle.ld_env.specs.declared.env.Entry.{Entry}
use Rattle.ld_env.specs.Named.{Named, named, entries_of}
use Rattle.ld_env.specs.Entries.{body_of, entry_of, env_of, AreLive}
use Rattle.ld_env.proofs.CallerLemmas.{has_entry, length-env_of, live_entry}
use Rattle.ld_record.specs.Follows.{entry_at}
use Rattle.ld_record.proofs.Rules.{entry_there}
use Rattle.ld_reduce.specs.Heads.{with_arguments, unfolding_of}
use Rattle.ld_reduce.specs.Steps.{HasBodyFor}

without : (c : Bool) (us : Trees) → with_arguments c Primitive us ≡ None
without true us = refl
without false us = refl

not_as_many : (b : Body) (us : Trees) → with_arguments false b us ≡ None
not_as_many (Defined x) us = refl
not_as_many Primitive us = refl

equal_counts : (n m : ℕ) → n ≡ m → (n == m) ≡ true
equal_counts n m e = grind (arith, nat_tests)

other_counts : (n m : ℕ) → n ≢ m → (n == m) ≡ false
other_counts n m e = grind (arith, nat_tests)

count-listed : (items : List Item) (us : Trees) (ts : List TermId) → count (listed items us ts) ≡ count us + length ts
count-listed items us [] = omega arith
count-listed items us (t ∷ ts) = omega (arith, count-listed items (us ▸ tree_at items t) ts)

-- no entry has the number
pub no_entry : (items : List Item) (env : List Named) (k : ℕ) (us : Trees) → length env ≤ k → unfolding_of (slice_get (env_of items env) k) us ≡ None
no_entry items env k us le = ap (λ o. unfolding_of o us) (beyond (env_of items env) k (omega (arith, le, length-env_of items env)))
  where
    beyond : (es : Env) (k : ℕ) → length es ≤ k → slice_get es k ≡ None
    beyond [] k le = refl
    beyond (e ∷ es) zero le = absurd (omega arith)
    beyond (e ∷ es) (suc k) le = beyond es k (omega arith)

module _ (items : List Item) (env : List Named) (k : ℕ) (us : Trees) (entry : Entry) (get : slice_get (entries_of env) k ≡ Some entry) where
  of_entry : unfolding_of (slice_get (env_of items env) k) us ≡ with_arguments (count us == count (listed items Nil entry.params)) (body_of items entry.body) us
  of_entry = ap (λ o. unfolding_of o us) (has_entry items env k entry get).at

  -- the entry is a primitive, or has another number of parameters
  pub no_body : entry.body ≡ None → unfolding_of (slice_get (env_of items env) k) us ≡ None
  no_body is =
      of_entry ∙ ap (λ o. with_arguments (count us == count (listed items Nil entry.params)) (body_of items o) us) is
      ∙ without (count us == count (listed items Nil entry.params)) us

  pub other_count : count us ≢ length entry.params → unfolding_of (slice_get (env_of items env) k) us ≡ None
  other_count n =
      let differ : count us ≢ count (listed items Nil entry.params) = λ e. n (omega (arith, e, count-listed items Nil entry.params)) in
      of_entry ∙ ap (λ c. with_arguments c (body_of items entry.body) us) (other_counts _ _ differ) ∙ not_as_many (body_of items entry.body) us

  pub has_body : (b : TermId) → AreLive items env → k < length env → entry.body ≡ Some b → count us ≡ length entry.params
      → IsTermAt items b × HasBodyFor (env_of items env) k us (tree_at items b)
  has_body b live less is n =
      let at = has_entry items env k entry get in
      let there : k < length (env_of items env) = omega (arith, less, length-env_of items env) in
      let e : entry_at (env_of items env) k ≡ entry_of items (named at.name entry) = let x = entry_there (env_of items env) k there in let y = at.at in cc in (
        (live_entry items env k entry live get).body b is,
        record {
          there = there;
          unfolds = ap (λ (x : tree.Entry). x.body) e ∙ ap (body_of items) is;
          as_many = n ∙ (let m = count-listed items Nil entry.params in omega (arith, m)) ∙ sym (ap (λ (x : tree.Entry). count x.params) e);
        },
      )

-- then the instance unfolds to the body with the arguments put in
pub unfolds_to : (env : Env) (k : ℕ) (us : Trees) (body : Tree) → HasBodyFor env k us body → unfolding_of (slice_get env k) us ≡ Some (put body us)
unfolds_to env k us body h =
    ap (λ o. unfolding_of o us) (entry_there env k h.there)
    ∙ ap (λ c. with_arguments c (entry_at env k).body us) (equal_counts _ _ h.as_many)
    ∙ ap (λ b. with_arguments true b us) h.unfolds
