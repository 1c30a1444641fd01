-- A theory that goes on, and what its numbers stand for later.
use Rattle.std.proofs.Common.{◌≡◌, List, Result, Ok, Err, refl, sym, ap, subst, ◌∙◌, arith, IfOk, IsErrAnd, ◌↔◌}
use Rattle.ld_terms.specs.Tree.{Tree, Trees}
use Rattle.ld_terms.specs.Item.{Item, IsOne, IsMany, IsSmall}
use Rattle.ld_terms.specs.Item as item
use Rattle.ld_terms.specs.Bank.{StandsFor, ListStandsFor, Holds, IsTermAt, IsListAt, tree_at, list_at, item_at}
use Rattle.ld_terms.specs.declared.bank.TermId.{TermId}
use Rattle.ld_terms.specs.declared.bank.TermFault.{TermFault}
use Rattle.ld_terms.specs.declared.bank.TermFault.TheVariants as fault
use Rattle.ld_terms.proofs.Banks.{extends_trans}
use Rattle.ld_record.proofs.Keeping.{begins_trans}
use Rattle.ld_terms.specs.Entry.{Env}
use Rattle.ld_env.specs.Entries.{env_of}
use Rattle.ld_env.specs.Named.{Named}
use Rattle.ld_env.specs.Named as named
use Rattle.ld_env.proofs.CallerLemmas.{names-env_of}
use Rattle.ld_infer.specs.Standing.{Standing, env, Continues, Goes}
use Rattle.fb_parse.specs.Grammar.{Surface, Surfaces}
use Rattle.fb_scope.specs.State.{State}
use Rattle.book_top.specs.Book.{names_of}
use Rattle.book_top.specs.Names.{tree_of, applied}
use Rattle.book_top.specs.Built.{BuildsItem}

pub goes_on : (a b c : Standing) → Continues a b → Goes b c → Goes a c
goes_on a b c f g = record { items = extends_trans a.items b.items c.items f.items g.items; kept = begins_trans a.kept b.kept c.kept f.kept g.kept }

pub stands_term : (items : List Item) (t : TermId) (u : Tree) → StandsFor items t u → IsTermAt items t
stands_term items t u h = record { live = h.live; form = subst IsOne (sym h.item) tt }

pub stands_tree : (items : List Item) (t : TermId) (u : Tree) → StandsFor items t u → tree_at items t ≡ u
stands_tree items t u h = ap item.tree h.item

pub stands_list : (items : List Item) (t : TermId) (us : Trees) → ListStandsFor items t us → IsListAt items t
stands_list items t us h = record { live = h.live; form = subst IsMany (sym h.item) tt }

pub list_is : (items : List Item) (t : TermId) (us : Trees) → ListStandsFor items t us → list_at items t ≡ us
list_is items t us h = ap item.list h.item

pub stands_later : (old new : Standing) (t : TermId) (u : Tree) → Continues old new → StandsFor old.items t u → StandsFor new.items t u
stands_later old new t u goes stands = record { live = omega (arith, goes.items.longer, stands.live); item = goes.items.kept t stands.live ∙ stands.item }

-- the names of a theory's entries
pub theory_names : (s : Standing) (entries : List Named) → entries ≡ s.entries → env_of s.items s.entries ≡ env s → named.names_of entries ≡ names_of (env s)
theory_names s entries same trees = ap named.names_of same ∙ sym (names-env_of s.items s.entries) ∙ ap names_of trees

-- what adding a term answers, of another spelling of what it stands for
pub built_as : (items : List Item) (it is : Item) (r : Result TermId TermFault) → it ≡ is → BuildsItem items is r → BuildsItem items it r
built_as items it is r e h = let P : Item → Type 0 = λ x. BuildsItem items x r in subst P (sym e) h

pub added : (items : List Item) (it : Item) (r : Result TermId TermFault) → IfOk r (λ id. Holds items id it) → IfOk r (λ id. IsSmall (item_at items id)) → (r ≡ Err fault.High) ↔ (IsSmall it → ⊥) → BuildsItem items it r
added items it (Ok id) h small high = (h, subst IsSmall h.item small)
added items it (Err fault.High) h small high = high.0 refl
added items it (Err fault.Memory) h small high = tt

-- what is read in the same scope and over the same names
pub tree_moved : (s s' : State) (e e' : Env) (x : Surface) → s ≡ s' → e ≡ e' → tree_of s (names_of e) x ≡ tree_of s' (names_of e') x
tree_moved s s' e e' x p q = λ i. tree_of (p i) (names_of (q i)) x

pub applied_moved : (s s' : State) (e e' : Env) (t t' : Tree) (us : Surfaces) → s ≡ s' → e ≡ e' → t ≡ t' → applied s (names_of e) t us ≡ applied s' (names_of e') t' us
applied_moved s s' e e' t t' us p q r = λ i. applied (p i) (names_of (q i)) (r i) us

-- A part of a term or a list isn't built, and then the whole isn't.
pub part_stops : (items : List Item) (whole part : Item) (f : TermFault) (q : Result TermId TermFault) → BuildsItem items part (Err f) → (IsSmall whole → IsSmall part) → IsErrAnd q (λ z. z ≡ f) → BuildsItem items whole q
part_stops items whole part f (Ok id) b small h = absurd h
part_stops items whole part f (Err z) b small h = let P : TermFault → Type 0 = λ z. BuildsItem items whole (Err z) in subst P (sym h) (stops f b)
  where
    stops : (f : TermFault) → BuildsItem items part (Err f) → BuildsItem items whole (Err f)
    stops fault.High b = λ s. b (small s)
    stops fault.Memory b = tt
