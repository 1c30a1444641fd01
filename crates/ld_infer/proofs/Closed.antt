-- Terms that tests form, over the entries and so many variables.
use Rattle.std.proofs.Common.{◌≡◌, ◌<◌, ℕ, suc, ap, sym, subst}
use Rattle.ld_terms.specs.Tree.{Tree, Trees, Star, Var, App, Lam, Pi, Nil, count}
use Rattle.ld_terms.specs.Item.{One, tree}
use Rattle.ld_terms.specs.Bank.{Holds, tree_at, IsTermAt}
use Rattle.ld_terms.specs.Entry.{Env}
use Rattle.ld_terms.specs.Named.{IsWellFormed}
use Rattle.ld_terms.specs.declared.bank.TermId.{TermId}
use Rattle.ld_infer.specs.Standing.{Standing, env, Continues}
use Rattle.ld_infer.specs.Infers.{IsReadable}
use Rattle.ld_infer.proofs.Going.{term_stays, tree_stays}
use Rattle.ld_infer.proofs.Inferring.{held_term}

pub record IsFormed (s : Standing) (n : ℕ) (t : TermId) : Type 0 where
  pub term : IsTermAt s.items t
  pub formed : IsWellFormed (env s) n (tree_at s.items t)

pub formed_stays : (a b : Standing) (n : ℕ) (t : TermId) → Continues a b → IsFormed a n t → IsFormed b n t
formed_stays a b n t goes h =
    let P : Tree → Type 0 = λ x. IsWellFormed (env a) n x in
    let Q : Env → Type 0 = λ Δ. IsWellFormed Δ n (tree_at b.items t) in
    record { term = term_stays a b t goes h.term; formed = subst Q (sym goes.adds.env) (subst P (sym (tree_stays a b t goes h.term)) h.formed) }

held_formed : (s : Standing) (n : ℕ) (t : TermId) (x : Tree) → Holds s.items t (One x) → IsWellFormed (env s) n x → IsFormed s n t
held_formed s n t x h formed =
    let P : Tree → Type 0 = λ y. IsWellFormed (env s) n y in record { term = held_term s.items t x h; formed = subst P (sym (ap tree h.item)) formed }

-- a term that was formed of parts
made_formed : (a b : Standing) (n : ℕ) (t : TermId) (x : Tree) → Continues a b → Holds b.items t (One x) → IsWellFormed (env a) n x → IsFormed b n t
made_formed a b n t x goes h formed = let Q : Env → Type 0 = λ Δ. IsWellFormed Δ n x in held_formed b n t x h (subst Q (sym goes.adds.env) formed)

pub star_formed : (s : Standing) (n : ℕ) (t : TermId) → Holds s.items t (One Star) → IsFormed s n t
star_formed s n t h = held_formed s n t Star h (record { named = tt; scoped = tt })

pub variable_formed : (s : Standing) (n i : ℕ) (t : TermId) → Holds s.items t (One (Var i)) → i < n → IsFormed s n t
variable_formed s n i t h below = held_formed s n t (Var i) h (record { named = tt; scoped = below })

pub lambda_formed : (a b : Standing) (n : ℕ) (x m t : TermId) → Continues a b → IsFormed a n x → IsFormed a (suc n) m → Holds b.items t (One (Lam (tree_at a.items x) (tree_at a.items m))) → IsFormed b n t
lambda_formed a b n x m t goes p q h =
    made_formed a b n t (Lam (tree_at a.items x) (tree_at a.items m)) goes h (record { named = (p.formed.named, q.formed.named); scoped = (p.formed.scoped, q.formed.scoped) })

pub product_formed : (a b : Standing) (n : ℕ) (x y t : TermId) → Continues a b → IsFormed a n x → IsFormed a (suc n) y → Holds b.items t (One (Pi (tree_at a.items x) (tree_at a.items y))) → IsFormed b n t
product_formed a b n x y t goes p q h =
    made_formed a b n t (Pi (tree_at a.items x) (tree_at a.items y)) goes h (record { named = (p.formed.named, q.formed.named); scoped = (p.formed.scoped, q.formed.scoped) })

pub application_formed : (a b : Standing) (n : ℕ) (f u t : TermId) → Continues a b → IsFormed a n f → IsFormed a n u → Holds b.items t (One (App (tree_at a.items f) (tree_at a.items u))) → IsFormed b n t
application_formed a b n f u t goes p q h =
    made_formed a b n t (App (tree_at a.items f) (tree_at a.items u)) goes h (record { named = (p.formed.named, q.formed.named); scoped = (p.formed.scoped, q.formed.scoped) })

-- in the empty context
pub readable : (s : Standing) (t : TermId) → s.context ≡ Nil → IsFormed s 0 t → IsReadable s t
readable s t empty h = let P : Trees → Type 0 = λ ctx. IsWellFormed (env s) (count ctx) (tree_at s.items t) in (h.term, subst P (sym empty) h.formed)
