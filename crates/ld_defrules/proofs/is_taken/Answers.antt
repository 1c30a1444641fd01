use Rattle.std.proofs.Common.{List, Contains, ◌∙◌, sym, subst}
use Rattle.ld_terms.specs.Entry.{Env, IsFresh}
use Rattle.ld_env.specs.Named.{Named, names_of}
use Rattle.ld_env.proofs.CallerLemmas.{is_fresh}
use Rattle.ld_defrules.proofs.Names.{absent_by}
use Rattle.ld_defrules.proofs.is_taken.Goals as goal

pub returns-clause-fresh : goal.returns-clause-fresh
returns-clause-fresh c = λ none.
    let P : Env → Type 0 = IsFresh c.args.name.now in
    let Q : List Named → Type 0 = λ es. Contains (names_of es) c.args.name.now → ⊥ in
    subst P c.env.ensures.trees
    (is_fresh c.args.theory.now.items c.args.theory.now.entries c.args.name.now (subst Q c.env.ensures.entries (absent_by _ c.find.result (sym c.is_some.ensures ∙ none) c.find.ensures.place)))
