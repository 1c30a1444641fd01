use Rattle.ld_terms.specs.Bank.{tree_at}
use Rattle.ld_infer.specs.Standing.{account}
use Rattle.ld_infer.proofs.Refusing.{sort_refused}
use Rattle.ld_infer.proofs.typing.sort_of.Goals as goal

pub returns-clause-refused : goal.returns-clause-refused
returns-clause-refused c = λ f is.
    let old = c.args.theory.now in
    let new = c.sort_of_part.new.theory in
    sort_refused old new c.args.nest c.args.asked (tree_at old.items c.args.t) c.args.t (account old c.args.job.now) (account new c.sort_of_part.new.job) c.keeps_legal.ensures c.keeps_convertible.ensures
    c.sort_of_part.result f c.sort_of_part.ensures.answer is
