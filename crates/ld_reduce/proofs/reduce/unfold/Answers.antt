use Rattle.ld_terms.specs.Bank.{tree_at}
use Rattle.ld_record.specs.Kept.{known_of}
use Rattle.ld_reduce.proofs.Stepping.{unfold_answers}
use Rattle.ld_reduce.proofs.reduce.unfold.Goals as goal

pub returns-clause-answers : goal.returns-clause-answers
returns-clause-answers c =
    unfold_answers (known_of c.args.bank.now c.args.deriv.now).env (tree_at c.args.bank.now c.args.t) _ _ _ c.args.budget.now c.step.new.self c.delta_once.result c.delta_once.ensures.step c.in_ok-step.ensures.ok
