use Rattle.std.proofs.Common.{rules, ◌≡◌, option_copied, Err}
use Rattle.ld_terms.specs.Bank.{tree_at}
use Rattle.ld_record.specs.Kept.{known_of}
use Rattle.ld_reduce.specs.Forms.{next_of, bound_of}
use Rattle.ld_reduce.proofs.Going.{goes_trans}
use Rattle.ld_reduce.proofs.Forming.{answers_whole}
use Rattle.ld_reduce.proofs.Looping.{answers_stop}
use Rattle.ld_reduce.proofs.reduce.form.Goals as goal

pub returns-in_err-to-clause-answers : goal.returns-in_err-to-clause-answers
returns-in_err-to-clause-answers c =
    let is : Err c.in_err-to.field-0.0 ≡ c.from_residual.result = search rules in
    answers_stop (next_of (option_copied c.args.env) (known_of c.args.bank.now c.args.deriv.now).env) (tree_at c.args.bank.now c.args.t)
    (bound_of (option_copied c.args.env) (known_of c.args.bank.now c.args.deriv.now).env) c.head_form.new.bank (known_of c.head_form.new.bank c.head_form.new.deriv)
    c.args.budget.now c.head_form.new.budget c.in_err-to.field-0.0 c.from_residual.result is c.in_err-to.ensures.leads

pub returns-in_err-equal-clause-goes : goal.returns-in_err-equal-clause-goes
returns-in_err-equal-clause-goes c = goes_trans _ _ _ _ _ _ c.head_form.ensures.goes c.settled.ensures.goes

pub returns-clause-answers : goal.returns-clause-answers
returns-clause-answers c =
    answers_whole (next_of (option_copied c.args.env) (known_of c.args.bank.now c.args.deriv.now).env) (bound_of (option_copied c.args.env) (known_of c.args.bank.now c.args.deriv.now).env)
    c.args.bank.now c.head_form.new.bank c.args.deriv.now c.head_form.new.deriv c.settled.new.deriv c.args.t c.in_ok-to.to c.in_ok-to.equal c.in_ok-equal.equal c.args.budget.now c.head_form.new.budget
    c.head_form.ensures.goes c.requires.term c.in_ok-to.ensures.leads c.in_ok-equal.ensures.equal

pub returns-clause-goes : goal.returns-clause-goes
returns-clause-goes c = goes_trans _ _ _ _ _ _ c.head_form.ensures.goes c.settled.ensures.goes
