use Rattle.std.proofs.Common.{rules, ◌≡◌, option_copied, Err, ap, sym, arith}
use Rattle.ld_terms.specs.Item.{tree}
use Rattle.ld_terms.specs.Bank.{tree_at}
use Rattle.ld_terms.proofs.Banks.{extends_refl}
use Rattle.ld_record.specs.Kept.{known_of}
use Rattle.ld_reduce.proofs.Going.{goes_terms, goes_trans}
use Rattle.ld_reduce.proofs.Forming.{begin, stays, entries_later}
use Rattle.ld_reduce.proofs.Looping.{part_stopped, top_stopped, done, part_going, top_going, under_stopped, under_made}
use Rattle.ld_reduce.proofs.Redexes.{no_part}
use Rattle.ld_reduce.proofs.form.+head_form.Goals as goal

pub head_form-steps-init : goal.head_form-steps-init
head_form-steps-init t c = begin _ c.args.room _ c.args.bank.now c.args.deriv.now c.args.t c.args.budget.now c.requires.sound c.requires.term c.requires.named c.requires.fits

pub head_form-part_form-requires : goal.head_form-part_form-requires
head_form-part_form-requires t c =
    let g = c.steps.invariant in
    (search rules, (g.goes.sound, (entries_later c.args.bank.now _ c.args.deriv.now _ (option_copied c.args.env) g.goes c.requires.entries, (g.leads.term, (g.named, (c.requires.room, g.leads.fits))))))

pub head_form-returns-in_err-part-clause-leads : goal.head_form-returns-in_err-part-clause-leads
head_form-returns-in_err-part-clause-leads t c =
    let is : Err c.in_err-part.field-0.0 ≡ c.from_residual.result = search rules in
    part_stopped (option_copied c.args.env) c.args.room c.args.bank.now c.steps.bank c.args.deriv.now c.steps.deriv c.args.t c.steps.to c.steps.equal c.args.budget.now c.steps.budget c.steps.invariant
    c.part_form.new.bank (known_of c.part_form.new.bank c.part_form.new.deriv) c.part_form.new.budget c.in_err-part.field-0.0 c.from_residual.result is c.in_err-part.ensures.leads

pub head_form-returns-in_err-part-clause-goes : goal.head_form-returns-in_err-part-clause-goes
head_form-returns-in_err-part-clause-goes t c = goes_trans _ _ _ _ _ _ c.steps.invariant.goes c.part_form.ensures.goes

pub head_form-returns-in_err-equal-clause-goes : goal.head_form-returns-in_err-equal-clause-goes
head_form-returns-in_err-equal-clause-goes t c = goes_trans _ _ _ _ _ _ (goes_trans _ _ _ _ _ _ c.steps.invariant.goes c.part_form.ensures.goes) c.chained.ensures.goes

pub head_form-top_once-requires-clause-entries : goal.head_form-top_once-requires-clause-entries
head_form-top_once-requires-clause-entries t c =
    entries_later c.args.bank.now _ c.args.deriv.now _ (option_copied c.args.env)
    (goes_trans _ _ _ _ _ _ (goes_trans _ _ _ _ _ _ c.steps.invariant.goes c.part_form.ensures.goes) c.chained.ensures.goes) c.requires.entries

pub head_form-top_once-requires-clause-named : goal.head_form-top_once-requires-clause-named
head_form-top_once-requires-clause-named t c =
    (part_going (option_copied c.args.env) c.args.room c.args.bank.now c.steps.bank c.args.deriv.now c.steps.deriv c.args.t c.steps.to c.steps.equal c.args.budget.now c.steps.budget c.steps.invariant c.requires.term
    c.part_form.new.bank c.part_form.new.deriv c.chained.new.deriv c.part_form.new.budget c.in_ok-equal.equal c.part_form.ensures.goes c.chained.ensures.goes
    (c.in_ok-part.part, c.in_ok-part.step) c.in_ok-part.ensures.leads c.in_ok-equal.ensures.equal).named

pub head_form-returns-in_err-next-clause-leads : goal.head_form-returns-in_err-next-clause-leads
head_form-returns-in_err-next-clause-leads t c =
    let g =
    part_going (option_copied c.args.env) c.args.room c.args.bank.now c.steps.bank c.args.deriv.now c.steps.deriv c.args.t c.steps.to c.steps.equal c.args.budget.now c.steps.budget c.steps.invariant c.requires.term
    c.part_form.new.bank c.part_form.new.deriv c.chained.new.deriv c.part_form.new.budget c.in_ok-equal.equal c.part_form.ensures.goes c.chained.ensures.goes
    (c.in_ok-part.part, c.in_ok-part.step) c.in_ok-part.ensures.leads c.in_ok-equal.ensures.equal in
    let is : Err c.in_err-next.field-0.0 ≡ c.from_residual-in_err-next.result = search rules in
    top_stopped (option_copied c.args.env) c.args.room c.args.bank.now c.part_form.new.bank c.args.deriv.now c.chained.new.deriv c.args.t c.in_ok-part.part c.in_ok-equal.equal c.args.budget.now c.part_form.new.budget g
    c.top_once.new.bank (known_of c.top_once.new.bank c.top_once.new.deriv) c.top_once.new.budget c.in_err-next.field-0.0 c.from_residual-in_err-next.result is c.in_err-next.ensures.leads

pub head_form-returns-in_err-next-clause-goes : goal.head_form-returns-in_err-next-clause-goes
head_form-returns-in_err-next-clause-goes t c =
    goes_trans _ _ _ _ _ _ (goes_trans _ _ _ _ _ _ (goes_trans _ _ _ _ _ _ c.steps.invariant.goes c.part_form.ensures.goes) c.chained.ensures.goes) c.top_once.ensures.goes

pub head_form-returns-in_default-clause-leads : goal.head_form-returns-in_default-clause-leads
head_form-returns-in_default-clause-leads t c =
    let g =
    part_going (option_copied c.args.env) c.args.room c.args.bank.now c.steps.bank c.args.deriv.now c.steps.deriv c.args.t c.steps.to c.steps.equal c.args.budget.now c.steps.budget c.steps.invariant c.requires.term
    c.part_form.new.bank c.part_form.new.deriv c.chained.new.deriv c.part_form.new.budget c.in_ok-equal.equal c.part_form.ensures.goes c.chained.ensures.goes
    (c.in_ok-part.part, c.in_ok-part.step) c.in_ok-part.ensures.leads c.in_ok-equal.ensures.equal in
    done (option_copied c.args.env) c.args.room c.args.bank.now c.part_form.new.bank c.args.deriv.now c.chained.new.deriv c.args.t c.in_ok-part.part c.in_ok-equal.equal c.args.budget.now c.part_form.new.budget g
    c.top_once.new.bank c.top_once.new.deriv c.top_once.new.budget c.in_ok-next.field-0 c.top_once.ensures.goes c.in_default.not-Some c.in_ok-next.ensures.leads

pub head_form-returns-in_default-clause-goes : goal.head_form-returns-in_default-clause-goes
head_form-returns-in_default-clause-goes t c =
    goes_trans _ _ _ _ _ _ (goes_trans _ _ _ _ _ _ (goes_trans _ _ _ _ _ _ c.steps.invariant.goes c.part_form.ensures.goes) c.chained.ensures.goes) c.top_once.ensures.goes

pub head_form-returns-in_err-equal-2-clause-goes : goal.head_form-returns-in_err-equal-2-clause-goes
head_form-returns-in_err-equal-2-clause-goes t c =
    goes_trans _ _ _ _ _ _
    (goes_trans _ _ _ _ _ _ (goes_trans _ _ _ _ _ _ (goes_trans _ _ _ _ _ _ c.steps.invariant.goes c.part_form.ensures.goes) c.chained.ensures.goes) c.top_once.ensures.goes)
    c.chained-in-steps.ensures.goes

pub head_form-steps-preserved : goal.head_form-steps-preserved
head_form-steps-preserved t c =
    let g =
    part_going (option_copied c.args.env) c.args.room c.args.bank.now c.steps.bank c.args.deriv.now c.steps.deriv c.args.t c.steps.to c.steps.equal c.args.budget.now c.steps.budget c.steps.invariant c.requires.term
    c.part_form.new.bank c.part_form.new.deriv c.chained.new.deriv c.part_form.new.budget c.in_ok-equal.equal c.part_form.ensures.goes c.chained.ensures.goes
    (c.in_ok-part.part, c.in_ok-part.step) c.in_ok-part.ensures.leads c.in_ok-equal.ensures.equal in
    top_going (option_copied c.args.env) c.args.room c.args.bank.now c.part_form.new.bank c.args.deriv.now c.chained.new.deriv c.args.t c.in_ok-part.part c.in_ok-equal.equal c.args.budget.now c.part_form.new.budget g
    c.requires.term c.top_once.new.bank c.top_once.new.deriv c.chained-in-steps.new.deriv c.top_once.new.budget c.in_ok-equal-2.equal c.top_once.ensures.goes c.chained-in-steps.ensures.goes
    c.in_ok-next.field-0 (c.in-Some.next, c.in-Some.step) c.in-Some.is c.in_ok-next.ensures.leads c.in_ok-equal-2.ensures.equal

pub part_form-returns-in_err-part-in-App-clause-leads : goal.part_form-returns-in_err-part-in-App-clause-leads
part_form-returns-in_err-part-in-App-clause-leads t c =
    let is : Err c.in_err-part-in-App.field-0.0 ≡ c.from_residual.result = search rules in
    under_stopped (option_copied c.args.env) (known_of c.args.bank.now c.args.deriv.now).env c.args.room _ (tree_at c.args.bank.now c.args.t) (tree_at c.args.bank.now c.in-App.f) (tree_at c.args.bank.now c.in-App.u)
    (sym (ap tree c.in-App.ensures.tree)) c.requires.fits c.args.budget.now c.head_form.new.budget c.head_form.new.bank c.head_form.new.bank
    (known_of c.head_form.new.bank c.head_form.new.deriv) (known_of c.head_form.new.bank c.head_form.new.deriv)
    c.in_err-part-in-App.field-0.0 c.from_residual.result is c.in_err-part-in-App.ensures.leads

pub part_form-returns-in_ok-part-in-App-clause-leads : goal.part_form-returns-in_ok-part-in-App-clause-leads
part_form-returns-in_ok-part-in-App-clause-leads t c =
    under_made (option_copied c.args.env) (known_of c.args.bank.now c.args.deriv.now).env c.args.room _ (tree_at c.args.bank.now c.args.t) (tree_at c.args.bank.now c.in-App.f) (tree_at c.args.bank.now c.in-App.u)
    (sym (ap tree c.in-App.ensures.tree)) c.requires.fits c.args.budget.now c.head_form.new.budget c.requires.room c.head_form.new.bank c.on_argument.new.bank
    (known_of c.head_form.new.bank c.head_form.new.deriv) (known_of c.on_argument.new.bank c.on_argument.new.deriv) c.in_ok-part-in-App.part
    (tree_at c.head_form.new.bank c.args.t) (tree_at c.head_form.new.bank c.in-App.u) c.on_argument.result
    (ap tree (c.head_form.ensures.goes.extends.kept c.args.t c.requires.term.live)) (ap tree (c.head_form.ensures.goes.extends.kept c.in-App.u c.in-App.ensures.parts.1.live))
    c.in_ok-part-in-App.ensures.leads c.on_argument.ensures.applies

pub part_form-returns-in_ok-part-in-App-clause-goes : goal.part_form-returns-in_ok-part-in-App-clause-goes
part_form-returns-in_ok-part-in-App-clause-goes t c = goes_trans _ _ _ _ _ _ c.head_form.ensures.goes c.on_argument.ensures.goes

pub part_form-returns-in_default : goal.part_form-returns-in_default
part_form-returns-in_default t c = record {
  leads = (
    stays _ c.args.room _ c.args.bank.now (known_of c.args.bank.now c.args.deriv.now) c.args.t c.args.budget.now c.requires.term c.requires.fits,
    no_part _ c.args.bank.now c.node.result c.args.t c.node.ensures.tree c.in_default.not-App,
  );
  goes = goes_terms _ _ c.args.deriv.now (extends_refl c.args.bank.now) c.requires.sound;
  most = omega arith;
}
