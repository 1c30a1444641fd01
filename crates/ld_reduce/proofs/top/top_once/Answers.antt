use Rattle.std.proofs.Common.{rules, ◌≡◌, option_copied, Err, refl, arith}
use Rattle.ld_record.specs.Kept.{known_of}
use Rattle.ld_reduce.proofs.Redexes.{all_live, top_spent, top_stopped, top_high, top_made}
use Rattle.ld_reduce.proofs.top.top_once.Goals as goal

pub redex_of-requires-clause-live : goal.redex_of-requires-clause-live
redex_of-requires-clause-live c = all_live c.args.bank.now (known_of c.args.bank.now c.args.deriv.now).env (option_copied c.args.env) c.requires.entries

pub returns-in_err-step-clause-leads : goal.returns-in_err-step-clause-leads
returns-in_err-step-clause-leads c =
    let is : Err c.in_err-step.field-0.0 ≡ c.from_residual.result = search rules in
    let none = c.in_err-step.ensures.none in
    top_spent _ c.args.room _ _ _ _ c.in-Some.redex (c.in-Some.ensures (known_of c.args.bank.now c.args.deriv.now).env c.requires.entries c.requires.part) c.args.budget.now c.step.new.self
    c.args.bank.now (known_of c.args.bank.now c.args.deriv.now) c.in_err-step.field-0.0 c.from_residual.result none.0 none.1
    (c.in_err-step.ensures.spent c.in_err-step.field-0.0 refl) is

pub returns-in_err-to-clause-leads : goal.returns-in_err-to-clause-leads
returns-in_err-to-clause-leads c =
    let is : Err c.in_err-to.field-0.0 ≡ c.from_residual-in_err-to.result = search rules in
    top_stopped _ c.args.room _ _ _ _ c.in-Some.redex (c.in-Some.ensures (known_of c.args.bank.now c.args.deriv.now).env c.requires.entries c.requires.part) c.args.budget.now c.step.new.self c.in_ok-step.ensures.ok
    c.contract.new.bank (known_of c.contract.new.bank c.contract.new.deriv) c.requires.room c.in_err-to.field-0.0 c.from_residual-in_err-to.result c.in_err-to.ensures.makes is

pub returns-then-height-room-clause-leads : goal.returns-then-height-room-clause-leads
returns-then-height-room-clause-leads c =
    top_high _ c.args.room _ _ _ _ c.in-Some.redex (c.in-Some.ensures (known_of c.args.bank.now c.args.deriv.now).env c.requires.entries c.requires.part) c.args.budget.now c.step.new.self c.in_ok-step.ensures.ok
    c.contract.new.bank (known_of c.contract.new.bank c.contract.new.deriv) c.in_ok-to.to c.in_ok-to.equal c.in_ok-to.ensures.makes
    (let x = c.if-height-room.true in let y = c.height.ensures.height in omega arith)

pub returns-clause-leads : goal.returns-clause-leads
returns-clause-leads c =
    top_made _ c.args.room _ _ _ _ c.in-Some.redex (c.in-Some.ensures (known_of c.args.bank.now c.args.deriv.now).env c.requires.entries c.requires.part) c.args.budget.now c.step.new.self c.in_ok-step.ensures.ok
    c.contract.new.bank (known_of c.contract.new.bank c.contract.new.deriv) c.in_ok-to.to c.in_ok-to.equal c.in_ok-to.ensures.makes
    (let x = c.if-height-room.false in let y = c.height.ensures.height in omega arith)
