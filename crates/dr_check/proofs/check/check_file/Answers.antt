use Rattle.std.proofs.Common.{Bool, Ok, sym, subst, subst₂}
use Rattle.ld_terms.specs.Record.{State}
use Rattle.dr_text.specs.Read.{Reading}
use Rattle.dr_check.specs.Judging.{AnswersNext}
use Rattle.dr_check.proofs.Walking.{HasRead, begun, took, derived, faulted, no_header}
use Rattle.dr_check.proofs.check.check_file.Goals as goal

pub returns-in-Err : goal.returns-in-Err
returns-in-Err c = no_header c.args.bytes.now c.in-Err.fault c.in-Err.ensures

pub loop-number-init : goal.loop-number-init
loop-number-init c =
    let P : Reading → State → Type 0 = λ x s. HasRead c.args.bytes.now x s 0 in
    subst₂ P (sym c.in-Ok.ensures.1) (sym c.in-Ok-new.ensures) (begun c.args.bytes.now c.in-Ok.ensures.0)

pub loop-number-preserved : goal.loop-number-preserved
loop-number-preserved c =
    took c.args.bytes.now c.loop-number.records c.check_next.new.records c.loop-number.checker.state c.check_next.new.checker.state c.loop-number.number c.loop-number.invariant
    (subst (λ (b : Bool). AnswersNext c.loop-number.records c.check_next.new.records c.loop-number.checker.state c.check_next.new.checker.state c.loop-number.number (Ok b)) c.in-Ok-true.field-0-test c.in-Ok-true.ensures)

pub returns-in-Err-check_next : goal.returns-in-Err-check_next
returns-in-Err-check_next c =
    faulted c.args.bytes.now c.loop-number.records c.check_next.new.records c.loop-number.checker.state c.check_next.new.checker.state c.loop-number.number c.loop-number.invariant
    c.in-Err-check_next.fault c.in-Err-check_next.ensures

pub returns : goal.returns
returns c =
    derived c.args.bytes.now c.loop-number.records c.check_next.new.records c.loop-number.checker.state c.check_next.new.checker.state c.loop-number.number
    (record { bank = c.into_parts-bank.result.0; env = c.into_parts-bank.result.1 }) c.loop-number.invariant
    (subst (λ (b : Bool). AnswersNext c.loop-number.records c.check_next.new.records c.loop-number.checker.state c.check_next.new.checker.state c.loop-number.number (Ok b)) c.in-Ok-false.field-0-test c.in-Ok-false.ensures)
    c.into_parts-bank.ensures.trees c.into_parts-bank.ensures.live
