use Rattle.std.proofs.Common.{Option, Ok, subst}
use Rattle.dr_text.specs.Read.{Answers, Reads, Parts}
use Rattle.dr_check.proofs.Walking.{refused_next}
use Rattle.dr_check.proofs.check.check_next.Goals as goal

pub returns-in-Err-check_record : goal.returns-in-Err-check_record
returns-in-Err-check_record c =
    let reads : Reads c.args.records.now c.next.new.self c.in-Ok-Some.rec =
    subst (λ (x : Option Parts). Answers c.args.records.now c.next.new.self (Ok x)) c.in-Ok-Some.field-0-is c.in-Ok-Some.ensures in
    refused_next c.args.records.now c.next.new.self c.in-Ok-Some.rec c.args.checker.now.state c.check_record.new.checker.state c.args.number c.in-Err-check_record.fault reads
    (c.in-Err-check_record.ensures reads.it reads.gives)
