use Rattle.std.proofs.Common.{ℕ, Option, IfSome, refl, sym, subst}
use Rattle.std.proofs.lemmas.Result.{on_ok_weaker}
use Rattle.ld_terms.specs.Record.{Record}
use Rattle.ld_record.specs.Kept.{known_of}
use Rattle.ld_record.specs.Growth.{Knows}
use Rattle.ld_record.specs.declared.record.JudgeId.{JudgeId}
use Rattle.dr_text.specs.Written.{Pushes, Appends, last_judgement}
use Rattle.dr_text.proofs.Records.{pushes_plain}
use Rattle.dr_text.proofs.Carrying.{appends_all, appends_end}
use Rattle.dr_text.proofs.writer.Writer.records_and_end.Goals as goal

pub returns-in-Some-clause-ok : goal.returns-in-Some-clause-ok
returns-in-Some-clause-ok c =
    let known = known_of c.args.bank.now c.args.deriv.now in
    let K : Option JudgeId → Type 0 = λ ended. IfSome ended (λ j. Knows known j (last_judgement known)) in
    let A : Option JudgeId → Type 0 = λ ended. Appends c.args.bank.now c.args.deriv.now c.args.self.now c.records.new.self c.args.out.now.items c.push_record.new.out.items ended in
    let Q : ℕ → Type 0 = λ n. Pushes c.records.new.out.items c.push_record.new.out.items (Record.End n) in
    on_ok_weaker c.push_record.result
    (λ bytes. subst A (sym c.in-Some.is)
    (appends_end c.args.bank.now c.args.deriv.now c.args.self.now c.records.new.self c.args.out.now.items c.records.new.out.items c.push_record.new.out.items c.in-Some.j
    c.in_ok-records.ensures.carries c.in_ok-records.ensures.written (subst K c.in-Some.is c.requires.ended)
    (subst Q c.number.ensures (pushes_plain _ _ (Record.End c.number.result) refl refl bytes c.push_record.ensures.range))))
    c.push_record.ensures.bytes

pub returns-in-None-clause-ok : goal.returns-in-None-clause-ok
returns-in-None-clause-ok c =
    let A : Option JudgeId → Type 0 = λ ended. Appends c.args.bank.now c.args.deriv.now c.args.self.now c.records.new.self c.args.out.now.items c.records.new.out.items ended in
    subst A (sym c.in-None.is)
    (appends_all c.args.bank.now c.args.deriv.now c.args.self.now c.records.new.self c.args.out.now.items c.records.new.out.items
    c.in_ok-records.ensures.carries c.in_ok-records.ensures.written)
