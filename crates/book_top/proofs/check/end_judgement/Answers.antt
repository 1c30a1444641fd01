use Rattle.std.proofs.Common.{ap, subst, IfOk}
use Rattle.ld_terms.specs.Known.{Judgement}
use Rattle.ld_record.specs.Growth.{Knows}
use Rattle.ld_infer.specs.Standing.{Standing, known, Continues}
use Rattle.book_top.proofs.Sessions.{closed_all, ends_so}
use Rattle.book_top.proofs.check.end_judgement.Goals as goal

pub returns-clause-number : goal.returns-clause-number
returns-clause-number c =
    let J : Judgement → Type 0 = λ judge. IfOk c.star_judgement.result (λ j. Knows (known c.star_judgement.new.self) j judge) in
    subst J (ends_so c.close_to.new.theory c.star_judgement.new.self
    (ap (λ (s : Standing). s.context) (closed_all c.args.theory.now c.close_to.new.theory c.close_to.ensures)) c.star_judgement.ensures.continues)
    c.star_judgement.ensures.number

pub returns-clause-continues : goal.returns-clause-continues
returns-clause-continues c =
    let P : Standing → Type 0 = λ s. Continues s c.star_judgement.new.self in
    subst P (closed_all c.args.theory.now c.close_to.new.theory c.close_to.ensures) c.star_judgement.ensures.continues
