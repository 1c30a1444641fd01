use Rattle.std.proofs.Common.{◌≡◌, subst}
use Rattle.book_top.specs.declared.check.Stop.{Stop}
use Rattle.book_top.specs.declared.check.Stop.TheVariants as stop
use Rattle.book_top.specs.declared.item.ItemStop.TheVariants as item
use Rattle.book_top.specs.declared.status.Status.TheVariants as status
use Rattle.book_top.specs.Checked.{AnswersStop}
use Rattle.book_top.proofs.perform.check.stop_answer.Goals as goal

pub returns-in-Item-default-default-Refused-clause-answers : goal.returns-in-Item-default-default-Refused-clause-answers
returns-in-Item-default-default-Refused-clause-answers c =
    let case = c.in-Item-default-default-Refused in
    let P : Stop → Type 0 = λ s. AnswersStop s (status.Rule c.rule_fault.result) in
    let is : stop.Item case.number case.at (item.Refused case.failure) ≡ c.args.stop = cc in
    subst P is c.rule_fault.ensures
