use Rattle.std.proofs.Common.{rules, ap₂, ◌≡◌, ◌∙◌}
use Rattle.std.proofs.lemmas.Result.{IfOk-weaker}
use Rattle.clap.specs.Walk.{rule_of}
use Rattle.clap.specs.Simple.{app_of, with_rule}
use Rattle.book_top.specs.CommandLine.{bare, budget_rule}
use Rattle.book_top.proofs.words.command_line.Goals as goal

pub returns : goal.returns
returns c =
    let budget_is : rule_of c.long-budget.result ≡ budget_rule = search rules in
    let bare_is : app_of c.disable_version_flag.result ≡ bare = search rules in
    let one = c.in_ok-arg.ensures.shape (search rules) ∙ ap₂ with_rule bare_is c.new-3.ensures.rule in
    let two = c.in_ok-arg-2.ensures.shape (search rules) ∙ ap₂ with_rule one c.new-4.ensures.rule in
    let three = c.in_ok-arg-3.ensures.shape (search rules) ∙ ap₂ with_rule two c.new-5.ensures.rule in
    IfOk-weaker c.arg-4.result _ _ (λ r h. h.shape (search rules) ∙ ap₂ with_rule three budget_is) c.arg-4.ensures
