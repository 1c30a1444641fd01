use Rattle.std.proofs.Common.{◌++◌, ◌∙◌, ap, append_assoc, List, ℕ}
use Rattle.std.proofs.lemmas.Result.{on_ok_weaker}
use Rattle.book_top.proofs.report.push_counts.Goals as goal

pub returns-in-Ok : goal.returns-in-Ok
returns-in-Ok c = on_ok_weaker c.push.result (λ e. e ∙ ap (λ (b : List ℕ). c.args.out.now.items ++ b) (c.deref.ensures ∙ c.in-Ok.ensures.ok ∙ simp append_assoc)) c.push.ensures
