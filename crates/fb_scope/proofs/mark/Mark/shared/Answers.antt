use Rattle.std.proofs.Common.{◌==◌, sym, ap, ◌∙◌}
use Rattle.std.specs.List.{list_any, prefix_len}
use Rattle.fb_scope.proofs.Marks.{shared-numbers}
use Rattle.fb_scope.proofs.mark.Mark.shared.Goals as goal

pub returns-clause-shared : goal.returns-clause-shared
returns-clause-shared c =
    c.count_open.ensures.count
    ∙ ap (prefix_len (λ n. list_any (λ f. f.number == n) c.args.flags.now)) (c.deref.ensures.value ∙ c.self.view_is)
    ∙ sym (shared-numbers c.args.self.now c.args.flags.now)
