use Rattle.std.proofs.Common.{◌≡◌, subst, sym, ◌∙◌}
use Rattle.std.specs.Prelude.{IfOk}
use Rattle.fb_parse.specs.View.{view}
use Rattle.fb_show.proofs.Trees.{some_arguments}
use Rattle.fb_show.proofs.term.instance.Goals as goal

pub returns-else-is_empty : goal.returns-else-is_empty
returns-else-is_empty c =
    subst (λ v. IfOk c.listed.result (λ r. view r ≡ v)) (some_arguments c.args.name.now c.args.args.now (sym c.if-is_empty.false ∙ c.is_empty.ensures)) c.listed.ensures
