use Rattle.std.proofs.Common.{◌≡◌, subst}
use Rattle.std.specs.Prelude.{IfOk}
use Rattle.fb_parse.specs.View.{view}
use Rattle.fb_parse.proofs.Views.{view_apply}
use Rattle.fb_write.specs.Canonical.{nowhere}
use Rattle.fb_show.proofs.term.applied.Goals as goal

pub returns : goal.returns
returns c = subst (λ v. IfOk c.node.result (λ r. view r ≡ v)) (view_apply nowhere c.args.head c.args.args) c.node.ensures
