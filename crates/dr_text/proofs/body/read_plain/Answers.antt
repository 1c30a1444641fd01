use Rattle.std.proofs.Common.{refl}
use Rattle.dr_text.proofs.Bodies.{parts_plain, no_plain}
use Rattle.dr_text.proofs.body.read_plain.Goals as goal

pub returns-in_default : goal.returns-in_default
returns-in_default c = no_plain c.args.count c.args.bytes.now (c.in_default.ensures {u = tt})

pub returns : goal.returns
returns c = parts_plain c.args.count c.args.bytes.now c.in-Some.before.now _ _ c.in-Some.rest.now (c.in-Some.ensures {u = tt}) refl refl
