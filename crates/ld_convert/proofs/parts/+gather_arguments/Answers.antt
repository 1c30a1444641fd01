use Rattle.std.proofs.Common.{subst, arith}
use Rattle.ld_terms.specs.Bank.{list_at}
use Rattle.ld_convert.specs.Apart.{arguments}
use Rattle.ld_convert.specs.Walks.{Gathered}
use Rattle.ld_convert.proofs.Gathering.{pair_up, pushed, arguments_more, live_part}
use Rattle.ld_convert.proofs.parts.+gather_arguments.Goals as goal

pub returns-else-not-branch : goal.returns-else-not-branch
returns-else-not-branch t c =
    let items = c.args.bank.now in
    let x = c.in-Cons-Cons in
    let o = arguments (list_at items x.us) (list_at items x.vs) in
    let gathered = subst (Gathered items c.args.parts.now.items c.gather_arguments.new.parts.items o) c.if-not-branch.false c.in_ok-gather_arguments-in-Cons-Cons.ensures in
    pushed items c.args.parts.now.items c.gather_arguments.new.parts.items c.push.new.parts.items o (arguments (list_at items c.args.us) (list_at items c.args.vs)) (pair_up x.u x.v 0) c.push.result gathered
    (live_part items x.u x.v 0 x.ensures.parts.0 x.ensures'.parts.0 (omega arith)) c.push.ensures (arguments_more items c.args.us c.args.vs x.u x.us x.v x.vs x.ensures.tree x.ensures'.tree)
