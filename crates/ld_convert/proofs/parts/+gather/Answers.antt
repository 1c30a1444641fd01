use Rattle.std.proofs.Common.{subst, arith}
use Rattle.ld_terms.specs.Bank.{tree_at}
use Rattle.ld_convert.specs.Apart.{parts_of}
use Rattle.ld_convert.specs.Walks.{Gathered}
use Rattle.ld_convert.proofs.Gathering.{pair_up, pushed, pushed_two, spine_more, lambda_parts, product_parts, live_part}
use Rattle.ld_convert.proofs.parts.+gather.Goals as goal

pub returns-else-not-branch : goal.returns-else-not-branch
returns-else-not-branch t c =
    let items = c.args.bank.now in
    let x = c.in-App-App in
    let o = parts_of (tree_at items x.f) (tree_at items x.g) in
    let gathered = subst (Gathered items c.args.parts.now.items c.gather.new.parts.items o) c.if-not-branch.false c.in_ok-gather-in-App-App.ensures in
    pushed items c.args.parts.now.items c.gather.new.parts.items c.push.new.parts.items o (parts_of (tree_at items c.args.a) (tree_at items c.args.b)) (pair_up x.u x.v 0) c.push.result gathered
    (live_part items x.u x.v 0 x.ensures.parts.1 x.ensures'.parts.1 (omega arith)) c.push.ensures (spine_more items c.args.a c.args.b x.f x.u x.g x.v x.ensures.tree x.ensures'.tree)

pub returns-in-Lam-Lam : goal.returns-in-Lam-Lam
returns-in-Lam-Lam t c =
    let items = c.args.bank.now in
    let x = c.in-Lam-Lam in
    pushed_two items c.args.parts.now.items c.push_two.new.parts.items (parts_of (tree_at items c.args.a) (tree_at items c.args.b)) (pair_up x.d x.e 0) (pair_up x.m x.n 1) c.push_two.result c.requires.live
    (live_part items x.d x.e 0 x.ensures.parts.0 x.ensures'.parts.0 (omega arith)) (live_part items x.m x.n 1 x.ensures.parts.1 x.ensures'.parts.1 (omega arith)) c.push_two.ensures
    (lambda_parts items c.args.a c.args.b x.d x.m x.e x.n x.ensures.tree x.ensures'.tree)

pub returns-in-Pi-Pi : goal.returns-in-Pi-Pi
returns-in-Pi-Pi t c =
    let items = c.args.bank.now in
    let x = c.in-Pi-Pi in
    pushed_two items c.args.parts.now.items c.push_two-in-Pi-Pi.new.parts.items (parts_of (tree_at items c.args.a) (tree_at items c.args.b)) (pair_up x.d x.e 0) (pair_up x.m x.n 1) c.push_two-in-Pi-Pi.result c.requires.live
    (live_part items x.d x.e 0 x.ensures.parts.0 x.ensures'.parts.0 (omega arith)) (live_part items x.m x.n 1 x.ensures.parts.1 x.ensures'.parts.1 (omega arith)) c.push_two-in-Pi-Pi.ensures
    (product_parts items c.args.a c.args.b x.d x.m x.e x.n x.ensures.tree x.ensures'.tree)
