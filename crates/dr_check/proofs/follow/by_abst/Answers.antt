use Rattle.std.proofs.Common.{◌≡◌, arith}
use Rattle.std.proofs.lemmas.Grind.{common_steps}
use Rattle.ld_terms.specs.Tree.{◌▸◌}
use Rattle.ld_terms.specs.Bank.{tree_at, list_at}
use Rattle.ld_terms.specs.Known.{Judges}
use Rattle.ld_terms.specs.declared.bank.Node.TheVariants as node
use Rattle.dr_check.proofs.Comparing.{tree_by}
use Rattle.dr_check.proofs.FollowBy.{abst_rule}
use Rattle.dr_check.proofs.follow.by_abst.Goals as goal

pub returns-then-judges_below : goal.returns-then-judges_below
returns-then-judges_below c =
    let items = c.args.checker.now.items in
    let e = tree_by items c.bank.result.now c.args.t (node.Lam c.in-Lam-Pi.a c.in-Lam-Pi.p) c.bank.ensures c.in-Lam-Pi.ensures.tree in
    let f = tree_by items c.bank-2.result.now c.args.u (node.Pi c.in-Lam-Pi.c c.in-Lam-Pi.b) c.bank-2.ensures c.in-Lam-Pi.ensures'.tree in
    let g : tree_at items c.in-Lam-Pi.a ≡ tree_at items c.in-Lam-Pi.c = grind (arith, common_steps) in
    let j : Judges c.args.checker.now.state.known c.args.n c.args.m (list_at items c.args.ctx ▸ tree_at items c.in-Lam-Pi.a) (tree_at items c.in-Lam-Pi.p) (tree_at items c.in-Lam-Pi.b) = grind (arith, common_steps) in
    abst_rule c.args.checker.now.state.known c.args.m c.args.n c.args.o _ _ _ _ _ _ _ e f g j c.judges_sort.ensures
