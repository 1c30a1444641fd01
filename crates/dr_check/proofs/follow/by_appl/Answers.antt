use Rattle.std.proofs.Common.{◌≡◌, ◌∙◌, ap, sym, subst, arith}
use Rattle.std.proofs.lemmas.Grind.{common_steps}
use Rattle.ld_terms.specs.Tree.{Tree}
use Rattle.ld_terms.specs.Bank.{tree_at, list_at}
use Rattle.ld_terms.specs.Known.{Judges, judgement_at}
use Rattle.ld_terms.specs.declared.bank.Node.TheVariants as node
use Rattle.dr_check.specs.declared.shape.Filling.TheVariants as filling
use Rattle.dr_check.proofs.Deciding.{no_value, no_truth}
use Rattle.dr_check.proofs.Comparing.{tree_by, instance_by}
use Rattle.dr_check.proofs.FollowBy.{appl_rule, appl_is, appl_first}
use Rattle.dr_check.proofs.follow.by_appl.Goals as goal
use Rattle.dr_check.proofs.follow.by_appl.Goals.{then-judges, else-judges}

pub returns-then-judges-2 : goal.returns-then-judges-2
returns-then-judges-2 c =
    let items = c.args.checker.now.items in
    let e = tree_by items c.bank.result.now c.args.t (node.App c.in-App-Pi.f c.in-App-Pi.v) c.bank.ensures c.in-App-Pi.ensures.tree in
    let p = tree_by items c.bank-2.result.now c.node.result.of (node.Pi c.in-App-Pi.a c.in-App-Pi.b) c.bank-2.ensures c.in-App-Pi.ensures'.tree in
    let j : Judges c.args.checker.now.state.known c.args.n c.args.m (list_at items c.args.ctx) (tree_at items c.in-App-Pi.f) (tree_at items c.node.result.of) = grind (arith, common_steps) in
    let k : Judges c.args.checker.now.state.known c.args.o c.args.m (list_at items c.args.ctx) (tree_at items c.in-App-Pi.v) (tree_at items c.in-App-Pi.a) = grind (arith, common_steps) in
    let h = instance_by items c.bank-then-judges-2.result.now c.args.u c.in-App-Pi.b (filling.One c.in-App-Pi.v) c.bank-then-judges-2.ensures c.is_instance.ensures in
    appl_rule c.args.checker.now.state.known c.args.m c.args.n c.args.o _ _ _ _ _ _ _ e (subst (λ (x : Tree). Judges c.args.checker.now.state.known c.args.n c.args.m (list_at items c.args.ctx) (tree_at items c.in-App-Pi.f) x) (sym p) j) k h

pub returns-else-judges-2 : goal.returns-else-judges-2
returns-else-judges-2 c =
    let items = c.args.checker.now.items in
    let e = tree_by items c.bank.result.now c.args.t (node.App c.in-App-Pi.f c.in-App-Pi.v) c.bank.ensures c.in-App-Pi.ensures.tree in
    let p = tree_by items c.bank-2.result.now c.node.result.of (node.Pi c.in-App-Pi.a c.in-App-Pi.b) c.bank-2.ensures c.in-App-Pi.ensures'.tree in
    let n : (judgement_at c.args.checker.now.state.known c.args.n).type ≡ tree_at items c.node.result.of = ap (λ x. x.type) (sym c.node.ensures.is) in
    no_value c.if-judges-2.false
    (λ d.
    let first = appl_first c.args.checker.now.state.known c.args.m c.args.n c.args.o _ _ _ _ _ _ _ e (n ∙ sym p) d in
    let second = (appl_is c.args.checker.now.state.known c.args.m c.args.n c.args.o _ _ _ _ _ _ _ e first d).argument in
    let here = c.judges.ensures.1 (subst (λ (x : Tree). Judges c.args.checker.now.state.known c.args.n c.args.m (list_at items c.args.ctx) (tree_at items c.in-App-Pi.f) x) p first) in
    elim c.if-judges.branch [
      | then-judges w ↦ w.value-is ∙ w.judges-then-judges.ensures.1 second
      | else-judges w ↦ absurd (no_truth (sym w.if-judges.false ∙ here))
    ])
