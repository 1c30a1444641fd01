use Rattle.std.proofs.Common.{◌≡◌, ◌↔◌, List, IsTrue, sym, subst}
use Rattle.ld_terms.specs.Item.{Item}
use Rattle.ld_terms.specs.Bank.{tree_at}
use Rattle.ld_terms.specs.Known.{IsEqualBy}
use Rattle.dr_check.specs.declared.rules.EqualRule.{EqualRule}
use Rattle.dr_check.specs.Rules.{eq_rule_of}
use Rattle.dr_check.proofs.EqualBy.{refl_rule, sym_rule}
use Rattle.dr_check.proofs.equal.is_equal_by.Goals as goal

pub returns-in-Refl : goal.returns-in-Refl
returns-in-Refl c =
    let h = subst (λ (b : List Item). IsTrue c.same_terms.result ↔ (tree_at b c.args.l ≡ tree_at b c.args.r)) c.bank.ensures c.same_terms.ensures in
    subst (λ (x : EqualRule). IsTrue c.same_terms.result ↔ IsEqualBy c.args.checker.now.state.known (tree_at c.args.checker.now.items c.args.l) (tree_at c.args.checker.now.items c.args.r) (eq_rule_of x))
    (sym c.in-Refl.is) (refl_rule c.args.checker.now.state.known _ _ h)

pub returns-in-Sym : goal.returns-in-Sym
returns-in-Sym c =
    subst (λ (x : EqualRule). IsTrue c.equates.result ↔ IsEqualBy c.args.checker.now.state.known (tree_at c.args.checker.now.items c.args.l) (tree_at c.args.checker.now.items c.args.r) (eq_rule_of x))
    (sym c.in-Sym.is) (sym_rule c.args.checker.now.state.known _ _ c.in-Sym.e c.equates.ensures)
