-- The rules of a file's records, as the definitions have them.
use Rattle.ld_terms.specs.Rule.{EqRule, Rule}
use Rattle.dr_check.specs.declared.rules.EqualRule.{EqualRule}
use Rattle.dr_check.specs.declared.rules.EqualRule.TheVariants as equal
use Rattle.dr_check.specs.declared.rules.NodeRule.{NodeRule}
use Rattle.dr_check.specs.declared.rules.NodeRule.TheVariants as node

abbrev pub eq_rule_of : EqualRule → EqRule
eq_rule_of equal.Refl = EqRule.Refl
eq_rule_of (equal.Sym e) = EqRule.Sym e
eq_rule_of (equal.Trans e e') = EqRule.Trans e e'
eq_rule_of equal.Beta = EqRule.Beta
eq_rule_of equal.Delta = EqRule.Delta
eq_rule_of (equal.App e e') = EqRule.App e e'
eq_rule_of (equal.Lam e e') = EqRule.Lam e e'
eq_rule_of (equal.Pi e e') = EqRule.Pi e e'
eq_rule_of (equal.Const es) = EqRule.Const es.items

abbrev pub rule_of : NodeRule → Rule
rule_of node.Sort = Rule.Sort
rule_of (node.Var n) = Rule.Var n
rule_of (node.Weak n n') = Rule.Weak n n'
rule_of (node.Form n n') = Rule.Form n n'
rule_of (node.Appl n n') = Rule.Appl n n'
rule_of (node.Abst n n') = Rule.Abst n n'
rule_of (node.Conv n n' e) = Rule.Conv n n' e
rule_of (node.Def n) = Rule.Def n
rule_of (node.DefPrim n) = Rule.DefPrim n
rule_of (node.Inst n ns) = Rule.Inst n ns.items
rule_of (node.InstPrim n ns) = Rule.InstPrim n ns.items
