use Rattle.std.proofs.Common.{[]}
use Rattle.ld_terms.specs.Tree.{Star}
use Rattle.ld_terms.specs.Bank.{tree_at, IsTermAt, StandsFor}
use Rattle.ld_terms.specs.Named.{IsNamed}
use Rattle.ld_reduce.proofs.tests.nested.Given as goal

abbrev pub invariant-functions : goal.invariant-functions
invariant-functions l = StandsFor l.bank l.star Star × IsTermAt l.bank l.term × IsNamed [] (tree_at l.bank l.term)

abbrev pub invariant-arguments : goal.invariant-arguments
invariant-arguments l = StandsFor l.bank l.star Star × IsTermAt l.bank l.term × IsNamed [] (tree_at l.bank l.term)
