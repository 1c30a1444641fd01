use Rattle.std.proofs.Common.{[]}
use Rattle.ld_terms.specs.Tree.{Star}
use Rattle.ld_terms.specs.Bank.{tree_at, IsTermAt, StandsFor}
use Rattle.ld_terms.specs.Named.{IsNamed}
use Rattle.ld_reduce.proofs.tests.tall.Given as goal

abbrev pub invariant-loop : goal.invariant-loop
invariant-loop l = StandsFor l.bank l.star Star × IsTermAt l.bank l.term × IsNamed [] (tree_at l.bank l.term)
