use Rattle.ld_terms.specs.Bank.{IsTermAt}
use Rattle.ld_terms.proofs.tests.keeps_the_limits.Given as goal

abbrev pub invariant-loop : goal.invariant-loop
invariant-loop g l = IsTermAt l.bank l.term
