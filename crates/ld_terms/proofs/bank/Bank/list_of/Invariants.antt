use Rattle.std.proofs.Common.{take}
use Rattle.ld_terms.proofs.Listing.{IsListed}
use Rattle.ld_terms.proofs.bank.Bank.list_of.Given as goal

abbrev pub invariant-loop-term : goal.invariant-loop-term
invariant-loop-term l = IsListed l.fn.self l.self l.list (take l.term-index l.terms)
