use Rattle.ld_terms.specs.Bank.{list_at}
use Rattle.ld_infer.proofs.Prefixing.{AreFirst}
use Rattle.ld_infer.proofs.instance.prefixes.Given as goal

-- the lists so far, and the one that is looked at next
abbrev pub invariant-loop-before : goal.invariant-loop-before
invariant-loop-before l = AreFirst l.bank (list_at l.bank l.fn.us) l.rest l.lists.items

abbrev pub decreases-loop-before : goal.decreases-loop-before
decreases-loop-before l = l.rest.0
