use Rattle.std.proofs.Common.{◌≡◌, ◌+◌}
use Rattle.ld_terms.specs.Tree.{count}
use Rattle.ld_terms.specs.Bank.{list_at, IsListAt}
use Rattle.dr_check.proofs.compare.has_count.Given as goal

abbrev pub invariant-loop-i : goal.invariant-loop-i
invariant-loop-i l = record { list : IsListAt l.bank l.rest; gone : count (list_at l.bank l.fn.list) ≡ count (list_at l.bank l.rest) + l._i }
