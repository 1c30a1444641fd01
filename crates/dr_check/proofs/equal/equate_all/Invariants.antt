use Rattle.std.proofs.Common.{◌≤◌, length}
use Rattle.ld_terms.specs.Bank.{list_at, IsListAt}
use Rattle.dr_check.proofs.Equating.{IsGoneTo}
use Rattle.dr_check.proofs.equal.equate_all.Given as goal

abbrev pub invariant-loop-i : goal.invariant-loop-i
invariant-loop-i l = record {
  left : IsListAt l.checker.items l.left;
  right : IsListAt l.checker.items l.right;
  within : l.i ≤ length l.es;
  gone : IsGoneTo l.checker.state.known l.es (list_at l.checker.items l.fn.us) (list_at l.checker.items l.fn.vs) l.i (list_at l.checker.items l.left) (list_at l.checker.items l.right);
}

abbrev pub decreases-loop-i : goal.decreases-loop-i
decreases-loop-i l = l.i
