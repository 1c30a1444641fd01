use Rattle.std.proofs.Common.{◌≤◌, length}
use Rattle.ld_terms.specs.Bank.{list_at, IsListAt}
use Rattle.dr_check.proofs.Arguments.{IsGoneTo}
use Rattle.dr_check.proofs.instance.judge_arguments.Given as goal

abbrev pub invariant-loop-i : goal.invariant-loop-i
invariant-loop-i l = record {
  rest : IsListAt l.checker.items l.rest;
  within : l.i ≤ length l.ns;
  gone : IsGoneTo l.checker.state.known l.m (list_at l.checker.items l.ctx) l.checker.items l.ns l.params (list_at l.checker.items l.fn.us) l.i (list_at l.checker.items l.rest);
}

abbrev pub decreases-loop-i : goal.decreases-loop-i
decreases-loop-i l = l.i
