use Rattle.std.proofs.Common.{◌≡◌, map, take}
use Rattle.ld_terms.specs.Bank.{list_at, IsListAt}
use Rattle.ld_terms.specs.Known.{trees}
use Rattle.ld_terms.specs.Record.{term_at}
use Rattle.dr_check.proofs.checker.Checker.list_of.Given as goal

abbrev pub invariant-loop-number : goal.invariant-loop-number
invariant-loop-number l = record {
  same : l.self.state ≡ l.fn.self.state;
  list : IsListAt l.self.items l.list;
  is : list_at l.self.items l.list ≡ trees (map (term_at l.fn.self.state) (take l.number-index l.numbers));
}
