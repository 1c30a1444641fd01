use Rattle.std.proofs.Common.{◌≡◌, All, reverse}
use Rattle.ld_terms.specs.Bank.{list_at, listed, IsTermAt, IsListAt}
use Rattle.dr_check.proofs.checker.terms_of.Given as goal

abbrev pub invariant-loop-term : goal.invariant-loop-term
invariant-loop-term l = record {
  list : IsListAt l.bank l.rest;
  live : All (IsTermAt l.bank) l.terms.items;
  is : listed l.bank (list_at l.bank l.rest) (reverse l.terms.items) ≡ list_at l.bank l.fn.list;
}

abbrev pub decreases-loop-term : goal.decreases-loop-term
decreases-loop-term l = l.rest.0
