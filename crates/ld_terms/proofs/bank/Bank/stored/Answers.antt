use Rattle.std.proofs.Common.{arith, ap, length, sym, true≢false}
use Rattle.ld_terms.proofs.Banks.{length-items_of, read_node}
use Rattle.ld_terms.proofs.bank.Bank.stored.Goals as goal

pub unreachable-requires : goal.unreachable-requires
unreachable-requires c = true≢false (sym (c.in-None.ensures.found.1 (omega (arith, c.requires, length-items_of c.self.inside.nodes.entries, ap length c.self.view_is))))

pub returns : goal.returns
returns c = read_node _ _ _ _ c.self.invariant c.self.view_is c.requires (sym c.in-Some.ensures.entry)
