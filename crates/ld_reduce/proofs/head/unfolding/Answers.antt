use Rattle.std.proofs.Common.{◌∙◌, sym, ap, length, arith}
use Rattle.ld_terms.specs.Bank.{list_at}
use Rattle.ld_reduce.proofs.Unfolding.{no_body, other_count, has_body}
use Rattle.ld_reduce.proofs.head.unfolding.Goals as goal

pub returns-in-None : goal.returns-in-None
returns-in-None c = no_body c.args.bank.now c.args.env.now c.args.k (list_at c.args.bank.now c.args.us) c.entry-entry.result.now c.entry-entry.ensures c.in-None.is

pub returns-then-count_of-as_slice : goal.returns-then-count_of-as_slice
returns-then-count_of-as_slice c =
    has_body c.args.bank.now c.args.env.now c.args.k (list_at c.args.bank.now c.args.us) c.entry-entry.result.now c.entry-entry.ensures c.in-Some.body c.requires.live
    (let z = c.if-k-len.false in let n = c.len.ensures in omega arith) c.in-Some.is
    (sym c.count_of.ensures.count ∙ c.if-count_of-as_slice.true ∙ ap length c.as_slice.ensures)

pub returns-else-count_of-as_slice : goal.returns-else-count_of-as_slice
returns-else-count_of-as_slice c =
    other_count c.args.bank.now c.args.env.now c.args.k (list_at c.args.bank.now c.args.us) c.entry-entry.result.now c.entry-entry.ensures
    (λ e. c.if-count_of-as_slice.false (c.count_of.ensures.count ∙ e ∙ sym (ap length c.as_slice.ensures)))
