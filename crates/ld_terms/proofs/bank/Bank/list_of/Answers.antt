use Rattle.std.proofs.Common.{◌<◌, length, get_or, subst, sym, arith}
use Rattle.std.proofs.lemmas.List.{take_more}
use Rattle.ld_terms.specs.Bank.{IsTermAt}
use Rattle.ld_terms.specs.declared.bank.TermId.{TermId}
use Rattle.ld_terms.proofs.Listing.{IsListed, listed_more}
use Rattle.ld_terms.proofs.bank.Bank.list_of.Goals as goal

pub loop-term-preserved : goal.loop-term-preserved
loop-term-preserved c =
    let at : TermId = get_or c.args.terms.now c.loop-term.term-index (record { 0 = 0 }) in
    let within : c.loop-term.term-index < length c.args.terms.now = omega arith in
    let term : IsTermAt c.args.self.now at = c.requires c.loop-term.term-index (record { 0 = 0 }) within in
    let more = listed_more c.args.self.now c.loop-term.self c.add-in-loop-term.new.self c.loop-term.list c.in_ok-list-2.list at _ c.loop-term.invariant term (c.in_ok-list-2.ensures.kept) (c.in_ok-list-2.ensures.tree) (c.in_ok-list-2.ensures.small) in
    subst (IsListed c.args.self.now c.add-in-loop-term.new.self c.in_ok-list-2.list) (sym (take_more c.args.terms.now c.loop-term.term-index (record { 0 = 0 }) within)) more
