use Rattle.std.proofs.Common.{rules}
use Rattle.std.proofs.lemmas.Result.{err_from_is_err_and}
use Rattle.fb_parse.proofs.Entries.{entry_fails_1, entry_fails_2, entry_fails_3, entry_read}
use Rattle.fb_parse.proofs.item.item.Goals as goal

pub returns-in_err-assign-clause-read : goal.returns-in_err-assign-clause-read
returns-in_err-assign-clause-read c =
    let p = err_from_is_err_and c.from_residual.result c.from_residual.ensures.1 in
    rw (p.1, p.2) (entry_fails_1 c.args.text.now c.args.at c.args.bars (λ q. search rules) c.in_err-assign.ensures.read)

pub returns-in_err-from-clause-read : goal.returns-in_err-from-clause-read
returns-in_err-from-clause-read c =
    let p = err_from_is_err_and c.from_residual-in_err-from.result c.from_residual-in_err-from.ensures.1 in
    rw (p.1, p.2) (entry_fails_2 c.args.text.now c.args.at c.args.bars (λ q. search rules) c.in_ok-assign.ensures.read c.in_err-from.ensures.read)

pub returns-in_err-entry-clause-read : goal.returns-in_err-entry-clause-read
returns-in_err-entry-clause-read c =
    let p = err_from_is_err_and c.from_residual-in_err-entry.result c.from_residual-in_err-entry.ensures.1 in
    rw (p.1, p.2) (entry_fails_3 c.args.text.now c.args.at c.args.bars (λ q. search rules) c.in_ok-assign.ensures.read c.in_ok-from.ensures.read c.in_err-entry.ensures.read)

pub returns-clause-read : goal.returns-clause-read
returns-clause-read c = entry_read c.args.text.now c.args.at c.args.bars (λ q. search rules) c.in_ok-assign.ensures.kind c.in_ok-assign.ensures.read c.in_ok-from.ensures.read c.in_ok-entry.ensures.read
