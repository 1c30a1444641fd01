use Rattle.std.proofs.lemmas.Result.{err_from_is_err_and}
use Rattle.fb_parse.proofs.Entries.{flag_fails_1, flag_fails_2, flag_fails_3, flag_fails_4, flag_fails_5, flag_read}
use Rattle.fb_parse.proofs.item.flag.Goals as goal

pub returns-in_err-name-clause-read : goal.returns-in_err-name-clause-read
returns-in_err-name-clause-read c =
    let p = err_from_is_err_and c.from_residual.result c.from_residual.ensures.1 in
    rw (p.1, p.2) (flag_fails_1 c.args.text.now c.args.at c.args.bars c.requires.kind c.in_err-name.ensures.read)

pub returns-in_err-colon-clause-read : goal.returns-in_err-colon-clause-read
returns-in_err-colon-clause-read c =
    let p = err_from_is_err_and c.from_residual-in_err-colon.result c.from_residual-in_err-colon.ensures.1 in
    rw (p.1, p.2) (flag_fails_2 c.args.text.now c.args.at c.args.bars c.requires.kind c.in_ok-name.ensures.read c.in_err-colon.ensures.read)

pub returns-in_err-from-clause-read : goal.returns-in_err-from-clause-read
returns-in_err-from-clause-read c =
    let p = err_from_is_err_and c.from_residual-in_err-from.result c.from_residual-in_err-from.ensures.1 in
    rw (p.1, p.2) (flag_fails_3 c.args.text.now c.args.at c.args.bars c.requires.kind c.in_ok-name.ensures.read c.in_ok-colon.ensures.read c.in_err-from.ensures.read)

pub returns-in_err-of-clause-read : goal.returns-in_err-of-clause-read
returns-in_err-of-clause-read c =
    let p = err_from_is_err_and c.from_residual-in_err-of.result c.from_residual-in_err-of.ensures.1 in
    rw (p.1, p.2) (flag_fails_4 c.args.text.now c.args.at c.args.bars c.requires.kind c.in_ok-name.ensures.read c.in_ok-colon.ensures.read c.in_ok-from.ensures.read c.in_err-of.ensures.read)

pub returns-in_err-next-clause-read : goal.returns-in_err-next-clause-read
returns-in_err-next-clause-read c =
    let p = err_from_is_err_and c.from_residual-in_err-next.result c.from_residual-in_err-next.ensures.1 in
    rw (p.1, p.2) (flag_fails_5 c.args.text.now c.args.at c.args.bars c.requires.kind c.in_ok-name.ensures.read c.in_ok-colon.ensures.read c.in_ok-from.ensures.read c.in_ok-of.ensures.read c.in_err-next.ensures.read)

pub returns-clause-read : goal.returns-clause-read
returns-clause-read c = flag_read c.args.text.now c.args.at c.in_ok-name.name c.in_ok-of.of.next c.args.bars c.requires.kind c.in_ok-colon.ensures.kind c.in_ok-name.ensures.read c.in_ok-colon.ensures.read c.in_ok-from.ensures.read c.in_ok-of.ensures.read c.in_ok-next.ensures.read
