use Rattle.std.proofs.lemmas.Result.{err_from_is_err_and}
use Rattle.fb_parse.proofs.Entries.{prim_fails_1, prim_fails_2, prim_fails_3, prim_read}
use Rattle.fb_parse.proofs.item.primitive.Goals as goal

pub returns-in_err-colon-clause-read : goal.returns-in_err-colon-clause-read
returns-in_err-colon-clause-read c =
    let p = err_from_is_err_and c.from_residual.result c.from_residual.ensures.1 in
    rw (p.1, p.2) (prim_fails_1 c.args.text.now c.args.at c.requires.kind c.in_err-colon.ensures.read)

pub returns-in_err-from-clause-read : goal.returns-in_err-from-clause-read
returns-in_err-from-clause-read c =
    let p = err_from_is_err_and c.from_residual-in_err-from.result c.from_residual-in_err-from.ensures.1 in
    rw (p.1, p.2) (prim_fails_2 c.args.text.now c.args.at c.requires.kind c.in_ok-colon.ensures.read c.in_err-from.ensures.read)

pub returns-in_err-of-clause-read : goal.returns-in_err-of-clause-read
returns-in_err-of-clause-read c =
    let p = err_from_is_err_and c.from_residual-in_err-of.result c.from_residual-in_err-of.ensures.1 in
    rw (p.1, p.2) (prim_fails_3 c.args.text.now c.args.at c.requires.kind c.in_ok-colon.ensures.read c.in_ok-from.ensures.read c.in_err-of.ensures.read)

pub returns-clause-read : goal.returns-clause-read
returns-clause-read c = prim_read c.args.text.now c.args.at c.requires.kind c.in_ok-colon.ensures.read c.in_ok-from.ensures.read c.in_ok-of.ensures.read
