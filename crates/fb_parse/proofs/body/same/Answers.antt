use Rattle.std.proofs.lemmas.Result.{err_from_is_err_and}
use Rattle.fb_parse.proofs.Bodies.{same_fails_1, same_fails_2, same_read}
use Rattle.fb_parse.proofs.body.same.Goals as goal

pub returns-in_err-from-clause-read : goal.returns-in_err-from-clause-read
returns-in_err-from-clause-read c =
    let p = err_from_is_err_and c.from_residual.result c.from_residual.ensures.1 in
    rw (p.1, p.2) (same_fails_1 c.args.text.now c.args.at c.requires.is c.in_err-from.ensures.read)

pub returns-in_err-whole-clause-read : goal.returns-in_err-whole-clause-read
returns-in_err-whole-clause-read c =
    let p = err_from_is_err_and c.from_residual-in_err-whole.result c.from_residual-in_err-whole.ensures.1 in
    rw (p.1, p.2) (same_fails_2 c.args.text.now c.args.at c.requires.is c.in_ok-from.ensures.read c.in_err-whole.ensures.read)

pub returns-clause-read : goal.returns-clause-read
returns-clause-read c = same_read c.args.text.now c.args.at c.requires.is c.in_ok-from.ensures.read c.in_ok-whole.ensures.read
