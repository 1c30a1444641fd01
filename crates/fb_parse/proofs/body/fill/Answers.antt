use Rattle.std.proofs.lemmas.Result.{err_from_is_err_and}
use Rattle.fb_parse.proofs.Bodies.{use_fails_1, use_fails_2, use_fails_3, use_read}
use Rattle.fb_parse.proofs.body.fill.Goals as goal

pub returns-in_err-name-clause-read : goal.returns-in_err-name-clause-read
returns-in_err-name-clause-read c =
    let p = err_from_is_err_and c.from_residual.result c.from_residual.ensures.1 in
    rw (p.1, p.2) (use_fails_1 c.args.text.now c.args.at c.requires.is c.in_err-name.ensures.read)

pub returns-in_err-behind-clause-read : goal.returns-in_err-behind-clause-read
returns-in_err-behind-clause-read c =
    let p = err_from_is_err_and c.from_residual-in_err-behind.result c.from_residual-in_err-behind.ensures.1 in
    rw (p.1, p.2) (use_fails_2 c.args.text.now c.args.at c.requires.is c.in_ok-name.ensures.read c.in_err-behind.ensures.read)

pub returns-in_err-given-clause-read : goal.returns-in_err-given-clause-read
returns-in_err-given-clause-read c =
    let p = err_from_is_err_and c.from_residual-in_err-given.result c.from_residual-in_err-given.ensures.1 in
    rw (p.1, p.2) (use_fails_3 c.args.text.now c.args.at c.requires.is c.in_ok-name.ensures.read c.in_ok-behind.ensures.read c.in_err-given.ensures.read)

pub returns-clause-read : goal.returns-clause-read
returns-clause-read c = use_read c.args.text.now c.args.at c.in_ok-name.name c.requires.is c.in_ok-behind.ensures.kind c.in_ok-name.ensures.read c.in_ok-behind.ensures.read c.in_ok-given.ensures.read
