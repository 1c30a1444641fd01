use Rattle.std.proofs.lemmas.Result.{err_from_is_err_and}
use Rattle.fb_parse.proofs.Bodies.{intro_fails_1, intro_fails_2, intro_read}
use Rattle.fb_parse.proofs.body.intro.Goals as goal

pub returns-in_err-name-clause-read : goal.returns-in_err-name-clause-read
returns-in_err-name-clause-read c =
    let p = err_from_is_err_and c.from_residual.result c.from_residual.ensures.1 in
    rw (p.1, p.2) (intro_fails_1 c.args.text.now c.args.at c.requires.is c.in_err-name.ensures.read)

pub returns-in_err-next-clause-read : goal.returns-in_err-next-clause-read
returns-in_err-next-clause-read c =
    let p = err_from_is_err_and c.from_residual-in_err-next.result c.from_residual-in_err-next.ensures.1 in
    rw (p.1, p.2) (intro_fails_2 c.args.text.now c.args.at c.requires.is c.in_ok-name.ensures.read c.in_err-next.ensures.read)

pub returns-clause-read : goal.returns-clause-read
returns-clause-read c = intro_read c.args.text.now c.args.at c.in_ok-name.name c.requires.is c.in_ok-next.ensures.kind c.in_ok-name.ensures.read c.in_ok-next.ensures.read
