use Rattle.std.proofs.Common.{rules}
use Rattle.std.proofs.lemmas.Result.{err_from_is_err_and}
use Rattle.fb_parse.proofs.Arguments.{hole_fails, hole_read, given_fails, given_read}
use Rattle.fb_parse.proofs.body.arg.Goals as goal

pub returns-in_err-next-clause-read : goal.returns-in_err-next-clause-read
returns-in_err-next-clause-read c =
    let p = err_from_is_err_and c.from_residual.result c.from_residual.ensures.1 in
    rw (p.1, p.2) (hole_fails c.args.text.now c.args.at (search rules) c.in_err-next.ensures.read)

pub returns-then-eq-clause-read : goal.returns-then-eq-clause-read
returns-then-eq-clause-read c = hole_read c.args.text.now c.args.at (search rules) c.in_ok-next.ensures.read

pub returns-in_err-given-clause-read : goal.returns-in_err-given-clause-read
returns-in_err-given-clause-read c =
    let p = err_from_is_err_and c.from_residual-in_err-given.result c.from_residual-in_err-given.ensures.1 in
    rw (p.1, p.2) (given_fails c.args.text.now c.args.at (λ q. search rules) c.in_err-given.ensures.read)

pub returns-clause-read : goal.returns-clause-read
returns-clause-read c = given_read c.args.text.now c.args.at (λ q. search rules) c.in_ok-given.ensures.read
