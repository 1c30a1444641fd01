use Rattle.std.proofs.Common.{sym, subst}
use Rattle.std.proofs.lemmas.Result.{err_from_is_err_and}
use Rattle.fb_parse.specs.Items.{Elim}
use Rattle.fb_parse.specs.ItemParts.{WayIs, SomeWay}
use Rattle.fb_parse.specs.Parts.{behind_terms}
use Rattle.fb_parse.specs.Reading.{Read, Fails}
use Rattle.fb_parse.specs.View.{views}
use Rattle.fb_parse.proofs.Bodies.{elim_fails_1, elim_fails_2, elim_fails_3, elim_fails_4, elim_read}
use Rattle.fb_parse.proofs.body.elimination.Goals as goal

pub returns-in_err-from-clause-read : goal.returns-in_err-from-clause-read
returns-in_err-from-clause-read c =
    let p = err_from_is_err_and c.from_residual.result c.from_residual.ensures.1 in
    rw (p.1, p.2) (elim_fails_1 c.args.text.now c.args.at c.requires.is c.in_err-from.ensures.read)

pub returns-in_err-head-clause-read : goal.returns-in_err-head-clause-read
returns-in_err-head-clause-read c =
    let p = err_from_is_err_and c.from_residual-in_err-head.result c.from_residual-in_err-head.ensures.1 in
    rw (p.1, p.2) (elim_fails_2 c.args.text.now c.args.at c.requires.is c.in_ok-from.ensures.read c.in_err-head.ensures.read)

pub returns-in_err-behind-clause-read : goal.returns-in_err-behind-clause-read
returns-in_err-behind-clause-read c =
    let p = err_from_is_err_and c.from_residual-in_err-behind.result c.from_residual-in_err-behind.ensures.1 in
    rw (p.1, p.2) (elim_fails_3 c.args.text.now c.args.at c.requires.is c.in_ok-from.ensures.read c.in_ok-head.ensures.read c.in_err-behind.ensures.read)

pub returns-in_err-args-clause-read : goal.returns-in_err-args-clause-read
returns-in_err-args-clause-read c =
    let p = err_from_is_err_and c.from_residual-in_err-args.result c.from_residual-in_err-args.ensures.1 in
    rw (p.1, p.2) (elim_fails_4 c.args.text.now c.args.at c.requires.is c.in_ok-from.ensures.read c.in_ok-head.ensures.read c.in_ok-behind.ensures.read c.in_err-args.ensures.read)

pub returns-in_err-trees-clause-read : goal.returns-in_err-trees-clause-read
returns-in_err-trees-clause-read c =
    let p = err_from_is_err_and c.from_residual-in_err-trees.result c.from_residual-in_err-trees.ensures.1 in
    rw (p.1, p.2) (subst (λ f. Fails c.args.text.now SomeWay behind_terms c.args.at f) (sym c.in_err-trees.ensures) Fails.memory)

pub returns-clause-read : goal.returns-clause-read
returns-clause-read c = subst (λ v. Read c.args.text.now (WayIs (Elim (views v))) SomeWay behind_terms c.args.at c.in_ok-args.args.next) (sym c.in_ok-trees.ensures) (elim_read c.args.text.now c.args.at c.requires.is c.in_ok-from.ensures.read c.in_ok-head.ensures.read c.in_ok-behind.ensures.read c.in_ok-args.ensures.read)
