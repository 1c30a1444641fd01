use Rattle.std.proofs.Common.{rules, sym, subst, ◌∙◌}
use Rattle.std.proofs.lemmas.Result.{err_from_is_err_and}
use Rattle.fb_parse.specs.ItemParts.{FillingIs, SomeFilling}
use Rattle.fb_parse.specs.ItemView.{args_view}
use Rattle.fb_parse.specs.Parts.{behind_terms}
use Rattle.fb_parse.specs.Reading.{Read}
use Rattle.fb_parse.proofs.Arguments.{filling_none, filling_fails_1, filling_fails_2, filling_fails_3, filling_read}
use Rattle.fb_parse.proofs.body.filling.Goals as goal

pub returns-then-ne-clause-read : goal.returns-then-ne-clause-read
returns-then-ne-clause-read c = subst (λ v. Read c.args.text.now (FillingIs (args_view v)) SomeFilling behind_terms c.args.at c.args.at) (sym (c.into_bump_slice.ensures ∙ c.new.ensures.items)) (filling_none c.args.text.now c.args.at (λ q. search rules))

pub returns-in_err-from-clause-read : goal.returns-in_err-from-clause-read
returns-in_err-from-clause-read c =
    let p = err_from_is_err_and c.from_residual.result c.from_residual.ensures.1 in
    rw (p.1, p.2) (filling_fails_1 c.args.text.now c.args.at (search rules) c.in_err-from.ensures.read)

pub returns-in_err-given-clause-read : goal.returns-in_err-given-clause-read
returns-in_err-given-clause-read c =
    let p = err_from_is_err_and c.from_residual-in_err-given.result c.from_residual-in_err-given.ensures.1 in
    rw (p.1, p.2) (filling_fails_2 c.args.text.now c.args.at (search rules) c.in_ok-from.ensures.read c.in_err-given.ensures.read)

pub returns-in_err-next-clause-read : goal.returns-in_err-next-clause-read
returns-in_err-next-clause-read c =
    let p = err_from_is_err_and c.from_residual-in_err-next.result c.from_residual-in_err-next.ensures.1 in
    rw (p.1, p.2) (filling_fails_3 c.args.text.now c.args.at (search rules) c.in_ok-from.ensures.read c.in_ok-given.ensures.read c.in_err-next.ensures.read)

pub returns-clause-read : goal.returns-clause-read
returns-clause-read c = filling_read c.args.text.now c.args.at (search rules) c.in_ok-from.ensures.read c.in_ok-given.ensures.read c.in_ok-next.ensures.read
