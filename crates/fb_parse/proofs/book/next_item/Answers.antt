use Rattle.std.proofs.Common.{arith, ◌≡◌, ◌≤◌, ◌-◌, subst, sym}
use Rattle.std.proofs.lemmas.Result.{err_from_is_err_and}
use Rattle.fb_parse.specs.declared.fault.ParseFault.TheVariants.{ManyItems}
use Rattle.fb_parse.specs.Lines.{LinesFail}
use Rattle.fb_parse.proofs.LineRules.{too_many, item_fails, not_ended}
use Rattle.fb_parse.proofs.book.next_item.Goals as goal

pub returns-then-before-eq-MOST_ITEMS-clause-read : goal.returns-then-before-eq-MOST_ITEMS-clause-read
returns-then-before-eq-MOST_ITEMS-clause-read c =
    let full : 0 ≡ 100_000 - c.args.before = omega (arith, c.if-before-eq-MOST_ITEMS.true) in
    subst (λ n. LinesFail c.args.text.now c.args.bars n c.args.at (ManyItems c.args.at.span.start)) full (too_many c.args.text.now c.args.at c.args.bars c.requires.begins)

pub returns-in_err-part-clause-read : goal.returns-in_err-part-clause-read
returns-in_err-part-clause-read c =
    let some : 1 ≤ 100_000 - c.args.before = omega (arith, c.if-before-eq-MOST_ITEMS.false, c.requires.few) in
    let p = err_from_is_err_and c.from_residual.result c.from_residual.ensures.1 in
    rw (p.1, p.2) (item_fails some c.requires.begins c.in_err-part.ensures.read)

pub returns-then-not-ends_line-clause-read : goal.returns-then-not-ends_line-clause-read
returns-then-not-ends_line-clause-read c =
    let some : 1 ≤ 100_000 - c.args.before = omega (arith, c.if-before-eq-MOST_ITEMS.false, c.requires.few) in
    not_ended some c.requires.begins (sym c.if-not-ends_line.ensures) c.in_ok-part.ensures.read
