use Rattle.std.proofs.Common.{refl, arith}
use Rattle.book_top.proofs.Runs.{names_lie, parse_checks, done_checks, stop_checks}
use Rattle.book_top.proofs.Checks.{length_view}
use Rattle.book_top.proofs.BookChecks.{parse_may}
use Rattle.book_top.proofs.perform.check.check_text.Goals as goal

pub check_items-requires-clause-names : goal.check_items-requires-clause-names
check_items-requires-clause-names g c = names_lie c.args.text.now c.args.text.now c.args.text.now c.in-Ok.parsed.items.now refl refl c.in-Ok.ensures.stands

pub check_items-requires-clause-few : goal.check_items-requires-clause-few
check_items-requires-clause-few g c = omega (arith, c.in-Ok.ensures.exact.few, length_view c.args.text.now c.in-Ok.parsed.items.now)

pub returns-in-Err-clause-checks : goal.returns-in-Err-clause-checks
returns-in-Err-clause-checks g c = λ told book fetched.
    parse_checks _ _ _ _ _ c.args.text.now c.args.text.now c.in-Err.fault _ refl refl fetched c.in-Err.ensures.exact c.parse_answer.ensures

pub returns-in-Ok-check_items-clause-checks : goal.returns-in-Ok-check_items-clause-checks
returns-in-Ok-check_items-clause-checks g c = λ told book fetched.
    done_checks _ _ _ _ _ c.args.text.now c.args.text.now c.args.text.now c.in-Ok.parsed.items.now refl refl fetched c.in-Ok.ensures.exact c.in-Ok-check_items.summary
    (c.in-Ok-check_items.ensures.answer told)

pub returns-clause-checks : goal.returns-clause-checks
returns-clause-checks g c = λ told book fetched.
    stop_checks _ _ _ _ _ c.args.text.now c.args.text.now c.args.text.now c.in-Ok.parsed.items.now refl refl fetched c.in-Ok.ensures.exact c.in-Err-check_items.stop _
    (c.in-Err-check_items.ensures.answer told) c.stop_answer.ensures.answers

pub returns-in-Err-clause-may : goal.returns-in-Err-clause-may
returns-in-Err-clause-may g c = parse_may c.in-Err.fault c.parse_answer.result c.parse_answer.ensures
