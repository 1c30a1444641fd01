use Rattle.std.proofs.Common.{ap, codes}
use Rattle.std.proofs.lemmas.Result.{on_ok_weaker}
use Rattle.book_top.specs.Report.{what_text}
use Rattle.book_top.proofs.Reports.{name_said}
use Rattle.book_top.proofs.report.push_what.Goals as goal

pub returns-in_ok-push-in-Unknown : goal.returns-in_ok-push-in-Unknown
returns-in_ok-push-in-Unknown c =
    on_ok_weaker c.push_span.result
    (name_said c.args.out.now.items c.push-in-Unknown.new.out.items c.push_span.new.out.items c.args.text.now (codes "unknown name ") c.args.at c.args.what
    (ap (what_text c.args.text.now c.args.at) c.in-Unknown.is) c.in_ok-push-in-Unknown.ensures)
    c.push_span.ensures

pub returns-in_ok-push-in-NotAConstant : goal.returns-in_ok-push-in-NotAConstant
returns-in_ok-push-in-NotAConstant c =
    on_ok_weaker c.push_span-in-NotAConstant.result
    (name_said c.args.out.now.items c.push-in-NotAConstant.new.out.items c.push_span-in-NotAConstant.new.out.items c.args.text.now (codes "not a constant ") c.args.at c.args.what
    (ap (what_text c.args.text.now c.args.at) c.in-NotAConstant.is) c.in_ok-push-in-NotAConstant.ensures)
    c.push_span-in-NotAConstant.ensures
