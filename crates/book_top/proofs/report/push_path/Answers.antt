use Rattle.book_top.proofs.Reports.{step_said}
use Rattle.book_top.proofs.report.push_path.Goals as goal

pub loop-i-preserved : goal.loop-i-preserved
loop-i-preserved c =
    step_said c.args.out.now.items c.args.path.now c.loop-i.i c.step.result c.loop-i.out.items c.push_dot.new.out.items c.push_step.new.out.items
    c.loop-i.invariant c.in_ok-push_dot.ensures c.in_ok-push_step.ensures c.step.ensures
