use Rattle.std.proofs.Common.{◌≡◌, codes, ◌+◌, ◌-◌, ap, arith}
use Rattle.fb_write.specs.Canonical.{bars_text}
use Rattle.fb_write.proofs.Written.{start, step, stop, exits, bars_go_on, bars_end}
use Rattle.fb_write.proofs.item.bars.Goals as goal

pub loop-init : goal.loop-init
loop-init c = start (ap bars_text (let e : c.args.count ≡ c.args.count - 0 = omega arith in e))

pub returns-in_err-push : goal.returns-in_err-push
returns-in_err-push c =
    let w = bars_go_on c.args.count c.loop.counter c.loop-test.true c.loop.invariant in
    exits _ c.from_residual.ensures.0 (stop (codes "| ") (bars_text (c.args.count - (c.loop.counter + 1))) w c.in_err-push.ensures)

pub loop-preserved : goal.loop-preserved
loop-preserved c =
    let w = bars_go_on c.args.count c.loop.counter c.loop-test.true c.loop.invariant in
    step (codes "| ") (bars_text (c.args.count - (c.loop.counter + 1))) w c.in_ok-push.ensures

pub returns : goal.returns
returns c = bars_end c.args.count c.loop.counter c.loop-test.false c.loop.invariant
