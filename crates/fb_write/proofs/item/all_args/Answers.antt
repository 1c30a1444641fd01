use Rattle.std.proofs.Common.{◌++◌, ◌+◌, false, drop, refl}
use Rattle.fb_parse.specs.ItemView.{arg_view, args_view}
use Rattle.fb_write.specs.Canonical.{arg_text}
use Rattle.fb_write.specs.Writing.{comma, args_from}
use Rattle.fb_write.proofs.Written.{start, step, stop, exits, args_go_on, args_end}
use Rattle.fb_write.proofs.item.all_args.Goals as goal

pub loop-arg-init : goal.loop-arg-init
loop-arg-init c = start refl

pub returns-in_err-listed_arg : goal.returns-in_err-listed_arg
returns-in_err-listed_arg c =
    let l = c.loop-arg in
    let a = c.arg-item.result in
    let w = args_go_on l.first c.args.args.now l.arg-index a c.loop-arg-test.true c.arg-item.is l.invariant in
    exits _ c.from_residual.ensures.0 (stop (comma l.first ++ arg_text (arg_view a)) (args_from false (args_view (drop (l.arg-index + 1) c.args.args.now))) w c.in_err-listed_arg.ensures)

pub loop-arg-preserved : goal.loop-arg-preserved
loop-arg-preserved c =
    let l = c.loop-arg in
    let a = c.arg-item.result in
    let w = args_go_on l.first c.args.args.now l.arg-index a c.loop-arg-test.true c.arg-item.is l.invariant in
    step (comma l.first ++ arg_text (arg_view a)) (args_from false (args_view (drop (l.arg-index + 1) c.args.args.now))) w c.in_ok-listed_arg.ensures

pub returns : goal.returns
returns c = args_end c.loop-arg.first c.args.args.now c.loop-arg.arg-index c.loop-arg-test.false c.loop-arg.invariant
