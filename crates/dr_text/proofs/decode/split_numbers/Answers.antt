use Rattle.dr_text.proofs.Splitting.{some_none, some_more, some_nowhere}
use Rattle.dr_text.proofs.decode.split_numbers.Goals as goal

pub loop-place-init : goal.loop-place-init
loop-place-init c = some_none c.args.bytes.now c.args.count

pub returns-in-None : goal.returns-in-None
returns-in-None c =
    some_nowhere c.args.bytes.now c.loop-place.rest.now c.args.count c.loop-place._place c.loop-place-test.true (c.in-None.ensures {u = tt}).number c.loop-place.invariant

pub loop-place-preserved : goal.loop-place-preserved
loop-place-preserved c =
    some_more c.args.bytes.now c.loop-place.rest.now c.args.count c.loop-place._place c.in-Some.field-0-0 c.in-Some.behind.now c.loop-place-test.true
    (c.in-Some.ensures {u = tt}).small (c.in-Some.ensures {u = tt}).number c.loop-place.invariant
