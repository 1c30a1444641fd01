use Rattle.std.proofs.Common.{arith, length, ap, ◌∙◌}
use Rattle.std.proofs.lemmas.Result.{err_from_is_err_and}
use Rattle.fb_parse.specs.ItemView.{items_view}
use Rattle.book_top.proofs.Checks.{checks_none, checks_more, checks_done, others_left}
use Rattle.book_top.proofs.Stops.{item_stops, end_stops, begin_stops, header_left}
use Rattle.book_top.proofs.check.check_items.Goals as goal

pub loop-number-init : goal.loop-number-init
loop-number-init g c =
    checks_none _ _ _ _ _ _ _ _
    c.begin.ensures.told c.begin.ensures.tells_said c.begin.ensures.said c.in_ok-begin.ensures.started c.in_ok-begin.ensures.target c.in_ok-begin.ensures.header c.begin.ensures.others c.begin.ensures.never_falls c.begin.ensures.sound_stays
    c.in_ok-theory.ensures.known c.in_ok-theory.ensures.sound c.in_ok-theory.ensures.context c.in_ok-theory.ensures.scope c.in_ok-theory.ensures.writer

pub loop-number-preserved : goal.loop-number-preserved
loop-number-preserved g c =
    checks_more c.args.budget _ _ _ _ c.args.text.now c.args.items.now c.loop-number.number c.index-items-number.result _ _ _ _ _ _ c.loop-number.steps _
    c.requires.budget c.loop-number.invariant (omega arith) c.index-items-number.is
    c.in_ok-steps.ensures.writes c.in_ok-steps.ensures.written c.in_ok-steps.ensures.sound c.in_ok-steps.ensures.accepted c.in_ok-steps.ensures.step
    c.check_item.ensures.stays

pub returns-in_err-begin-clause-answer : goal.returns-in_err-begin-clause-answer
returns-in_err-begin-clause-answer g c = λ t.
    let p = err_from_is_err_and c.from_residual.result c.from_residual.ensures.1 in
    rw (p.1, p.2) (begin_stops c.args.budget _ _ (items_view c.args.text.now c.args.items.now) c.in_err-begin.field-0.0 (c.in_err-begin.ensures.begun t))

pub returns-in_err-theory-clause-answer : goal.returns-in_err-theory-clause-answer
returns-in_err-theory-clause-answer g c = λ t.
    let p = err_from_is_err_and c.from_residual-in_err-theory.result c.from_residual-in_err-theory.ensures.1 in
    rw (p.1, p.2) (header_left c.args.budget _ _ (items_view c.args.text.now c.args.items.now) (c.in_ok-begin.ensures.header t))

pub returns-in_err-steps-clause-answer : goal.returns-in_err-steps-clause-answer
returns-in_err-steps-clause-answer g c = λ t.
    let p = err_from_is_err_and c.from_residual-in_err-steps.result c.from_residual-in_err-steps.ensures.1 in
    rw (p.1, p.2)
    (item_stops c.args.budget (g.D.Desk.seen c.args.desk.now) (g.D.Desk.seen c.loop-number.desk) (g.D.Desk.seen c.check_item.new.desk) c.args.out.now c.args.text.now c.args.items.now
    c.loop-number.number c.index-items-number.result c.loop-number.theory c.check_item.new.theory c.loop-number.scope c.check_item.new.scope c.loop-number.writer c.check_item.new.writer
    c.loop-number.steps c.in_err-steps.field-0.0
    c.loop-number.invariant (omega arith) c.index-items-number.is c.in_err-steps.ensures.stops t)

pub returns-in_err-finish-clause-answer : goal.returns-in_err-finish-clause-answer
returns-in_err-finish-clause-answer g c = λ t.
    let p = err_from_is_err_and c.from_residual-in_err-finish.result c.from_residual-in_err-finish.ensures.1 in
    rw (p.1, p.2)
    (end_stops c.args.budget (g.D.Desk.seen c.args.desk.now) (g.D.Desk.seen c.loop-number.desk) (g.D.Desk.seen c.finish.new.desk) c.args.out.now c.args.text.now c.args.items.now
    c.loop-number.number c.loop-number.theory c.loop-number.scope c.loop-number.writer c.loop-number.steps c.in_err-finish.field-0.0
    c.loop-number.invariant (omega arith) c.in_err-finish.ensures.stops t)

pub returns-clause-answer : goal.returns-clause-answer
returns-clause-answer g c =
    checks_done c.args.budget (g.D.Desk.seen c.args.desk.now) (g.D.Desk.seen c.loop-number.desk) (g.D.Desk.seen c.finish.new.desk) c.args.out.now c.args.text.now c.args.items.now
    c.loop-number.number c.loop-number.theory c.loop-number.scope c.loop-number.writer c.loop-number.steps c.summary.result
    c.loop-number.invariant (omega arith) c.summary.ensures.items (c.summary.ensures.entries ∙ ap length c.in_ok-finish.ensures.entries) c.summary.ensures.steps c.in_ok-finish.ensures.done

pub returns-in_err-steps-clause-told : goal.returns-in_err-steps-clause-told
returns-in_err-steps-clause-told g c = c.check_item.ensures.stays.tells_files ∙ c.loop-number.invariant.told

pub returns-in_err-steps-clause-tells_said : goal.returns-in_err-steps-clause-tells_said
returns-in_err-steps-clause-tells_said g c = c.check_item.ensures.stays.tells_said ∙ c.loop-number.invariant.tells_said

pub returns-in_err-steps-clause-said : goal.returns-in_err-steps-clause-said
returns-in_err-steps-clause-said g c = c.check_item.ensures.stays.said ∙ c.loop-number.invariant.said

pub returns-in_err-steps-clause-sound_stays : goal.returns-in_err-steps-clause-sound_stays
returns-in_err-steps-clause-sound_stays g c = c.check_item.ensures.stays.sound ∙ c.loop-number.invariant.sound_stays

pub returns-in_err-steps-clause-never_falls : goal.returns-in_err-steps-clause-never_falls
returns-in_err-steps-clause-never_falls g c = omega (arith, c.loop-number.invariant.never_falls, c.check_item.ensures.stays.never_falls)

pub returns-in_err-steps-clause-others : goal.returns-in_err-steps-clause-others
returns-in_err-steps-clause-others g c = others_left c.loop-number.invariant c.check_item.ensures.stays

pub returns-in_err-finish-clause-told : goal.returns-in_err-finish-clause-told
returns-in_err-finish-clause-told g c = c.finish.ensures.stays.tells_files ∙ c.loop-number.invariant.told

pub returns-in_err-finish-clause-tells_said : goal.returns-in_err-finish-clause-tells_said
returns-in_err-finish-clause-tells_said g c = c.finish.ensures.stays.tells_said ∙ c.loop-number.invariant.tells_said

pub returns-in_err-finish-clause-said : goal.returns-in_err-finish-clause-said
returns-in_err-finish-clause-said g c = c.finish.ensures.stays.said ∙ c.loop-number.invariant.said

pub returns-in_err-finish-clause-sound_stays : goal.returns-in_err-finish-clause-sound_stays
returns-in_err-finish-clause-sound_stays g c = c.finish.ensures.stays.sound ∙ c.loop-number.invariant.sound_stays

pub returns-in_err-finish-clause-never_falls : goal.returns-in_err-finish-clause-never_falls
returns-in_err-finish-clause-never_falls g c = omega (arith, c.loop-number.invariant.never_falls, c.finish.ensures.stays.never_falls)

pub returns-in_err-finish-clause-others : goal.returns-in_err-finish-clause-others
returns-in_err-finish-clause-others g c = others_left c.loop-number.invariant c.finish.ensures.stays

pub returns-clause-told : goal.returns-clause-told
returns-clause-told g c = c.finish.ensures.stays.tells_files ∙ c.loop-number.invariant.told

pub returns-clause-tells_said : goal.returns-clause-tells_said
returns-clause-tells_said g c = c.finish.ensures.stays.tells_said ∙ c.loop-number.invariant.tells_said

pub returns-clause-said : goal.returns-clause-said
returns-clause-said g c = c.finish.ensures.stays.said ∙ c.loop-number.invariant.said

pub returns-clause-sound_stays : goal.returns-clause-sound_stays
returns-clause-sound_stays g c = c.finish.ensures.stays.sound ∙ c.loop-number.invariant.sound_stays

pub returns-clause-never_falls : goal.returns-clause-never_falls
returns-clause-never_falls g c = omega (arith, c.loop-number.invariant.never_falls, c.finish.ensures.stays.never_falls)

pub returns-clause-others : goal.returns-clause-others
returns-clause-others g c = others_left c.loop-number.invariant c.finish.ensures.stays
