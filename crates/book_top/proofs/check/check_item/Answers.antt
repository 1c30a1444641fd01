use Rattle.std.proofs.lemmas.Result.{err_from_is_err_and}
use Rattle.fb_parse.specs.ItemView.{item_view}
use Rattle.book_top.proofs.Sessions.{item_written, item_stopped}
use Rattle.book_top.proofs.Stops.{refused_stops}
use Rattle.book_top.proofs.check.check_item.Goals as goal

pub returns-clause-writes : goal.returns-clause-writes
returns-clause-writes g c =
    item_written c.args.theory.now c.judge_item.new.theory c.args.writer.now c.write_chunk.new.writer (g.D.Desk.seen c.args.desk.now) (g.D.Desk.seen c.write_chunk.new.desk)
    c.judge_item.ensures.goes c.in_ok-write_chunk.ensures.chunk

pub returns-in_err-write_chunk-clause-stops : goal.returns-in_err-write_chunk-clause-stops
returns-in_err-write_chunk-clause-stops g c =
    let p = err_from_is_err_and c.from_residual.result c.from_residual.ensures.1 in
    rw (p.1, p.2)
    (item_stopped c.args.budget c.args.theory.now c.judge_item.new.theory c.args.scope.now c.judge_item.new.scope c.args.writer.now c.write_chunk.new.writer (g.D.Desk.seen c.args.desk.now) (g.D.Desk.seen c.write_chunk.new.desk)
    (item_view c.args.text.now c.args.item.now) c.args.number c.in-Ok.steps c.in_err-write_chunk.field-0.0
    c.judge_item.ensures.goes c.in-Ok.ensures.answer c.in_err-write_chunk.ensures.failed c.in_err-write_chunk.ensures.chunk)

pub returns-in-Err-clause-stops : goal.returns-in-Err-clause-stops
returns-in-Err-clause-stops g c =
    rw c.refused.ensures
    (refused_stops c.args.budget c.args.theory.now c.judge_item.new.theory c.args.scope.now c.judge_item.new.scope c.args.writer.now (g.D.Desk.seen c.args.desk.now)
    (item_view c.args.text.now c.args.item.now) c.args.number c.in-Err.stop c.in-Err.ensures.answer)
