use Rattle.std.proofs.lemmas.Result.{err_from_is_err_and}
use Rattle.ld_terms.specs.Tree.{Nil}
use Rattle.book_top.proofs.Sessions.{end_written, end_stopped}
use Rattle.book_top.proofs.check.finish.Goals as goal

pub returns-clause-done : goal.returns-clause-done
returns-clause-done g c =
    end_written (record c.args.theory.now { context = Nil }) c.end_judgement.new.theory c.args.writer.now c.write_chunk.new.writer c.in_ok-star.star (g.D.Desk.seen c.args.desk.now) (g.D.Desk.seen c.write_chunk.new.desk)
    c.end_judgement.ensures.continues c.in_ok-write_chunk.ensures.chunk

pub returns-in_err-write_chunk-clause-stops : goal.returns-in_err-write_chunk-clause-stops
returns-in_err-write_chunk-clause-stops g c =
    let p = err_from_is_err_and c.from_residual-in_err-write_chunk.result c.from_residual-in_err-write_chunk.ensures.1 in
    rw (p.1, p.2)
    (end_stopped (record c.args.theory.now { context = Nil }) c.end_judgement.new.theory c.args.writer.now c.write_chunk.new.writer c.in_ok-star.star (g.D.Desk.seen c.args.desk.now) (g.D.Desk.seen c.write_chunk.new.desk)
    c.in_err-write_chunk.field-0.0 c.end_judgement.ensures.continues c.in_err-write_chunk.ensures.chunk)
