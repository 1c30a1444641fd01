use Rattle.book_top.specs.Command.{Verify}
use Rattle.book_top.proofs.Performing.{performed}
use Rattle.book_top.proofs.Verifying.{verified}
use Rattle.book_top.proofs.perform.verify.verify_file.Goals as goal

pub returns : goal.returns
returns g c =
    let old = g.D.Desk.seen c.args.desk.now in
    let mid = g.D.Desk.seen c.verify-status.new.desk in
    performed (Verify c.args.deriv.now) old mid (g.D.Desk.seen c.say.new.desk) _ c.verify-status.result c.say.result
    (verified old mid c.args.deriv.now _ c.verify-status.result c.verify-status.ensures.same c.verify-status.ensures.never_falls
    c.verify-status.ensures.verifies
    c.verify-status.ensures.may c.verify-status.ensures.desk c.verify-status.ensures.absent)
    c.say.ensures.only c.say.ensures.same c.say.ensures.said c.say.ensures.never_falls c.say.ensures.desk c.say.ensures.sound
