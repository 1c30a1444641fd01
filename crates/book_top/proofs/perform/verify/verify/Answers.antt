use Rattle.std.proofs.Common.{ap}
use Rattle.fb_base.specs.Desk.{Seen}
use Rattle.book_top.proofs.Verifying.{bytes_verify, unfetched_verifies, bytes_may, unfetched_may_verify}
use Rattle.book_top.proofs.perform.verify.verify.Goals as goal

pub returns-in-Ok-clause-verifies : goal.returns-in-Ok-clause-verifies
returns-in-Ok-clause-verifies g c = λ told.
    bytes_verify _ _ _ c.in-Ok.bytes.items c.deref.result.now c.check_bytes.result c.check_bytes.ensures c.deref.ensures.value (c.in-Ok.ensures.bytes told)
    (ap (λ (s : Seen). s.files) c.fetch.ensures.same)

pub returns-in-Err-clause-verifies : goal.returns-in-Err-clause-verifies
returns-in-Err-clause-verifies g c = λ told.
    unfetched_verifies (g.D.Desk.seen c.args.desk.now) (g.D.Desk.seen c.fetch.new.desk) c.args.deriv.now c.in-Err.status c.in-Err.ensures.stopped (ap (λ (s : Seen). s.files) c.fetch.ensures.same) told

pub returns-in-Ok-clause-may : goal.returns-in-Ok-clause-may
returns-in-Ok-clause-may g c = bytes_may c.deref.result.now c.check_bytes.result c.check_bytes.ensures

pub returns-in-Err-clause-may : goal.returns-in-Err-clause-may
returns-in-Err-clause-may g c =
    unfetched_may_verify (g.D.Desk.seen c.args.desk.now) c.args.deriv.now c.in-Err.status c.in-Err.ensures.stopped
