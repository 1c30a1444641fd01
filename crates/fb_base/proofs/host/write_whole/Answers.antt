use Rattle.std.proofs.Common.{◌++◌, take}
use Rattle.std.proofs.KnownBytes.{Appends-trans, Appends-kept}
use Rattle.fb_base.proofs.Streams.{write_more, front_written}
use Rattle.fb_base.proofs.host.write_whole.Goals as goal

pub loop-rest-preserved : goal.loop-rest-preserved
loop-rest-preserved g c =
    let (done, split, appended) = c.loop-rest.invariant in
    let rest = c.loop-rest.rest.now in
    let n = c.in-Ok.count in
    (done ++ take n rest, write_more _ done rest n split, Appends-trans _ _ _ _ _ appended c.in-Ok.ensures.bytes)

pub returns-in-Ok-eq0-clause-front : goal.returns-in-Ok-eq0-clause-front
returns-in-Ok-eq0-clause-front g c =
    let (done, split, appended) = c.loop-rest.invariant in
    let rest = c.loop-rest.rest.now in
    let n = c.in-Ok-eq0.field-0 in
    front_written _ _ _ (done ++ take n rest) _ (write_more _ done rest n split) (Appends-trans _ _ _ _ _ appended c.in-Ok-eq0.ensures.bytes)

pub returns-in-Err-clause-front : goal.returns-in-Err-clause-front
returns-in-Err-clause-front g c =
    let (done, split, appended) = c.loop-rest.invariant in
    front_written _ _ _ done _ split (Appends-kept _ _ _ _ appended c.in-Err.ensures.bytes)

pub returns-clause-front : goal.returns-clause-front
returns-clause-front g c =
    let (done, split, appended) = c.loop-rest.invariant in
    front_written _ _ _ done _ split (Appends-kept _ _ _ _ appended c.flush.ensures.bytes)
