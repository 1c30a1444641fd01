use Rattle.std.proofs.Common.{[], arith}
use Rattle.dr_text.proofs.tests.written.Goals as goal

pub chunk-requires-clause-written : goal.chunk-requires-clause-written
chunk-requires-clause-written c = omega (arith, (c.new.ensures []).within)
