use Rattle.dr_check.proofs.Decoding.{decoded}
use Rattle.dr_check.proofs.decode.decode.Goals as goal

pub returns : goal.returns
returns c = decoded c.decode_parts.result c.args.rec.now c.decode_parts.ensures
