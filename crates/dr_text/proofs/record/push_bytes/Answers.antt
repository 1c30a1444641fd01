use Rattle.dr_text.proofs.Records.{each_byte_fits}
use Rattle.dr_text.proofs.record.push_bytes.Goals as goal

pub returns-clause-range : goal.returns-clause-range
returns-clause-range c = each_byte_fits c.args.bytes.now c.type_inv.bytes
