use Rattle.book_top.proofs.Verifying.{refused_bytes}
use Rattle.book_top.proofs.perform.verify.check_bytes.Goals as goal

pub returns-in-Err : goal.returns-in-Err
returns-in-Err c = refused_bytes c.args.bytes.now c.in-Err.fault c.refused.result c.in-Err.ensures c.refused.ensures
