use Rattle.dr_text.proofs.Placing.{front_record}
use Rattle.dr_text.proofs.reader.read_record.Goals as goal

pub returns : goal.returns
returns c =
    let b = c.in-Some-read_body.field-0 in
    front_record c.args.tag c.in-Some.shape c.args.bytes.now b.before.now b.name.now b.behind.now b.rest.now (c.in-Some.ensures {u = tt}) (c.in-Some-read_body.ensures {u = tt})
