use Rattle.std.proofs.Common.{refl}
use Rattle.dr_text.proofs.Bodies.{parts_counted, no_first, no_count, no_others}
use Rattle.dr_text.proofs.body.read_counted.Goals as goal

pub returns-in_default : goal.returns-in_default
returns-in_default c = no_first c.args.front c.args.bytes.now (c.in_default.ensures {u = tt})

pub returns-in_default-read_number : goal.returns-in_default-read_number
returns-in_default-read_number c =
    no_count c.args.front c.args.bytes.now c.in-Some.field-0-0.now c.in-Some.counted.now (c.in-Some.ensures {u = tt}) (c.in_default-read_number.ensures {u = tt}).number

pub returns-in_default-split_numbers : goal.returns-in_default-split_numbers
returns-in_default-split_numbers c =
    no_others c.args.front c.in-Some-read_number.count c.args.bytes.now c.in-Some.field-0-0.now c.in-Some.counted.now c.in-Some-read_number.others.now
    (c.in-Some.ensures {u = tt}) (c.in-Some-read_number.ensures {u = tt}).number (c.in_default-split_numbers.ensures {u = tt})

pub returns : goal.returns
returns c =
    parts_counted c.args.front c.in-Some-read_number.count c.args.bytes.now c.in-Some.field-0-0.now c.in-Some.counted.now c.in-Some-read_number.others.now
    c.in-Some-split_numbers.field-0-0.now c.in-Some-split_numbers.rest.now c.split_at.result.0.now _ _
    (c.in-Some.ensures {u = tt}) (c.in-Some-read_number.ensures {u = tt}).number (c.in-Some-read_number.ensures {u = tt}).small
    (c.in-Some-split_numbers.ensures {u = tt}) c.split_at.ensures.front refl refl
