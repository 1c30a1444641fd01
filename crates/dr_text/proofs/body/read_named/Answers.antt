use Rattle.std.proofs.Common.{arith}
use Rattle.dr_text.specs.Number.{number}
use Rattle.dr_text.proofs.Bodies.{bytes_of_part, parts_named, no_length, short_name, no_behind}
use Rattle.dr_text.proofs.Records.{each_byte_fits}
use Rattle.dr_text.proofs.body.read_named.Goals as goal

pub returns-in_default : goal.returns-in_default
returns-in_default c = no_length c.args.bytes.now (c.in_default.ensures {u = tt}).number

pub returns-then-len-named : goal.returns-then-len-named
returns-then-len-named c = short_name c.in-Some.len c.args.bytes.now c.in-Some.named.now (c.in-Some.ensures {u = tt}).number (omega (arith, c.if-len-named.true))

pub returns-in_default-split_numbers : goal.returns-in_default-split_numbers
returns-in_default-split_numbers c =
    no_behind c.in-Some.len c.args.bytes.now c.in-Some.named.now c.split_at.result.1.now (c.in-Some.ensures {u = tt}).number c.split_at.ensures.back
    (c.in_default-split_numbers.ensures {u = tt})

pub returns : goal.returns
returns c =
    parts_named c.in-Some.len c.args.bytes.now c.in-Some.named.now c.split_at.result.0.now c.split_at.result.1.now
    c.in-Some-split_numbers.behind.now c.in-Some-split_numbers.rest.now c.split_at-2.result.0.now
    (c.in-Some.ensures {u = tt}).number (omega (arith, c.if-len-named.false)) (c.in-Some.ensures {u = tt}).small
    c.split_at.ensures.front c.split_at.ensures.front_len c.split_at.ensures.back
    (bytes_of_part c.args.bytes.now (number c.in-Some.len) c.in-Some.named.now c.in-Some.len c.split_at.result.0.now (each_byte_fits c.args.bytes.now c.type_inv.bytes)
    (c.in-Some.ensures {u = tt}).number c.split_at.ensures.front) (c.in-Some-split_numbers.ensures {u = tt}) c.split_at-2.ensures.front
