use Rattle.std.proofs.Common.{arith}
use Rattle.dr_text.proofs.Reading.{no_bytes, first_low, first_high, first_nowhere, answered}
use Rattle.dr_text.proofs.decode.read_number.Goals as goal

pub returns-in_default-clause-number : goal.returns-in_default-clause-number
returns-in_default-clause-number c = λ n rest small e. no_bytes c.args.bytes.now n rest (c.in_default.ensures {u = tt}).cases e

pub returns-then-first-lt128-clause-number : goal.returns-then-first-lt128-clause-number
returns-then-first-lt128-clause-number c = first_low c.in-Some.first.now c.in-Some.behind.now c.args.bytes.now (c.in-Some.ensures {u = tt}).cases.0 c.if-first-lt128.true

pub returns-clause-number : goal.returns-clause-number
returns-clause-number c =
    answered c.read_others.result _ _ _ _
    (λ none. first_nowhere c.in-Some.first.now c.in-Some.behind.now c.args.bytes.now (c.in-Some.ensures {u = tt}).cases.0 c.if-first-lt128.false none)
    (λ p g. first_high c.in-Some.first.now c.in-Some.behind.now c.args.bytes.now p.0 p.1.now (c.in-Some.ensures {u = tt}).cases.0 c.if-first-lt128.false (omega arith) g)
    c.read_others.ensures.number
