use Rattle.std.proofs.Common.{subst, sym, Bool, length, ◌-◌}
use Rattle.std.specs.Prelude.{nat_eq}
use Rattle.dr_text.specs.Read.{Reading, Reads}
use Rattle.dr_text.proofs.Placing.{reads_record}
use Rattle.dr_text.proofs.reader.Records.next.Goals as goal

pub returns : goal.returns
returns c =
    let bytes = c.self.inside.bytes.now in
    let rest = c.in-Some-read_record.rest.now in
    let new : Reading = record { bytes = bytes; at = length bytes - length rest; ended = nat_eq c.in-Some.tag.now 96 } in
    let B : Bool → Type 0 = λ e. Reads (record { bytes = bytes; at = c.self.inside.at; ended = e }) new c.in-Some-read_record.rec in
    let R : Reading → Type 0 = λ old. Reads old new c.in-Some-read_record.rec in
    subst R c.self.view_is (subst B (sym c.if-self-2.false)
    (reads_record bytes c.self.inside.at c.split_at.result.1.now c.in-Some.tag.now c.in-Some.behind.now c.in-Some-read_record.rec rest
    c.self.invariant c.split_at.ensures.back (c.in-Some.ensures {u = tt}).cases.0 (c.in-Some-read_record.ensures {u = tt})))
