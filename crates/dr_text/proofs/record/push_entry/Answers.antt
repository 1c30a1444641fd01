use Rattle.std.proofs.Common.{ℕ, List, subst}
use Rattle.std.proofs.lemmas.Result.{on_ok_weaker}
use Rattle.dr_text.specs.Written.{Pushes, entry_record}
use Rattle.dr_text.proofs.Records.{pushes_entry}
use Rattle.dr_text.proofs.record.push_entry.Goals as goal

pub returns : goal.returns
returns c =
    let name = c.bytes-bytes.result.now in
    let P : List ℕ → Type 0 = λ bs. Pushes c.args.out.now.items c.push_numbers.new.out.items (entry_record c.args.prim bs c.args.j.now.0) in
    let Q : ℕ → Type 0 = λ n. Pushes c.args.out.now.items c.push_numbers.new.out.items (entry_record c.args.prim name n) in
    on_ok_weaker c.push_numbers.result
    (λ last. subst P c.bytes-bytes.ensures (subst Q c.number.ensures
    (pushes_entry c.args.out.now.items c.push_record.new.out.items c.push_bytes.new.out.items c.push_numbers.new.out.items c.args.prim name c.number.result c.entry_tag.result
    (c.entry_tag.ensures name c.number.result) c.in_ok-push_record.ensures.bytes c.in_ok-push_bytes.ensures.bytes last
    c.push_record.ensures.range.0 c.push_numbers.ensures.range.0 c.push_bytes.ensures.range)))
    c.push_numbers.ensures.bytes
