use Rattle.std.proofs.Common.{ℕ, refl, subst}
use Rattle.std.proofs.lemmas.Result.{on_ok_weaker}
use Rattle.ld_terms.specs.Record.{Record}
use Rattle.dr_text.specs.Written.{Pushes}
use Rattle.dr_text.proofs.Records.{pushes_plain}
use Rattle.dr_text.proofs.record.push_flag.Goals as goal

pub returns : goal.returns
returns c =
    let Q : ℕ → Type 0 = λ n. Pushes c.args.out.now.items c.push_record.new.out.items (Record.Flag n) in
    on_ok_weaker c.push_record.result
    (λ bytes. subst Q c.number.ensures (pushes_plain _ _ (Record.Flag c.number.result) refl refl bytes c.push_record.ensures.range))
    c.push_record.ensures.bytes
