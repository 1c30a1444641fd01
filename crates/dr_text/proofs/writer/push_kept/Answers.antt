use Rattle.std.proofs.Common.{ℕ, refl, sym, subst}
use Rattle.std.proofs.lemmas.Result.{on_ok_weaker}
use Rattle.ld_terms.specs.Record.{Record}
use Rattle.ld_record.specs.declared.record.Kept.{Kept}
use Rattle.dr_text.specs.Written.{Pushes, WritesKept}
use Rattle.dr_text.proofs.Records.{pushes_plain}
use Rattle.dr_text.proofs.Carrying.{context_written, equal_written, node_written, entry_written, flag_written}
use Rattle.dr_text.proofs.writer.push_kept.Goals as goal

pub returns-in_ok-t-in-Context-clause-writes : goal.returns-in_ok-t-in-Context-clause-writes
returns-in_ok-t-in-Context-clause-writes c =
    let P : Kept → Type 0 = λ k. WritesKept c.args.bank.now c.args.terms.now c.number_of.new.self c.args.out.now.items c.push_record.new.out.items k in
    let Q : ℕ → Type 0 = λ n. Pushes c.number_of.new.out.items c.push_record.new.out.items (Record.Context n c.in_ok-t-in-Context.t) in
    on_ok_weaker c.push_record.result
    (λ bytes. subst P (sym c.in-Context.is)
    (context_written c.args.bank.now c.args.terms.now c.number_of.new.self _ c.number_of.new.out.items _ c.in-Context.ctx c.in-Context.t c.in_ok-t-in-Context.t
    c.in_ok-t-in-Context.ensures.number
    (subst Q c.number.ensures (pushes_plain _ _ (Record.Context c.number.result c.in_ok-t-in-Context.t) refl refl bytes c.push_record.ensures.range))))
    c.push_record.ensures.bytes

pub returns-in_ok-right-in-Equal-clause-writes : goal.returns-in_ok-right-in-Equal-clause-writes
returns-in_ok-right-in-Equal-clause-writes c =
    let P : Kept → Type 0 = λ k. WritesKept c.args.bank.now c.args.terms.now c.number_of-in-Equal-2.new.self c.args.out.now.items c.push_equal.new.out.items k in
    on_ok_weaker c.push_equal.result
    (λ pushes. subst P (sym c.in-Equal.is)
    (equal_written c.args.bank.now c.args.terms.now c.number_of-in-Equal.new.self c.number_of-in-Equal-2.new.self _ c.number_of-in-Equal.new.out.items c.number_of-in-Equal-2.new.out.items _
    c.in-Equal.left c.in-Equal.right c.in-Equal.step c.in_ok-left-in-Equal.left c.in_ok-right-in-Equal.right c.in_ok-left-in-Equal.ensures.number c.in_ok-right-in-Equal.ensures.number pushes))
    c.push_equal.ensures

pub returns-in_ok-of-in-Node-clause-writes : goal.returns-in_ok-of-in-Node-clause-writes
returns-in_ok-of-in-Node-clause-writes c =
    let P : Kept → Type 0 = λ k. WritesKept c.args.bank.now c.args.terms.now c.number_of-in-Node-2.new.self c.args.out.now.items c.push_node.new.out.items k in
    on_ok_weaker c.push_node.result
    (λ pushes. subst P (sym c.in-Node.is)
    (node_written c.args.bank.now c.args.terms.now c.number_of-in-Node.new.self c.number_of-in-Node-2.new.self _ c.number_of-in-Node.new.out.items c.number_of-in-Node-2.new.out.items _
    c.in-Node.judge c.in-Node.step c.in_ok-term-in-Node.term c.in_ok-of-in-Node.of c.in_ok-term-in-Node.ensures.number c.in_ok-of-in-Node.ensures.number pushes))
    c.push_node.ensures

pub returns-in-Entry-clause-writes : goal.returns-in-Entry-clause-writes
returns-in-Entry-clause-writes c =
    let P : Kept → Type 0 = λ k. WritesKept c.args.bank.now c.args.terms.now c.args.terms.now c.args.out.now.items c.push_entry.new.out.items k in
    on_ok_weaker c.push_entry.result
    (λ pushes. subst P (sym c.in-Entry.is) (entry_written c.args.bank.now c.args.terms.now _ _ c.in-Entry.name c.in-Entry.j c.in-Entry.prim pushes))
    c.push_entry.ensures

pub returns-in-Flag-clause-writes : goal.returns-in-Flag-clause-writes
returns-in-Flag-clause-writes c =
    let P : Kept → Type 0 = λ k. WritesKept c.args.bank.now c.args.terms.now c.args.terms.now c.args.out.now.items c.push_flag.new.out.items k in
    on_ok_weaker c.push_flag.result
    (λ pushes. subst P (sym c.in-Flag.is) (flag_written c.args.bank.now c.args.terms.now _ _ c.in-Flag.j pushes))
    c.push_flag.ensures
