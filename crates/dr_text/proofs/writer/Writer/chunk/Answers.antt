use Rattle.std.proofs.Common.{ℕ, List, refl, sym, subst}
use Rattle.dr_text.specs.declared.writer.Writer.{Writer}
use Rattle.dr_text.specs.Written.{Forgets, IsUndone}
use Rattle.dr_text.proofs.Undoing.{undone}
use Rattle.dr_text.proofs.writer.Writer.chunk.Goals as goal

pub returns-in-Err-clause-err : goal.returns-in-Err-clause-err
returns-in-Err-clause-err c =
    let old = c.args.self.now in
    let mid = c.append.new.self in
    let new : Writer = record { terms = c.forget_from.new.self; written = old.written; alloc = mid.alloc } in
    let F : ℕ → Type 0 = λ n. Forgets n mid.terms new.terms in
    let U : List ℕ → Type 0 = λ bytes. IsUndone old new c.args.out.now.items bytes in
    subst U (sym c.in-Err.ensures.err) (undone old mid new c.args.out.now.items c.in-Err.ensures.keeps (subst F c.count-terms.ensures c.forget_from.ensures) refl)
