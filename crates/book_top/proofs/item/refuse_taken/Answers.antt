use Rattle.std.proofs.Common.{ap, sym, subst, ◌∙◌, Some, None, Err, refl, IsOk}
use Rattle.fb_scope.proofs.Entries.{position_of}
use Rattle.book_top.specs.declared.status.TextFault.{TextFault}
use Rattle.book_top.specs.Verdict.{entry_free, TextRefused}
use Rattle.book_top.proofs.item.refuse_taken.Goals as goal

pub returns-in-Some-clause-tells : goal.returns-in-Some-clause-tells
returns-in-Some-clause-tells c =
    ap (entry_free c.args.at) (sym (position_of c.args.name.now c.args.env.now (Some c.in-Some.field-0) c.in-Some.ensures.distinct c.in-Some.ensures.place))
    ∙ ap (λ (f : TextFault). Err (TextRefused f)) (sym c.fault_at.ensures)

pub returns-in-None-clause-tells : goal.returns-in-None-clause-tells
returns-in-None-clause-tells c =
    subst (λ p. IsOk (entry_free c.args.at p)) (position_of c.args.name.now c.args.env.now None c.in-None.ensures.distinct c.in-None.ensures.place) refl
