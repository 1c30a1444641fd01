use Rattle.std.proofs.Common.{refl, Result, Ok, Err, IsOk, sym, subst, ◌∙◌}
use Rattle.ld_env.specs.Named.{names_of as names_in}
use Rattle.ld_terms.specs.Tree as spec
use Rattle.fb_parse.specs.View.{view, views}
use Rattle.fb_scope.specs.State.{State}
use Rattle.book_top.specs.declared.status.TextFault.{TextFault}
use Rattle.book_top.specs.Names.{tree_of, applied, implied_of, with_arguments}
use Rattle.book_top.specs.Built.{Reads}
use Rattle.book_top.proofs.Binds.{unread, unread_by, name_read, inst_read, apply_read, reads_arguments}
use Rattle.book_top.proofs.Applying.{arguments_unread, arguments_next, arguments_end}
use Rattle.book_top.proofs.Listing.{reads_listed}
use Rattle.book_top.proofs.names.+check_names.Goals as goal

pub check_names-returns-in_err-stands_for-in-Name-clause-answer : goal.check_names-returns-in_err-stands_for-in-Name-clause-answer
check_names-returns-in_err-stands_for-in-Name-clause-answer t c =
    let s = c.args.scope.now in
    let names = names_in c.args.env.now in
    let f = c.in_err-stands_for-in-Name.field-0.0 in
    unread (tree_of s names (view c.args.tree)) f c.from_residual.result
    (name_read s names c.args.tree c.in-Name.name c.as_bytes.result.now (Err f) c.in-Name.is c.as_bytes.ensures.value c.in_err-stands_for-in-Name.ensures)
    c.from_residual.ensures.1

pub check_names-returns-in_ok-stands_for-in-Name-clause-answer : goal.check_names-returns-in_ok-stands_for-in-Name-clause-answer
check_names-returns-in_ok-stands_for-in-Name-clause-answer t c =
    let s = c.args.scope.now in
    let names = names_in c.args.env.now in
    subst IsOk
    (sym (name_read s names c.args.tree c.in-Name.name c.as_bytes.result.now (Ok c.in_ok-stands_for-in-Name.field-0) c.in-Name.is c.as_bytes.ensures.value c.in_ok-stands_for-in-Name.ensures))
    refl

pub check_names-returns-in_err-stands_for-in-Inst-clause-answer : goal.check_names-returns-in_err-stands_for-in-Inst-clause-answer
check_names-returns-in_err-stands_for-in-Inst-clause-answer t c =
    let s = c.args.scope.now in
    let names = names_in c.args.env.now in
    let f = c.in_err-stands_for-in-Inst.field-0.0 in
    unread (tree_of s names (view c.args.tree)) f c.from_residual-in_err-stands_for-in-Inst.result
    (inst_read s names c.args.tree c.in-Inst.name c.in-Inst.arguments c.as_bytes-in-Inst.result.now c.given-given.result (Err f) c.in-Inst.is c.as_bytes-in-Inst.ensures.value c.given-given.ensures
    c.in_err-stands_for-in-Inst.ensures)
    c.from_residual-in_err-stands_for-in-Inst.ensures.1

pub check_names-returns-in_ok-stands_for-in-Inst-clause-answer : goal.check_names-returns-in_ok-stands_for-in-Inst-clause-answer
check_names-returns-in_ok-stands_for-in-Inst-clause-answer t c =
    let s = c.args.scope.now in
    let names = names_in c.args.env.now in
    let us = c.in-Inst.arguments in
    let f = c.in_ok-stands_for-in-Inst.field-0 in
    let q = c.check_arguments-in-Inst.result in
    let P : Result spec.Tree TextFault → Type 0 = λ r. Reads r q in
    subst P
    (sym (inst_read s names c.args.tree c.in-Inst.name us c.as_bytes-in-Inst.result.now c.given-given.result (Ok f) c.in-Inst.is c.as_bytes-in-Inst.ensures.value c.given-given.ensures c.in_ok-stands_for-in-Inst.ensures))
    (reads_listed s names spec.Star (implied_of s f) (views us.now) (with_arguments f) q (c.check_arguments-in-Inst.ensures.answer spec.Star))

pub check_names-returns-in_ok-check_names-in-Apply-clause-answer : goal.check_names-returns-in_ok-check_names-in-Apply-clause-answer
check_names-returns-in_ok-check_names-in-Apply-clause-answer t c =
    let s = c.args.scope.now in
    let names = names_in c.args.env.now in
    let us = c.in-Apply.arguments in
    let q = c.check_arguments.result in
    let P : Result spec.Tree TextFault → Type 0 = λ r. Reads r q in
    let Q : State → spec.Tree → Type 0 = λ x f. Reads (applied x names f (views us.now)) q in
    subst P (sym (apply_read s names c.args.tree c.in-Apply.function us c.in-Apply.is))
    (reads_arguments (tree_of s names (view c.in-Apply.function)) (λ g. applied s names g (views us.now)) q c.in_ok-check_names-in-Apply.ensures.answer
    (λ f. subst (λ x. Q x f) c.in_ok-check_names-in-Apply.ensures.same (c.check_arguments.ensures.answer f)))

pub check_arguments-loop-argument-init : goal.check_arguments-loop-argument-init
check_arguments-loop-argument-init t c = (refl, λ f. (f, refl))

pub check_arguments-returns-in_err-check_names-clause-answer : goal.check_arguments-returns-in_err-check_names-clause-answer
check_arguments-returns-in_err-check_names-clause-answer t c f =
    let s = c.args.scope.now in
    let names = names_in c.args.env.now in
    let us = c.args.arguments.now in
    let g = c.loop-argument.invariant.1 f in
    let P : State → Type 0 = λ x. Reads (tree_of x names (view c.argument-item.result)) (Err c.in_err-check_names.field-0.0) in
    unread_by (applied s names f (views us)) c.in_err-check_names.field-0.0 c.from_residual.result
    (arguments_unread s names f g.0 us c.loop-argument.argument-index c.argument-item.result c.in_err-check_names.field-0.0 c.loop-argument-test.true c.argument-item.is g.1
    (subst P c.loop-argument.invariant.0 c.in_err-check_names.ensures.answer))
    c.from_residual.ensures.1

pub check_arguments-loop-argument-preserved : goal.check_arguments-loop-argument-preserved
check_arguments-loop-argument-preserved t c =
    let P : State → Type 0 = λ x. IsOk (tree_of x (names_in c.args.env.now) (view c.argument-item.result)) in (
      c.in_ok-check_names.ensures.same ∙ c.loop-argument.invariant.0,
      λ f.
          let g = c.loop-argument.invariant.1 f in
          arguments_next c.args.scope.now (names_in c.args.env.now) f g.0 c.args.arguments.now c.loop-argument.argument-index c.argument-item.result c.loop-argument-test.true c.argument-item.is g.1
          (subst P c.loop-argument.invariant.0 c.in_ok-check_names.ensures.answer),
    )

pub check_arguments-returns-clause-answer : goal.check_arguments-returns-clause-answer
check_arguments-returns-clause-answer t c f =
    arguments_end c.args.scope.now (names_in c.args.env.now) f (c.loop-argument.invariant.1 f).0 c.args.arguments.now c.loop-argument.argument-index c.loop-argument-test.false (c.loop-argument.invariant.1 f).1
