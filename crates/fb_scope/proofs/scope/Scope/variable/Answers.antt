use Rattle.std.proofs.Common.{◌≡◌, length, reverse, position, Some, None, sym, ap, ◌∙◌, arith}
use Rattle.std.proofs.lemmas.List.{length-reverse}
use Rattle.fb_scope.specs.Resolve.{is_named}
use Rattle.fb_scope.proofs.Variables.{flag_place, binder_found, flag_found, no_variable}
use Rattle.fb_scope.proofs.scope.Scope.variable.Goals as goal

pub returns-in-Some : goal.returns-in-Some
returns-in-Some c =
    let at : reverse c.deref.result.now ≡ c.args.self.now.binders = ap reverse c.deref.ensures.value ∙ ap (λ s. s.binders) c.self.view_is in
    sym (binder_found c.args.name.now c.args.self.now c.in-Some.index (ap (position (is_named c.args.name.now)) (sym at) ∙ sym c.in-Some.ensures))

pub returns-in_err-index : goal.returns-in_err-index
returns-in_err-index c =
    let binders : reverse c.deref.result.now ≡ c.args.self.now.binders = ap reverse c.deref.ensures.value ∙ ap (λ s. s.binders) c.self.view_is in
    let flags : reverse c.deref-2.result.now ≡ c.args.self.now.flags = ap reverse c.deref-2.ensures.value ∙ ap (λ s. s.flags) c.self.view_is in
    let no_binder : position (is_named c.args.name.now) c.args.self.now.binders ≡ None = ap (position (is_named c.args.name.now)) (sym binders) ∙ sym c.in_default.ensures in
    let no_flag : flag_place c.args.name.now c.args.self.now.flags ≡ None = ap (flag_place c.args.name.now) (sym flags) ∙ sym c.in_err-index.ensures in
    c.from_residual.ensures ∙ sym (no_variable c.args.name.now c.args.self.now no_binder no_flag)

pub returns : goal.returns
returns c =
    let binders : reverse c.deref.result.now ≡ c.args.self.now.binders = ap reverse c.deref.ensures.value ∙ ap (λ s. s.binders) c.self.view_is in
    let flags : reverse c.deref-2.result.now ≡ c.args.self.now.flags = ap reverse c.deref-2.ensures.value ∙ ap (λ s. s.flags) c.self.view_is in
    let no_binder : position (is_named c.args.name.now) c.args.self.now.binders ≡ None = ap (position (is_named c.args.name.now)) (sym binders) ∙ sym c.in_default.ensures in
    let flag : flag_place c.args.name.now c.args.self.now.flags ≡ Some c.in_ok-index.index = ap (flag_place c.args.name.now) (sym flags) ∙ sym c.in_ok-index.ensures in
    let long : length c.args.self.now.binders ≡ length c.self.inside.binders.items = ap (λ s. length s.binders) (sym c.self.view_is) ∙ length-reverse c.self.inside.binders.items in
    ap Some (omega (arith, long)) ∙ sym (flag_found c.args.name.now c.args.self.now c.in_ok-index.index no_binder flag)
