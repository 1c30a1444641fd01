use Rattle.std.proofs.Common.{◌≡◌, ◌<◌, length, reverse, slice_get, Some, sym, ap, ◌∙◌, arith}
use Rattle.std.proofs.lemmas.List.{length-reverse}
use Rattle.fb_scope.specs.State.{flag_names}
use Rattle.fb_scope.proofs.Flags.{names-reverse, name_at}
use Rattle.fb_scope.proofs.scope.Scope.flag_name.Goals as goal

pub returns : goal.returns
returns c =
    let flags = c.self.inside.flags.items in
    let kept : c.args.self.now.flags ≡ reverse flags = ap (λ s. s.flags) (sym c.self.view_is) in
    let within : c.args.level < length flags = omega (arith, ap length kept, length-reverse flags) in
    ap (λ fs. slice_get (reverse (flag_names fs)) c.args.level) kept
    ∙ ap (λ ns. slice_get ns c.args.level) (names-reverse flags)
    ∙ name_at flags c.args.level c.index.result.now within c.index.ensures
    ∙ ap Some (sym c.bytes.ensures)
