use Rattle.std.proofs.Common.{◌≡◌, ◌≤◌, List, length, map, min, take, reverse, sym, ap, subst, ◌∙◌, arith}
use Rattle.std.proofs.lemmas.List.{length-reverse, length-take, take-map}
use Rattle.fb_scope.specs.State.{State, left_to, closed_to}
use Rattle.fb_scope.specs.declared.scope.Flag.{Flag}
use Rattle.fb_scope.specs.Kept.{AreKept}
use Rattle.fb_scope.proofs.Lists.{drop-reverse}
use Rattle.fb_scope.proofs.Kept.{kept-take}
use Rattle.fb_scope.proofs.scope.Scope.leave_to.Goals as goal

pub returns-clause-ok : goal.returns-clause-ok
returns-clause-ok c =
    let flags = c.self.inside.flags.items in
    let kept : c.args.self.now.flags ≡ reverse flags = ap (λ s. s.flags) (sym c.self.view_is) in
    let within : c.args.bars ≤ length flags = omega (arith, ap length kept, length-reverse flags) in
    let left : reverse c.truncate.new.self.items ≡ closed_to c.args.bars (reverse flags) = ap reverse c.truncate.ensures.items ∙ sym (drop-reverse flags c.args.bars within) in
    let made : List Flag → State = λ fs. record { binders = reverse c.self.inside.binders.items; flags = fs; opened = c.self.inside.opened; marks = c.self.inside.marks.items } in
    ap made left ∙ ap (left_to c.args.bars) c.self.view_is

pub invariant_of-self : goal.invariant_of-self
invariant_of-self c =
    let flags = c.self.inside.flags.items in
    let items : c.truncate.new.self.items ≡ take c.args.bars flags = c.truncate.ensures.items in
    let fewer : length c.truncate.new.self.items ≡ min c.args.bars (length flags) = ap length items ∙ length-take c.args.bars flags in
    let nums : map (λ f. f.number) c.truncate.new.self.items ≡ take c.args.bars (map (λ f. f.number) flags) = ap (map (λ f. f.number)) items ∙ sym (take-map (λ f. f.number) c.args.bars flags) in
    (omega arith, omega arith, subst (λ ns. AreKept c.self.inside.opened ns c.self.inside.marks.items) (sym nums) (kept-take c.self.inside.opened (map (λ f. f.number) flags) c.self.inside.marks.items c.args.bars c.self.invariant.2))
