use Rattle.std.proofs.Common.{◌≡◌, ap, ◌∙◌}
use Rattle.fb_scope.specs.Resolve.{made_under, further}
use Rattle.fb_scope.proofs.Marks.{mark_at, numbers_of}
use Rattle.fb_scope.proofs.scope.Scope.further.Goals as goal

pub returns : goal.returns
returns c =
    let mark : c.index.result.now ≡ made_under c.args.self.now c.args.k = mark_at c.args.self.now c.self.inside.marks.items c.args.k c.index.result.now (ap (λ s. s.marks) c.self.view_is) c.requires c.index.ensures in
    let nums = numbers_of c.args.self.now c.deref.result.now c.self.inside.flags.items c.deref.ensures.value (ap (λ s. s.flags) c.self.view_is) in
    c.further.ensures ∙ (λ i. further (mark i) (nums i))
