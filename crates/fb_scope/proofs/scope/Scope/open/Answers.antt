use Rattle.std.proofs.Common.{◌≡◌, ◌<◌, ◌+◌, ◌∷◌, ◌++◌, [], length, map, sym, ap, subst, ◌∙◌, arith}
use Rattle.std.proofs.lemmas.List.{length-reverse, length_push, map-append}
use Rattle.fb_scope.specs.Kept.{AreKept}
use Rattle.fb_scope.specs.declared.scope.Flag.{Flag}
use Rattle.fb_scope.proofs.Flags.{room}
use Rattle.fb_scope.proofs.Kept.{kept-push}
use Rattle.fb_scope.proofs.scope.Scope.open.Goals as goal

pub invariant_of-self : goal.invariant_of-self
invariant_of-self c =
    let flags = c.self.inside.flags.items in
    let opened = c.self.inside.opened in
    let flag : Flag = record { number = opened; name = c.in-Ok.name } in
    let items : c.push.new.self.items ≡ flags ++ flag ∷ [] = c.in-Ok-push.ensures.items in
    let open_now : length c.args.self.now.flags ≡ length flags = ap (λ s. length s.flags) (sym c.self.view_is) ∙ length-reverse flags in
    let few : length flags < 64 = let l = room c.args.name.now c.args.self.now.flags c.requires.free in omega arith in
    let more : length c.push.new.self.items ≡ length flags + 1 = ap length items ∙ length_push flags flag in
    let nums : map (λ f. f.number) c.push.new.self.items ≡ map (λ f. f.number) flags ++ opened ∷ [] = ap (map (λ f. f.number)) items ∙ map-append (λ f. f.number) flags (flag ∷ []) in
    (omega arith, omega arith, subst (λ ns. AreKept (opened + 1) ns c.self.inside.marks.items) (sym nums) (kept-push opened (map (λ f. f.number) flags) c.self.inside.marks.items c.self.invariant.2))
