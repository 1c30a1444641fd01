use Rattle.std.proofs.Common.{◌≡◌, ◌<◌, ℕ, List, length, map, slice_get, Some, Result, IfOk, refl, sym, ap, subst, ◌∙◌, arith}
use Rattle.std.proofs.lemmas.Option.{slice_get_read}
use Rattle.fb_scope.specs.declared.fault.ScopeFault.{ScopeFault}
use Rattle.fb_scope.specs.declared.resolve.Found.{Found}
use Rattle.fb_scope.specs.Kept.{Agree, AreImplied}
use Rattle.fb_scope.proofs.Kept.{implied}
use Rattle.fb_scope.specs.State.{numbers}
use Rattle.fb_scope.specs.Resolve.{made_under, shared, instance_of}
use Rattle.fb_scope.proofs.Marks.{mark_at, numbers_of}
use Rattle.fb_scope.proofs.scope.Scope.instance.Goals as goal

pub returns-clause-found : goal.returns-clause-found
returns-clause-found c =
    let mark : c.index-mark.result.now ≡ made_under c.args.self.now c.args.k = mark_at c.args.self.now c.self.inside.marks.items c.args.k c.index-mark.result.now (ap (λ s. s.marks) c.self.view_is) c.requires c.index-mark.ensures in
    let nums = numbers_of c.args.self.now c.deref.result.now c.self.inside.flags.items c.deref.ensures.value (ap (λ s. s.flags) c.self.view_is) in
    let params : c.len.result ≡ length (made_under c.args.self.now c.args.k) = c.len.ensures.length ∙ ap length mark in
    let still_open : c.shared.result ≡ shared (made_under c.args.self.now c.args.k) (numbers c.args.self.now.flags) = c.shared.ensures.shared ∙ (λ i. shared (mark i) (nums i)) in
    c.instance_of.ensures ∙ (λ i. instance_of c.args.k (params i) (still_open i) c.args.given)

pub returns-clause-implied : goal.returns-clause-implied
returns-clause-implied c =
    let s = c.args.self.now in
    let marks = c.self.inside.marks.items in
    let mark : c.index-mark.result.now ≡ made_under s c.args.k = mark_at s marks c.args.k c.index-mark.result.now (ap (λ s. s.marks) c.self.view_is) c.requires c.index-mark.ensures in
    let nums = numbers_of s c.self.inside.flags.items c.self.inside.flags.items refl (ap (λ s. s.flags) c.self.view_is) in
    let inside : c.args.k < length marks = let l : c.args.k < length s.marks = c.requires in omega (arith, ap (λ s. length s.marks) c.self.view_is) in
    let read : slice_get marks c.args.k ≡ Some c.index-mark.result.now = slice_get_read marks (length marks) c.args.k c.index-mark.result.now refl inside c.index-mark.ensures in
    let agree : Agree c.index-mark.result.now (map (λ f. f.number) c.self.inside.flags.items) = (c.self.invariant.2.each c.args.k c.index-mark.result.now read).agree in
    let P : Result Found ScopeFault → Type 0 = λ r. IfOk r (AreImplied s) in
    subst P (sym (returns-clause-found c)) (implied s c.args.k c.args.given (subst (Agree (made_under s c.args.k)) nums (let Q : List ℕ → Type 0 = λ m. Agree m (map (λ f. f.number) c.self.inside.flags.items) in subst Q mark agree)))
