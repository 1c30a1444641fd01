use Rattle.std.proofs.Common.{◌≡◌, ◌∷◌, ◌++◌, List, [], ℕ, map, reverse, sym, ap, subst, ◌∙◌, arith}
use Rattle.fb_scope.specs.State.{State, numbers, noted}
use Rattle.fb_scope.specs.Kept.{AreKept}
use Rattle.fb_scope.proofs.Marks.{numbers_of}
use Rattle.fb_scope.proofs.Kept.{kept-note}
use Rattle.fb_scope.proofs.scope.Scope.note.Goals as goal
use Rattle.fb_scope.proofs.scope.Scope.note.Goals.{in-Ok, in-Err}

pub returns-clause-ok : goal.returns-clause-ok
returns-clause-ok c =
    let nums = numbers_of c.args.self.now c.deref.result.now c.self.inside.flags.items c.deref.ensures.value (ap (λ s. s.flags) c.self.view_is) in
    let mark : c.in_ok-mark.mark ≡ numbers c.args.self.now.flags = c.in_ok-mark.ensures ∙ nums in
    let made : List (List ℕ) → State = λ ms. record { binders = reverse c.self.inside.binders.items; flags = reverse c.self.inside.flags.items; opened = c.self.inside.opened; marks = ms } in
    elim c.match-push.branch [
      | in-Ok w ↦ rw w.result-is (ap made (w.in-Ok.ensures.items ∙ ap (λ m. c.self.inside.marks.items ++ m ∷ []) (mark ∙ ap (λ s. numbers s.flags) (sym c.self.view_is))) ∙ ap noted c.self.view_is)
      | in-Err w ↦ rw w.result-is tt
    ]

pub invariant_of-self : goal.invariant_of-self
invariant_of-self c =
    let opened = c.self.inside.opened in
    let nums = map (λ f. f.number) c.self.inside.flags.items in
    let marks = c.self.inside.marks.items in
    let mark : c.in_ok-mark.mark ≡ nums = c.in_ok-mark.ensures ∙ ap (map (λ f. f.number)) c.deref.ensures.value in
    let kept : AreKept opened nums c.push.new.self.items =
    elim c.match-push.branch [
      | in-Ok w ↦ subst (AreKept opened nums) (sym (w.in-Ok.ensures.items ∙ ap (λ m. marks ++ m ∷ []) mark)) (kept-note opened nums marks c.self.invariant.2)
      | in-Err w ↦ subst (AreKept opened nums) (sym w.in-Err.ensures.items) c.self.invariant.2
    ] in
    (omega arith, omega arith, kept)
