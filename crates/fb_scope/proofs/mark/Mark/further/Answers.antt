use Rattle.std.proofs.Common.{◌≡◌, true, false, map, Some, sym, ap, ◌∙◌, arith}
use Rattle.std.specs.List.{list_all, zip}
use Rattle.fb_scope.specs.Resolve.{further}
use Rattle.fb_scope.proofs.Marks.{same_number, further-few, further-many, further-other}
use Rattle.fb_scope.proofs.mark.Mark.further.Goals as goal
use Rattle.fb_scope.proofs.mark.Mark.further.Goals.{then-len-flags-via-then-len-flags, then-len-flags-via-else-len-flags+then-not-begin_with}

pub returns-then-len-flags : goal.returns-then-len-flags
returns-then-len-flags c =
    let ns = c.self.inside.numbers.items in
    let flags = c.args.flags.now in
    let kept = ap (λ ns. further ns (map (λ f. f.number) flags)) c.self.view_is in
    elim c.then-len-flags.branch [
      | then-len-flags-via-then-len-flags w ↦ sym (further-few ns flags (omega arith)) ∙ kept
      | then-len-flags-via-else-len-flags+then-not-begin_with w ↦
          let apart : list_all same_number (zip ns flags) ≡ false = rw w.deref.ensures.value at (sym w.begin_with.ensures ∙ w.if-not-begin_with.true) in
          sym (further-other ns flags apart) ∙ kept
    ]

pub returns : goal.returns
returns c =
    let ns = c.self.inside.numbers.items in
    let flags = c.args.flags.now in
    let same : list_all same_number (zip ns flags) ≡ true = rw c.deref.ensures.value at (sym c.begin_with.ensures ∙ c.if-not-begin_with.false) in
    ap Some (omega arith) ∙ sym (further-many ns flags (omega arith) same) ∙ ap (λ ns. further ns (map (λ f. f.number) flags)) c.self.view_is
