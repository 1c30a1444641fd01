use Rattle.std.proofs.Common.{ap, sym, ◌∙◌}
use Rattle.ld_terms.specs.Derivable.{box}
use Rattle.ld_terms.specs.Item.{tree}
use Rattle.ld_infer.proofs.Going.{sort_known}
use Rattle.ld_infer.proofs.tests.enter_type.Goals as goal

pub enter-requires-clause-sort : goal.enter-requires-clause-sort
enter-requires-clause-sort c =
    let holds = c.in_ok-of.ensures.tree in
    let added = c.star_judgement.ensures.continues in
    sort_known _ _ _ _ _ _ added box c.in-Ok.ensures.number (sym (ap tree (added.items.kept _ holds.live ∙ holds.item)))
