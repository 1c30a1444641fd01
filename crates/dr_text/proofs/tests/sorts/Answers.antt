use Rattle.ld_terms.specs.Tree.{Star}
use Rattle.ld_terms.specs.Item.{One}
use Rattle.ld_record.proofs.Sampled.{holds_later}
use Rattle.dr_text.proofs.tests.sorts.Goals as goal

pub returns-clause-star : goal.returns-clause-star
returns-clause-star c = holds_later c.add.new.self c.add-2.new.self c.in_ok-star.star (One Star) c.add-2.ensures.kept c.in_ok-star.ensures.tree

pub returns-clause-box_sort : goal.returns-clause-box_sort
returns-clause-box_sort c = c.in_ok-box_sort.ensures.tree
