use Rattle.ld_terms.specs.Tree.{Star, Box, Var}
use Rattle.ld_terms.specs.Item.{One}
use Rattle.ld_terms.proofs.Banks.{extends_trans}
use Rattle.ld_record.proofs.Sampled.{holds_later}
use Rattle.dr_text.proofs.variable_tests.variable_terms.Goals as goal

pub returns-clause-star : goal.returns-clause-star
returns-clause-star c =
    let kept = extends_trans c.add.new.self c.add-3.new.self c.add-4.new.self (extends_trans c.add.new.self c.add-2.new.self c.add-3.new.self c.add-2.ensures.kept c.add-3.ensures.kept) c.add-4.ensures.kept in
    holds_later c.add.new.self c.add-4.new.self c.in_ok-star.star (One Star) kept c.in_ok-star.ensures.tree

pub returns-clause-box_sort : goal.returns-clause-box_sort
returns-clause-box_sort c =
    holds_later c.add-2.new.self c.add-4.new.self c.in_ok-box_sort.box_sort (One Box) (extends_trans c.add-2.new.self c.add-3.new.self c.add-4.new.self c.add-3.ensures.kept c.add-4.ensures.kept) c.in_ok-box_sort.ensures.tree

pub returns-clause-first : goal.returns-clause-first
returns-clause-first c = holds_later c.add-3.new.self c.add-4.new.self c.in_ok-first.first (One (Var 0)) c.add-4.ensures.kept c.in_ok-first.ensures.tree

pub returns-clause-second : goal.returns-clause-second
returns-clause-second c = c.in_ok-second.ensures.tree
