use Rattle.ld_record.proofs.sample.star.Goals as goal

pub add-requires : goal.add-requires
add-requires c = tt

pub returns-clause-tree : goal.returns-clause-tree
returns-clause-tree c = c.add.ensures.tree

pub returns-clause-kept : goal.returns-clause-kept
returns-clause-kept c = c.add.ensures.kept
