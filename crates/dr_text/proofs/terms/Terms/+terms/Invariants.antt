use Rattle.std.proofs.Common.{◌+◌, ◌*◌}
use Rattle.ld_terms.specs.Item.{size, size_all, tree}
use Rattle.ld_terms.specs.Bank.{tree_at, list_at, item_of}
use Rattle.dr_text.proofs.terms.Terms.+terms.Given as goal

abbrev pub decreases-number_of : goal.decreases-number_of
decreases-number_of l = 3 * size (tree_at l.bank.now l.t) + 1

abbrev pub decreases-write : goal.decreases-write
decreases-write l = 3 * size (tree (item_of l.bank.now l.node))

abbrev pub decreases-numbers_of_two : goal.decreases-numbers_of_two
decreases-numbers_of_two l = 3 * (size (tree_at l.bank.now l.a) + size (tree_at l.bank.now l.b)) + 2

abbrev pub decreases-numbers_of : goal.decreases-numbers_of
decreases-numbers_of l = 3 * size_all (list_at l.bank.now l.us) + 1
