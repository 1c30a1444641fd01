use Rattle.ld_terms.specs.declared.bank.Node.TheVariants as node
use Rattle.ld_infer.proofs.Nodes.{node_tree}
use Rattle.ld_infer.proofs.Instances.{star_sorted}
use Rattle.ld_infer.proofs.leaf.sort_of_sort.Goals as goal

pub returns-in_ok-star_judgement-in-Star-clause-sorted : goal.returns-in_ok-star_judgement-in-Star-clause-sorted
returns-in_ok-star_judgement-in-Star-clause-sorted c =
    star_sorted _ _ _ _ c.star_judgement.ensures.continues (node_tree _ _ node.Star c.args.sort c.bank.ensures c.in-Star.ensures.tree) c.in_ok-star_judgement-in-Star.ensures.number
