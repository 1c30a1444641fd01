use Rattle.std.proofs.Common.{◌+◌, ◌-◌, ◌*◌}
use Rattle.ld_terms.specs.Bank.{list_at}
use Rattle.ld_record.specs.Follows.{entry_at}
use Rattle.ld_infer.specs.Standing.{env, account, KnowsPairs}
use Rattle.ld_infer.proofs.Judging.{AreBegun}
use Rattle.ld_infer.proofs.+infer.Given as goal

abbrev pub decreases-inference::infer_part : goal.decreases-inference::infer_part
decreases-inference::infer_part l = 10 * (1001 - l.nest) + 8

abbrev pub decreases-inference::sort_of_part : goal.decreases-inference::sort_of_part
decreases-inference::sort_of_part l = 10 * (1001 - l.nest) + 9

abbrev pub decreases-inference::type_again : goal.decreases-inference::type_again
decreases-inference::type_again l = 10 * (1001 - l.nest) + 1

abbrev pub decreases-inference::product : goal.decreases-inference::product
decreases-inference::product l = 10 * (1001 - l.nest) + 5

abbrev pub decreases-inference::domain_sort : goal.decreases-inference::domain_sort
decreases-inference::domain_sort l = 10 * (1001 - l.nest) + 3

abbrev pub decreases-inference::abstraction : goal.decreases-inference::abstraction
decreases-inference::abstraction l = 10 * (1001 - l.nest) + 5

abbrev pub decreases-inference::body_type : goal.decreases-inference::body_type
decreases-inference::body_type l = 10 * (1001 - l.nest) + 3

abbrev pub decreases-inference::application : goal.decreases-inference::application
decreases-inference::application l = 10 * (1001 - l.nest) + 5

abbrev pub decreases-function::function_type : goal.decreases-function::function_type
decreases-function::function_type l = 10 * (1001 - l.nest) + 4

abbrev pub decreases-function::product_type : goal.decreases-function::product_type
decreases-function::product_type l = 10 * (1001 - l.nest) + 3

abbrev pub decreases-function::exposed_product : goal.decreases-function::exposed_product
decreases-function::exposed_product l = 10 * (1001 - l.nest) + 2

abbrev pub decreases-argument::argument_judgement : goal.decreases-argument::argument_judgement
decreases-argument::argument_judgement l = 10 * (1001 - l.nest) + 4

abbrev pub decreases-argument::suited_judgement : goal.decreases-argument::suited_judgement
decreases-argument::suited_judgement l = 10 * (1001 - l.nest) + 3

abbrev pub decreases-argument::compared_judgement : goal.decreases-argument::compared_judgement
decreases-argument::compared_judgement l = 10 * (1001 - l.nest) + 2

abbrev pub decreases-inference::sort_of_type : goal.decreases-inference::sort_of_type
decreases-inference::sort_of_type l = 10 * (1001 - l.nest) + 2

abbrev pub decreases-instance::instance : goal.decreases-instance::instance
decreases-instance::instance l = 10 * (1001 - l.nest) + 7

abbrev pub decreases-instance::arguments : goal.decreases-instance::arguments
decreases-instance::arguments l = 10 * (1001 - l.nest) + 6

abbrev pub decreases-instance::argument : goal.decreases-instance::argument
decreases-instance::argument l = 10 * (1001 - l.nest) + 5

-- the arguments behind those that are left are judged
abbrev pub invariant-instance::arguments-loop-left : goal.invariant-instance::arguments-loop-left
invariant-instance::arguments-loop-left l =
    AreBegun l.fn.theory l.theory l.fn.nest l.fn.rule (entry_at (env l.fn.theory) l.fn.k).params (list_at l.fn.theory.items l.fn.us) l.left (account l.fn.theory l.fn.job) (account l.theory l.job) l.judges.items
    × KnowsPairs l.theory l.job.known

abbrev pub decreases-instance::arguments-loop-left : goal.decreases-instance::arguments-loop-left
decreases-instance::arguments-loop-left l = l.left
