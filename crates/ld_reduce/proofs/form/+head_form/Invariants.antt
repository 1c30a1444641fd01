use Rattle.std.proofs.Common.{option_copied, ◌+◌, ◌*◌}
use Rattle.ld_terms.specs.Bank.{tree_at}
use Rattle.ld_record.specs.Kept.{known_of}
use Rattle.ld_reduce.specs.Forms.{next_of, bound_of}
use Rattle.ld_reduce.proofs.Forming.{Going}
use Rattle.ld_reduce.proofs.form.+head_form.Given as goal

abbrev pub decreases-head_form : goal.decreases-head_form
decreases-head_form l = 2 * l.room + 1

abbrev pub decreases-part_form : goal.decreases-part_form
decreases-part_form l = 2 * l.room

abbrev pub invariant-head_form-steps : goal.invariant-head_form-steps
invariant-head_form-steps l =
    Going (next_of (option_copied l.fn.env) (known_of l.fn.bank l.fn.deriv).env) l.fn.room (bound_of (option_copied l.fn.env) (known_of l.fn.bank l.fn.deriv).env)
    (tree_at l.fn.bank l.fn.t) l.fn.bank l.bank l.fn.deriv l.deriv l.to l.equal l.fn.budget l.budget

abbrev pub decreases-head_form-steps : goal.decreases-head_form-steps
decreases-head_form-steps l = l.budget.left
