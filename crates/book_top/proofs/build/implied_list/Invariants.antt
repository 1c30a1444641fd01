use Rattle.ld_terms.specs.Item.{Many, IsSmall}
use Rattle.ld_terms.specs.Bank.{ListStandsFor}
use Rattle.ld_infer.specs.Standing.{Continues}
use Rattle.book_top.specs.Names.{implied, variable_count}
use Rattle.book_top.proofs.build.implied_list.Given as goal

-- the variables so far are in the list
abbrev pub invariant-loop-place : goal.invariant-loop-place
invariant-loop-place l =
    Continues l.fn.theory l.theory
    × ListStandsFor l.theory.items l.list (implied (variable_count l.fn.scope) l.place)
    × IsSmall (Many (implied (variable_count l.fn.scope) l.place))
