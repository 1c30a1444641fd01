use Rattle.std.proofs.Common.{◌≡◌}
use Rattle.ld_terms.specs.Item.{One, Many, IsSmall}
use Rattle.ld_terms.specs.Bank.{tree_at, list_at, IsTermAt, IsListAt}
use Rattle.ld_infer.specs.Standing.{env, Continues}
use Rattle.book_top.specs.Book.{names_of}
use Rattle.book_top.proofs.Applying.{GoesOn}
use Rattle.book_top.proofs.Listing.{ListsOn}
use Rattle.book_top.proofs.build.+build.Given as goal

-- The term applied to the arguments that are left is the whole.
abbrev pub invariant-apply-loop-argument : goal.invariant-apply-loop-argument
invariant-apply-loop-argument l =
    (l.scope ≡ l.fn.scope)
    × Continues l.fn.theory l.theory
    × IsTermAt l.theory.items l.term
    × IsSmall (One (tree_at l.theory.items l.term))
    × GoesOn l.fn.scope (names_of (env l.fn.theory)) (tree_at l.fn.theory.items l.fn.function) (tree_at l.theory.items l.term) l.arguments l.argument-index

-- The list with the arguments that are left behind it is the whole.
abbrev pub invariant-list_on-loop-element : goal.invariant-list_on-loop-element
invariant-list_on-loop-element l =
    (l.scope ≡ l.fn.scope)
    × Continues l.fn.theory l.theory
    × IsListAt l.theory.items l.list
    × IsSmall (Many (list_at l.theory.items l.list))
    × ListsOn l.fn.scope (names_of (env l.fn.theory)) (list_at l.fn.theory.items l.fn.first) (list_at l.theory.items l.list) l.arguments l.element-index
