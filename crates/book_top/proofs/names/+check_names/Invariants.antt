use Rattle.std.proofs.Common.{◌≡◌, drop}
use Rattle.ld_env.specs.Named.{names_of as names_in}
use Rattle.ld_terms.specs.Tree.{Tree}
use Rattle.fb_parse.specs.View.{views}
use Rattle.book_top.specs.Names.{applied}
use Rattle.book_top.proofs.names.+check_names.Given as goal

-- The scope is the same. Whatever the function is, the arguments that are left are those of some function.
abbrev pub invariant-check_arguments-loop-argument : goal.invariant-check_arguments-loop-argument
invariant-check_arguments-loop-argument l =
    (l.scope ≡ l.fn.scope)
    × ((f : Tree) → (g : Tree) × (applied l.fn.scope (names_in l.env) f (views l.arguments) ≡ applied l.fn.scope (names_in l.env) g (views (drop l.argument-index l.arguments))))
