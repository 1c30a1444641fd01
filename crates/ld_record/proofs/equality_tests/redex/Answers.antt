use Rattle.std.proofs.Common.{subst, IfOk, ◌∙◌}
use mathlib.Core.Path.{ap₂}
use Rattle.ld_terms.specs.Tree.{Star, Var, App, Lam}
use Rattle.ld_terms.specs.Item.{Item, One, tree}
use Rattle.ld_terms.specs.Bank.{Holds}
use Rattle.ld_terms.proofs.Banks.{extends_trans}
use Rattle.ld_record.specs.Tests.{same_type}
use Rattle.ld_record.proofs.CallerLemmas.{term_there}
use Rattle.ld_record.proofs.Sampled.{holds_later}
use Rattle.ld_record.proofs.equality_tests.redex.Goals as goal

pub add-requires-2 : goal.add-requires-2
add-requires-2 c =
    let items = c.add.new.self in
    (term_there items c.args.star Star (holds_later c.args.bank.now items c.args.star (One Star) c.add.ensures.kept c.requires), term_there items c.in_ok-variable.variable (Var 0) c.in_ok-variable.ensures.tree)

pub add-requires-3 : goal.add-requires-3
add-requires-3 c =
    let first = c.add.new.self in
    let items = c.add-2.new.self in
    let function = c.in_ok-function.ensures.tree in
    let star = holds_later c.args.bank.now items c.args.star (One Star) (extends_trans c.args.bank.now first items c.add.ensures.kept c.add-2.ensures.kept) c.requires in
    let is = ap₂ (λ (x : Item) (y : Item). One (Lam (tree x) (tree y))) (holds_later c.args.bank.now first c.args.star (One Star) c.add.ensures.kept c.requires).item c.in_ok-variable.ensures.tree.item in
    let P : Item → Type 0 = λ x. Holds items c.in_ok-function.function x in
    (term_there items c.in_ok-function.function same_type (subst P is function), term_there items c.args.star Star star)

pub returns-clause-tree : goal.returns-clause-tree
returns-clause-tree c =
    let first = c.add.new.self in
    let items = c.add-2.new.self in
    let star = holds_later c.args.bank.now items c.args.star (One Star) (extends_trans c.args.bank.now first items c.add.ensures.kept c.add-2.ensures.kept) c.requires in
    let is = ap₂ (λ (x : Item) (y : Item). One (Lam (tree x) (tree y))) (holds_later c.args.bank.now first c.args.star (One Star) c.add.ensures.kept c.requires).item c.in_ok-variable.ensures.tree.item in
    let P : Item → Type 0 = λ x. IfOk c.add-3.result (λ t. Holds c.add-3.new.self t x) in
    subst P (ap₂ (λ (x : Item) (y : Item). One (App (tree x) (tree y))) (c.in_ok-function.ensures.tree.item ∙ is) star.item) c.add-3.ensures.tree

pub returns-clause-kept : goal.returns-clause-kept
returns-clause-kept c =
    extends_trans c.args.bank.now c.add.new.self c.add-3.new.self c.add.ensures.kept (extends_trans c.add.new.self c.add-2.new.self c.add-3.new.self c.add-2.ensures.kept c.add-3.ensures.kept)
