use Rattle.std.proofs.Common.{◌≡◌, true, [], ap, sym, ◌∙◌, arith, rules, add-one}
use Rattle.std.specs.Prelude.{codes}
use Rattle.std.proofs.lemmas.Grind.{common_steps}
use Rattle.std.proofs.lemmas.Option.{get_or_from_slice_get}
use Rattle.ld_terms.specs.Item as item
use Rattle.ld_terms.specs.Bank.{item_at, tree_at, list_at}
use Rattle.ld_env.specs.Named.{names_of}
use Rattle.fb_show.specs.Cut.{own_names}
use Rattle.fb_show.specs.Display.{shown}
use Rattle.fb_show.specs.Shown.{own_numbered}
use Rattle.fb_show.proofs.Fills.{filled_then}
use Rattle.fb_show.proofs.Nodes.{high, avoids_tree, then_filled, enclosed_part, application, function, quantified, instantiated, domain_of_arrow, filling, before, listed}
use Rattle.fb_show.proofs.walk.+write.Goals as goal

pub binder-level-requires-clause-room : goal.binder-level-requires-clause-room
binder-level-requires-clause-room t c =
    let form : item.IsOne (item_at c.args.bank.now c.args.t) = search rules in
    let one = high (item_at c.args.bank.now c.args.t) form in
    omega (arith, one)

pub binder-returns-clause-filled : goal.binder-returns-clause-filled
binder-returns-clause-filled t c =
    then_filled c.put_words-3.result c.put_words-3.new.out.items (codes " . ")
    (filled_then (filled_then (filled_then c.in_ok-put_words.ensures.filled c.in_ok-level.ensures.filled) c.in_ok-put_words-2.ensures.filled) c.in_ok-write.ensures.filled)
    c.put_words-3.ensures.filled

pub part-returns-clause-filled : goal.part-returns-clause-filled
part-returns-clause-filled t c =
    let enclosed : c.args.enclosed ≡ true = grind (arith, common_steps) in
    enclosed_part c.put_words-2.result c.put_words-2.new.out.items c.args.enclosed
    (shown (own_numbered (own_names c.args.scope.now) c.args.base.now) (names_of c.args.env.now) c.args.depth (tree_at c.args.bank.now c.args.t)) enclosed
    c.in_ok-put_words.ensures.filled c.in_ok-write.ensures.filled c.put_words-2.ensures.filled

pub domain-returns-clause-filled : goal.domain-returns-clause-filled
domain-returns-clause-filled t c =
    let unused : c.args.unused ≡ true = grind (arith, common_steps) in
    domain_of_arrow c.put_words.result (own_names c.args.scope.now) c.args.base.now (names_of c.args.env.now) c.args.depth c.put_words.new.out.items
    (own_numbered (own_names c.args.scope.now) c.args.base.now c.args.depth) (tree_at c.args.bank.now c.args.t) c.args.unused c.is_open_ended.result unused c.is_open_ended.ensures
    c.in_ok-part.ensures.filled c.put_words.ensures.filled

pub before-returns-in_ok-list-in-Cons-clause-filled : goal.before-returns-in_ok-list-in-Cons-clause-filled
before-returns-in_ok-list-in-Cons-clause-filled t c =
    before c.put_words.result (own_names c.args.scope.now) c.args.base.now (names_of c.args.env.now) c.args.depth c.put_words.new.out.items
    (list_at c.args.bank.now c.args.t) (list_at c.args.bank.now c.in-Cons.field-1) (tree_at c.args.bank.now c.in-Cons.field-0) (ap item.list c.in-Cons.ensures.tree)
    c.in_ok-list-in-Cons.ensures.filled c.put_words.ensures.filled

pub filling-returns-in_ok-list-in-Cons-clause-filled : goal.filling-returns-in_ok-list-in-Cons-clause-filled
filling-returns-in_ok-list-in-Cons-clause-filled t c =
    filling c.put_words-in-Cons.result (own_names c.args.scope.now) c.args.base.now (names_of c.args.env.now) c.args.depth c.put_words-in-Cons.new.out.items
    (list_at c.args.bank.now c.args.t) (list_at c.args.bank.now c.in-Cons.field-1) (tree_at c.args.bank.now c.in-Cons.field-0) (ap item.list c.in-Cons.ensures.tree)
    c.in_ok-put_words-in-Cons.ensures.filled c.in_ok-list-in-Cons.ensures.filled c.put_words-in-Cons.ensures.filled

pub list-returns-in_ok-before-in-Cons-clause-filled : goal.list-returns-in_ok-before-in-Cons-clause-filled
list-returns-in_ok-before-in-Cons-clause-filled t c =
    listed c.write.result (own_names c.args.scope.now) c.args.base.now (names_of c.args.env.now) c.args.depth c.write.new.out.items
    (list_at c.args.bank.now c.args.t) (list_at c.args.bank.now c.in-Cons.us) (tree_at c.args.bank.now c.in-Cons.u) (ap item.list c.in-Cons.ensures.tree)
    c.in_ok-before-in-Cons.ensures.filled c.write.ensures.filled

pub write-returns-in_ok-put_words-in-App-clause-filled : goal.write-returns-in_ok-put_words-in-App-clause-filled
write-returns-in_ok-put_words-in-App-clause-filled t c =
    application c.part.result (own_names c.args.scope.now) c.args.base.now (names_of c.args.env.now) c.args.depth c.part.new.out.items
    (tree_at c.args.bank.now c.args.t) (tree_at c.args.bank.now c.in-App.f) (tree_at c.args.bank.now c.in-App.u) c.is_compound.result (ap item.tree c.in-App.ensures.tree) c.is_compound.ensures
    c.in_ok-head-in-App.ensures.filled c.in_ok-put_words-in-App.ensures.filled c.part.ensures.filled

pub write-returns-in_ok-binder-in-Lam-clause-filled : goal.write-returns-in_ok-binder-in-Lam-clause-filled
write-returns-in_ok-binder-in-Lam-clause-filled t c =
    function c.write.result (own_names c.args.scope.now) c.args.base.now (names_of c.args.env.now) c.args.depth c.write.new.out.items
    (tree_at c.args.bank.now c.args.t) (tree_at c.args.bank.now c.in-Lam.a) (tree_at c.args.bank.now c.in-Lam.m) _ (ap item.tree c.in-Lam.ensures.tree) (add-one c.args.depth)
    c.in_ok-binder-in-Lam.ensures.filled c.write.ensures.filled

pub write-returns-in_ok-domain-in-Pi-clause-filled : goal.write-returns-in_ok-domain-in-Pi-clause-filled
write-returns-in_ok-domain-in-Pi-clause-filled t c =
    quantified c.write-in-Pi.result (own_names c.args.scope.now) c.args.base.now (names_of c.args.env.now) c.args.depth c.write-in-Pi.new.out.items
    (tree_at c.args.bank.now c.args.t) (tree_at c.args.bank.now c.in-Pi.a) (tree_at c.args.bank.now c.in-Pi.b) _ c.avoids.result (ap item.tree c.in-Pi.ensures.tree) (add-one c.args.depth)
    (c.avoids.ensures ∙ avoids_tree (item_at c.args.bank.now c.in-Pi.b) 0 c.in-Pi.ensures.parts.1.form)
    c.in_ok-domain-in-Pi.ensures.filled c.write-in-Pi.ensures.filled

pub write-returns-in_ok-put-in-Const-clause-filled : goal.write-returns-in_ok-put-in-Const-clause-filled
write-returns-in_ok-put-in-Const-clause-filled t c =
    instantiated c.filling.result (own_names c.args.scope.now) c.args.base.now (names_of c.args.env.now) c.args.depth c.filling.new.out.items
    (tree_at c.args.bank.now c.args.t) c.in-Const.k (list_at c.args.bank.now c.in-Const.us) c.name.result.now (ap item.tree c.in-Const.ensures.tree)
    (sym (get_or_from_slice_get (names_of c.args.env.now) c.in-Const.k c.name.result.now [] c.name.ensures)) c.in_ok-put-in-Const.ensures.filled c.filling.ensures.filled
