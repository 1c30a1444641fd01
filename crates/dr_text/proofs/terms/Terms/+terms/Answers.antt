use Rattle.std.proofs.Common.{◌≡◌, ℕ, List, [], ◌∷◌, ◌++◌, arith, Result, Ok, Err, IfOk, OnOk, refl, ap, sym, ◌∙◌, subst}
use Rattle.std.proofs.lemmas.Result.{on_ok_weaker}
use Rattle.std.proofs.lemmas.Grind.{common_steps}
use Rattle.ld_terms.specs.Tree.{Trees, Nil, ◌▸◌}
use Rattle.ld_terms.specs.Tree as tree
use Rattle.ld_terms.specs.Item.{Item, One, Many, IsOne, IsSmall}
use Rattle.ld_terms.specs.Item as item
use Rattle.ld_terms.specs.Bank.{tree_at, list_at, item_of}
use Rattle.ld_terms.specs.Record.{Record}
use Rattle.ld_terms.specs.declared.bank.Node.{Node}
use Rattle.ld_terms.specs.declared.bank.Node.TheVariants as node
use Rattle.dr_text.specs.declared.terms.Terms.{Terms}
use Rattle.dr_text.specs.Written.{Pushes, NumbersAll, WritesTerm}
use Rattle.dr_text.proofs.Records.{pushes_plain}
use Rattle.dr_text.proofs.Numbering.{numbered_there, numbered_last, all_numbered_none, all_numbered_more, two_numbered, alone_written, pair_written, instance_written}
use Rattle.dr_text.proofs.terms.Terms.+terms.Goals as goal

-- what the calls give, at the value of an `Ok`
if_ok_three : {T E Q S : Type 0} {P P' : T → Type 0} (r : Result T E) (R : T → Type 0) → ((n : T) → P n → P' n → Q → S → R n) → IfOk r P → IfOk r P' → OnOk r Q → OnOk r S → IfOk r R
if_ok_three (Ok n) R f p p' q s = f n p p' q s
if_ok_three (Err e) R f p p' q s = tt

in_form : (items : List Item) (old new : Terms) (before later : List ℕ) (n m : Node) → n ≡ m
    → WritesTerm items old new before later (item.tree (item_of items m)) → WritesTerm items old new before later (item.tree (item_of items n))
in_form items old new before later n m is writes =
    let P : Node → Type 0 = λ x. WritesTerm items old new before later (item.tree (item_of items x)) in subst P (sym is) writes

small_in : (items : List Item) (n m : Node) → n ≡ m → IsSmall (item_of items n) → IsSmall (item_of items m)
small_in items n m is small = let P : Node → Type 0 = λ x. IsSmall (item_of items x) in subst P is small

pub number_of-returns-in-Some-clause-number : goal.number_of-returns-in-Some-clause-number
number_of-returns-in-Some-clause-number t c =
    numbered_there c.args.bank.now c.args.self.now c.args.out.now.items c.args.t c.in-Some.number (sym c.find.ensures ∙ c.in-Some.is)

pub number_of-returns-clause-number : goal.number_of-returns-clause-number
number_of-returns-clause-number t c =
    if_ok_three c.keep.result _
    (λ n number at others count. numbered_last c.args.bank.now c.args.self.now c.write.new.self c.keep.new.self c.args.out.now.items c.write.new.out.items c.args.t _ n
    c.requires.live (ap item.tree c.node.ensures.tree) (c.in_ok-write.ensures.writes) number at others count)
    c.keep.ensures.number c.keep.ensures.term c.keep.ensures.others c.keep.ensures.written

pub numbers_of-returns-in_ok-map_err-in-Cons-clause-numbers : goal.numbers_of-returns-in_ok-map_err-in-Cons-clause-numbers
numbers_of-returns-in_ok-map_err-in-Cons-clause-numbers t c =
    let pushed : c.push.new.self.items ≡ c.in_ok-numbers-in-Cons.numbers.items ++ c.in_ok-number-in-Cons.number ∷ [] = grind (arith, common_steps) in
    let all = all_numbered_more c.args.bank.now c.args.self.now c.numbers_of.new.self c.number_of.new.self c.args.out.now.items c.numbers_of.new.out.items c.number_of.new.out.items
    (list_at c.args.bank.now c.in-Cons.front) (tree_at c.args.bank.now c.in-Cons.u) c.in_ok-numbers-in-Cons.numbers.items c.in_ok-number-in-Cons.number
    (c.in_ok-numbers-in-Cons.ensures.numbers) c.in_ok-number-in-Cons.ensures.number in
    let P : Trees → Type 0 = λ us. NumbersAll c.args.bank.now c.args.self.now c.number_of.new.self c.args.out.now.items c.number_of.new.out.items us c.push.new.self.items in
    let Q : List ℕ → Type 0 = λ ns. NumbersAll c.args.bank.now c.args.self.now c.number_of.new.self c.args.out.now.items c.number_of.new.out.items
    (list_at c.args.bank.now c.in-Cons.front ▸ tree_at c.args.bank.now c.in-Cons.u) ns in
    subst P (ap item.list c.in-Cons.ensures.tree) (subst Q (sym pushed) all)

pub numbers_of-returns-in-Nil-clause-numbers : goal.numbers_of-returns-in-Nil-clause-numbers
numbers_of-returns-in-Nil-clause-numbers t c =
    let P : Trees → Type 0 = λ us. NumbersAll c.args.bank.now c.args.self.now c.args.self.now c.args.out.now.items c.args.out.now.items us c.new.result.items in
    let Q : List ℕ → Type 0 = λ ns. NumbersAll c.args.bank.now c.args.self.now c.args.self.now c.args.out.now.items c.args.out.now.items Nil ns in
    let none : c.new.result.items ≡ [] = grind (arith, common_steps) in
    subst P (ap item.list c.in-Nil.ensures.tree) (subst Q (sym none) (all_numbered_none c.args.bank.now c.args.self.now c.args.out.now.items))

pub numbers_of_two-returns-clause-numbers : goal.numbers_of_two-returns-clause-numbers
numbers_of_two-returns-clause-numbers t c =
    two_numbered c.args.bank.now c.args.self.now c.number_of.new.self c.number_of-2.new.self c.args.out.now.items c.number_of.new.out.items c.number_of-2.new.out.items
    (tree_at c.args.bank.now c.args.a) (tree_at c.args.bank.now c.args.b) c.in_ok-first.first c.in_ok-second.second
    c.in_ok-first.ensures.number c.in_ok-second.ensures.number

pub write-returns-in-Star-clause-writes : goal.write-returns-in-Star-clause-writes
write-returns-in-Star-clause-writes t c =
    on_ok_weaker c.push_record.result
    (λ bytes. in_form c.args.bank.now _ _ _ _ c.args.node node.Star c.in-Star.is
    (alone_written c.args.bank.now c.args.self.now _ _ tree.Star Record.Star tt (pushes_plain _ _ Record.Star refl refl bytes c.push_record.ensures.range)
    (λ s. tt) (λ s. tt) (λ s. refl)))
    c.push_record.ensures.bytes

pub write-returns-in-Box_-clause-writes : goal.write-returns-in-Box_-clause-writes
write-returns-in-Box_-clause-writes t c =
    on_ok_weaker c.push_record-in-Box_.result
    (λ bytes. in_form c.args.bank.now _ _ _ _ c.args.node node.Box_ c.in-Box_.is
    (alone_written c.args.bank.now c.args.self.now _ _ tree.Box Record.Box tt (pushes_plain _ _ Record.Box refl refl bytes c.push_record-in-Box_.ensures.range)
    (λ s. tt) (λ s. tt) (λ s. refl)))
    c.push_record-in-Box_.ensures.bytes

pub write-returns-in-Var-clause-writes : goal.write-returns-in-Var-clause-writes
write-returns-in-Var-clause-writes t c =
    let small = small_in c.args.bank.now c.args.node (node.Var c.in-Var.index) c.in-Var.is c.requires.small in
    on_ok_weaker c.push_record-in-Var.result
    (λ bytes. in_form c.args.bank.now _ _ _ _ c.args.node (node.Var c.in-Var.index) c.in-Var.is
    (alone_written c.args.bank.now c.args.self.now _ _ (tree.Var c.in-Var.index) (Record.Var c.in-Var.index) tt
    (pushes_plain _ _ (Record.Var c.in-Var.index) refl refl bytes c.push_record-in-Var.ensures.range)
    (λ s. tt) (λ s. small) (λ s. refl)))
    c.push_record-in-Var.ensures.bytes

pub write-returns-in_ok-f-in-App-clause-writes : goal.write-returns-in_ok-f-in-App-clause-writes
write-returns-in_ok-f-in-App-clause-writes t c =
    let n = node.App c.in-App.f c.in-App.u in
    let small = small_in c.args.bank.now c.args.node n c.in-App.is c.requires.small in
    let r = Record.App c.in_ok-f-in-App.f c.in_ok-f-in-App.u in
    on_ok_weaker c.push_record-in-App.result
    (λ bytes. in_form c.args.bank.now _ _ _ _ c.args.node n c.in-App.is
    (pair_written c.args.bank.now c.args.self.now c.numbers_of_two.new.self _ _ _ (tree_at c.args.bank.now c.in-App.f) (tree_at c.args.bank.now c.in-App.u)
    c.in_ok-f-in-App.f c.in_ok-f-in-App.u tree.App r (λ x p q. (p, q)) (λ x h. h) (λ x. refl) (λ env h. h) tt small (c.in_ok-f-in-App.ensures.numbers)
    (pushes_plain _ _ r refl refl bytes c.push_record-in-App.ensures.range)))
    c.push_record-in-App.ensures.bytes

pub write-returns-in_ok-a-in-Lam-clause-writes : goal.write-returns-in_ok-a-in-Lam-clause-writes
write-returns-in_ok-a-in-Lam-clause-writes t c =
    let n = node.Lam c.in-Lam.a c.in-Lam.m in
    let small = small_in c.args.bank.now c.args.node n c.in-Lam.is c.requires.small in
    let r = Record.Lam c.in_ok-a-in-Lam.a c.in_ok-a-in-Lam.m in
    on_ok_weaker c.push_record-in-Lam.result
    (λ bytes. in_form c.args.bank.now _ _ _ _ c.args.node n c.in-Lam.is
    (pair_written c.args.bank.now c.args.self.now c.numbers_of_two-in-Lam.new.self _ _ _ (tree_at c.args.bank.now c.in-Lam.a) (tree_at c.args.bank.now c.in-Lam.m)
    c.in_ok-a-in-Lam.a c.in_ok-a-in-Lam.m tree.Lam r (λ x p q. (p, q)) (λ x h. h) (λ x. refl) (λ env h. h) tt small (c.in_ok-a-in-Lam.ensures.numbers)
    (pushes_plain _ _ r refl refl bytes c.push_record-in-Lam.ensures.range)))
    c.push_record-in-Lam.ensures.bytes

pub write-returns-in_ok-a-in-Pi-clause-writes : goal.write-returns-in_ok-a-in-Pi-clause-writes
write-returns-in_ok-a-in-Pi-clause-writes t c =
    let n = node.Pi c.in-Pi.a c.in-Pi.b in
    let small = small_in c.args.bank.now c.args.node n c.in-Pi.is c.requires.small in
    let r = Record.Pi c.in_ok-a-in-Pi.a c.in_ok-a-in-Pi.b in
    on_ok_weaker c.push_record-in-Pi.result
    (λ bytes. in_form c.args.bank.now _ _ _ _ c.args.node n c.in-Pi.is
    (pair_written c.args.bank.now c.args.self.now c.numbers_of_two-in-Pi.new.self _ _ _ (tree_at c.args.bank.now c.in-Pi.a) (tree_at c.args.bank.now c.in-Pi.b)
    c.in_ok-a-in-Pi.a c.in_ok-a-in-Pi.b tree.Pi r (λ x p q. (p, q)) (λ x h. h) (λ x. refl) (λ env h. h) tt small (c.in_ok-a-in-Pi.ensures.numbers)
    (pushes_plain _ _ r refl refl bytes c.push_record-in-Pi.ensures.range)))
    c.push_record-in-Pi.ensures.bytes

pub write-returns-in_ok-arguments-in-Const-clause-writes : goal.write-returns-in_ok-arguments-in-Const-clause-writes
write-returns-in_ok-arguments-in-Const-clause-writes t c =
    let n = node.Const c.in-Const.k c.in-Const.us in
    let small = small_in c.args.bank.now c.args.node n c.in-Const.is c.requires.small in
    let P : List ℕ → Type 0 = λ ns. Pushes c.numbers_of.new.out.items c.push_instance.new.out.items (Record.Const c.in-Const.k ns) in
    on_ok_weaker c.push_instance.result
    (λ pushes. in_form c.args.bank.now _ _ _ _ c.args.node n c.in-Const.is
    (instance_written c.args.bank.now c.args.self.now c.numbers_of.new.self _ _ _ c.in-Const.k (list_at c.args.bank.now c.in-Const.us)
    c.in_ok-arguments-in-Const.arguments.items small (c.in_ok-arguments-in-Const.ensures.numbers) (subst P c.deref.ensures.value pushes)))
    c.push_instance.ensures
