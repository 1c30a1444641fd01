-- The type of a term by its form, and the sort of a term, of a domain and of a type.
use Rattle.std.proofs.Common.{◌≡◌, ◌+◌, ◌-◌, ◌≤◌, ℕ, List, Bool, false, Result, Err, refl, ap, sym, subst, arith}
use Rattle.std.specs.Prelude.{is_some}
use Rattle.ld_terms.specs.Tree.{Box, count}
use Rattle.ld_terms.specs.Item.{Item, tree}
use Rattle.ld_terms.specs.Bank.{item_at, item_of, tree_at}
use Rattle.ld_terms.specs.declared.bank.TermId.{TermId}
use Rattle.ld_terms.specs.declared.bank.Node.{Node}
use Rattle.ld_terms.specs.declared.bank.Node.TheVariants as node
use Rattle.ld_infer.specs.declared.failure.RuleName.TheVariants as rule
use Rattle.ld_infer.specs.declared.failure.PathStep.TheVariants.{Dom}
use Rattle.ld_infer.specs.declared.failure.InferFault.{InferFault}
use Rattle.ld_infer.specs.declared.inference.Typed.{Typed}
use Rattle.ld_reduce.specs.Task.{gives}
use Rattle.ld_convert.specs.Compares.{Compares}
use Rattle.ld_infer.specs.Account.{Account}
use Rattle.ld_infer.specs.Reading.{Asked, Types, SortOf, reading, read_within, part_reading, again_unless, refused, refusal, NoType, found, type_in, variable_reading}
use Rattle.ld_infer.specs.Standing.{Standing, env, account}
use Rattle.ld_infer.specs.Infers.{Infers, InfersSort, TypesAgain}
use Rattle.ld_infer.proofs.Stopping.{stops_within, gives_within, refused_by}
use Rattle.ld_infer.proofs.Nodes.{node_item, node_tree, sort_node, sort_tested, no_sort_node}
use Rattle.ld_infer.proofs.Sorts.{at_err, fails_now, reads, sort_given, sort_stops, typed_again}
use Rattle.ld_infer.proofs.Inferring.{sort_come}
use Rattle.ld_infer.proofs.Exposure.{sort_later}
use Rattle.ld_infer.proofs.Pairs.{told_later}
use Rattle.ld_infer.proofs.+infer.Goals as goal

-- a term is read by the form that its node has
by_form : (a z : Standing) (nest : ℕ) (q : Asked) (t : TermId) (bank : List Item) (n : Node) (w w' : Account) (r : Result Typed InferFault) → nest ≤ 1000 → bank ≡ a.items → item_of bank n ≡ item_at bank t
    → Infers a z (reading (env a) (Compares (env a) (nest + 1)) (part_reading nest (env a)) a.context q (tree (item_of a.items n))) t w w' r → Infers a z (Types (env a) a.context nest q (tree_at a.items t)) t w w' r
by_form a z nest q t bank n w w' r less same is h =
    reads (env a) a.context nest q (tree_at a.items t) (tree (item_of a.items n)) (λ p. Infers a z p t w w' r) less (node_tree bank a.items n t same is) h

pub infer_part-in-Star-answer : goal.inference::infer_part-returns-in-Star-clause-answer
infer_part-in-Star-answer t c =
    let a = c.args.theory.now in
    let z = c.star.new.theory in
    let before = account a c.args.job.now in
    by_form a z c.args.nest c.args.asked c.args.t c.bank.result.now node.Star before (account z c.args.job.now) c.star.result (omega arith) c.bank.ensures c.in-Star.ensures.tree
    (told_later a z c.args.job.now (λ w. Infers a z (gives (found Box false)) c.args.t before w c.star.result) c.star.ensures.continues c.requires.pairs (c.star.ensures.answer before))

pub infer_part-in-Box_-answer : goal.inference::infer_part-returns-in-Box_-clause-answer
infer_part-in-Box_-answer t c =
    let a = c.args.theory.now in
    let before = account a c.args.job.now in
    by_form a a c.args.nest c.args.asked c.args.t c.bank.result.now node.Box_ before before (Err c.refusal.result) (omega arith) c.bank.ensures c.in-Box_.ensures.tree
    (refused_by a.items (refused (count a.context) c.args.asked NoType) (refusal c.args.asked (count a.context) NoType) c.refusal.result before before (c.refusal.ensures a.items) (fails_now _ before))

pub infer_part-in-Var-answer : goal.inference::infer_part-returns-in-Var-clause-answer
infer_part-in-Var-answer t c =
    let a = c.args.theory.now in
    let z = c.variable.new.theory in
    let before = account a c.args.job.now in
    by_form a z c.args.nest c.args.asked c.args.t c.bank.result.now (node.Var c.in-Var.i) before (account z c.args.job.now) c.variable.result (omega arith) c.bank.ensures c.in-Var.ensures.tree
    (told_later a z c.args.job.now (λ w. Infers a z (variable_reading (type_in a.context c.in-Var.i)) c.args.t before w c.variable.result) c.variable.ensures.continues c.requires.pairs (c.variable.ensures.answer before))

pub infer_part-in-Pi-answer : goal.inference::infer_part-returns-in-Pi-clause-answer
infer_part-in-Pi-answer t c = by_form _ _ c.args.nest _ _ c.bank.result.now (node.Pi c.in-Pi.a c.in-Pi.b) _ _ c.product.result (omega arith) c.bank.ensures c.in-Pi.ensures.tree c.product.ensures.answer

pub infer_part-in-Lam-answer : goal.inference::infer_part-returns-in-Lam-clause-answer
infer_part-in-Lam-answer t c = by_form _ _ c.args.nest _ _ c.bank.result.now (node.Lam c.in-Lam.a c.in-Lam.m) _ _ c.abstraction.result (omega arith) c.bank.ensures c.in-Lam.ensures.tree c.abstraction.ensures.answer

pub infer_part-in-App-answer : goal.inference::infer_part-returns-in-App-clause-answer
infer_part-in-App-answer t c = by_form _ _ c.args.nest _ _ c.bank.result.now (node.App c.in-App.f c.in-App.u) _ _ c.application.result (omega arith) c.bank.ensures c.in-App.ensures.tree c.application.ensures.answer

pub infer_part-in-Const-answer : goal.inference::infer_part-returns-in-Const-clause-answer
infer_part-in-Const-answer t c = by_form _ _ c.args.nest _ _ c.bank.result.now (node.Const c.in-Const.k c.in-Const.us) _ _ c.instance.result (omega arith) c.bank.ensures c.in-Const.ensures.tree c.instance.ensures.answer

pub sort_of_part-in_err-typed-answer : goal.inference::sort_of_part-returns-in_err-typed-clause-answer
sort_of_part-in_err-typed-answer t c =
    let a = c.args.theory.now in
    let before = account a c.args.job.now in
    let b = c.infer_part.new.theory in
    at_err (InfersSort a b (SortOf (env a) a.context c.args.nest c.args.asked (tree_at a.items c.args.t)) c.args.t before (account c.infer_part.new.theory c.infer_part.new.job)) c.from_residual.result c.in_err-typed.field-0.0 c.from_residual.ensures.1
    (sort_stops (env a) (count a.context) (read_within (1001 - c.args.nest) (env a) a.context) c.args.asked b.items (tree_at a.items c.args.t) c.in_err-typed.field-0.0 before (account c.infer_part.new.theory c.infer_part.new.job) c.in_err-typed.ensures.answer)

pub sort_of_part-in-Star-answer : goal.inference::sort_of_part-returns-in-Star-clause-answer
sort_of_part-in-Star-answer t c =
    let a = c.args.theory.now in
    let before = account a c.args.job.now in
    let b = c.infer_part.new.theory in
    let x = c.in_ok-typed.typed in
    let h = c.in_ok-typed.ensures.answer in
    let sort = sort_node b.items c.node.result x.of c.in-Star.is (node_item c.bank.result.now b.items c.node.result x.of c.bank.ensures c.node.ensures.tree) in
    record {
      has = record { term = h.term; sort = sort; judged = h.judged };
      gives = sort_given (env a) (count a.context) (read_within (1001 - c.args.nest) (env a) a.context) c.args.asked (tree_at a.items c.args.t) (tree_at b.items x.of) (is_some x.of_judge)
          before (account c.infer_part.new.theory c.infer_part.new.job) h.gives (sort_tested (tree_at b.items x.of) sort);
    }

pub sort_of_part-in_default-answer : goal.inference::sort_of_part-returns-in_default-clause-answer
sort_of_part-in_default-answer t c =
    let a = c.args.theory.now in
    let before = account a c.args.job.now in
    let b = c.infer_part.new.theory in
    let x = c.in_ok-typed.typed in
    let h = c.in_ok-typed.ensures.answer in
    sort_later a b c.exposed_sort.new.theory c.args.t x before (account c.infer_part.new.theory c.infer_part.new.job) (account c.exposed_sort.new.theory c.exposed_sort.new.job) c.infer_part.ensures.continues c.requires.term.0 c.args.nest c.args.asked c.exposed_sort.result h
    (no_sort_node b.items c.node.result x.of c.in_default.not-Star c.in_default.not-Box_ h.term (node_item c.bank.result.now b.items c.node.result x.of c.bank.ensures c.node.ensures.tree))
    c.exposed_sort.ensures.answer

pub domain_sort-in-Ok-answer : goal.inference::domain_sort-returns-in-Ok-clause-answer
domain_sort-in-Ok-answer t c = let h = c.in-Ok.ensures.answer in record { has = h.has; gives = gives_within Dom _ _ _ _ h.gives }

pub domain_sort-in-Err-answer : goal.inference::domain_sort-returns-in-Err-clause-answer
domain_sort-in-Err-answer t c = stops_within c.sort_of_part.new.theory.items Dom _ c.in-Err.fault c.within.result _ _ c.in-Err.ensures.answer c.within.ensures

pub type_again-answer : goal.inference::type_again-returns-clause-answer
type_again-answer t c =
    let a = c.args.theory.now in
    let before = account a c.args.job.now in
    typed_again a c.sort_of_part.new.theory c.args.nest c.args.asked c.args.t before (account a (record c.args.job.now { budget = c.step.new.self })) (account c.sort_of_part.new.theory c.sort_of_part.new.job)
    (record { left = c.in_ok-step.ensures.ok.left; spent = c.in_ok-step.ensures.ok.spent }) refl c.sort_of_part.result c.sort_of_part.ensures.answer

pub sort_of_type-in-Some-answer : goal.inference::sort_of_type-returns-in-Some-clause-answer
sort_of_type-in-Some-answer t c =
    let a = c.args.theory.now in
    let before = account a c.args.job.now in
    sort_come a c.args.nest c.args.typed c.in-Some.j c.type_of.result before c.in-Some.is c.requires.sorted c.type_of.ensures.term c.type_of.ensures.is

pub sort_of_type-in-None-answer : goal.inference::sort_of_type-returns-in-None-clause-answer
sort_of_type-in-None-answer t c =
    let a = c.args.theory.now in
    let before = account a c.args.job.now in
    let P : Bool → Type 0 = λ o. TypesAgain a c.type_again.new.theory (again_unless (env a) (count a.context) (part_reading c.args.nest (env a) a.context) o (rule.Abst, 2) (tree_at a.items c.args.typed.of))
    c.args.typed.of before (account c.type_again.new.theory c.type_again.new.job) c.type_again.result in
    subst P (sym (ap is_some c.in-None.is)) c.type_again.ensures.answer
