-- The product that the type of a function is, or exposes.
use Rattle.std.proofs.Common.{ℕ, List, None, subst}
use Rattle.std.proofs.lemmas.Result.{err_from_is_err_and}
use Rattle.ld_terms.specs.Tree.{count}
use Rattle.ld_terms.specs.Item.{Item}
use Rattle.ld_terms.specs.Bank.{tree_at, IsTermAt}
use Rattle.ld_terms.specs.declared.bank.Node.TheVariants as node
use Rattle.ld_infer.specs.declared.failure.RuleName.TheVariants as rule
use Rattle.ld_infer.specs.declared.failure.PathStep.TheVariants.{Fun}
use Rattle.ld_infer.specs.Reading.{part_reading, product_in, product_read}
use Rattle.ld_infer.specs.Standing.{env, account, Continues, KnowsPairs}
use Rattle.ld_infer.specs.Infers.{InfersFunction, IsFunctionTyped}
use Rattle.ld_infer.proofs.Stopping.{stops_within, gives_within}
use Rattle.ld_infer.proofs.Going.{◌⨟◌}
use Rattle.ld_infer.proofs.Nodes.{node_item, node_tree, no_product_node}
use Rattle.ld_infer.proofs.Sorts.{at_err}
use Rattle.ld_infer.proofs.Parting.{product_read_stops}
use Rattle.ld_infer.proofs.Inferring.{function_typed}
use Rattle.ld_infer.proofs.Exposure.{product_later, product_stopped, product_reached, product_not_reached, product_expose_stopped, conv_here}
use Rattle.ld_infer.proofs.Pairs.{told_later, pairs_later}
use Rattle.ld_infer.proofs.+infer.Goals as goal

pub function_type-in-Ok-answer : goal.function::function_type-returns-in-Ok-clause-answer
function_type-in-Ok-answer t c =
    let h = c.in-Ok.ensures.answer in
    record { domain = h.domain; range = h.range; gives = gives_within Fun _ _ _ _ h.gives; judged = h.judged }

pub function_type-in-Err-answer : goal.function::function_type-returns-in-Err-clause-answer
function_type-in-Err-answer t c = stops_within c.product_type.new.theory.items Fun _ c.in-Err.fault c.within.result _ _ c.in-Err.ensures.answer c.within.ensures

pub product_type-in_err-typed-answer : goal.function::product_type-returns-in_err-typed-clause-answer
product_type-in_err-typed-answer t c =
    let a = c.args.theory.now in
    let before = account a c.args.job.now in
    let b = c.infer_part.new.theory in
    at_err (InfersFunction a b (product_read (env a) (part_reading c.args.nest (env a)) a.context (tree_at a.items c.args.f)) c.args.f before (account c.infer_part.new.theory c.infer_part.new.job)) c.from_residual.result c.in_err-typed.field-0.0 c.from_residual.ensures.1
    (product_read_stops (env a) (part_reading c.args.nest (env a)) a.context b.items (tree_at a.items c.args.f) c.in_err-typed.field-0.0 before (account c.infer_part.new.theory c.infer_part.new.job) c.in_err-typed.ensures.answer)

pub product_type-in-Pi-answer : goal.function::product_type-returns-in-Pi-clause-answer
product_type-in-Pi-answer t c =
    let a = c.args.theory.now in
    let before = account a c.args.job.now in
    let b = c.infer_part.new.theory in
    let P : List Item → Type 0 = λ xs. IsTermAt xs c.in-Pi.domain × IsTermAt xs c.in-Pi.range in
    let parts = subst P c.bank.ensures c.in-Pi.ensures.parts in
    function_typed a b c.args.nest c.args.f c.in_ok-typed.typed c.in-Pi.domain c.in-Pi.range before (account c.infer_part.new.theory c.infer_part.new.job) c.in_ok-typed.ensures.answer parts.0 parts.1
    (node_tree c.bank.result.now b.items (node.Pi c.in-Pi.domain c.in-Pi.range) c.in_ok-typed.typed.of c.bank.ensures c.in-Pi.ensures.tree)

pub product_type-in_default-answer : goal.function::product_type-returns-in_default-clause-answer
product_type-in_default-answer t c =
    let a = c.args.theory.now in
    let before = account a c.args.job.now in
    let b = c.infer_part.new.theory in
    let x = c.in_ok-typed.typed in
    let h = c.in_ok-typed.ensures.answer in
    product_later a b c.exposed_product.new.theory c.args.f x before (account c.infer_part.new.theory c.infer_part.new.job) (account c.exposed_product.new.theory c.exposed_product.new.job) c.infer_part.ensures.continues c.requires.term.0 c.args.nest c.exposed_product.result h
    (no_product_node b.items c.node.result x.of c.in_default.not-Pi h.term (node_item c.bank.result.now b.items c.node.result x.of c.bank.ensures c.node.ensures.tree))
    c.exposed_product.ensures.answer

pub exposed_product-in_err-product-answer : goal.function::exposed_product-returns-in_err-product-clause-answer
exposed_product-in_err-product-answer t c =
    let a = c.args.theory.now in
    let before = account a c.args.job.now in
    let p = err_from_is_err_and c.from_residual.result c.from_residual.ensures.1 in
    product_expose_stopped a c.expose.new.self c.args.nest c.args.f (tree_at a.items c.args.typed.of) c.in_err-product.field-0.0 p.0 c.from_residual.result before (account c.expose.new.self c.expose.new.job) p.1 p.2
    c.in_err-product.ensures.answer

pub exposed_product-in_err-sort-in-Pi-answer : goal.function::exposed_product-returns-in_err-sort-in-Pi-clause-answer
exposed_product-in_err-sort-in-Pi-answer t c =
    let a = c.args.theory.now in
    let before = account a c.args.job.now in
    let b = c.expose.new.self in
    let d = c.type_again.new.theory in
    let type = tree_at a.items c.args.typed.of in
    at_err (InfersFunction a d (product_in (env a) (count a.context) (part_reading c.args.nest (env a) a.context) None (rule.Appl, 1) type) c.args.f before (account c.type_again.new.theory c.type_again.new.job)) c.from_residual-in_err-sort-in-Pi.result c.in_err-sort-in-Pi.field-0.0 c.from_residual-in_err-sort-in-Pi.ensures.1
    (product_stopped a b d.items c.args.nest type (tree_at b.items c.in_ok-product.product) (tree_at b.items c.in-Pi.domain) (tree_at b.items c.in-Pi.range) c.in_err-sort-in-Pi.field-0.0
    before (account c.expose.new.self c.expose.new.job) (account c.type_again.new.theory c.type_again.new.job) c.expose.ensures.continues c.in_ok-product.ensures.answer.gives
    (node_tree c.bank.result.now b.items (node.Pi c.in-Pi.domain c.in-Pi.range) c.in_ok-product.product c.bank.ensures c.in-Pi.ensures.tree) c.in_err-sort-in-Pi.ensures.answer)

pub exposed_product-conclude-requires-follows : goal.function::exposed_product-conclude-requires-clause-follows
exposed_product-conclude-requires-follows t c =
    let a = c.args.theory.now in
    let h = c.in_ok-sort-in-Pi.ensures.answer in
    conv_here a c.expose.new.self c.type_again.new.theory c.args.typed.judge c.in_ok-sort-in-Pi.sort.1 c.in_ok-product.equal c.args.f c.in_ok-product.product _ _
    c.expose.ensures.continues c.type_again.ensures.continues c.requires.term c.in_ok-product.ensures.answer.term c.requires.judge c.in_ok-product.ensures.answer.equal h.has.judged h.has.sort

pub exposed_product-continues : (t : ℕ) (c : goal.function::exposed_product-After-conclude t) → Continues c.args.theory.now c.conclude.new.self
exposed_product-continues t c = c.expose.ensures.continues ⨟ c.type_again.ensures.continues ⨟ c.conclude.ensures.continues

pub exposed_product-in_ok-judge-in-Pi-answer : goal.function::exposed_product-returns-in_ok-judge-in-Pi-clause-answer
exposed_product-in_ok-judge-in-Pi-answer t c =
    let a = c.args.theory.now in
    let before = account a c.args.job.now in
    let b = c.expose.new.self in
    let P : List Item → Type 0 = λ xs. IsTermAt xs c.in-Pi.domain × IsTermAt xs c.in-Pi.range in
    let parts = subst P c.bank.ensures c.in-Pi.ensures.parts in
    let z = c.conclude.new.self in
    told_later c.type_again.new.theory z c.type_again.new.job
    (λ w. IsFunctionTyped a z (product_in (env a) (count a.context) (part_reading c.args.nest (env a) a.context) None (rule.Appl, 1) (tree_at a.items c.args.typed.of))
    c.args.f before w (record { judge = c.in_ok-judge-in-Pi.judge; domain = c.in-Pi.domain; range = c.in-Pi.range })) c.conclude.ensures.continues c.type_again.ensures.pairs
    (product_reached a b c.type_again.new.theory c.conclude.new.self c.args.nest c.args.f c.in_ok-product.product c.in-Pi.domain c.in-Pi.range _ c.in_ok-sort-in-Pi.sort c.in_ok-judge-in-Pi.judge
    before (account c.expose.new.self c.expose.new.job) (account c.type_again.new.theory c.type_again.new.job) c.expose.ensures.continues c.type_again.ensures.continues c.conclude.ensures.continues c.requires.term c.in_ok-product.ensures.answer.term parts.0 parts.1
    c.in_ok-product.ensures.answer.gives (node_tree c.bank.result.now b.items (node.Pi c.in-Pi.domain c.in-Pi.range) c.in_ok-product.product c.bank.ensures c.in-Pi.ensures.tree)
    c.in_ok-sort-in-Pi.ensures.answer c.in_ok-judge-in-Pi.ensures.number)

pub exposed_product-pairs : (t : ℕ) (c : goal.function::exposed_product-After-conclude t) → KnowsPairs c.conclude.new.self c.type_again.new.job.known
exposed_product-pairs t c = pairs_later c.type_again.new.theory c.conclude.new.self c.type_again.new.job.known c.conclude.ensures.continues c.type_again.ensures.pairs

pub exposed_product-in_default-answer : goal.function::exposed_product-returns-in_default-clause-answer
exposed_product-in_default-answer t c =
    let a = c.args.theory.now in
    let before = account a c.args.job.now in
    let b = c.expose.new.self in
    product_not_reached a b c.args.nest c.args.typed.of (tree_at b.items c.in_ok-product.product) c.refusal.result before (account c.expose.new.self c.expose.new.job) c.expose.ensures.continues c.requires.of
    c.in_ok-product.ensures.answer.gives
    (no_product_node b.items c.node.result c.in_ok-product.product c.in_default.not-Pi c.in_ok-product.ensures.answer.term (node_item c.bank.result.now b.items c.node.result c.in_ok-product.product c.bank.ensures c.node.ensures.tree))
    (c.refusal.ensures b.items)
