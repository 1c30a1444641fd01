-- The type of an abstraction's body, and the sort of that type.
use Rattle.std.proofs.Common.{rules, ◌≡◌, ◌+◌, ℕ, false, ap, ◌∙◌, subst, arith}
use Rattle.std.specs.Prelude.{is_some}
use Rattle.ld_terms.specs.Tree.{Trees, count}
use Rattle.ld_terms.specs.Tests.{is_box}
use Rattle.ld_terms.specs.Bank.{tree_at}
use Rattle.ld_terms.specs.declared.bank.Node.TheVariants as node
use Rattle.ld_infer.specs.declared.failure.RuleName.TheVariants as rule
use Rattle.ld_reduce.specs.Task.{Gives}
use Rattle.ld_infer.specs.Account.{Comes}
use Rattle.ld_infer.specs.Reading.{Types, part_reading, refusal, BoxBody, found, body_reading}
use Rattle.ld_infer.specs.Standing.{env, account}
use Rattle.ld_infer.specs.Infers.{InfersBody, Stops, IsRefusedBy}
use Rattle.ld_infer.proofs.Going.{◌⨟◌}
use Rattle.ld_infer.proofs.Nodes.{node_item, node_tree, no_box_node}
use Rattle.ld_infer.proofs.Sorts.{at_err}
use Rattle.ld_infer.proofs.Binding.{body_stops, body_box}
use Rattle.ld_infer.proofs.Inferring.{body_typed, body_refused, type_well_formed}
use Rattle.ld_infer.proofs.+infer.Goals as goal

-- the type that is found isn't box
no_box : (t : ℕ) (c : goal.inference::body_type-After-sort_of_type t) → is_box (tree_at c.infer_part.new.theory.items c.in-Ok.typed.of) ≡ false
no_box t c =
    let items = c.infer_part.new.theory.items in
    let x = c.in-Ok.typed in
    no_box_node items c.node.result x.of c.in_default.not-Box_ c.in-Ok.ensures.answer.term (node_item c.bank.result.now items c.node.result x.of c.bank.ensures c.node.ensures.tree)

pub body_type-in-Err-answer : goal.inference::body_type-returns-in-Err-clause-answer
body_type-in-Err-answer t c ctx y inner =
    let a = c.args.theory.now in
    let before = account a c.args.job.now in
    let items = c.infer_part.new.theory.items in
    let P : Trees → Type 0 = λ Γ. Stops items (Types (env a) Γ (c.args.nest + 1) (rule.Abst, 1) (tree_at a.items c.args.m)) c.in-Err.fault before (account c.infer_part.new.theory c.infer_part.new.job) in
    body_stops (env a) (part_reading c.args.nest (env a)) ctx items y (tree_at a.items c.args.m) c.in-Err.fault c.within.result before (account c.infer_part.new.theory c.infer_part.new.job) (subst P inner c.in-Err.ensures.answer) c.within.ensures

pub body_type-in-Box_-answer : goal.inference::body_type-returns-in-Box_-clause-answer
body_type-in-Box_-answer t c ctx y inner =
    let a = c.args.theory.now in
    let before = account a c.args.job.now in
    let b = c.infer_part.new.theory in
    let x = c.in-Ok.typed in
    let h = c.in-Ok.ensures.answer in
    let P : Trees → Type 0 = λ Γ. Comes (Types (env a) Γ (c.args.nest + 1) (rule.Abst, 1) (tree_at a.items c.args.m)) (Gives (found (tree_at b.items x.of) (is_some x.of_judge))) before (account c.infer_part.new.theory c.infer_part.new.job) in
    let Q : ℕ → Type 0 = λ n. IsRefusedBy b.items (refusal (rule.Abst, 2) n BoxBody) c.box_body.result in
    body_box (env a) (part_reading c.args.nest (env a)) ctx b.items y (tree_at a.items c.args.m) (tree_at b.items x.of) (is_some x.of_judge) c.box_body.result before (account c.infer_part.new.theory c.infer_part.new.job) (subst P inner h.gives)
    (node_tree c.bank.result.now b.items node.Box_ x.of c.bank.ensures c.in-Box_.ensures.tree) (subst Q (omega (arith, ap count (c.infer_part.ensures.continues.context ∙ inner))) (c.box_body.ensures b.items))

pub body_type-sort_of_type-requires : goal.inference::body_type-sort_of_type-requires
body_type-sort_of_type-requires t c =
    let a = c.args.theory.now in
    let b = c.infer_part.new.theory in
    let x = c.in-Ok.typed in
    let h = c.in-Ok.ensures.answer in
    let formed = type_well_formed a b x.judge (tree_at a.items c.args.m) (tree_at b.items x.of) c.infer_part.ensures.continues c.keeps_well_formed.ensures h.judged in
    (search rules, ((h.term, formed), (h.sorted, (c.requires.nest, (omega (arith, c.requires.room, ap count c.infer_part.ensures.continues.context), c.infer_part.ensures.pairs)))))

pub body_type-in_err-sort : goal.inference::body_type-returns-in_err-sort
body_type-in_err-sort t c =
    let a = c.args.theory.now in
    let before = account a c.args.job.now in
    let b = c.infer_part.new.theory in
    let z = c.sort_of_type.new.theory in
    let x = c.in-Ok.typed in
    let h = c.in-Ok.ensures.answer in
    let f = c.in_err-sort.field-0.0 in
    let other = no_box t (goal.at.inference::body_type-returns-in_err-sort t c).After-sort_of_type in
    record {
      answer = λ ctx y inner.
          at_err (InfersBody a z (body_reading (env a) (part_reading c.args.nest (env a)) ctx y (tree_at a.items c.args.m)) c.args.m before (account c.sort_of_type.new.theory c.sort_of_type.new.job)) c.from_residual.result f c.from_residual.ensures.1
          (body_refused a b z c.args.nest c.args.m x f before (account c.infer_part.new.theory c.infer_part.new.job) (account c.sort_of_type.new.theory c.sort_of_type.new.job) ctx y inner c.infer_part.ensures.continues h other c.in_err-sort.ensures.answer);
      continues = c.infer_part.ensures.continues ⨟ c.sort_of_type.ensures.continues;
      pairs = c.sort_of_type.ensures.pairs;
      most = omega (arith, c.infer_part.ensures.most, c.sort_of_type.ensures.most);
    }

pub body_type : goal.inference::body_type-returns
body_type t c =
    let a = c.args.theory.now in
    let before = account a c.args.job.now in
    let b = c.infer_part.new.theory in
    let z = c.sort_of_type.new.theory in
    let x = c.in-Ok.typed in
    let h = c.in-Ok.ensures.answer in
    let other = no_box t (goal.at.inference::body_type-returns t c).After-sort_of_type in
    record {
      answer = λ ctx y inner.
          body_typed a b z c.args.nest c.args.m x c.in_ok-sort.sort before (account c.infer_part.new.theory c.infer_part.new.job) (account c.sort_of_type.new.theory c.sort_of_type.new.job) ctx y inner c.infer_part.ensures.continues c.sort_of_type.ensures.continues h other c.in_ok-sort.ensures.answer;
      continues = c.infer_part.ensures.continues ⨟ c.sort_of_type.ensures.continues;
      pairs = c.sort_of_type.ensures.pairs;
      most = omega (arith, c.infer_part.ensures.most, c.sort_of_type.ensures.most);
    }
