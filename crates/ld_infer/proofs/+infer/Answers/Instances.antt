-- The type of an instance, and the judgements of its arguments.
use Rattle.std.proofs.Common.{◌≡◌, ◌+◌, ◌-◌, ◌++◌, ◌∷◌, [], ℕ, List, length, None, Result, Err, ap, sym, ◌∙◌, subst, arith, ◌≤◌}
use Rattle.std.proofs.lemmas.Grind.{common_steps}
use Rattle.std.proofs.lemmas.Result.{err_from_is_err_and}
use Rattle.ld_terms.specs.Tree.{Trees, ◌▸◌, count}
use Rattle.ld_terms.specs.Item.{Item, One, IsSmall, tree, list}
use Rattle.ld_terms.specs.Put.{put}
use Rattle.ld_terms.specs.Entry.{Env}
use Rattle.ld_terms.specs.Record.{params_at}
use Rattle.ld_terms.specs.Bank.{tree_at, list_at, IsTermAt}
use Rattle.ld_terms.specs.declared.bank.TermFault.TheVariants as term
use Rattle.ld_record.specs.declared.record.JudgeId.{JudgeId}
use Rattle.ld_record.specs.Follows.{entry_at}
use Rattle.ld_infer.specs.declared.failure.InferFault.{InferFault}
use Rattle.ld_infer.specs.declared.inference.Typed.{Typed}
use Rattle.ld_convert.specs.Compares.{Compares}
use Rattle.ld_infer.specs.Account.{Account}
use Rattle.ld_infer.specs.Reading.{part_reading, next_argument, arguments}
use Rattle.ld_infer.specs.Standing.{env, without, account, Continues}
use Rattle.ld_infer.specs.Infers.{AreReadable, Infers, Suits, JudgesArguments, IsTyped, AreJudged, ArePrefixes, IsInstanceStep, Stops}
use Rattle.ld_infer.proofs.Going.{term_stays, tree_stays, formed_later, readable_later, ◌⨟◌}
use Rattle.ld_infer.proofs.Sorts.{at_err}
use Rattle.ld_infer.proofs.Inferring.{held_term, held_small}
use Rattle.ld_infer.proofs.Pairs.{told_later, account_stays, pairs_later}
use Rattle.ld_infer.proofs.Prefixing.{cons_parts}
use Rattle.ld_infer.proofs.Instances.{instance_parts, entry_here, instance_task, instance_refused, instance_high, instance_ready, instance_typed, IsEntry}
use Rattle.ld_infer.proofs.Judging.{next_high, suits_next, but, AreBegun, begun_none, next_found, next_formed, turn_stops, turn_more, IsNext}
use Rattle.ld_infer.proofs.+infer.Goals as goal

-- the entry of which the instance is, as the theory has it
entry_is : (t : ℕ) (c : goal.instance::instance-After-entry-entry t) → IsEntry c.args.theory.now c.args.k c.entry-entry.result.now
entry_is t c = entry_here c.args.theory.now _ c.args.k c.entry-entry.result.now c.env.ensures.entries c.entry-entry.ensures c.env.ensures.trees c.env.ensures.live

-- the argument that is read next, and its parameter
next_turn : (t : ℕ) (c : goal.instance::arguments-After-index t)
    → IsNext c.args.theory.now c.loop-left.theory c.args.k c.loop-left.left c.len-in-loop-left.result c.args.us c.index.result.now c.parameter-param.result
next_turn t c =
    next_found c.args.theory.now c.loop-left.theory c.bank.result.now c.args.k c.loop-left.left c.len.result c.len-in-loop-left.result c.args.us c.index.result.now c.parameter-param.result c.in_ok-lists.lists.items
    c.loop-left.judges.items c.loop-left.invariant.0.continues c.loop-left.invariant.0.all (omega (arith, c.loop-left-test.true)) c.bank.ensures c.in_ok-lists.ensures c.requires.readable c.requires.as_many c.index.ensures
    (omega (arith, c.len.ensures)) (omega (arith, c.len-in-loop-left.ensures)) c.parameter-param.ensures.is c.parameter-param.ensures.formed

pub argument-in_err-wanted-answer : goal.instance::argument-returns-in_err-wanted-clause-answer
argument-in_err-wanted-answer t c us u is =
    let a = c.args.theory.now in
    let before = account a c.args.job.now in
    let d = c.instantiate_list.new.self in
    let job = c.args.job.now in
    let p = err_from_is_err_and c.from_residual.result c.from_residual.ensures.1 in
    let y = c.in_err-wanted.field-0 in
    let param = tree_at a.items c.args.param in
    let parts = cons_parts c.bank.result.now a.items c.in-Cons.u c.in-Cons.before c.args.list us u c.bank.ensures c.in-Cons.ensures.tree is in
    let compare = Compares (env a) (c.args.nest + 1) in
    let read = part_reading c.args.nest (env a) a.context in
    let P : Result JudgeId InferFault → Type 0 = λ r. Suits a d (next_argument (env a) compare (count a.context) read c.args.asked.0 param us u) u (put param us) before (account d job) r in
    let Q : Trees → Type 0 = λ vs. y.0 ≡ term.High → ¬ IsSmall (One (put param vs)) in
    subst P (sym p.1)
    (told_later a d job (λ v. Stops d.items (next_argument (env a) compare (count a.context) read c.args.asked.0 param us u) p.0 before v) c.instantiate_list.ensures.continues c.requires.pairs
    (next_high (env a) compare (count a.context) read c.args.asked.0 d.items param us u y.0 p.0 before (subst Q parts.0 (λ e. c.in_err-wanted.ensures.high (ap Err e))) p.2))

pub argument-argument_judgement-requires : goal.instance::argument-argument_judgement-requires
argument-argument_judgement-requires t c =
    let a = c.args.theory.now in
    let d = c.instantiate_list.new.self in
    let made = c.in_ok-wanted.ensures.tree in
    let goes = c.instantiate_list.ensures.continues in
    let P : List Item → Type 0 = λ xs. list_at xs c.args.list ≡ list_at xs c.in-Cons.before ▸ tree_at xs c.in-Cons.u in
    let is = subst P c.bank.ensures (ap list (sym c.in-Cons.ensures.tree)) in
    let R : Trees → Type 0 = AreReadable a in
    let all = subst R is c.requires.readable in
    let there = subst (λ xs. IsTermAt xs c.in-Cons.u) c.bank.ensures c.in-Cons.ensures.parts.0 in (
      omega arith,
      (
        readable_later a d c.in-Cons.u goes (there, record { named = all.0.1; scoped = all.1.1 }),
        (
          (held_term d.items c.in_ok-wanted.wanted _ made, formed_later a d _ _ goes (sym (ap tree made.item)) (c.requires.formed _ _ is)),
          (c.requires.nest, (omega (arith, c.requires.room, ap count goes.context), pairs_later a d c.args.job.now.known goes c.requires.pairs)),
        ),
      ),
    )

pub argument-answer : goal.instance::argument-returns-clause-answer
argument-answer t c us u is =
    let a = c.args.theory.now in
    let d = c.instantiate_list.new.self in
    let z = c.argument_judgement.new.theory in
    let job = c.args.job.now in
    let after = account z c.argument_judgement.new.job in
    let param = tree_at a.items c.args.param in
    let parts = cons_parts c.bank.result.now a.items c.in-Cons.u c.in-Cons.before c.args.list us u c.bank.ensures c.in-Cons.ensures.tree is in
    let term = subst (λ xs. IsTermAt xs c.in-Cons.u) c.bank.ensures c.in-Cons.ensures.parts.0 in
    let made = c.in_ok-wanted.ensures.tree in
    let P : Account → Type 0 = λ w. Suits a z (next_argument (env a) (Compares (env a) (c.args.nest + 1)) (count a.context) (part_reading c.args.nest (env a) a.context) c.args.asked.0 param us u) u (put param us) w after c.argument_judgement.result in
    subst P (account_stays a d job c.instantiate_list.ensures.continues c.requires.pairs)
    (suits_next a d z c.args.nest c.args.asked.0 c.args.asked.1 param us u (tree_at d.items c.in_ok-wanted.wanted) (tree_at d.items c.in-Cons.u)
    (account d job) after c.argument_judgement.result c.instantiate_list.ensures.continues (omega (arith, ap count is, c.requires.number))
    (ap tree made.item ∙ ap (put param) parts.0) (tree_stays a d c.in-Cons.u c.instantiate_list.ensures.continues term ∙ parts.1)
    (held_small d.items c.in_ok-wanted.wanted _ made c.in_ok-wanted.ensures.small) c.argument_judgement.ensures.answer)

pub arguments-loop-left-init : goal.instance::arguments-loop-left-init
arguments-loop-left-init t c =
    let a = c.args.theory.now in
    let before = account a c.args.job.now in
    let params = (entry_at (env a) c.args.k).params in
    let us = list_at a.items c.args.us in
    let P : List JudgeId → Type 0 = λ js. AreBegun a a c.args.nest c.args.rule params us c.len-left.result before before js in
    let Q : List Item → Type 0 = λ xs. ArePrefixes xs (list_at xs c.args.us) c.in_ok-lists.lists.items in
    let firsts = subst Q c.bank.ensures c.in_ok-lists.ensures in
    (subst P (sym c.new-judges.ensures.items) (begun_none a c.args.nest c.args.rule params us c.len-left.result before (omega (arith, c.len-left.ensures, firsts.as_many)) c.requires.as_many), c.requires.pairs)

pub arguments-parameter-param-requires-there : goal.instance::arguments-parameter-param-requires-clause-there
arguments-parameter-param-requires-there t c = omega (arith, c.requires.there, ap length c.loop-left.invariant.0.continues.adds.env)

pub arguments-parameter-param-requires-place : goal.instance::arguments-parameter-param-requires-clause-place
arguments-parameter-param-requires-place t c = omega (arith, c.len.ensures, c.loop-left.invariant.0.all, c.loop-left-test.true, c.requires.as_many, ap (λ (Δ : Env). params_at Δ c.args.k) c.loop-left.invariant.0.continues.adds.env)

pub arguments-index-requires : goal.instance::arguments-index-requires
arguments-index-requires t c =
    let Q : List Item → Type 0 = λ xs. ArePrefixes xs (list_at xs c.args.us) c.in_ok-lists.lists.items in
    let firsts = subst Q c.bank.ensures c.in_ok-lists.ensures in
    omega (arith, c.loop-left.invariant.0.all, c.loop-left-test.true, firsts.as_many)

pub arguments-argument-requires : goal.instance::arguments-argument-requires
arguments-argument-requires t c =
    let a = c.args.theory.now in
    let next = next_turn t (goal.at.instance::arguments-argument-requires t c).After-index in
    let number = c.in_ok-number.ensures in
    (omega arith, (next.there, (next.readable, (omega (arith, number), (omega (arith, number, next.number), (c.parameter-param.ensures.term, (next_formed a c.loop-left.theory c.args.k c.loop-left.left c.len-in-loop-left.result c.args.us c.index.result.now c.parameter-param.result next, (c.requires.nest, (omega (arith, c.requires.room, ap count c.loop-left.invariant.0.continues.context), c.loop-left.invariant.1)))))))))

pub arguments-in_err-judge-answer : goal.instance::arguments-returns-in_err-judge-clause-answer
arguments-in_err-judge-answer t c =
    let a = c.args.theory.now in
    let before = account a c.args.job.now in
    let e = c.argument.new.theory in
    let params = (entry_at (env a) c.args.k).params in
    let us = list_at a.items c.args.us in
    let next = next_turn t (goal.at.instance::arguments-returns-in_err-judge-clause-answer t c).After-index in
    let f = c.in_err-judge.field-0.0 in
    at_err (JudgesArguments a e (arguments (env a) (Compares (env a) (c.args.nest + 1)) (count a.context) (part_reading c.args.nest (env a) a.context) c.args.rule params us) params us before (account c.argument.new.theory c.argument.new.job)) c.from_residual-in_err-judge.result f c.from_residual-in_err-judge.ensures.1
    (turn_stops a c.loop-left.theory e.items c.args.nest c.args.k c.loop-left.left c.len-in-loop-left.result c.args.rule c.args.us c.index.result.now c.parameter-param.result before (account c.loop-left.theory c.loop-left.job) (account c.argument.new.theory c.argument.new.job)
    c.loop-left.judges.items f next c.loop-left.invariant.0 c.requires.as_many (omega (arith, c.loop-left-test.true)) c.in_err-judge.ensures.answer)

pub arguments-continues : (t : ℕ) (c : goal.instance::arguments-After-argument t) → Continues c.args.theory.now c.argument.new.theory
arguments-continues t c = c.loop-left.invariant.0.continues ⨟ c.argument.ensures.continues

pub arguments-most : (t : ℕ) (c : goal.instance::arguments-After-argument t) → c.argument.new.job.budget.left ≤ c.args.job.now.budget.left
arguments-most t c = omega (arith, c.loop-left.invariant.0.most, c.argument.ensures.most)

pub arguments-loop-left-preserved : goal.instance::arguments-loop-left-preserved
arguments-loop-left-preserved t c =
    let a = c.args.theory.now in
    let before = account a c.args.job.now in
    let e = c.argument.new.theory in
    let j = c.in_ok-judge.judge in
    let next = next_turn t (goal.at.instance::arguments-loop-left-preserved t c).After-index in
    let P : List JudgeId → Type 0 = λ js. AreBegun a e c.args.nest c.args.rule (entry_at (env a) c.args.k).params (list_at a.items c.args.us) (c.loop-left.left - 1) before (account c.argument.new.theory c.argument.new.job) js in
    let pushed : c.push.new.self.items ≡ c.loop-left.judges.items ++ j ∷ [] = grind (arith, common_steps) in (
      subst P (sym pushed)
          (turn_more a c.loop-left.theory e c.args.nest c.args.k c.loop-left.left c.len-in-loop-left.result c.args.rule c.args.us c.index.result.now c.parameter-param.result before (account c.loop-left.theory c.loop-left.job) (account c.argument.new.theory c.argument.new.job)
          c.loop-left.judges.items j next c.loop-left.invariant.0 (omega (arith, c.loop-left-test.true)) c.argument.ensures.continues c.argument.ensures.most c.in_ok-judge.ensures.answer),
      c.argument.ensures.pairs,
    )

pub arguments-answer : goal.instance::arguments-returns-clause-answer
arguments-answer t c =
    let a = c.args.theory.now in
    let before = account a c.args.job.now in
    let none : c.loop-left.left ≡ 0 = omega (arith, c.loop-left-test.false) in
    let P : ℕ → Type 0 = λ n. AreJudged a c.loop-left.theory (but a c.args.nest c.args.rule n (entry_at (env a) c.args.k).params (list_at a.items c.args.us)) (without n (entry_at (env a) c.args.k).params)
    (without n (list_at a.items c.args.us)) before (account c.loop-left.theory c.loop-left.job) c.loop-left.judges.items in
    subst P none c.loop-left.invariant.0.judged

pub instance-in_err-judges-answer : goal.instance::instance-returns-in_err-judges-clause-answer
instance-in_err-judges-answer t c =
    let a = c.args.theory.now in
    let before = account a c.args.job.now in
    let b = c.arguments.new.theory in
    let e = entry_is t (goal.at.instance::instance-returns-in_err-judges-clause-answer t c).After-entry-entry in
    at_err (Infers a b (instance_task a c.args.nest c.args.k (list_at a.items c.args.us)) c.args.t before (account c.arguments.new.theory c.arguments.new.job)) c.from_residual.result c.in_err-judges.field-0.0 c.from_residual.ensures.1
    (instance_refused a b.items c.args.nest c.args.k (list_at a.items c.args.us) c.entry-entry.result.now c.instance_rule.result c.in_err-judges.field-0.0 before (account c.arguments.new.theory c.arguments.new.job) e
    (c.instance_rule.ensures a.items) c.in_err-judges.ensures.answer)

pub instance-instantiate_list-requires-body : goal.instance::instance-instantiate_list-requires-clause-body
instance-instantiate_list-requires-body t c =
    let a = c.args.theory.now in
    let e = entry_is t (goal.at.instance::instance-instantiate_list-requires-clause-body t c).After-entry-entry in
    term_stays a c.arguments.new.theory c.entry-entry.result.now.of c.arguments.ensures.continues e.live.type

pub instance-in_err-of-answer : goal.instance::instance-returns-in_err-of-clause-answer
instance-in_err-of-answer t c =
    let a = c.args.theory.now in
    let before = account a c.args.job.now in
    let b = c.arguments.new.theory in
    let d = c.instantiate_list.new.self in
    let job = c.arguments.new.job in
    let us = list_at a.items c.args.us in
    let p = err_from_is_err_and c.from_residual-in_err-of.result c.from_residual-in_err-of.ensures.1 in
    let y = c.in_err-of.field-0.0 in
    let e = entry_is t (goal.at.instance::instance-returns-in_err-of-clause-answer t c).After-entry-entry in
    let P : Result Typed InferFault → Type 0 = λ r. Infers a d (instance_task a c.args.nest c.args.k us) c.args.t before (account d job) r in
    subst P (sym p.1)
    (told_later b d job (λ w. Stops d.items (instance_task a c.args.nest c.args.k us) p.0 before w) c.instantiate_list.ensures.continues c.arguments.ensures.pairs
    (instance_high a b d.items c.args.nest c.args.k c.args.us c.entry-entry.result.now c.instance_rule.result c.in_ok-judges.judges.items y p.0 before (account b job) e c.requires.list
    c.arguments.ensures.continues (c.instance_rule.ensures a.items) c.in_ok-judges.ensures.answer (λ q. c.in_err-of.ensures.high (ap Err q)) p.2))

pub instance-conclude-requires-follows : goal.instance::instance-conclude-requires-clause-follows
instance-conclude-requires-follows t c =
    let a = c.args.theory.now in
    let before = account a c.args.job.now in
    let d = c.instantiate_list.new.self in
    let made = c.in_ok-of.ensures.tree in
    let parts = instance_parts a (tree_at a.items c.args.t) c.args.k (list_at a.items c.args.us) c.requires.is c.requires.term.1 in
    let e = entry_is t (goal.at.instance::instance-conclude-requires-clause-follows t c).After-entry-entry in
    let P : List JudgeId → Type 0 = λ js. IsInstanceStep c.entry-entry.result.now.body c.in_ok-star.star js c.instance_step.result in
    instance_ready a c.arguments.new.theory d c.star_judgement.new.self c.args.k c.args.t c.args.us c.in_ok-of.of c.entry-entry.result.now
    (arguments (env a) (Compares (env a) (c.args.nest + 1)) (count a.context) (part_reading c.args.nest (env a) a.context) c.instance_rule.result (entry_at (env a) c.args.k).params (list_at a.items c.args.us)) before (account c.arguments.new.theory c.arguments.new.job) c.in_ok-star.star c.in_ok-judges.judges.items
    c.instance_step.result e c.requires.list c.requires.term.0 c.requires.is parts.below c.arguments.ensures.continues c.instantiate_list.ensures.continues c.star_judgement.ensures.continues c.in_ok-judges.ensures.answer
    (held_term d.items c.in_ok-of.of _ made) (ap tree made.item) c.in_ok-star.ensures.number (subst P c.from_vec.ensures c.instance_step.ensures)

pub instance-continues : (t : ℕ) (c : goal.instance::instance-After-conclude t) → Continues c.args.theory.now c.conclude.new.self
instance-continues t c = c.arguments.ensures.continues ⨟ c.instantiate_list.ensures.continues ⨟ c.star_judgement.ensures.continues ⨟ c.conclude.ensures.continues

pub instance-answer : goal.instance::instance-returns-clause-answer
instance-answer t c =
    let a = c.args.theory.now in
    let before = account a c.args.job.now in
    let b = c.arguments.new.theory in
    let d = c.instantiate_list.new.self in
    let s = c.star_judgement.new.self in
    let z = c.conclude.new.self in
    let job = c.arguments.new.job in
    let made = c.in_ok-of.ensures.tree in
    let e = entry_is t (goal.at.instance::instance-returns-clause-answer t c).After-entry-entry in
    told_later b z job
    (λ w. IsTyped a z (instance_task a c.args.nest c.args.k (list_at a.items c.args.us)) c.args.t before w (record { of = c.in_ok-of.of; judge = c.in_ok-judge.judge; of_judge = None }))
    (c.instantiate_list.ensures.continues ⨟ c.star_judgement.ensures.continues ⨟ c.conclude.ensures.continues) c.arguments.ensures.pairs
    (instance_typed a b d s z c.args.nest c.args.k c.args.t c.args.us c.in_ok-of.of c.entry-entry.result.now c.instance_rule.result
    before (account b job) c.in_ok-judges.judges.items c.in_ok-judge.judge e c.requires.list c.requires.term.0 (c.instance_rule.ensures a.items) c.arguments.ensures.continues
    c.instantiate_list.ensures.continues c.star_judgement.ensures.continues c.conclude.ensures.continues c.in_ok-judges.ensures.answer (held_term d.items c.in_ok-of.of _ made) (ap tree made.item)
    (held_small d.items c.in_ok-of.of _ made c.in_ok-of.ensures.small) c.in_ok-judge.ensures.number)
