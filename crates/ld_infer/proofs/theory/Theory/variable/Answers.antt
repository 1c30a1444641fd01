use Rattle.std.proofs.Common.{ap, ◌∙◌, arith}
use Rattle.std.proofs.lemmas.Result.{err_from_is_err_and}
use Rattle.ld_terms.specs.Tree.{Trees, count}
use Rattle.ld_infer.proofs.Weakening.{weakened_first, weakened_typed, weakened_more, weakened_all, high_whole, high_on_the_way}
use Rattle.ld_infer.proofs.Going.{continues_trans}
use Rattle.ld_infer.proofs.theory.Theory.variable.Goals as goal

pub returns-in_err-typed-clause-high : goal.returns-in_err-typed-clause-high
returns-in_err-typed-clause-high c =
    let p = err_from_is_err_and c.from_residual.result c.from_residual.ensures.1 in
    rw (p.1, p.2) (λ is. high_whole c.args.self.now.context c.args.i 0 c.args.i (omega arith) (c.own_variable.ensures.high (c.in_err-typed.was ∙ is)))

pub loop-index-init : goal.loop-index-init
loop-index-init c = weakened_first _ _ _ _ c.own_variable.ensures.continues c.in_ok-typed.ensures.typed

pub weaken_variable-requires-clause-there : goal.weaken_variable-requires-clause-there
weaken_variable-requires-clause-there c =
    let same = ap (λ (ctx : Trees). count ctx) c.loop-index.invariant.continues.context in
    omega (arith, same, c.requires.there, c.loop-index-test.true)

pub weaken_variable-requires-clause-typed : goal.weaken_variable-requires-clause-typed
weaken_variable-requires-clause-typed c = weakened_typed _ _ _ _ _ c.loop-index-test.true c.loop-index.invariant

pub returns-in_err-typed-2-clause-high : goal.returns-in_err-typed-2-clause-high
returns-in_err-typed-2-clause-high c =
    let p = err_from_is_err_and c.from_residual-in_err-typed-2.result c.from_residual-in_err-typed-2.ensures.1 in
    rw (p.1, p.2) (λ is. high_on_the_way _ _ _ _ _ c.loop-index-test.true c.loop-index.invariant (c.weaken_variable.ensures.high (c.in_err-typed-2.was ∙ is)))

pub returns-in_err-typed-2-clause-continues : goal.returns-in_err-typed-2-clause-continues
returns-in_err-typed-2-clause-continues c = continues_trans _ _ _ c.loop-index.invariant.continues c.weaken_variable.ensures.continues

pub loop-index-preserved : goal.loop-index-preserved
loop-index-preserved c =
    weakened_more _ _ _ _ _ _ _ c.loop-index-test.true c.loop-index.invariant c.weaken_variable.ensures.continues c.in_ok-typed-2.ensures.typed

pub returns-clause-typed : goal.returns-clause-typed
returns-clause-typed c = weakened_all _ _ _ _ _ c.loop-index-test.false c.loop-index.auto.index-end c.loop-index.invariant

pub returns-clause-continues : goal.returns-clause-continues
returns-clause-continues c = c.loop-index.invariant.continues
