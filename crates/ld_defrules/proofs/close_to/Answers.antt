use Rattle.std.proofs.Common.{◌≡◌, ◌-◌, ℕ, suc, ap, ◌∙◌, arith}
use Rattle.ld_terms.specs.Tree.{Trees, count}
use Rattle.ld_infer.specs.Standing.{Standing, without, without_last}
use Rattle.ld_defrules.proofs.Flags.{without_more, count_without_last}
use Rattle.ld_defrules.proofs.close_to.Goals as goal

pub loop-theory-preserved : goal.loop-theory-preserved
loop-theory-preserved c =
    let all = c.args.theory.now.context in
    let here = c.loop-theory.theory in
    let so_far = c.loop-theory.invariant in
    let closed : ℕ = count all - count here.context in
    let fewer : count c.leave.new.self.context ≡ count here.context - 1 = ap (λ (s : Standing). count s.context) c.leave.ensures ∙ count_without_last here.context in
    let more : suc closed ≡ count all - count c.leave.new.self.context = omega (arith, fewer, c.loop-theory-test.true, c.depth.ensures, so_far.2) in
    let context : without_last here.context ≡ without (count all - count c.leave.new.self.context) all =
    ap (λ (s : Standing). without_last s.context) so_far.0 ∙ without_more closed all ∙ ap (λ n. without n all) more in (
      c.leave.ensures ∙ ap (λ (s : Standing). record s { context = without_last here.context }) so_far.0
          ∙ ap (λ (ctx : Trees). record c.args.theory.now { context = ctx }) context,
      omega (arith, fewer, c.loop-theory-test.true, c.depth.ensures),
      omega (arith, fewer, so_far.2),
    )
