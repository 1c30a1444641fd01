use Rattle.std.proofs.Common.{refl, sym, ◌∙◌, arith}
use Rattle.fb_show.specs.Cut.{own_names}
use Rattle.fb_show.specs.Display.{is_numbered}
use Rattle.fb_show.proofs.Taken.{any_here, any_more, any_whole, own_count}
use Rattle.fb_show.proofs.names.is_flag_taken.Goals as goal

pub loop-level-init : goal.loop-level-init
loop-level-init c = refl

pub returns-then-is_numbered : goal.returns-then-is_numbered
returns-then-is_numbered c =
    sym (any_here (is_numbered c.args.letter c.args.letters) (own_names c.args.scope.now) c.loop-level.level c.flag_name.result.now c.flag_name.ensures (sym c.is_numbered.ensures ∙ c.if-is_numbered.true))

pub loop-level-preserved : goal.loop-level-preserved
loop-level-preserved c =
    any_more (is_numbered c.args.letter c.args.letters) (own_names c.args.scope.now) c.loop-level.level c.flag_name.result.now c.flag_name.ensures
    (sym c.is_numbered.ensures ∙ c.if-is_numbered.false) c.loop-level.invariant

pub returns : goal.returns
returns c =
    sym (any_whole (is_numbered c.args.letter c.args.letters) (own_names c.args.scope.now) c.loop-level.level
    (let e = c.depth-level-end.ensures.depth in let t = c.loop-level-test.false in omega (arith, e, t, own_count c.args.scope.now)) c.loop-level.invariant)
