use Rattle.std.proofs.Common.{refl, ◌∙◌, arith}
use Rattle.dr_text.proofs.Undoing.{below_more, in_table}
use Rattle.dr_text.proofs.terms.Terms.forget_from.Goals as goal

pub loop-place-init : goal.loop-place-init
loop-place-init c = (refl, λ i n at. at, λ i n l at. absurd (omega (arith, l)))

pub loop-place-preserved : goal.loop-place-preserved
loop-place-preserved c = (
  c.forget_above.ensures.length ∙ c.loop-place.invariant.0,
  λ i n at. c.loop-place.invariant.1 i n (c.forget_above.ensures.kept i n at),
  below_more _ _ c.loop-place.place c.args.count c.forget_above.ensures.below c.forget_above.ensures.kept c.loop-place.invariant.2,
)

pub returns : goal.returns
returns c = record {
  left = refl;
  each = λ t n at. (c.loop-place.invariant.2 t.0 n (let l = in_table _ t.0 n at in omega (arith, l, c.loop-place.invariant.0)) at, c.loop-place.invariant.1 t.0 n at);
}
