use Rattle.std.proofs.Common.{◌-◌, refl, arith, sym, subst}
use Rattle.dr_text.specs.Read.{GoesOn}
use Rattle.dr_text.proofs.Reading.{reads_none, reads_byte, reads_end, reads_no_byte, reads_zero, reads_last, reads_no_last, product_fits, sum_below, scale_small, scale_more, scale_top, answered}
use Rattle.dr_text.proofs.decode.read_others.Goals as goal

pub loop-place-init : goal.loop-place-init
loop-place-init c = record { on = reads_none c.args.low c.args.bytes.now; scale = refl; below = c.requires }

pub returns-in_default-clause-number : goal.returns-in_default-clause-number
returns-in_default-clause-number c =
    reads_no_byte c.args.low c.args.bytes.now c.loop-place.value c.loop-place.scale c.loop-place.rest.now (c.in_default.ensures {u = tt}).cases c.loop-place.invariant.on

pub returns-then-b-eq0-clause-number : goal.returns-then-b-eq0-clause-number
returns-then-b-eq0-clause-number c =
    reads_zero c.args.low c.args.bytes.now c.loop-place.value c.loop-place.scale c.loop-place.rest.now c.in-Some.b.now c.in-Some.behind.now
    (c.in-Some.ensures {u = tt}).cases.0 c.if-b-eq0.true c.loop-place.invariant.on

pub overflow_mul-result : goal.overflow_mul-result
overflow_mul-result c =
    omega (arith, product_fits c.loop-place.scale c.in-Some.b.now (scale_small _ c.loop-place._place c.loop-place.invariant.scale c.loop-place-test.true) c.if-b-lt128.true)

pub overflow_add-result : goal.overflow_add-result
overflow_add-result c =
    let small = scale_small c.loop-place.scale c.loop-place._place c.loop-place.invariant.scale c.loop-place-test.true in
    omega (arith, small, c.loop-place.invariant.below, product_fits c.loop-place.scale c.in-Some.b.now small c.if-b-lt128.true)

pub returns-then-b-lt128-clause-number : goal.returns-then-b-lt128-clause-number
returns-then-b-lt128-clause-number c =
    reads_end c.args.low c.args.bytes.now c.loop-place.value c.loop-place.scale c.loop-place.rest.now c.in-Some.b.now c.in-Some.behind.now
    (c.in-Some.ensures {u = tt}).cases.0 (omega (arith, c.if-b-eq0.false)) c.if-b-lt128.true c.loop-place.invariant.on

pub overflow_mul-value : goal.overflow_mul-value
overflow_mul-value c =
    omega (arith, product_fits c.loop-place.scale (c.in-Some.b.now - 128) (scale_small _ c.loop-place._place c.loop-place.invariant.scale c.loop-place-test.true) (omega arith))

pub overflow_add-value : goal.overflow_add-value
overflow_add-value c =
    let small = scale_small c.loop-place.scale c.loop-place._place c.loop-place.invariant.scale c.loop-place-test.true in
    omega (arith, small, sum_below c.loop-place.value c.loop-place.scale c.in-Some.b.now c.loop-place.invariant.below (omega arith))

pub overflow_mul-scale : goal.overflow_mul-scale
overflow_mul-scale c =
    omega (arith, scale_small c.loop-place.scale c.loop-place._place c.loop-place.invariant.scale c.loop-place-test.true)

pub loop-place-preserved : goal.loop-place-preserved
loop-place-preserved c = record {
  on = reads_byte c.args.low c.args.bytes.now c.loop-place.value c.loop-place.scale c.loop-place.rest.now c.in-Some.b.now c.in-Some.behind.now
      (c.in-Some.ensures {u = tt}).cases.0 c.if-b-lt128.false (omega arith) c.loop-place.invariant.on;
  scale = scale_more c.loop-place.scale c.loop-place._place c.loop-place.invariant.scale;
  below = sum_below c.loop-place.value c.loop-place.scale c.in-Some.b.now c.loop-place.invariant.below (omega arith);
}

pub read_last-requires : goal.read_last-requires
read_last-requires c =
    omega (arith, c.loop-place.invariant.below, scale_top c.loop-place.scale c.loop-place._place c.loop-place.invariant.scale (omega arith))

pub returns-clause-number : goal.returns-clause-number
returns-clause-number c =
    let top = scale_top c.loop-place.scale c.loop-place._place c.loop-place.invariant.scale (omega arith) in
    answered c.read_last.result _ _ _ _
    (λ none. reads_no_last c.args.low c.args.bytes.now c.loop-place.value c.loop-place.scale c.loop-place.rest.now top none c.loop-place.invariant.on)
    (λ p h.
    let last = reads_last c.args.low c.args.bytes.now c.loop-place.value c.loop-place.scale c.loop-place.rest.now p.1.now top h.1 c.loop-place.invariant.on in
    subst (λ x. GoesOn c.args.low 128 c.args.bytes.now x p.1.now) (sym h.0) last)
    c.read_last.ensures.last

pub returns-then-b-lt128-clause-small : goal.returns-then-b-lt128-clause-small
returns-then-b-lt128-clause-small c =
    let small = scale_small c.loop-place.scale c.loop-place._place c.loop-place.invariant.scale c.loop-place-test.true in
    omega (arith, small, c.loop-place.invariant.below, product_fits c.loop-place.scale c.in-Some.b.now small c.if-b-lt128.true)
