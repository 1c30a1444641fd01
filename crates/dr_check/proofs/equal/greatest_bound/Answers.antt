use Rattle.std.proofs.Common.{◌≡◌, ◌<◌, ◌+◌, ◌++◌, ◌∷◌, [], max, map, take, length, get_or, ap, sym, ◌∙◌, arith}
use Rattle.std.proofs.lemmas.List.{map_more}
use Rattle.ld_terms.specs.Known.{greatest, bound_at}
use Rattle.dr_check.proofs.EqualBy.{greatest_last}
use Rattle.dr_check.proofs.equal.greatest_bound.Goals as goal

pub loop-e-preserved : goal.loop-e-preserved
loop-e-preserved c =
    let known = c.args.checker.now.state.known in
    let i = c.loop-e.e-index in
    let es = c.args.es.now in
    let within : i < length es = omega arith in
    let more : map (bound_at known) (take (i + 1) es) ≡ map (bound_at known) (take i es) ++ bound_at known (get_or es i 0) ∷ [] = map_more (bound_at known) es i 0 within in
    let g = ap greatest more in
    let l = greatest_last (map (bound_at known) (take i es)) (bound_at known (get_or es i 0)) in
    let b : c.equality.result.bound ≡ bound_at known (get_or es i 0) = ap (λ x. x.bound) c.equality.ensures.is in
    c.greater-bound.ensures ∙ ap (λ x. max x c.equality.result.bound) c.loop-e.invariant ∙ ap (λ x. max (greatest (map (bound_at known) (take i es))) x) b ∙ sym l ∙ sym g
