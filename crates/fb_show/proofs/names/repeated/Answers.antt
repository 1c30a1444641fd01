use Rattle.std.proofs.Common.{◌≡◌, ◌++◌, ◌∷◌, [], replicate, ap, ◌∙◌, arith}
use Rattle.std.specs.String.{string_bytes}
use Rattle.std.proofs.lemmas.Grind.{common_steps}
use Rattle.std.proofs.lemmas.List.{replicate_more}
use Rattle.fb_show.proofs.names.repeated.Goals as goal

pub loop-init : goal.loop-init
loop-init g c = c.new-text.ensures.bytes

pub loop-preserved : goal.loop-preserved
loop-preserved g c =
    let e : string_bytes c.push.new.self ≡ string_bytes c.loop.text ++ c.args.letter ∷ [] = grind (arith, common_steps) in
    e ∙ ap (λ v. v ++ c.args.letter ∷ []) c.loop.invariant ∙ replicate_more c.loop.counter c.args.letter

pub returns : goal.returns
returns g c = let e : c.loop.counter ≡ c.args.times = omega arith in c.loop.invariant ∙ ap (λ n. replicate n c.args.letter) e
