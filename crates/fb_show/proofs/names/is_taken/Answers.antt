use Rattle.std.proofs.Common.{refl, sym, ◌∙◌, arith}
use Rattle.std.proofs.lemmas.List.{length-map}
use Rattle.ld_env.specs.Named.{names_of}
use Rattle.fb_show.specs.Display.{is_numbered}
use Rattle.fb_show.proofs.Taken.{any_here, any_more, any_whole}
use Rattle.fb_show.proofs.names.is_taken.Goals as goal

pub loop-k-init : goal.loop-k-init
loop-k-init c = refl

pub returns-then-is_numbered : goal.returns-then-is_numbered
returns-then-is_numbered c = sym (any_here (is_numbered c.args.letter c.args.letters) (names_of c.args.env.now) c.loop-k.k c.name.result.now c.name.ensures (sym c.is_numbered.ensures ∙ c.if-is_numbered.true))

pub loop-k-preserved : goal.loop-k-preserved
loop-k-preserved c = any_more (is_numbered c.args.letter c.args.letters) (names_of c.args.env.now) c.loop-k.k c.name.result.now c.name.ensures (sym c.is_numbered.ensures ∙ c.if-is_numbered.false) c.loop-k.invariant

pub returns : goal.returns
returns c =
    sym (any_whole (is_numbered c.args.letter c.args.letters) (names_of c.args.env.now) c.loop-k.k
    (let e = c.len-k-end.ensures in let t = c.loop-k-test.false in omega (arith, e, t, length-map c.args.env.now (λ n. n.name))) c.loop-k.invariant)
