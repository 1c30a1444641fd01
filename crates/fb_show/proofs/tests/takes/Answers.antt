use Rattle.std.proofs.Common.{◌≡◌, length, ap, sym, ◌∙◌, arith}
use Rattle.std.proofs.lemmas.Bool.Decides.{nat_tests}
use Rattle.fb_show.proofs.SampleNames.{params_number}
use Rattle.fb_show.proofs.tests.takes.Goals as goal

pub returns-then-k-len : goal.returns-then-k-len
returns-then-k-len c = λ h.
    let e : length c.as_slice.result.now ≡ c.args.given = grind (arith, nat_tests) in
    params_number c.args.env.now c.args.k c.args.given c.entry.result.now c.entry.ensures (ap length (sym c.as_slice.ensures) ∙ e)
