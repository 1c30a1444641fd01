use Rattle.std.proofs.Common.{subst}
use Rattle.ld_record.specs.Kept.{IsSound}
use Rattle.ld_infer.proofs.Pairs.{pairs_convert}
use Rattle.ld_infer.proofs.theory.Theory.keeps_convertible.Goals as goal

pub returns : goal.returns
returns c =
    let theory = c.args.self.now in
    pairs_convert theory c.args.job.now.known (subst (IsSound theory.items) c.deriv-deriv.ensures.kept c.deriv-deriv.ensures.sound) c.requires.pairs.live.each
