use Rattle.std.proofs.Common.{◌≡◌, arith}
use Rattle.dr_check.proofs.Deciding.{through}
use Rattle.dr_check.proofs.Comparing.{gone_down, none_left}
use Rattle.dr_check.proofs.compare.has_count.Goals as goal

pub returns : goal.returns
returns c =
    let all : c.loop-i._i ≡ c.args.number = omega arith in
    through c.is_empty.ensures (gone_down _ _ _ _ c.loop-i.invariant.gone all) (none_left _ _ _ _ c.loop-i.invariant.gone all)
