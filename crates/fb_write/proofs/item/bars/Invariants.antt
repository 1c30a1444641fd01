use Rattle.std.proofs.Common.{◌-◌}
use Rattle.fb_write.specs.Canonical.{bars_text}
use Rattle.fb_write.proofs.Written.{Written}
use Rattle.fb_write.proofs.item.bars.Given as goal

abbrev pub invariant-loop : goal.invariant-loop
invariant-loop l = Written l.fn.out.items l.out.items (bars_text (l.count - l.counter)) (bars_text l.count)
