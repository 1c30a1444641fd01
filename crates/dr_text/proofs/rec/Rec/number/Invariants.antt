use Rattle.std.proofs.Common.{◌≡◌, drop}
use Rattle.dr_text.proofs.rec.Rec.number.Given as goal

-- the numbers before the place are passed
abbrev pub invariant-loop-place : goal.invariant-loop-place
invariant-loop-place l = drop l._place l.self.numbers ≡ l.numbers
