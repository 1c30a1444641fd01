use Rattle.std.proofs.Common.{◌≡◌}
use Rattle.dr_text.specs.Written.{Carries, KeepsNumbers}
use Rattle.dr_text.proofs.writer.Writer.records.Given as goal

-- the records before the place are written, and earlier numbers are kept
abbrev pub invariant-loop-place : goal.invariant-loop-place
invariant-loop-place l =
    Carries l.bank l.deriv l.fn.self.terms l.self.terms l.fn.out.items l.out.items l.fn.self.written l.place × (l.self.written ≡ l.fn.self.written)
    × KeepsNumbers l.fn.self.terms l.self.terms
