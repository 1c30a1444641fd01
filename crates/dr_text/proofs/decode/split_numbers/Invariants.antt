use Rattle.dr_text.proofs.Splitting.{ReadsSome}
use Rattle.dr_text.proofs.decode.split_numbers.Given as goal

-- the numbers before the place are read
abbrev pub invariant-loop-place : goal.invariant-loop-place
invariant-loop-place l = ReadsSome l.bytes l.rest l.count l._place
