use Rattle.std.proofs.Common.{◌≡◌, ◌++◌, take}
use Rattle.dr_text.specs.Spelling.{numbers_bytes}
use Rattle.dr_text.proofs.number.push_numbers.Given as goal

-- the bytes of the numbers so far are appended
abbrev pub invariant-loop-n : goal.invariant-loop-n
invariant-loop-n l = l.out.items ≡ l.fn.out.items ++ numbers_bytes (take l.n-index l.numbers)
