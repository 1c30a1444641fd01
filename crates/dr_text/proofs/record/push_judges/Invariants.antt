use Rattle.std.proofs.Common.{◌≡◌, ◌++◌, ◌<◌, ◌^◌, take}
use Rattle.std.specs.List.{AllByRecursion}
use Rattle.ld_record.specs.Follows.{numbers_of}
use Rattle.dr_text.specs.Spelling.{numbers_bytes}
use Rattle.dr_text.proofs.record.push_judges.Given as goal

-- the bytes of the numbers so far are appended, and these are in their range
abbrev pub invariant-loop-j : goal.invariant-loop-j
invariant-loop-j l =
    (l.out.items ≡ l.fn.out.items ++ numbers_bytes (numbers_of (take l.j-index l.judges))) × AllByRecursion (λ n. n < 2 ^ 64) (numbers_of (take l.j-index l.judges))
