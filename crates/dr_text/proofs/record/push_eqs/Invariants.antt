use Rattle.std.proofs.Common.{◌≡◌, ◌++◌, ◌<◌, ◌^◌, take}
use Rattle.std.specs.List.{AllByRecursion}
use Rattle.ld_record.specs.Equal.{eq_numbers_of}
use Rattle.dr_text.specs.Spelling.{numbers_bytes}
use Rattle.dr_text.proofs.record.push_eqs.Given as goal

-- the bytes of the numbers so far are appended, and these are in their range
abbrev pub invariant-loop-e : goal.invariant-loop-e
invariant-loop-e l =
    (l.out.items ≡ l.fn.out.items ++ numbers_bytes (eq_numbers_of (take l.e-index l.eqs))) × AllByRecursion (λ n. n < 2 ^ 64) (eq_numbers_of (take l.e-index l.eqs))
