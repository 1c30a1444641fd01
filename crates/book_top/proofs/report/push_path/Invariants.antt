use Rattle.std.proofs.Common.{◌≡◌, ◌++◌, take}
use Rattle.book_top.specs.Report.{path_text}
use Rattle.book_top.proofs.report.push_path.Given as goal

-- the steps so far are said
abbrev pub invariant-loop-i : goal.invariant-loop-i
invariant-loop-i l = l.out.items ≡ l.fn.out.items ++ path_text (take l.i l.fn.path)
