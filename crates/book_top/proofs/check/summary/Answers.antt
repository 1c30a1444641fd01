use Rattle.std.proofs.Common.{refl}
use Rattle.book_top.proofs.Checks.{entries_kept}
use Rattle.book_top.proofs.check.summary.Goals as goal

pub returns-clause-entries : goal.returns-clause-entries
returns-clause-entries c = entries_kept c.args.theory.now _ _ _ c.len.ensures c.env.ensures.entries c.env.ensures.trees refl
