use Rattle.book_top.proofs.Rightness.{verdict_derivable}
use Rattle.book_top.proofs.laws.verdict_derivable.Goals as goal

pub returns : goal.returns
returns c = verdict_derivable
