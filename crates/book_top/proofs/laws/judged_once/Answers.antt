use Rattle.book_top.proofs.OneVerdict.{judged_once}
use Rattle.book_top.proofs.laws.judged_once.Goals as goal

pub returns : goal.returns
returns c = judged_once
