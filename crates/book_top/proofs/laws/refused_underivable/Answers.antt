use Rattle.book_top.proofs.Rightness.{refused_underivable}
use Rattle.book_top.proofs.laws.refused_underivable.Goals as goal

pub returns : goal.returns
returns c = refused_underivable
