use Rattle.book_top.proofs.Growing.{books_grow}
use Rattle.book_top.proofs.laws.books_grow.Goals as goal

pub returns : goal.returns
returns c = books_grow
