use Rattle.fb_write.proofs.BooksBack.{books_go_on}
use Rattle.fb_write.proofs.laws.books_go_on.Goals as goal

pub returns : goal.returns
returns c = books_go_on
