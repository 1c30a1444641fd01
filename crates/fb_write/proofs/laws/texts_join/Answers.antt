use Rattle.fb_write.proofs.Linked.{texts_join}
use Rattle.fb_write.proofs.LinkedBooks.{books_join}
use Rattle.fb_write.proofs.laws.texts_join.Goals as goal

pub returns : goal.returns
returns c = record { tokens = texts_join; items = books_join }
