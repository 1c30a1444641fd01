use Rattle.fb_write.proofs.ItemsGiven.{given_items_are_writable}
use Rattle.fb_write.proofs.ItemsBare.{item_spans_dont_count}
use Rattle.fb_write.proofs.BooksBack.{items_read_back}
use Rattle.fb_write.proofs.laws.items_read_back.Goals as goal

pub returns : goal.returns
returns c = record { given = given_items_are_writable; spans = item_spans_dont_count; back = items_read_back }
