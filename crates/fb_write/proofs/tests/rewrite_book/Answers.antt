use Rattle.fb_write.proofs.CallerLemmas.{parsed_names_lie}
use Rattle.fb_write.proofs.tests.rewrite_book.Goals as goal

pub write_item-requires : goal.write_item-requires
write_item-requires c = parsed_names_lie c.args.text.now c.in-Ok.book.items.now c.loop-item.item-index c.item-item.result c.loop-item-test.true c.item-item.is c.in-Ok.ensures.stands
