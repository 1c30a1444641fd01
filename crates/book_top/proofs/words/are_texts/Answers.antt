use Rattle.book_top.proofs.TextWords.{one_more}
use Rattle.book_top.proofs.words.are_texts.Goals as goal

pub loop-word-preserved : goal.loop-word-preserved
loop-word-preserved c = one_more c.args.words.now c.loop-word.word-index _ c.loop-word-test.true c.is_text.ensures c.loop-word.invariant
