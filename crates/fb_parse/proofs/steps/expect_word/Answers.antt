use Rattle.fb_parse.proofs.Arguments.{word_read}
use Rattle.fb_parse.proofs.steps.expect_word.Goals as goal

pub returns-clause-read : goal.returns-clause-read
returns-clause-read c = word_read _ _ _ c.requires.is _ c.advance.ensures.next
