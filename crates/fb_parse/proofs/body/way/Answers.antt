use Rattle.fb_parse.proofs.Bodies.{no_way}
use Rattle.fb_parse.proofs.body.way.Goals as goal

pub returns-clause-read : goal.returns-clause-read
returns-clause-read c = no_way c.args.text.now c.args.at c.if-is_word.ensures c.if-is_word-2.ensures c.if-is_word-3.ensures c.if-is_word-4.ensures
