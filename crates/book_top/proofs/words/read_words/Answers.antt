use Rattle.std.proofs.lemmas.Option.{MatchOption-at_some}
use Rattle.book_top.specs.Words.{texts}
use Rattle.book_top.proofs.CommandLines.{asked}
use Rattle.book_top.proofs.Deciding.{decided, where_it_fails}
use Rattle.book_top.proofs.TextWords.{each_word}
use Rattle.book_top.proofs.words.read_words.Goals as goal

pub returns-in-Some-clause-asked : goal.returns-in-Some-clause-asked
returns-in-Some-clause-asked c = asked _ _ _ c.read_command.result (MatchOption-at_some _ _ _ c.in-Some.is c.in_ok-given.ensures).arranges c.read_command.ensures

pub returns-in_err-given-clause-either : goal.returns-in_err-given-clause-either
returns-in_err-given-clause-either c = where_it_fails c.from_residual.result (decided (texts c.args.words.now) (each_word c.args.words.now c.are_texts.ensures))
