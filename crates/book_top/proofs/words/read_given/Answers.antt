use Rattle.std.proofs.Common.{subst}
use Rattle.clap.specs.Matches.{found_of}
use Rattle.book_top.specs.CommandLine.{Finds}
use Rattle.book_top.specs.Words.{texts}
use Rattle.book_top.proofs.CommandLines.{arranged, exceeds}
use Rattle.book_top.proofs.TextWords.{each_word}
use Rattle.book_top.proofs.words.read_given.Goals as goal

pub returns : goal.returns
returns c =
    let found = subst (Finds (texts c.args.words.now)) c.in-Some.is c.in_ok-matches.ensures in
    arranged (texts c.args.words.now) (found_of c.in-Some.matches) c.get_str.result c.get_str-2.result c.get_str-3.result c.get_str-4.result
    (each_word c.args.words.now c.requires) found.0 found.1 c.get_str.ensures c.get_str-2.ensures c.get_str-3.ensures c.get_str-4.ensures

pub returns-in_default : goal.returns-in_default
returns-in_default c = exceeds (texts c.args.words.now) (subst (Finds (texts c.args.words.now)) c.in_default.is c.in_ok-matches.ensures)
