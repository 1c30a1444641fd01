use Rattle.fb_lex.proofs.Names.{names_are_spelled}
use Rattle.fb_lex.proofs.laws.names_are_spelled.Goals as goal

pub returns : goal.returns
returns c = names_are_spelled
