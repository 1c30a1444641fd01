use Rattle.fb_parse.proofs.Stood.{item_names_are_spelled}
use Rattle.fb_parse.proofs.laws.item_names_are_spelled.Goals as goal

pub returns : goal.returns
returns c = item_names_are_spelled
