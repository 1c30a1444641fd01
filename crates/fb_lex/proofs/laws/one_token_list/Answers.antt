use Rattle.fb_lex.proofs.TokensOnce.{one_token_list}
use Rattle.fb_lex.proofs.laws.one_token_list.Goals as goal

pub returns : goal.returns
returns c = one_token_list
