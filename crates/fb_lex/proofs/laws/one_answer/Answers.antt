use Rattle.fb_lex.proofs.TokensOnce.{one_next_token, one_fault, not_both_stand}
use Rattle.fb_lex.proofs.laws.one_answer.Goals as goal

pub returns-clause-token : goal.returns-clause-token
returns-clause-token c = one_next_token

pub returns-clause-fault : goal.returns-clause-fault
returns-clause-fault c = one_fault

pub returns-clause-not_both : goal.returns-clause-not_both
returns-clause-not_both c = not_both_stand
