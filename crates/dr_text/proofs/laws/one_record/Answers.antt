use Rattle.dr_text.proofs.Once.{one_spelling, one_record}
use Rattle.dr_text.proofs.laws.one_record.Goals as goal

pub returns-clause-spelling : goal.returns-clause-spelling
returns-clause-spelling c = one_spelling

pub returns-clause-place : goal.returns-clause-place
returns-clause-place c = one_record
