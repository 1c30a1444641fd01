use Rattle.fb_show.proofs.SampleNames.{x1_name, xx1_name}
use Rattle.fb_show.proofs.tests.numbered_book.Goals as goal

pub push-requires-clause-name : goal.push-requires-clause-name
push-requires-clause-name c = x1_name

pub push-requires-2-clause-name : goal.push-requires-2-clause-name
push-requires-2-clause-name c = xx1_name
