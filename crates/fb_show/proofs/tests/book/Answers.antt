use Rattle.fb_show.proofs.SampleNames.{c_name, a_name}
use Rattle.fb_show.proofs.tests.book.Goals as goal

pub push-requires-clause-name : goal.push-requires-clause-name
push-requires-clause-name c = c_name

pub push-requires-2-clause-name : goal.push-requires-2-clause-name
push-requires-2-clause-name c = a_name
