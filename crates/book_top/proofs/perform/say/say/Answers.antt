use Rattle.book_top.proofs.Performing.{said_nothing}
use Rattle.book_top.proofs.perform.say.say.Goals as goal

pub returns-in-Desk-clause-said : goal.returns-in-Desk-clause-said
returns-in-Desk-clause-said g c = λ told. said_nothing c.args.subject c.args.text.now _ _ c.in-Desk.is
