use Rattle.fb_scope.proofs.Entries.{position_of, within}
use Rattle.fb_scope.proofs.resolve.entry_named.Goals as goal

pub returns-clause-place : goal.returns-clause-place
returns-clause-place c = position_of _ _ _ c.find.ensures.distinct c.find.ensures.place

pub returns-clause-within : goal.returns-clause-within
returns-clause-within c = within c.args.name.now c.args.env.now c.find.result c.find.ensures.place
