use Rattle.std.proofs.Common.{inl, refl}
use Rattle.ld_convert.proofs.Finding.{kept_with, not_there}
use Rattle.ld_convert.proofs.at_once.remember.Goals as goal

pub returns-in-Some-clause-kept : goal.returns-in-Some-clause-kept
returns-in-Some-clause-kept c = inl refl

pub returns-in-None-clause-kept : goal.returns-in-None-clause-kept
returns-in-None-clause-kept c = kept_with c.args.known.now c.add.new.self _ c.add.result c.add.ensures.ok c.add.ensures.err

pub add-requires : goal.add-requires
add-requires c = not_there c.args.bank.now c.args.known.now c.args.a c.args.b c.in-None.ensures
