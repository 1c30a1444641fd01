use Rattle.ld_record.specs.Kept.{known_of}
use Rattle.ld_record.proofs.Following.{primitive_fits}
use Rattle.ld_record.proofs.sample.primitive.Goals as goal

pub entry-requires-clause-fits : goal.entry-requires-clause-fits
entry-requires-clause-fits c =
    primitive_fits (known_of c.args.bank.now c.args.deriv.now) c.args.name c.args.j c.requires.known c.requires.number c.requires.some c.requires.short
