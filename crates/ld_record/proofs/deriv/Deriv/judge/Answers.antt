use Rattle.std.proofs.Common.{ap, ◌∙◌, arith, length}
use Rattle.ld_record.specs.Tables.{judges_of}
use Rattle.ld_record.proofs.Keeping.{nodes_known}
use Rattle.ld_record.proofs.Growing.{read_judge}
use Rattle.ld_record.proofs.deriv.Deriv.judge.Goals as goal

pub index-requires : goal.index-requires
index-requires c = omega (arith, c.requires.live, nodes_known c.args.bank.now c.args.self.now, ap length c.self.invariant.judges_are, ap (λ ks. length (judges_of ks)) c.self.view_is)

pub returns : goal.returns
returns c = read_judge c.args.bank.now c.args.self.now _ _ c.args.j c.requires.sound (c.self.invariant.judges_are ∙ ap judges_of c.self.view_is) c.requires.live c.index.ensures
