use Rattle.std.proofs.Common.{slice_get, sym, ap, ◌∙◌}
use Rattle.ld_env.specs.Named.{entries_of}
use Rattle.ld_env.proofs.Names.{entries_are}
use Rattle.ld_env.proofs.env.Env.entry.Goals as goal

pub returns : goal.returns
returns c = ap (λ es. slice_get es c.args.k) (ap entries_of (sym c.self.view_is) ∙ entries_are c.self.inside.entries.entries) ∙ c.index.ensures
