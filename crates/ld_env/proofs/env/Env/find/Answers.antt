use Rattle.std.proofs.Common.{subst, sym}
use Rattle.ld_env.specs.Named.{AreNamesDistinct}
use Rattle.ld_env.proofs.Names.{absent, found_name, distinct_names}
use Rattle.ld_env.proofs.env.Env.find.Goals as goal

pub returns-in_err-place-clause-place : goal.returns-in_err-place-clause-place
returns-in_err-place-clause-place c =
    rw c.from_residual.ensures (rw (← c.self.view_is) (absent c.args.name.now c.self.inside.entries.entries (sym c.in_err-place.ensures.found)))

pub returns-in_err-place-clause-distinct : goal.returns-in_err-place-clause-distinct
returns-in_err-place-clause-distinct c =
    subst AreNamesDistinct c.self.view_is (distinct_names c.self.inside.entries.entries c.in_err-place.ensures.unique)

pub returns-clause-place : goal.returns-clause-place
returns-clause-place c =
    rw (← c.self.view_is) (found_name c.args.name.now c.self.inside.entries.entries c.in_ok-place.place (sym c.in_ok-place.ensures.index) c.in_ok-place.ensures.within)

pub returns-clause-distinct : goal.returns-clause-distinct
returns-clause-distinct c =
    subst AreNamesDistinct c.self.view_is (distinct_names c.self.inside.entries.entries c.in_ok-place.ensures.unique)
