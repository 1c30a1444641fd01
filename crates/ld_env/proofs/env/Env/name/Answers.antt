use Rattle.std.proofs.Common.{Some, slice_get, sym, ap, ◌∙◌}
use Rattle.ld_env.specs.Named.{names_of}
use Rattle.ld_env.proofs.Names.{name_at}
use Rattle.ld_env.proofs.env.Env.name.Goals as goal

pub returns : goal.returns
returns c =
    let here = name_at c.self.inside.entries.entries c.args.k c.in-Some.name.now c.in-Some.field-0-1.now (sym c.in-Some.ensures.entry) in
    ap (λ ns. slice_get (names_of ns) c.args.k) (sym c.self.view_is) ∙ here ∙ ap Some (sym c.deref.ensures.value)
