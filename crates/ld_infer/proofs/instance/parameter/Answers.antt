use Rattle.std.proofs.Common.{rules, ◌<◌, ◌+◌, ◌-◌, length, get_or, arith, subst, sym, ap, ◌≡◌, List}
use Rattle.ld_terms.specs.Record.{params_at}
use Rattle.ld_infer.specs.Standing.{env}
use Rattle.ld_terms.specs.Bank.{tree_at, IsTermAt}
use Rattle.ld_terms.specs.declared.bank.TermId.{TermId}
use Rattle.ld_infer.proofs.Instances.{IsEntry, entry_here, parameter_there, parameter_is}
use Rattle.ld_record.specs.Kept.{IsSound}
use Rattle.ld_infer.proofs.Parameters.{parameter_formed}
use Rattle.ld_infer.proofs.instance.parameter.Goals as goal
use Rattle.ld_infer.proofs.instance.parameter.Goals.{After-as_slice}

entry_is : (c : After-as_slice) → IsEntry c.args.theory.now c.args.k c.entry.result.now
entry_is c = entry_here c.args.theory.now _ c.args.k c.entry.result.now c.env.ensures.entries c.entry.ensures c.env.ensures.trees c.env.ensures.live

below : (c : After-as_slice) → c.args.place < length c.as_slice.result.now
below c = let there = parameter_there c.args.theory.now c.args.k c.args.place c.entry.result.now (entry_is c) c.requires.place in omega (arith, there, ap length c.as_slice.ensures)

pub offset_bounds-as_slice-place : goal.offset_bounds-as_slice-place
offset_bounds-as_slice-place c = let h = below c in search rules

pub bounds-as_slice-place : goal.bounds-as_slice-place
bounds-as_slice-place c = below c

pub returns-clause-term : goal.returns-clause-term
returns-clause-term c =
    let P : List TermId → Type 0 = λ ts. IsTermAt c.args.theory.now.items (get_or ts c.args.place (record { 0 = 0 })) in
    let e = entry_here c.args.theory.now _ c.args.k c.entry.result.now c.env.ensures.entries c.entry.ensures c.env.ensures.trees c.env.ensures.live in
    subst P (sym c.as_slice.ensures) (e.live.params c.args.place (record { 0 = 0 }) (parameter_there c.args.theory.now c.args.k c.args.place c.entry.result.now e c.requires.place))

pub returns-clause-is : goal.returns-clause-is
returns-clause-is c ps p is =
    let P : List TermId → Type 0 = λ ts. tree_at c.args.theory.now.items (get_or ts c.args.place (record { 0 = 0 })) ≡ p in
    let e = entry_here c.args.theory.now _ c.args.k c.entry.result.now c.env.ensures.entries c.entry.ensures c.env.ensures.trees c.env.ensures.live in
    subst P (sym c.as_slice.ensures) (parameter_is c.args.theory.now c.args.k c.args.place c.entry.result.now (record { 0 = 0 }) e c.requires.place ps p is)

pub returns-clause-formed : goal.returns-clause-formed
returns-clause-formed c ps us p is many readable =
    let s = c.args.theory.now in
    parameter_formed s c.args.k (params_at (env s) c.args.k - (c.args.place + 1)) ps us p (subst (IsSound s.items) c.deriv-deriv.ensures.kept c.deriv-deriv.ensures.sound) c.requires.there is many readable
