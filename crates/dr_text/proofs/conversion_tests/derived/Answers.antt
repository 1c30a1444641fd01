use Rattle.std.proofs.Common.{◌∙◌}
use Rattle.ld_record.specs.Kept.{known_of}
use Rattle.ld_record.proofs.Growing.{knows_later, knows_context_later, adds_trans}
use Rattle.dr_text.proofs.conversion_tests.derived.Goals as goal

pub function-requires-clause-j : goal.function-requires-clause-j
function-requires-clause-j c =
    let items = c.args.bank.now in
    knows_later (known_of items c.first_sort.new.deriv) (known_of items c.one_type.new.deriv) c.in_ok-j.j _ c.one_type.ensures.adds c.in_ok-j.ensures.number

pub applied-requires-clause-ctx : goal.applied-requires-clause-ctx
applied-requires-clause-ctx c =
    let items = c.args.bank.now in
    knows_context_later (known_of items c.one_type.new.deriv) (known_of items c.function.new.deriv) c.in_ok-ctx.ctx _ c.function.ensures.adds c.in_ok-ctx.ensures.ctx

pub applied-requires-clause-j : goal.applied-requires-clause-j
applied-requires-clause-j c =
    let items = c.args.bank.now in
    let k1 = known_of items c.first_sort.new.deriv in
    let k2 = known_of items c.one_type.new.deriv in
    let k3 = known_of items c.function.new.deriv in
    knows_later k1 k3 c.in_ok-j.j _ (adds_trans k1 k2 k3 c.one_type.ensures.adds c.function.ensures.adds) c.in_ok-j.ensures.number

pub applied-requires-clause-typed : goal.applied-requires-clause-typed
applied-requires-clause-typed c =
    let items = c.args.bank.now in
    knows_later (known_of items c.one_type.new.deriv) (known_of items c.function.new.deriv) c.in_ok-ctx.typed _ c.function.ensures.adds c.in_ok-ctx.ensures.typed

pub converted-requires-clause-env : goal.converted-requires-clause-env
converted-requires-clause-env c = c.applied.ensures.adds.env ∙ c.function.ensures.adds.env ∙ c.one_type.ensures.adds.env ∙ c.in_ok-j.ensures.env

pub converted-requires-clause-j : goal.converted-requires-clause-j
converted-requires-clause-j c =
    let items = c.args.bank.now in
    let k1 = known_of items c.first_sort.new.deriv in
    let k2 = known_of items c.one_type.new.deriv in
    let k3 = known_of items c.function.new.deriv in
    let k4 = known_of items c.applied.new.deriv in
    knows_later k1 k4 c.in_ok-j.j _ (adds_trans k1 k2 k4 c.one_type.ensures.adds (adds_trans k2 k3 k4 c.function.ensures.adds c.applied.ensures.adds)) c.in_ok-j.ensures.number

pub converted-requires-clause-outer : goal.converted-requires-clause-outer
converted-requires-clause-outer c =
    let items = c.args.bank.now in
    let k2 = known_of items c.one_type.new.deriv in
    let k3 = known_of items c.function.new.deriv in
    let k4 = known_of items c.applied.new.deriv in
    knows_context_later k2 k4 c.in_ok-ctx.ctx _ (adds_trans k2 k3 k4 c.function.ensures.adds c.applied.ensures.adds) c.in_ok-ctx.ensures.ctx

pub converted-requires-clause-typed : goal.converted-requires-clause-typed
converted-requires-clause-typed c =
    let items = c.args.bank.now in
    let k2 = known_of items c.one_type.new.deriv in
    let k3 = known_of items c.function.new.deriv in
    let k4 = known_of items c.applied.new.deriv in
    knows_later k2 k4 c.in_ok-ctx.typed _ (adds_trans k2 k3 k4 c.function.ensures.adds c.applied.ensures.adds) c.in_ok-ctx.ensures.typed
