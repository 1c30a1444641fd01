use Rattle.std.proofs.Common.{ap, refl}
use Rattle.ld_env.specs.Named.{named}
use Rattle.ld_env.specs.Entries.{entry_of, body_of}
use Rattle.dr_check.specs.declared.shape.Filling.TheVariants as filling
use Rattle.dr_check.proofs.Deciding.{not_so}
use Rattle.dr_check.proofs.Comparing.{instance_by, count_by}
use Rattle.dr_check.proofs.EqualBy.{delta_rule, delta_is}
use Rattle.dr_check.proofs.equal.unfolds.Goals as goal

pub returns-then-has_count : goal.returns-then-has_count
returns-then-has_count c =
    let items = c.args.checker.now.items in
    let has = ap (body_of items) c.in-Some-body.is in
    let many = count_by items c.bank-bank.result.now c.args.us _ _ c.bank-bank.ensures c.as_slice.ensures c.if-has_count.ensures in
    let h = instance_by items c.bank-bank.result.now c.args.r c.in-Some-body.body (filling.List c.args.us) c.bank-bank.ensures c.is_instance.ensures in
    delta_rule c.args.checker.now.state.known c.args.k _ _ (entry_of items (named c.in-Some.ensures.name c.in-Some.entry.now)) _ c.in-Some.ensures.at has (many.0 refl) h

pub returns-else-has_count : goal.returns-else-has_count
returns-else-has_count c =
    let items = c.args.checker.now.items in
    let has = ap (body_of items) c.in-Some-body.is in
    let many = count_by items c.bank-bank.result.now c.args.us _ _ c.bank-bank.ensures c.as_slice.ensures c.has_count.ensures in
    not_so c.if-has_count.false many (λ s. (delta_is c.args.checker.now.state.known c.args.k _ _ (entry_of items (named c.in-Some.ensures.name c.in-Some.entry.now)) _ c.in-Some.ensures.at has s).as_many)
