use Rattle.std.proofs.Common.{◌≡◌, ◌-◌, suc, ap, arith}
use Rattle.ld_env.specs.Named.{named}
use Rattle.ld_env.specs.Entries.{entry_of, body_of}
use Rattle.dr_check.proofs.FollowBy.{def_rule}
use Rattle.dr_check.proofs.follow.by_def.Goals as goal

pub returns-in-Some-body : goal.returns-in-Some-body
returns-in-Some-body c =
    let items = c.args.checker.now.items in
    let next : c.args.m ≡ suc (c.args.m - 1) = omega arith in
    let has = ap (body_of items) c.in-Some-body.is in
    def_rule c.args.checker.now.state.known c.args.m (c.args.m - 1) c.args.n _ _ _ _ (entry_of items (named c.in-Some.ensures.name c.in-Some.entry.now)) next c.in-Some.ensures.at has c.judges.ensures
