use Rattle.std.proofs.Common.{length, subst, ap, arith}
use Rattle.ld_terms.specs.Entry.{Env, EntryAt}
use Rattle.ld_env.specs.Named.{named}
use Rattle.ld_env.specs.Entries.{entry_of}
use Rattle.ld_env.proofs.CallerLemmas.{has_entry, live_entry, length-env_of}
use Rattle.dr_check.proofs.known.entry_at.Goals as goal

pub returns-then-k-len : goal.returns-then-k-len
returns-then-k-len c =
    let h = has_entry c.args.checker.now.items c.env-then-k-len.result.now c.args.k c.entry.result.now c.entry.ensures in
    record {
      name = h.name;
      at = subst (λ (e : Env). EntryAt e c.args.k (entry_of c.args.checker.now.items (named h.name c.entry.result.now))) c.env-then-k-len.ensures.trees h.at;
      live = live_entry c.args.checker.now.items c.env-then-k-len.result.now c.args.k c.entry.result.now c.env-then-k-len.ensures.live c.entry.ensures;
    }

pub returns-else-k-len : goal.returns-else-k-len
returns-else-k-len c = omega (arith, length-env_of c.args.checker.now.items c.env.result.now, ap length c.env.ensures.trees)
