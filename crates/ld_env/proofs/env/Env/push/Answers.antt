use Rattle.std.proofs.Common.{◌≡◌, ◌∷◌, ◌++◌, [], Contains, subst, sym, ap, ◌∙◌, arith}
use Rattle.std.proofs.lemmas.Grind.{common_steps}
use Rattle.indexmap.specs.IndexMap.{insert_entry}
use Rattle.indexmap.proofs.CallerLemmas.{insert_entry-new}
use Rattle.ld_env.specs.Named.{named, named_of, names_of}
use Rattle.ld_env.proofs.Names.{pushed, missing, from_none, same_names}
use Rattle.ld_env.proofs.env.Env.push.Goals as goal

pub returns-clause-ok : goal.returns-clause-ok
returns-clause-ok c =
    let old = c.self.inside.entries in
    let key = c.into_bytes.result in
    let name : key.items ≡ c.bytes.result.now = c.into_bytes.ensures ∙ sym c.bytes.ensures in
    let free : Contains (names_of (named_of old.entries)) key.items → ⊥ =
    λ h. from_none c.find.result _ _ (sym c.is_some.ensures ∙ c.if-is_some.false) c.find.ensures.place
    (subst (λ ns. Contains (names_of ns) c.bytes.result.now) c.self.view_is (subst (Contains (names_of (named_of old.entries))) name h)) in
    let inserted : c.insert.new.self.entries ≡ insert_entry same_names old.entries key c.args.entry = grind (arith, common_steps) in
    let last = insert_entry-new same_names old key c.args.entry (missing key.items old.entries free) in
    pushed old.entries c.insert.new.self.entries key c.args.entry (inserted ∙ last)
    ∙ ap (λ ns. ns ++ named key.items c.args.entry ∷ []) c.self.view_is
    ∙ ap (λ n. c.args.self.now ++ named n c.args.entry ∷ []) c.into_bytes.ensures
