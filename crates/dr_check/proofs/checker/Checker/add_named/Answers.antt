use Rattle.std.proofs.Common.{◌≡◌, ◌++◌, ◌∷◌, [], ℕ, List, length, ap, sym, subst, ◌∙◌, refl, arith}
use Rattle.std.proofs.lemmas.Grind.{common_steps}
use Rattle.ld_terms.specs.Item.{Item}
use Rattle.ld_terms.specs.Known.{with_entry}
use Rattle.ld_env.specs.Named.{Named, named}
use Rattle.ld_env.specs.Entries.{entry_of, IsLiveEntry}
use Rattle.dr_check.specs.declared.checker.Noted.TheVariants as noted
use Rattle.dr_check.specs.Stage.{Stage}
use Rattle.dr_check.proofs.Growing.{Say, entry_said}
use Rattle.dr_check.proofs.checker.Checker.add_named.Goals as goal
use Rattle.dr_check.proofs.checker.Checker.add_named.Goals.{Else-is_err}

said : (c : Else-is_err) → Say c.self.inside.bank c.push.new.self c.self.inside.terms.items c.self.inside.contexts.items c.self.inside.equalities.items c.self.inside.nodes.items c.push-2.new.self.items
    (record c.args.self.now.state { known = with_entry c.args.self.now.state.known (entry_of c.self.inside.bank (named c.args.name c.args.entry)) })
said c =
    let x : Named = named c.args.name c.args.entry in
    let bank : c.self.inside.bank ≡ c.args.self.now.items = ap (λ (y : Stage). y.items) c.self.view_is in
    let pushed : c.push.new.self ≡ c.self.inside.env ++ x ∷ [] = grind (arith, common_steps) in
    let noting : c.push-2.new.self.items ≡ c.self.inside.notes.items ++ noted.Entry c.in_ok-number.number ∷ [] = grind (arith, common_steps) in
    let number : c.in_ok-number.number ≡ length c.self.inside.env = grind (arith, common_steps) in
    let say : Say c.self.inside.bank c.self.inside.env c.self.inside.terms.items c.self.inside.contexts.items c.self.inside.equalities.items c.self.inside.nodes.items c.self.inside.notes.items c.args.self.now.state =
    record { tables = c.self.invariant; state = ap (λ (y : Stage). y.state) c.self.view_is } in
    entry_said _ _ _ _ _ _ _ _ say c.push.new.self c.push-2.new.self.items x (entry_of c.self.inside.bank x) pushed
    (noting ∙ ap (λ (n : ℕ). c.self.inside.notes.items ++ noted.Entry n ∷ []) number) (subst (λ (y : List Item). IsLiveEntry y c.args.entry) (sym bank) c.requires.live) refl

pub invariant_of-self-else-is_err : goal.invariant_of-self-else-is_err
invariant_of-self-else-is_err c = (said c).tables

pub returns-clause-ok : goal.returns-clause-ok
returns-clause-ok c =
    let bank : c.self.inside.bank ≡ c.args.self.now.items = ap (λ (y : Stage). y.items) c.self.view_is in
    (said c).state ∙ ap (λ (y : List Item). record c.args.self.now.state { known = with_entry c.args.self.now.state.known (entry_of y (named c.args.name c.args.entry)) }) bank
