use Rattle.std.proofs.Common.{◌≡◌, ◌++◌, ◌∷◌, [], length, arith, ap, ◌∙◌, refl}
use Rattle.std.proofs.lemmas.Grind.{common_steps}
use Rattle.std.proofs.lemmas.List.{length_push}
use Rattle.ld_terms.specs.Tree.{◌▸◌}
use Rattle.ld_terms.specs.Bank.{tree_at}
use Rattle.ld_terms.specs.Known.{context_at}
use Rattle.ld_record.specs.declared.record.Kept.TheVariants.{Context}
use Rattle.ld_record.specs.Kept.{known_of}
use Rattle.ld_record.specs.Tables.{contexts_of}
use Rattle.ld_record.proofs.Keeping.{IsAdded, added, tables_push, contexts_known, contexts_within}
use Rattle.ld_record.proofs.Growing.{last_context, knows_context_by, adds_by, adds_context}
use Rattle.ld_record.proofs.deriv.Deriv.extend.Goals as goal
use Rattle.ld_record.proofs.deriv.Deriv.extend.Goals.{In_ok-map_err, After-self-1}

pushed : (c : After-self-1) → c.push.new.self.items ≡ c.self.inside.kept.items ++ Context c.args.ctx c.args.t ∷ []
pushed c = grind (arith, common_steps)

now : (c : After-self-1) → IsAdded c.args.bank.now c.args.self.now c.push.new.self.items (Context c.args.ctx c.args.t)
now c =
    added c.args.bank.now c.args.self.now c.push.new.self.items (Context c.args.ctx c.args.t)
    c.requires.sound c.requires.fits
    (pushed c ∙ ap (λ ks. ks ++ Context c.args.ctx c.args.t ∷ []) c.self.view_is)

pub overflow_add-self : goal.overflow_add-self
overflow_add-self c =
    let within = contexts_within c.self.inside.kept.items in
    let are = c.self.invariant.contexts_are in
    let more = length_push c.self.inside.kept.items (Context c.args.ctx c.args.t) in
    let push : c.push.new.self.items ≡ c.self.inside.kept.items ++ Context c.args.ctx c.args.t ∷ [] = grind (arith, common_steps) in
    let longer = ap length push in
    omega arith

pub invariant_of-self-2 : goal.invariant_of-self-2
invariant_of-self-2 c =
    tables_push _ _ _ _ _ _ _ _ _ _ (Context c.args.ctx c.args.t) c.self.invariant (pushed c) (grind (arith, common_steps)) (grind (arith, common_steps)) refl (omega arith)

pub returns-clause-known : goal.returns-clause-known
returns-clause-known c = (now c).known

pub returns-clause-number : goal.returns-clause-number
returns-clause-number c =
    knows_context_by _ _ _ _ (now c).known
    (last_context (known_of c.args.bank.now c.args.self.now) (context_at (known_of c.args.bank.now c.args.self.now) c.args.ctx.0 ▸ tree_at c.args.bank.now c.args.t) _
    (omega (arith, contexts_known c.args.bank.now c.args.self.now, c.self.invariant.contexts_are, ap contexts_of c.self.view_is)))

pub returns-clause-adds : goal.returns-clause-adds
returns-clause-adds c =
    adds_by _ _ _ (adds_context (known_of c.args.bank.now c.args.self.now) (context_at (known_of c.args.bank.now c.args.self.now) c.args.ctx.0 ▸ tree_at c.args.bank.now c.args.t)) (now c).known

pub returns-clause-sound : goal.returns-clause-sound
returns-clause-sound c = (now c).sound
