use Rattle.std.proofs.Common.{◌≡◌, ◌++◌, ◌∷◌, [], length, arith, ap, ◌∙◌, refl}
use Rattle.std.proofs.lemmas.Grind.{common_steps}
use Rattle.std.proofs.lemmas.List.{length_push}
use Rattle.ld_record.specs.declared.record.Kept.TheVariants.{Equal}
use Rattle.ld_record.specs.Kept.{known_of, equality_of}
use Rattle.ld_record.specs.Tables.{equalities_of}
use Rattle.ld_record.proofs.Keeping.{IsAdded, added, tables_push, equalities_known, equalities_within}
use Rattle.ld_record.proofs.Growing.{last_equality, knows_equality_by, adds_by, adds_equality}
use Rattle.ld_record.proofs.deriv.Deriv.emit_eq.Goals as goal
use Rattle.ld_record.proofs.deriv.Deriv.emit_eq.Goals.{After-self-1}

pushed : (c : After-self-1) → c.push.new.self.items ≡ c.self.inside.kept.items ++ Equal c.args.left c.args.right c.args.step ∷ []
pushed c = grind (arith, common_steps)

now : (c : After-self-1) → IsAdded c.args.bank.now c.args.self.now c.push.new.self.items (Equal c.args.left c.args.right c.args.step)
now c =
    added c.args.bank.now c.args.self.now c.push.new.self.items (Equal c.args.left c.args.right c.args.step)
    c.requires.sound c.requires.fits
    (pushed c ∙ ap (λ ks. ks ++ Equal c.args.left c.args.right c.args.step ∷ []) c.self.view_is)

pub overflow_add-self : goal.overflow_add-self
overflow_add-self c =
    let within = equalities_within c.self.inside.kept.items in
    let are = c.self.invariant.equalities_are in
    let more = length_push c.self.inside.kept.items (Equal c.args.left c.args.right c.args.step) in
    let push : c.push.new.self.items ≡ c.self.inside.kept.items ++ Equal c.args.left c.args.right c.args.step ∷ [] = grind (arith, common_steps) in
    let longer = ap length push in
    omega arith

pub invariant_of-self-2 : goal.invariant_of-self-2
invariant_of-self-2 c =
    tables_push _ _ _ _ _ _ _ _ _ _ (Equal c.args.left c.args.right c.args.step) c.self.invariant (pushed c) (grind (arith, common_steps)) (grind (arith, common_steps)) (omega arith) refl

pub returns-clause-known : goal.returns-clause-known
returns-clause-known c = (now c).known

pub returns-clause-number : goal.returns-clause-number
returns-clause-number c =
    knows_equality_by _ _ _ _ (now c).known
    (last_equality (known_of c.args.bank.now c.args.self.now) (equality_of c.args.bank.now (known_of c.args.bank.now c.args.self.now) c.args.left c.args.right c.args.step) _
    (omega (arith, equalities_known c.args.bank.now c.args.self.now, c.self.invariant.equalities_are, ap equalities_of c.self.view_is)))

pub returns-clause-adds : goal.returns-clause-adds
returns-clause-adds c =
    adds_by _ _ _ (adds_equality (known_of c.args.bank.now c.args.self.now) (equality_of c.args.bank.now (known_of c.args.bank.now c.args.self.now) c.args.left c.args.right c.args.step)) (now c).known

pub returns-clause-sound : goal.returns-clause-sound
returns-clause-sound c = (now c).sound
