use Rattle.std.proofs.Common.{◌≡◌, ◌++◌, ◌∷◌, [], length, arith, ap, ◌∙◌}
use Rattle.std.proofs.lemmas.Grind.{common_steps}
use Rattle.ld_record.specs.declared.record.Kept.TheVariants.{Node}
use Rattle.ld_record.specs.Kept.{known_of, judgement_of}
use Rattle.ld_record.specs.Tables.{judges_of}
use Rattle.ld_record.proofs.Keeping.{IsAdded, added, tables_push, nodes_known}
use Rattle.ld_record.proofs.Growing.{last_known, knows_by, adds_by, adds_node}
use Rattle.ld_record.proofs.deriv.Deriv.emit.Goals as goal
use Rattle.ld_record.proofs.deriv.Deriv.emit.Goals.{Else-is_err}

-- what the two pushes leave
pushed : (c : Else-is_err) → c.push-2.new.self.items ≡ c.self.inside.kept.items ++ Node c.args.judge c.args.step ∷ []
pushed c = grind (arith, common_steps)

now : (c : Else-is_err) → IsAdded c.args.bank.now c.args.self.now c.push-2.new.self.items (Node c.args.judge c.args.step)
now c =
    added c.args.bank.now c.args.self.now c.push-2.new.self.items (Node c.args.judge c.args.step)
    c.requires.sound c.requires.fits
    (pushed c ∙ ap (λ ks. ks ++ Node c.args.judge c.args.step ∷ []) c.self.view_is)

pub invariant_of-self-else-is_err : goal.invariant_of-self-else-is_err
invariant_of-self-else-is_err c =
    let judges : c.push.new.self.items ≡ c.self.inside.judges.items ++ c.args.judge ∷ [] = grind (arith, common_steps) in
    tables_push _ _ _ _ _ _ _ _ _ _ (Node c.args.judge c.args.step) c.self.invariant (pushed c) judges (grind (arith, common_steps)) (omega arith) (omega arith)

pub returns-clause-known : goal.returns-clause-known
returns-clause-known c = (now c).known

pub returns-clause-number : goal.returns-clause-number
returns-clause-number c =
    knows_by _ _ _ _ (now c).known
    (last_known (known_of c.args.bank.now c.args.self.now) (judgement_of c.args.bank.now (known_of c.args.bank.now c.args.self.now) c.args.judge) c.len-number.result
    (omega (arith, nodes_known c.args.bank.now c.args.self.now, ap length c.self.invariant.judges_are, ap (λ ks. length (judges_of ks)) c.self.view_is)))

pub returns-clause-adds : goal.returns-clause-adds
returns-clause-adds c =
    adds_by _ _ _ (adds_node (known_of c.args.bank.now c.args.self.now) (judgement_of c.args.bank.now (known_of c.args.bank.now c.args.self.now) c.args.judge)) (now c).known

pub returns-clause-sound : goal.returns-clause-sound
returns-clause-sound c = (now c).sound
