use Rattle.std.proofs.Common.{◌≡◌, ◌++◌, ◌∷◌, [], arith, ap, ◌∙◌}
use Rattle.std.proofs.lemmas.Grind.{common_steps}
use Rattle.ld_record.specs.declared.record.Kept.TheVariants.{Entry}
use Rattle.ld_record.proofs.Keeping.{IsAdded, added, tables_push}
use Rattle.ld_record.proofs.deriv.Deriv.entry.Goals as goal
use Rattle.ld_record.proofs.deriv.Deriv.entry.Goals.{Else-is_err}

pushed : (c : Else-is_err) → c.push-2.new.self.items ≡ c.self.inside.kept.items ++ Entry c.args.name c.args.of_item c.args.prim ∷ []
pushed c = grind (arith, common_steps)

now : (c : Else-is_err) → IsAdded c.args.bank.now c.args.self.now c.push-2.new.self.items (Entry c.args.name c.args.of_item c.args.prim)
now c =
    added c.args.bank.now c.args.self.now c.push-2.new.self.items (Entry c.args.name c.args.of_item c.args.prim)
    c.requires.sound c.requires.fits
    (pushed c ∙ ap (λ ks. ks ++ Entry c.args.name c.args.of_item c.args.prim ∷ []) c.self.view_is)

pub invariant_of-self-else-is_err : goal.invariant_of-self-else-is_err
invariant_of-self-else-is_err c =
    let prims : c.push.new.self.items ≡ c.self.inside.prims.items ++ c.args.prim ∷ [] = grind (arith, common_steps) in
    tables_push _ _ _ _ _ _ _ _ _ _ (Entry c.args.name c.args.of_item c.args.prim) c.self.invariant (pushed c) (grind (arith, common_steps)) prims (omega arith) (omega arith)

pub returns-clause-known : goal.returns-clause-known
returns-clause-known c = (now c).known

pub returns-clause-sound : goal.returns-clause-sound
returns-clause-sound c = (now c).sound
