use Rattle.std.proofs.Common.{◌≡◌, ◌++◌, ◌∷◌, [], arith, ap, ◌∙◌}
use Rattle.std.proofs.lemmas.Grind.{common_steps}
use Rattle.ld_record.specs.declared.record.Kept.TheVariants.{Flag}
use Rattle.ld_record.proofs.Keeping.{IsAdded, added, tables_push}
use Rattle.ld_record.proofs.deriv.Deriv.flag.Goals as goal
use Rattle.ld_record.proofs.deriv.Deriv.flag.Goals.{In_ok-map_err}

pushed : (c : In_ok-map_err) → c.push.new.self.items ≡ c.self.inside.kept.items ++ Flag c.args.of_item ∷ []
pushed c = grind (arith, common_steps)

now : (c : In_ok-map_err) → IsAdded c.args.bank.now c.args.self.now c.push.new.self.items (Flag c.args.of_item)
now c =
    added c.args.bank.now c.args.self.now c.push.new.self.items (Flag c.args.of_item)
    c.requires.sound c.requires.fits
    (pushed c ∙ ap (λ ks. ks ++ Flag c.args.of_item ∷ []) c.self.view_is)

pub invariant_of-self-2 : goal.invariant_of-self-2
invariant_of-self-2 c =
    tables_push _ _ _ _ _ _ _ _ _ _ (Flag c.args.of_item) c.self.invariant (pushed c) (grind (arith, common_steps)) (grind (arith, common_steps)) (omega arith) (omega arith)

pub returns-clause-known : goal.returns-clause-known
returns-clause-known c = (now c).known

pub returns-clause-sound : goal.returns-clause-sound
returns-clause-sound c = (now c).sound
