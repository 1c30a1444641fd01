use Rattle.std.proofs.Common.{arith}
use Rattle.ld_terms.specs.Tree.{Star, Var, Lam, Pi, Const, Nil}
use Rattle.ld_terms.specs.Derivable.{IsSort}
use Rattle.ld_record.specs.declared.record.Step.TheVariants as step
use Rattle.ld_record.specs.Kept.{known_of}
use Rattle.ld_record.specs.Tests.{judged}
use Rattle.ld_record.proofs.CallerLemmas.{node_fits}
use Rattle.ld_record.proofs.Following.{by_abst, says_empty, number_said}
use Rattle.ld_record.proofs.sample.identity.Goals as goal

pub emit-requires-clause-fits : goal.emit-requires-clause-fits
emit-requires-clause-fits c =
    let items = c.args.bank.now in
    let k0 = known_of items c.args.deriv.now in
    let says = says_empty items c.args.deriv.now 1 c.empty.result c.args.term c.args.product (Lam (Const 0 Nil) (Var 0)) (Pi (Const 0 Nil) (Const 0 Nil)) c.empty.ensures (omega (arith, c.requires.there)) c.requires.term c.requires.product in
    node_fits items k0 _ (judged 1 Nil (Lam (Const 0 Nil) (Var 0)) (Pi (Const 0 Nil) (Const 0 Nil))) (step.Abst c.args.body c.args.formed) says
    (by_abst k0 c.args.body c.args.formed 1 Nil (Const 0 Nil) (Const 0 Nil) (Var 0) Star IsSort.star c.requires.body c.requires.formed)

pub returns-clause-number : goal.returns-clause-number
returns-clause-number c =
    let items = c.args.bank.now in
    let says = says_empty items c.args.deriv.now 1 c.empty.result c.args.term c.args.product (Lam (Const 0 Nil) (Var 0)) (Pi (Const 0 Nil) (Const 0 Nil)) c.empty.ensures (omega (arith, c.requires.there)) c.requires.term c.requires.product in
    number_said items (known_of items c.args.deriv.now) (known_of items c.emit.new.self) _ _ c.emit.result says c.emit.ensures.number
