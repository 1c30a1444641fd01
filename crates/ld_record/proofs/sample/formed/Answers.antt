use Rattle.std.proofs.Common.{arith}
use Rattle.ld_terms.specs.Tree.{Star, Const, Pi, Nil}
use Rattle.ld_terms.specs.Derivable.{IsSort}
use Rattle.ld_record.specs.declared.record.Step.TheVariants.{Form}
use Rattle.ld_record.specs.Kept.{known_of}
use Rattle.ld_record.specs.Tests.{judged}
use Rattle.ld_record.proofs.CallerLemmas.{node_fits}
use Rattle.ld_record.proofs.Following.{by_form, says_empty, number_said}
use Rattle.ld_record.proofs.sample.formed.Goals as goal

pub emit-requires-clause-fits : goal.emit-requires-clause-fits
emit-requires-clause-fits c =
    let items = c.args.bank.now in
    let k0 = known_of items c.args.deriv.now in
    let says = says_empty items c.args.deriv.now 1 c.empty.result c.args.product c.args.star (Pi (Const 0 Nil) (Const 0 Nil)) Star c.empty.ensures (omega (arith, c.requires.there)) c.requires.product c.requires.star in
    node_fits items k0 _ (judged 1 Nil (Pi (Const 0 Nil) (Const 0 Nil)) Star) (Form c.args.j c.args.k) says
    (by_form k0 c.args.j c.args.k 1 Nil (Const 0 Nil) (Const 0 Nil) Star Star IsSort.star IsSort.star c.requires.typed c.requires.weakened)

pub returns-clause-number : goal.returns-clause-number
returns-clause-number c =
    let items = c.args.bank.now in
    let says = says_empty items c.args.deriv.now 1 c.empty.result c.args.product c.args.star (Pi (Const 0 Nil) (Const 0 Nil)) Star c.empty.ensures (omega (arith, c.requires.there)) c.requires.product c.requires.star in
    number_said items (known_of items c.args.deriv.now) (known_of items c.emit.new.self) _ _ c.emit.result says c.emit.ensures.number
