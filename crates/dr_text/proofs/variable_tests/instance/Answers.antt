use Rattle.ld_terms.proofs.Banks.{extends_trans}
use Rattle.dr_text.proofs.variable_tests.instance.Goals as goal

pub returns-clause-kept : goal.returns-clause-kept
returns-clause-kept c =
    let end = c.add-4.new.self in
    extends_trans c.args.bank.now c.add.new.self end c.add.ensures.kept
    (extends_trans c.add.new.self c.add-2.new.self end c.add-2.ensures.kept (extends_trans c.add-2.new.self c.add-3.new.self end c.add-3.ensures.kept c.add-4.ensures.kept))
