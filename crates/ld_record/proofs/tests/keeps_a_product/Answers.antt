use Rattle.std.proofs.Common.{length, ap, arith}
use Rattle.ld_record.proofs.tests.keeps_a_product.Goals as goal

pub judged_product-requires-clause-terms : goal.judged_product-requires-clause-terms
judged_product-requires-clause-terms g c = c.in_ok-terms.ensures

pub judged_product-requires-clause-none : goal.judged_product-requires-clause-none
judged_product-requires-clause-none g c = c.new-deriv.ensures.none

pub judged_product-requires-clause-some : goal.judged_product-requires-clause-some
judged_product-requires-clause-some g c = omega (arith, ap length c.in_ok-name.ensures)

pub judged_product-requires-clause-short : goal.judged_product-requires-clause-short
judged_product-requires-clause-short g c = omega (arith, ap length c.in_ok-name.ensures)

pub judge-judge-requires-clause-live : goal.judge-judge-requires-clause-live
judge-judge-requires-clause-live g c = c.in_ok-last.ensures.judged.formed_is.live

pub judge-judge-requires-clause-sound : goal.judge-judge-requires-clause-sound
judge-judge-requires-clause-sound g c = c.in_ok-last.ensures.sound

pub kept-requires : goal.kept-requires
kept-requires g c = omega arith
