use Rattle.std.proofs.Common.{ap, subst}
use mathlib.Core.Path.{ap₂}
use Rattle.ld_terms.specs.Tree.{Star, Box, Var, Lam, Pi}
use Rattle.ld_terms.specs.Item.{Item, One, tree}
use Rattle.ld_terms.specs.Bank.{Holds}
use Rattle.ld_terms.proofs.Banks.{extends_trans}
use Rattle.ld_record.proofs.Sampled.{holds_later}
use Rattle.ld_samples.proofs.Sampled.{term_of}
use Rattle.ld_samples.proofs.judging.terms.Goals as goal

pub add-requires-5 : goal.add-requires-5
add-requires-5 c =
    let star = term_of c.add-4.new.self c.in_ok-star.star Star (holds_later c.add.new.self c.add-4.new.self c.in_ok-star.star (One Star) (extends_trans c.add.new.self c.add-2.new.self c.add-4.new.self c.add-2.ensures.kept (extends_trans c.add-2.new.self c.add-3.new.self c.add-4.new.self c.add-3.ensures.kept c.add-4.ensures.kept)) c.in_ok-star.ensures.tree) in
    (star, star)

pub add-requires-6 : goal.add-requires-6
add-requires-6 c = (
  term_of c.add-5.new.self c.in_ok-star.star Star (holds_later c.add.new.self c.add-5.new.self c.in_ok-star.star (One Star) (extends_trans c.add.new.self c.add-2.new.self c.add-5.new.self c.add-2.ensures.kept (extends_trans c.add-2.new.self c.add-3.new.self c.add-5.new.self c.add-3.ensures.kept (extends_trans c.add-3.new.self c.add-4.new.self c.add-5.new.self c.add-4.ensures.kept c.add-5.ensures.kept))) c.in_ok-star.ensures.tree),
  term_of c.add-5.new.self c.in_ok-inner.inner (Var 0) (holds_later c.add-3.new.self c.add-5.new.self c.in_ok-inner.inner (One (Var 0)) (extends_trans c.add-3.new.self c.add-4.new.self c.add-5.new.self c.add-4.ensures.kept c.add-5.ensures.kept) c.in_ok-inner.ensures.tree),
)

pub returns-clause-terms : goal.returns-clause-terms
returns-clause-terms c =
    let star_3 = holds_later c.add.new.self c.add-4.new.self c.in_ok-star.star (One Star) (extends_trans c.add.new.self c.add-2.new.self c.add-4.new.self c.add-2.ensures.kept (extends_trans c.add-2.new.self c.add-3.new.self c.add-4.new.self c.add-3.ensures.kept c.add-4.ensures.kept)) c.in_ok-star.ensures.tree in
    let star_4 = holds_later c.add.new.self c.add-5.new.self c.in_ok-star.star (One Star) (extends_trans c.add.new.self c.add-2.new.self c.add-5.new.self c.add-2.ensures.kept (extends_trans c.add-2.new.self c.add-3.new.self c.add-5.new.self c.add-3.ensures.kept (extends_trans c.add-3.new.self c.add-4.new.self c.add-5.new.self c.add-4.ensures.kept c.add-5.ensures.kept))) c.in_ok-star.ensures.tree in
    let inner_4 = holds_later c.add-3.new.self c.add-5.new.self c.in_ok-inner.inner (One (Var 0)) (extends_trans c.add-3.new.self c.add-4.new.self c.add-5.new.self c.add-4.ensures.kept c.add-5.ensures.kept) c.in_ok-inner.ensures.tree in
    let A : Item → Type 0 = λ x. Holds c.add-5.new.self c.in_ok-product.product x in
    let all = subst A (ap (λ (x : Item). One (Pi (tree x) (tree x))) star_3.item) c.in_ok-product.ensures.tree in
    let F : Item → Type 0 = λ x. Holds c.add-6.new.self c.in_ok-identity.identity x in
    record {
      star_is = holds_later c.add.new.self c.add-6.new.self c.in_ok-star.star (One Star) (extends_trans c.add.new.self c.add-2.new.self c.add-6.new.self c.add-2.ensures.kept (extends_trans c.add-2.new.self c.add-3.new.self c.add-6.new.self c.add-3.ensures.kept (extends_trans c.add-3.new.self c.add-4.new.self c.add-6.new.self c.add-4.ensures.kept (extends_trans c.add-4.new.self c.add-5.new.self c.add-6.new.self c.add-5.ensures.kept c.add-6.ensures.kept)))) c.in_ok-star.ensures.tree;
      over_is = holds_later c.add-2.new.self c.add-6.new.self c.in_ok-over.over (One Box) (extends_trans c.add-2.new.self c.add-3.new.self c.add-6.new.self c.add-3.ensures.kept (extends_trans c.add-3.new.self c.add-4.new.self c.add-6.new.self c.add-4.ensures.kept (extends_trans c.add-4.new.self c.add-5.new.self c.add-6.new.self c.add-5.ensures.kept c.add-6.ensures.kept))) c.in_ok-over.ensures.tree;
      inner_is = holds_later c.add-3.new.self c.add-6.new.self c.in_ok-inner.inner (One (Var 0)) (extends_trans c.add-3.new.self c.add-4.new.self c.add-6.new.self c.add-4.ensures.kept (extends_trans c.add-4.new.self c.add-5.new.self c.add-6.new.self c.add-5.ensures.kept c.add-6.ensures.kept)) c.in_ok-inner.ensures.tree;
      outer_is = holds_later c.add-4.new.self c.add-6.new.self c.in_ok-outer.outer (One (Var 1)) (extends_trans c.add-4.new.self c.add-5.new.self c.add-6.new.self c.add-5.ensures.kept c.add-6.ensures.kept) c.in_ok-outer.ensures.tree;
      product_is = holds_later c.add-5.new.self c.add-6.new.self c.in_ok-product.product (One (Pi Star Star)) c.add-6.ensures.kept all;
      identity_is = subst F (ap₂ (λ (x : Item) (y : Item). One (Lam (tree x) (tree y))) star_4.item inner_4.item) c.in_ok-identity.ensures.tree;
    }

pub returns-clause-kept : goal.returns-clause-kept
returns-clause-kept c = extends_trans c.args.bank.now c.add.new.self c.add-6.new.self c.add.ensures.kept (extends_trans c.add.new.self c.add-2.new.self c.add-6.new.self c.add-2.ensures.kept (extends_trans c.add-2.new.self c.add-3.new.self c.add-6.new.self c.add-3.ensures.kept (extends_trans c.add-3.new.self c.add-4.new.self c.add-6.new.self c.add-4.ensures.kept (extends_trans c.add-4.new.self c.add-5.new.self c.add-6.new.self c.add-5.ensures.kept c.add-6.ensures.kept))))
