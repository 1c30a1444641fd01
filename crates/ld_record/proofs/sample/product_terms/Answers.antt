use Rattle.ld_terms.specs.Tree.{Star, Box, Const, Nil}
use Rattle.ld_terms.specs.Item.{One}
use Rattle.ld_terms.proofs.Banks.{extends_trans}
use Rattle.ld_record.proofs.Sampled.{holds_later}
use Rattle.ld_record.proofs.sample.product_terms.Goals as goal

pub product-requires : goal.product-requires
product-requires c = c.in_ok-a.ensures.tree

pub returns : goal.returns
returns c =
    let i0 = c.star.new.bank in
    let i1 = c.box_sort.new.bank in
    let i2 = c.instance.new.bank in
    let i3 = c.product.new.bank in
    let third = c.product.ensures.kept in
    let second = extends_trans i1 i2 i3 c.instance.ensures.kept third in
    let first = extends_trans i0 i1 i3 c.box_sort.ensures.kept second in
    record {
      star_is = holds_later i0 i3 c.in_ok-star.star (One Star) first c.in_ok-star.ensures.tree;
      box_is = holds_later i1 i3 c.in_ok-box_sort.box_sort (One Box) second c.in_ok-box_sort.ensures.tree;
      a_is = holds_later i2 i3 c.in_ok-a.a (One (Const 0 Nil)) third c.in_ok-a.ensures.tree;
      product_is = c.in_ok-product.ensures.tree;
    }
