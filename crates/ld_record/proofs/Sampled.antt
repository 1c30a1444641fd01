-- What numbers of terms stand for as a bank grows, for the tests.
use Rattle.std.proofs.Common.{List, ◌∙◌, arith}
use Rattle.ld_terms.specs.Tree.{Star, Box, Pi, Const, Nil}
use Rattle.ld_terms.specs.Item.{Item, One}
use Rattle.ld_terms.specs.Bank.{Extends, Holds}
use Rattle.ld_terms.specs.declared.bank.TermId.{TermId}
use Rattle.ld_record.specs.Tests.{AreTerms}

pub holds_later : (old new : List Item) (t : TermId) (it : Item) → Extends old new → Holds old t it → Holds new t it
holds_later old new t it e h = record { live = omega (arith, e.longer, h.live); item = e.kept t h.live ∙ h.item }

pub are_terms_later : (old new : List Item) (star box a product : TermId) → Extends old new → AreTerms old star box a product → AreTerms new star box a product
are_terms_later old new star box a product e h = record {
  star_is = holds_later old new star (One Star) e h.star_is;
  box_is = holds_later old new box (One Box) e h.box_is;
  a_is = holds_later old new a (One (Const 0 Nil)) e h.a_is;
  product_is = holds_later old new product (One (Pi (Const 0 Nil) (Const 0 Nil))) e h.product_is;
}
