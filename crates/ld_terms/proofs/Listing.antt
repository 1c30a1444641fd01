-- A list of terms is kept by adding one after the other at its end.
use Rattle.std.proofs.Common.{◌≡◌, List, [], ◌∷◌, ◌++◌, refl, ap, sym, ◌∙◌}
use Rattle.std.proofs.Common.{All}
use Rattle.std.proofs.lemmas.List.Elements.{All-head, All-tail}
use Rattle.ld_terms.specs.Tree.{Trees, Nil, ◌▸◌}
use Rattle.ld_terms.specs.Item.{Item, Many, tree, list, IsSmall}
use Rattle.ld_terms.specs.Bank.{item_at, tree_at, item_of, IsTermAt, Extends, Holds, ListStandsFor, listed}
use Rattle.ld_terms.specs.declared.bank.TermId.{TermId}
use Rattle.ld_terms.specs.declared.bank.Node.TheVariants as node
use Rattle.ld_terms.proofs.Banks.{both, extends_trans}

pub listed-push : (items : List Item) (us : Trees) (ts : List TermId) (t : TermId) → listed items us (ts ++ t ∷ []) ≡ listed items us ts ▸ tree_at items t
listed-push items us [] t = refl
listed-push items us (s ∷ ts) t = listed-push items (us ▸ tree_at items s) ts t

-- so far the number stands for the list of these terms
pub record IsListed (first now : List Item) (r : TermId) (ts : List TermId) : Type 0 where
  pub kept : Extends first now
  pub list : ListStandsFor now r (listed first Nil ts)
  pub small : IsSmall (item_at now r)

pub listed_more : (first now new : List Item) (r s t : TermId) (ts : List TermId) → IsListed first now r ts → IsTermAt first t → Extends now new → Holds new s (item_of now (node.Cons t r)) → IsSmall (item_at new s) → IsListed first new s (ts ++ t ∷ [])
listed_more first now new r s t ts h at kept holds small =
    let tail : list (item_at now r) ≡ listed first Nil ts = ap list h.list.item in
    let head : tree_at now t ≡ tree_at first t = ap tree (h.kept.kept t at.live) in
    record {
      kept = extends_trans first now new h.kept kept;
      list = record { live = holds.live; item = holds.item ∙ ap Many (both ◌▸◌ tail head ∙ sym (listed-push first Nil ts t)) };
      small = small;
    }

-- a list stays as terms are added
pub listed-later : (old new : List Item) (us : Trees) (ts : List TermId) → Extends old new → All (IsTermAt old) ts → listed new us ts ≡ listed old us ts
listed-later old new us [] e live = refl
listed-later old new us (t ∷ ts) e live =
    ap (λ u. listed new (us ▸ u) ts) (ap tree (e.kept t (All-head (IsTermAt old) t ts live).live))
    ∙ listed-later old new (us ▸ tree_at old t) ts e (All-tail (IsTermAt old) t ts live)
