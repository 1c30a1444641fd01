-- The pairs that a job keeps, over the terms of a bank and the equalities of a derivation.
use Rattle.std.specs.Prelude.{◌≡◌, ◌⊎◌, ◌++◌, ◌∷◌, [], ℕ, Bool, true, false, ◌&&◌, ◌||◌, nat_eq, List, map, slice_get, Some, All}
use Rattle.ld_terms.specs.Tree.{Tree}
use Rattle.ld_terms.specs.Item.{Item}
use Rattle.ld_terms.specs.Bank.{tree_at, IsTermAt}
use Rattle.ld_terms.specs.Known.{Known}
use Rattle.ld_terms.specs.declared.bank.TermId.{TermId}
use Rattle.ld_record.specs.declared.record.EqId.{EqId}
use Rattle.ld_reduce.specs.Cost.{Equates}
use Rattle.ld_reduce.specs.Task.{Pairs}
use Rattle.ld_convert.specs.Known.{is_known}
use Rattle.ld_convert.specs.declared.known.Pair.{Pair}

abbrev pub pair_of : List Item → Pair → Tree × Tree
pair_of items p = (tree_at items p.left, tree_at items p.right)

abbrev pub pairs_of : List Item → List Pair → Pairs
pairs_of items ps = map (pair_of items) ps

-- the pairs of a map's entries
abbrev pub pairs_in : List ((TermId × TermId) × EqId) → List Pair
pairs_in es = map (λ e. record { left = e.0.0; right = e.0.1; equal = e.1 }) es

-- whether the pair of two numbers is there
abbrev pub has_pair : List Pair → (a b : TermId) → Bool
has_pair [] a b = false
has_pair (p ∷ ps) a b = (nat_eq a.0 p.left.0 && nat_eq b.0 p.right.0) || has_pair ps a b

-- both are terms
pub record HasTerms (items : List Item) (p : Pair) : Type 0 where
  pub left : IsTermAt items p.left
  pub right : IsTermAt items p.right

-- both are terms, with an equality of their trees that unfolds only entries below the bound
pub record IsLivePair (items : List Item) (known : Known) (bound : ℕ) (p : Pair) : Type 0 where
  pub terms : HasTerms items p
  pub equal : Equates known p.equal (tree_at items p.left) (tree_at items p.right) bound

pub record ArePairsLive (items : List Item) (known : Known) (bound : ℕ) (ps : List Pair) : Type 0 where
  pub each : All (IsLivePair items known bound) ps

-- The equality is that of a pair of these trees.
pub record IsFound (items : List Item) (ps : List Pair) (a b : Tree) (e : EqId) : Type 0 where
  pub known : is_known (pairs_of items ps) a b ≡ true
  pub number : ℕ
  pub pair : Pair
  pub there : slice_get ps number ≡ Some pair
  pub left : tree_at items pair.left ≡ a
  pub right : tree_at items pair.right ≡ b
  pub equal : pair.equal ≡ e

-- the pairs are those that were there, or these and the new one
abbrev pub IsKeptWith : (old new : List Pair) → Pair → Type 0
IsKeptWith old new p = (new ≡ old) ⊎ (new ≡ old ++ p ∷ [])
