-- Where two trees differ, and the parts that are compared.
use Rattle.std.specs.Prelude.{ℕ, ◌+◌, ◌==◌, if◌then◌else◌, List, [], ◌∷◌, ◌++◌, Option, Some, None}
use Rattle.ld_terms.specs.Tree.{Tree, Star, Box, Var, App, Lam, Pi, Const, Trees, Nil, ◌▸◌}

-- two trees whose heads differ, under so many binders
pub record Apart : Type 0 where
  pub left : Tree
  pub right : Tree
  pub under : ℕ

abbrev pub apart : (left right : Tree) (under : ℕ) → Apart
apart left right under = record { left = left; right = right; under = under }

abbrev pub below : ℕ → Apart → Apart
below n h = apart h.left h.right (n + h.under)

-- two parts to be compared, and how many binders are passed to them
pub record Part : Type 0 where
  pub left : Tree
  pub right : Tree
  pub under : ℕ

abbrev pub part : (left right : Tree) (under : ℕ) → Part
part left right under = record { left = left; right = right; under = under }

abbrev pub and_then : Option (List Part) → Part → Option (List Part)
and_then None p = None
and_then (Some ps) p = Some (ps ++ p ∷ [])

-- Where the heads are alike and the spines as long: the parts of the heads, and then the spines, from left to right.
abbrev pub arguments : Trees → Trees → Option (List Part)
arguments Nil Nil = Some []
arguments (us ▸ u) (vs ▸ v) = and_then (arguments us vs) (part u v 0)
arguments _ _ = None

abbrev pub parts_of : Tree → Tree → Option (List Part)
parts_of Star Star = Some []
parts_of Box Box = Some []
parts_of (Var i) (Var j) = if i == j then Some [] else None
parts_of (Lam a m) (Lam b n) = Some (part a b 0 ∷ part m n 1 ∷ [])
parts_of (Pi a c) (Pi b d) = Some (part a b 0 ∷ part c d 1 ∷ [])
parts_of (Const k us) (Const l vs) = if k == l then arguments us vs else None
parts_of (App f u) (App g v) = and_then (parts_of f g) (part u v 0)
parts_of _ _ = None
