-- One step at the head, and the equality that is kept of it.
use Rattle.std.specs.Prelude.{◌≡◌, ◌<◌, ◌≤◌, ℕ, max, ⊤, slice_get, length, List, Option, None, Some, Result, Ok, Err}
use Rattle.ld_terms.specs.Tree.{Tree, App, Lam, Const, Trees, count}
use Rattle.ld_terms.specs.Item.{Item, One, IsSmall}
use Rattle.ld_terms.specs.Bank.{tree_at, IsTermAt, StandsFor}
use Rattle.ld_terms.specs.Entry.{Defined, Env}
use Rattle.ld_terms.specs.Known.{Known, equality_at}
use Rattle.ld_terms.specs.declared.bank.TermId.{TermId}
use Rattle.ld_record.specs.declared.record.EqId.{EqId}
use Rattle.ld_record.specs.Follows.{entry_at}
use Rattle.ld_reduce.specs.Heads.{unfolding_of}
use Rattle.ld_reduce.specs.Cost.{Equates}
use Rattle.ld_reduce.specs.declared.stop.Stop.{Stop}
use Rattle.ld_reduce.specs.declared.stop.Stop.TheVariants as stop

-- a tree is made, which is small, and its equality with another is kept
pub record IsMade (items : List Item) (known : Known) (from to : Tree) (bound : ℕ) (t : TermId) (e : EqId) : Type 0 where
  pub stands : StandsFor items t to
  pub small : IsSmall (One to)
  pub equal : Equates known e from to bound

-- the tree is made where it is small
abbrev pub Makes : (from to : Tree) (bound : ℕ) → List Item → Known → Result (TermId × EqId) Stop → Type 0
Makes from to bound items known (Ok p) = IsMade items known from to bound p.0 p.1
Makes from to bound items known (Err stop.Spent) = ⊥
Makes from to bound items known (Err stop.Nested) = ⊥
Makes from to bound items known (Err stop.High) = ¬ IsSmall (One to)
Makes from to bound items known (Err stop.Memory) = ⊤

-- the tree after a step is made
pub record OneStep (next : Tree → Option Tree) (from : Tree) (bound : ℕ) (items : List Item) (known : Known) (result : Result (TermId × EqId) Stop) : Type 0 where
  pub to : Tree
  pub is : next from ≡ Some to
  pub makes : Makes from to bound items known result

-- the equality of two trees, or none so far where they are the same
abbrev pub Joins : Known → Option EqId → (from to : Tree) (bound : ℕ) → Type 0
Joins known None from to bound = from ≡ to
Joins known (Some e) from to bound = Equates known e from to bound

-- the bound of an equality so far, and with one more
abbrev pub bound_so_far : Known → Option EqId → ℕ
bound_so_far known None = 0
bound_so_far known (Some e) = (equality_at known e.0).bound

abbrev pub bound_after : Known → Option EqId → Option EqId → ℕ
bound_after known o p = max (bound_so_far known o) (bound_so_far known p)

-- what is equal so far is followed by what leads to the last
pub record IsFollowed (known : Known) (o p : Option EqId) (from to : Tree) : Type 0 where
  pub between : Tree
  pub joins : Joins known o from between (bound_so_far known o)
  pub then : Joins known p between to (bound_so_far known p)

-- an abstraction of this body on the argument
pub record IsRedex (t m u : Tree) : Type 0 where
  pub domain : Tree
  pub is : t ≡ App (Lam domain m) u

-- an instance of this entry with these arguments unfolds to the body
pub record HasBodyFor (env : Env) (k : ℕ) (us : Trees) (body : Tree) : Type 0 where
  pub there : k < length env
  pub unfolds : (entry_at env k).body ≡ Defined body
  pub as_many : count us ≡ count (entry_at env k).params

pub record IsInstance (env : Env) (t : Tree) (us : Trees) (body : Tree) : Type 0 where
  pub number : ℕ
  pub is : t ≡ Const number us
  pub has : HasBodyFor env number us body

-- the body that an instance unfolds to, or none
abbrev pub IsUnfolding : List Item → Env → (k : ℕ) → Trees → Option TermId → Type 0
IsUnfolding items env k us None = unfolding_of (slice_get env k) us ≡ None
IsUnfolding items env k us (Some b) = IsTermAt items b × HasBodyFor env k us (tree_at items b)

-- an application of the left side of an equality, whose right side is the second tree
pub record IsUnder (known : Known) (t u : Tree) (d : EqId) (g : Tree) : Type 0 where
  pub live : d.0 < length known.equalities
  pub left : t ≡ App (equality_at known d.0).left u
  pub right : (equality_at known d.0).right ≡ g

-- the function part of an application is equal to this tree, or is this tree
pub record IsOnArgument (known : Known) (t u : Tree) (o : Option EqId) (g : Tree) : Type 0 where
  pub function : Tree
  pub is : t ≡ App function u
  pub joins : Joins known o function g (bound_so_far known o)

-- the application of a tree is made where it is small
pub record IsApplied (items : List Item) (known : Known) (from to : Tree) (bound : ℕ) (t : TermId) (o : Option EqId) : Type 0 where
  pub stands : StandsFor items t to
  pub joins : Joins known o from to (bound_so_far known o)
  pub most : bound_so_far known o ≤ bound

abbrev pub Applies : (from to : Tree) (bound : ℕ) → List Item → Known → Result (TermId × Option EqId) Stop → Type 0
Applies from to bound items known (Ok p) = IsApplied items known from to bound p.0 p.1
Applies from to bound items known (Err stop.Spent) = ⊥
Applies from to bound items known (Err stop.Nested) = ⊥
Applies from to bound items known (Err stop.High) = ¬ IsSmall (One to)
Applies from to bound items known (Err stop.Memory) = ⊤
