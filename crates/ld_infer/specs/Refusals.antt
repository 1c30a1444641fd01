-- What is said of a reading: of the type or the sort that it gives, and of the part at which it is refused.
use Rattle.std.specs.Prelude.{◌≡◌, true, List}
use Rattle.ld_terms.specs.Tree.{Tree, Box, Lam, Pi, Trees, ◌▸◌, count}
use Rattle.ld_terms.specs.Entry.{Env}
use Rattle.ld_terms.specs.Derivable.{IsSort, Derivable}
use Rattle.ld_laws.specs.Typing.{HasSort}
use Rattle.ld_convert.specs.Apart.{Apart}
use Rattle.ld_convert.specs.Apartness.{AreApart}
use Rattle.ld_infer.specs.declared.failure.PathStep.{PathStep}
use Rattle.ld_infer.specs.Parts.{PartAt}
use Rattle.ld_infer.specs.Reading.{Reason, NoType, NotSort, NotFunction, BoxBody, NotSame, Refusal, Found}

-- The term has the type; and where the type's sort comes with it, the type has one.
pub record HasType (env : Env) (ctx : Trees) (t : Tree) (r : Found) : Type 0 where
  pub typed : Derivable env ctx t r.type
  pub sorted : r.sort_comes ≡ true → HasSort env ctx r.type

-- it is a sort, and a type of the term
pub record IsSortOf (env : Env) (ctx : Trees) (t s : Tree) : Type 0 where
  pub is_sort : IsSort s
  pub typed : Derivable env ctx t s

abbrev pub HasNoType : Env → (ctx : Trees) → Tree → Type 0
HasNoType env ctx t = (n : Tree) → ¬ Derivable env ctx t n

abbrev pub HasNoSort : Env → (ctx : Trees) → Tree → Type 0
HasNoSort env ctx t = (s : Tree) → IsSort s → ¬ Derivable env ctx t s

-- the part has a type, and no sort is one
pub record IsNoType (env : Env) (ctx : Trees) (t type : Tree) : Type 0 where
  pub typed : Derivable env ctx t type
  pub no_sort : HasNoSort env ctx t

-- the part has a type, and no product is one
pub record IsNoFunction (env : Env) (ctx : Trees) (t type : Tree) : Type 0 where
  pub typed : Derivable env ctx t type
  pub no_product : (a b : Tree) → ¬ Derivable env ctx t (Pi a b)

-- the part is an abstraction without a type, whose body has the type box
pub record HasBoxBody (env : Env) (ctx : Trees) (t : Tree) : Type 0 where
  pub binder : Tree
  pub body : Tree
  pub is : t ≡ Lam binder body
  pub body_typed : Derivable env (ctx ▸ binder) body Box
  pub no_type : HasNoType env ctx t

-- The part has a type, and not the one that is wanted; these two aren't convertible, nor are the two at which they differ.
pub record HasOtherType (env : Env) (ctx : Trees) (t type wanted : Tree) (d : Apart) : Type 0 where
  pub typed : Derivable env ctx t type
  pub other : ¬ Derivable env ctx t wanted
  pub differ : AreApart env type wanted d.left d.right

-- what a reason says of the part
abbrev pub Holds : Env → (ctx : Trees) → Tree → Reason → Type 0
Holds env ctx t NoType = t ≡ Box
Holds env ctx t (NotSort type) = IsNoType env ctx t type
Holds env ctx t (NotFunction type) = IsNoFunction env ctx t type
Holds env ctx t BoxBody = HasBoxBody env ctx t
Holds env ctx t (NotSame type wanted d) = HasOtherType env ctx t type wanted d

-- The reason holds of the part that is found at the refusal's path, in a context of as many variables as it says.
pub record HoldsAt (env : Env) (Finds : List PathStep → Trees → Tree → Type 0) (f : Refusal) : Type 0 where
  pub context : Trees
  pub part : Tree
  pub there : Finds f.path context part
  pub depth_is : count context ≡ f.depth
  pub holds : Holds env context part f.reason

-- The term has no type, and the reason holds of the part at the refusal's path.
pub record IsUntyped (env : Env) (ctx : Trees) (t : Tree) (f : Refusal) : Type 0 where
  pub no_type : HasNoType env ctx t
  pub because : HoldsAt env (PartAt ctx t) f

-- No sort is a type of the term, and the reason holds of the part at the refusal's path.
pub record IsUnsorted (env : Env) (ctx : Trees) (t : Tree) (f : Refusal) : Type 0 where
  pub no_sort : HasNoSort env ctx t
  pub because : HoldsAt env (PartAt ctx t) f
