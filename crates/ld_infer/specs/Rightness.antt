-- A reading is right: a type or a sort that it gives is derivable, and what it refuses has none. It reads in a legal context,
-- which is one over a legal environment, and begins with known pairs whose trees are convertible.
use Rattle.std.specs.Prelude.{ℕ}
use Rattle.ld_terms.specs.Tree.{Tree, Trees, count}
use Rattle.ld_terms.specs.Entry.{Env}
use Rattle.ld_terms.specs.Derivable.{IsLegalContext}
use Rattle.ld_laws.specs.Typing.{HasSort}
use Rattle.ld_reduce.specs.Task.{Pairs, Answer, Gives, Fails}
use Rattle.ld_convert.specs.Sameness.{AreConvertible}
use Rattle.ld_infer.specs.Parts.{PartAt}
use Rattle.ld_infer.specs.Reading.{Asked, Refusal, Found, again, Types, SortOf, part_reading}
use Rattle.ld_infer.specs.Refusals.{HasType, IsSortOf, HasNoType, HasNoSort, HoldsAt}

-- A term has the type or the sort that is read; and whatever the answer is, the trees of the pairs left are convertible.
pub record ReadingDerivable : Type 0 where
  pub types : (env : Env) (ctx : Trees) (nesting : ℕ) (q : Asked) (t : Tree) (K L : Pairs) (r : Found) (n : ℕ) →
      IsLegalContext env ctx → AreConvertible env K → Types env ctx nesting q t K (Gives r) L n → HasType env ctx t r
  pub sorts : (env : Env) (ctx : Trees) (nesting : ℕ) (q : Asked) (t : Tree) (K L : Pairs) (s : Tree) (n : ℕ) →
      IsLegalContext env ctx → AreConvertible env K → SortOf env ctx nesting q t K (Gives s) L n → IsSortOf env ctx t s
  pub pairs_of_types : (env : Env) (ctx : Trees) (nesting : ℕ) (q : Asked) (t : Tree) (K L : Pairs) (r : Answer Refusal Found) (n : ℕ) →
      IsLegalContext env ctx → AreConvertible env K → Types env ctx nesting q t K r L n → AreConvertible env L
  pub pairs_of_sorts : (env : Env) (ctx : Trees) (nesting : ℕ) (q : Asked) (t : Tree) (K L : Pairs) (r : Answer Refusal Tree) (n : ℕ) →
      IsLegalContext env ctx → AreConvertible env K → SortOf env ctx nesting q t K r L n → AreConvertible env L

-- A term whose type is refused has none, and one whose sort is refused has no sort as a type.
pub record RefusedUntyped : Type 0 where
  pub types : (env : Env) (ctx : Trees) (nesting : ℕ) (q : Asked) (t : Tree) (K L : Pairs) (f : Refusal) (n : ℕ) →
      IsLegalContext env ctx → AreConvertible env K → Types env ctx nesting q t K (Fails f) L n → HasNoType env ctx t
  pub sorts : (env : Env) (ctx : Trees) (nesting : ℕ) (q : Asked) (t : Tree) (K L : Pairs) (f : Refusal) (n : ℕ) →
      IsLegalContext env ctx → AreConvertible env K → SortOf env ctx nesting q t K (Fails f) L n → HasNoSort env ctx t

-- Where a reading at some nesting types a type again that has a sort, the type isn't refused.
abbrev pub AgainNotRefused : Type 0
AgainNotRefused = (env : Env) (ctx : Trees) (nesting : ℕ) (q : Asked) (t : Tree) (K L : Pairs) (f : Refusal) (n : ℕ) →
    IsLegalContext env ctx → AreConvertible env K → HasSort env ctx t → ¬ again env (count ctx) (part_reading nesting env ctx) q t K (Fails f) L n

-- The reason of a refusal holds of the part at its path.
pub record ReasonsHold : Type 0 where
  pub types : (env : Env) (ctx : Trees) (nesting : ℕ) (q : Asked) (t : Tree) (K L : Pairs) (f : Refusal) (n : ℕ) →
      IsLegalContext env ctx → AreConvertible env K → Types env ctx nesting q t K (Fails f) L n → HoldsAt env (PartAt ctx t) f
  pub sorts : (env : Env) (ctx : Trees) (nesting : ℕ) (q : Asked) (t : Tree) (K L : Pairs) (f : Refusal) (n : ℕ) →
      IsLegalContext env ctx → AreConvertible env K → SortOf env ctx nesting q t K (Fails f) L n → HoldsAt env (PartAt ctx t) f
