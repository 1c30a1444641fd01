-- The judging of an item is right: what its rule asks for is derivable where it is accepted, and isn't where it is refused; and
-- the reason of a refusal holds. An item is judged in a legal context, which is one over a legal environment, and the judging begins
-- with known pairs whose trees are convertible.
use Rattle.std.specs.Prelude.{ℕ}
use Rattle.ld_terms.specs.Tree.{Tree, Trees}
use Rattle.ld_terms.specs.Entry.{Env}
use Rattle.ld_terms.specs.Derivable.{IsLegalContext, Derivable}
use Rattle.ld_laws.specs.Typing.{HasSort}
use Rattle.ld_reduce.specs.Task.{Pairs, Gives, Fails}
use Rattle.ld_convert.specs.Sameness.{AreConvertible}
use Rattle.ld_infer.specs.Reading.{Refusal}
use Rattle.ld_infer.specs.Refusals.{HasNoSort, HoldsAt}
use Rattle.ld_defrules.specs.Judged.{flag_judged, primitive_judged, line_judged}
use Rattle.ld_defrules.specs.Parts.{PartOfType, PartOfLine}

-- The type of a flag or of a primitive has a sort, and the body of a line has the stated type, where the item is accepted.
pub record AcceptedDerivable : Type 0 where
  pub flags : (env : Env) (ctx : Trees) (type : Tree) (K L : Pairs) (n : ℕ) →
      IsLegalContext env ctx → AreConvertible env K → flag_judged env ctx type K (Gives tt) L n → HasSort env ctx type
  pub primitives : (env : Env) (ctx : Trees) (type : Tree) (K L : Pairs) (n : ℕ) →
      IsLegalContext env ctx → AreConvertible env K → primitive_judged env ctx type K (Gives tt) L n → HasSort env ctx type
  pub lines : (env : Env) (ctx : Trees) (body stated : Tree) (K L : Pairs) (n : ℕ) →
      IsLegalContext env ctx → AreConvertible env K → line_judged env ctx body stated K (Gives tt) L n → Derivable env ctx body stated

-- No sort is a type of the type of a flag or of a primitive, and the body of a line hasn't the stated type, where the item is refused.
pub record RefusedUnderivable : Type 0 where
  pub flags : (env : Env) (ctx : Trees) (type : Tree) (K L : Pairs) (f : Refusal) (n : ℕ) →
      IsLegalContext env ctx → AreConvertible env K → flag_judged env ctx type K (Fails f) L n → HasNoSort env ctx type
  pub primitives : (env : Env) (ctx : Trees) (type : Tree) (K L : Pairs) (f : Refusal) (n : ℕ) →
      IsLegalContext env ctx → AreConvertible env K → primitive_judged env ctx type K (Fails f) L n → HasNoSort env ctx type
  pub lines : (env : Env) (ctx : Trees) (body stated : Tree) (K L : Pairs) (f : Refusal) (n : ℕ) →
      IsLegalContext env ctx → AreConvertible env K → line_judged env ctx body stated K (Fails f) L n → ¬ Derivable env ctx body stated

pub record JudgingRight : Type 0 where
  pub accepted : AcceptedDerivable
  pub refused : RefusedUnderivable

-- The reason of a refusal holds of the part of the item at its path.
pub record ReasonsHold : Type 0 where
  pub flags : (env : Env) (ctx : Trees) (type : Tree) (K L : Pairs) (f : Refusal) (n : ℕ) →
      IsLegalContext env ctx → AreConvertible env K → flag_judged env ctx type K (Fails f) L n → HoldsAt env (PartOfType ctx type) f
  pub primitives : (env : Env) (ctx : Trees) (type : Tree) (K L : Pairs) (f : Refusal) (n : ℕ) →
      IsLegalContext env ctx → AreConvertible env K → primitive_judged env ctx type K (Fails f) L n → HoldsAt env (PartOfType ctx type) f
  pub lines : (env : Env) (ctx : Trees) (body stated : Tree) (K L : Pairs) (f : Refusal) (n : ℕ) →
      IsLegalContext env ctx → AreConvertible env K → line_judged env ctx body stated K (Fails f) L n → HoldsAt env (PartOfLine ctx body stated) f
