-- The judging of an item is right, both where it is accepted and where it is refused: one walk along the definition.
use Rattle.std.proofs.Common.{◌≡◌, Bool, true, false, List, refl, sym, subst}
use Rattle.ld_terms.specs.Tree.{Tree, Box, Trees, count}
use Rattle.ld_terms.specs.Entry.{Env}
use Rattle.ld_terms.specs.Step.{Converts}
use Rattle.ld_terms.specs.Tests.{equals, is_box}
use Rattle.ld_terms.specs.Derivable.{IsLegalContext, Derivable, ◌⨾◌⊢◌∶◌}
use Rattle.ld_laws.specs.Typing.{HasSort}
use Rattle.ld_laws.proofs.Scoping.{scopes}
use Rattle.ld_laws.proofs.BoxFree.{box_apart}
use Rattle.ld_laws.proofs.UniqueTypes.{uniqueness}
use Rattle.ld_infer.specs.declared.failure.RuleName.{RuleName}
use Rattle.ld_infer.specs.declared.failure.RuleName.TheVariants.{Weak, Def, DefPrim}
use Rattle.ld_infer.specs.declared.failure.PathStep.{PathStep}
use Rattle.ld_infer.specs.declared.failure.PathStep.TheVariants.{Of, Body}
use Rattle.ld_reduce.specs.Task.{Gives, Fails, High, Nested, gives, ◌>>◌}
use Rattle.ld_convert.specs.Apart.{Apart, apart}
use Rattle.ld_convert.specs.Apartness.{AreApart}
use Rattle.ld_convert.specs.Compares.{Compares}
use Rattle.ld_convert.proofs.Means.{Means, gives_means, fails_means, bind_means, faults_means, means_more}
use Rattle.ld_convert.proofs.Apartness.{compares_apart}
use Rattle.ld_convert.proofs.Sameness.{compares_same, equals_are}
use Rattle.ld_infer.specs.Parts.{PartAt}
use Rattle.ld_infer.specs.Reading.{Asked, NotSame, Refusal, refusal, inside, Types, SortOf}
use Rattle.ld_infer.specs.Refusals.{HasType, IsSortOf, HasNoType, HasNoSort, HoldsAt}
use Rattle.ld_infer.proofs.Refused.{holds_here, holds_inside}
use Rattle.ld_infer.proofs.TypesRead.{box_by_test, sorted_type}
use Rattle.ld_infer.proofs.Rightness.{reading_derivable, refused_untyped}
use Rattle.ld_infer.proofs.Rightness as reading
use Rattle.ld_defrules.specs.Judged as judged
use Rattle.ld_defrules.specs.Judged.{other_type}
use Rattle.ld_defrules.specs.Parts.{PartOfType, PartOfLine}
use Rattle.ld_defrules.specs.Rightness.{AcceptedDerivable, RefusedUnderivable, JudgingRight, ReasonsHold}

abbrev Differ : Env → (a b : Tree) → Apart → Type 0
Differ env a b d = AreApart env a b d.left d.right

-- what a refusal says: what is lacking, and that its reason holds of a part
record IsRefused (env : Env) (Lacks : Type 0) (Finds : List PathStep → Trees → Tree → Type 0) (f : Refusal) : Type 0 where
  lacks : Lacks
  because : HoldsAt env Finds f

-- of a term without a type or without a sort as a type, of an item's type without a sort, and of a body that hasn't the stated type
abbrev IsUntyped : Env → (ctx : Trees) → Tree → Refusal → Type 0
IsUntyped env ctx t = IsRefused env (HasNoType env ctx t) (PartAt ctx t)

abbrev IsUnsorted : Env → (ctx : Trees) → Tree → Refusal → Type 0
IsUnsorted env ctx t = IsRefused env (HasNoSort env ctx t) (PartAt ctx t)

abbrev IsSortless : Env → (ctx : Trees) → (type : Tree) → Refusal → Type 0
IsSortless env ctx type = IsRefused env (HasNoSort env ctx type) (PartOfType ctx type)

abbrev IsMistyped : Env → (ctx : Trees) → (body stated : Tree) → Refusal → Type 0
IsMistyped env ctx body stated = IsRefused env (¬ Derivable env ctx body stated) (PartOfLine ctx body stated)

module _ (env : Env) (ctx : Trees) (legal : IsLegalContext env ctx) where
  -- the laws of the reading and of the comparison
  types_mean : (q : Asked) (t : Tree) → Means env (Types env ctx 1 q t) (HasType env ctx t) (IsUntyped env ctx t)
  types_mean q t K L (Gives r) n h known = record { known = reading_derivable.pairs_of_types env ctx 1 q t K L (Gives r) n legal known h; says = reading_derivable.types env ctx 1 q t K L r n legal known h }
  types_mean q t K L (Fails f) n h known = record {
    known = reading_derivable.pairs_of_types env ctx 1 q t K L (Fails f) n legal known h;
    says = record { lacks = refused_untyped.types env ctx 1 q t K L f n legal known h; because = reading.reasons_hold.types env ctx 1 q t K L f n legal known h };
  }
  types_mean q t K L High n h known = record { known = reading_derivable.pairs_of_types env ctx 1 q t K L High n legal known h; says = tt }
  types_mean q t K L Nested n h known = record { known = reading_derivable.pairs_of_types env ctx 1 q t K L Nested n legal known h; says = tt }

  sorts_mean : (q : Asked) (t : Tree) → Means env (SortOf env ctx 1 q t) (IsSortOf env ctx t) (IsUnsorted env ctx t)
  sorts_mean q t K L (Gives s) n h known = record { known = reading_derivable.pairs_of_sorts env ctx 1 q t K L (Gives s) n legal known h; says = reading_derivable.sorts env ctx 1 q t K L s n legal known h }
  sorts_mean q t K L (Fails f) n h known = record {
    known = reading_derivable.pairs_of_sorts env ctx 1 q t K L (Fails f) n legal known h;
    says = record { lacks = refused_untyped.sorts env ctx 1 q t K L f n legal known h; because = reading.reasons_hold.sorts env ctx 1 q t K L f n legal known h };
  }
  sorts_mean q t K L High n h known = record { known = reading_derivable.pairs_of_sorts env ctx 1 q t K L High n legal known h; says = tt }
  sorts_mean q t K L Nested n h known = record { known = reading_derivable.pairs_of_sorts env ctx 1 q t K L Nested n legal known h; says = tt }

  compares_means : (a b : Tree) → Means env (Compares env 1 a b) (λ _. Converts env a b) (Differ env a b)
  compares_means a b K L (Gives x) n h known = record { known = compares_same.pairs env 1 a b K L (Gives x) n known h; says = compares_same.are_same env 1 a b K L n known h }
  compares_means a b K L (Fails d) n h known =
      record { known = compares_same.pairs env 1 a b K L (Fails d) n known h; says = compares_apart.are_apart env (scopes legal).of_env 1 a b d.left d.right d.under K L n h }
  compares_means a b K L High n h known = record { known = compares_same.pairs env 1 a b K L High n known h; says = tt }
  compares_means a b K L Nested n h known = record { known = compares_same.pairs env 1 a b K L Nested n known h; says = tt }

  -- the type of an item
  type_refused : (type : Tree) (f : Refusal) → IsUnsorted env ctx type f → IsSortless env ctx type (inside Of f)
  type_refused type f r = record { lacks = r.lacks; because = holds_inside env Of (PartAt ctx type) (PartOfType ctx type) (λ path c t x. PartOfType.in_type x) f r.because }

  type_means : (rule : RuleName) (type : Tree) → Means env (judged.type_judged env ctx rule type) (IsSortOf env ctx type) (IsSortless env ctx type)
  type_means rule type = faults_means (inside Of) (IsUnsorted env ctx type) (type_refused type) (sorts_mean (rule, 2) type)

  sorted_means : (rule : RuleName) (type : Tree) → Means env (judged.type_judged env ctx rule type >> gives (tt {0})) (λ _. HasSort env ctx type) (IsSortless env ctx type)
  sorted_means rule type =
      bind_means (IsSortOf env ctx type) (type_means rule type) (λ s h. gives_means tt (record { of = s; is_sort = h.is_sort; typed = h.typed }))

  -- the body of a line
  body_holds : (body stated : Tree) (f : Refusal) → HoldsAt env (PartAt ctx body) f → HoldsAt env (PartOfLine ctx body stated) (inside Body f)
  body_holds body stated f h = holds_inside env Body (PartAt ctx body) (PartOfLine ctx body stated) (λ path c t x. PartOfLine.in_body x) f h

  body_refused : (body stated : Tree) (f : Refusal) → IsUntyped env ctx body f → IsMistyped env ctx body stated (inside Body f)
  body_refused body stated f r = record { lacks = r.lacks stated; because = body_holds body stated f r.because }

  body_means : (body stated : Tree) → Means env (judged.body_judged env ctx body) (HasType env ctx body) (IsMistyped env ctx body stated)
  body_means body stated = faults_means (inside Body) (IsUntyped env ctx body) (body_refused body stated) (types_mean (Def, 2) body)

  -- a body that has another type than the stated one
  other_refused : (body type stated : Tree) → Derivable env ctx body type → (d : Apart) → Differ env type stated d → IsMistyped env ctx body stated (other_type ctx type stated d)
  other_refused body type stated typed d differ =
      let other : ¬ Derivable env ctx body stated = λ h. differ.compared (uniqueness env ctx body type stated typed h) in
      record {
        lacks = other;
        because =
            body_holds body stated (refusal (Def, 2) (count ctx) (NotSame type stated d))
            (holds_here env ctx body (Def, 2) (NotSame type stated d) (record { typed = typed; other = other; differ = differ }));
      }

  stated_means : (equal : Bool) (body type stated : Tree) → equals type stated ≡ equal → Derivable env ctx body type → HasSort env ctx stated →
      Means env (judged.same_as_stated env ctx equal type stated) (λ _. Derivable env ctx body stated) (IsMistyped env ctx body stated)
  stated_means true body type stated e d h = gives_means tt (subst (Derivable env ctx body) (equals_are type stated e) d)
  stated_means false body type stated e d h =
      faults_means (other_type ctx type stated) (Differ env type stated) (other_refused body type stated d)
      (means_more (λ _. Converts env type stated) (Differ env type stated) (λ _ c. ◌⨾◌⊢◌∶◌.conv h.is_sort c d h.typed) (λ f g. g) (compares_means type stated))

  has_type_means : (body stated : Tree) → HasSort env ctx stated →
      Means env (judged.has_type env ctx body stated) (λ _. Derivable env ctx body stated) (IsMistyped env ctx body stated)
  has_type_means body stated s =
      bind_means (HasType env ctx body) (body_means body stated) (λ r h. stated_means (equals r.type stated) body r.type stated refl h.typed s)

  -- a type that isn't box is apart from it
  box_differs : (body type : Tree) → is_box type ≡ false → Derivable env ctx body type → Differ env type Box (apart type Box 0)
  box_differs body type e d =
      let other : ¬ Converts env type Box = λ c. box_apart (sorted_type d e).typed (Converts.back c) in
      record { compared = other; ended = other }

  box_or_not_means : (box : Bool) (body type : Tree) → is_box type ≡ box → Derivable env ctx body type →
      Means env (judged.box_or_not env ctx box type) (λ _. Derivable env ctx body Box) (IsMistyped env ctx body Box)
  box_or_not_means true body type e d = gives_means tt (subst (Derivable env ctx body) (box_by_test type e) d)
  box_or_not_means false body type e d =
      fails_means (other_type ctx type Box (apart type Box 0)) (other_refused body type Box d (apart type Box 0) (box_differs body type e d))

  has_box_means : (body : Tree) → Means env (judged.has_box env ctx body) (λ _. Derivable env ctx body Box) (IsMistyped env ctx body Box)
  has_box_means body = bind_means (HasType env ctx body) (body_means body Box) (λ r h. box_or_not_means (is_box r.type) body r.type refl h.typed)

  -- a stated type other than box that has no sort is a type of nothing
  of_nothing : (body stated : Tree) → is_box stated ≡ false → HasNoSort env ctx stated → ¬ Derivable env ctx body stated
  of_nothing body stated e none d = let h = sorted_type d e in none h.of h.is_sort h.typed

  stated_refused : (body stated : Tree) → is_box stated ≡ false → (f : Refusal) → IsUnsorted env ctx stated f → IsMistyped env ctx body stated (inside Of f)
  stated_refused body stated e f r = record {
    lacks = of_nothing body stated e r.lacks;
    because = holds_inside env Of (PartAt ctx stated) (PartOfLine ctx body stated) (λ path c t x. PartOfLine.in_type x) f r.because;
  }

  line_means : (box : Bool) (body stated : Tree) → is_box stated ≡ box →
      Means env (judged.line_judging env ctx box body stated) (λ _. Derivable env ctx body stated) (IsMistyped env ctx body stated)
  line_means true body stated e =
      subst (λ t. Means env (judged.has_box env ctx body) (λ _. Derivable env ctx body t) (IsMistyped env ctx body t)) (sym (box_by_test stated e)) (has_box_means body)
  line_means false body stated e =
      bind_means (IsSortOf env ctx stated)
      (faults_means (inside Of) (IsUnsorted env ctx stated) (stated_refused body stated e) (sorts_mean (Def, 2) stated))
      (λ s h. has_type_means body stated (record { of = s; is_sort = h.is_sort; typed = h.typed }))

accepted : AcceptedDerivable
accepted = record {
  flags = λ env ctx type K L n legal known h. (sorted_means env ctx legal Weak type K L (Gives tt) n h known).says;
  primitives = λ env ctx type K L n legal known h. (sorted_means env ctx legal DefPrim type K L (Gives tt) n h known).says;
  lines = λ env ctx body stated K L n legal known h. (line_means env ctx legal (is_box stated) body stated refl K L (Gives tt) n h known).says;
}

refused : RefusedUnderivable
refused = record {
  flags = λ env ctx type K L f n legal known h. (sorted_means env ctx legal Weak type K L (Fails f) n h known).says.lacks;
  primitives = λ env ctx type K L f n legal known h. (sorted_means env ctx legal DefPrim type K L (Fails f) n h known).says.lacks;
  lines = λ env ctx body stated K L f n legal known h. (line_means env ctx legal (is_box stated) body stated refl K L (Fails f) n h known).says.lacks;
}

pub judging_right : JudgingRight
judging_right = record { accepted = accepted; refused = refused }

pub reasons_hold : ReasonsHold
reasons_hold = record {
  flags = λ env ctx type K L f n legal known h. (sorted_means env ctx legal Weak type K L (Fails f) n h known).says.because;
  primitives = λ env ctx type K L f n legal known h. (sorted_means env ctx legal DefPrim type K L (Fails f) n h known).says.because;
  lines = λ env ctx body stated K L f n legal known h. (line_means env ctx legal (is_box stated) body stated refl K L (Fails f) n h known).says.because;
}
