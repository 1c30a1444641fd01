-- The sort of a term as it is read, and what is typed again.
use Rattle.std.proofs.Common.{◌≡◌, Bool, true, false, ◌||◌, refl, subst}
use Rattle.std.specs.Prelude.{⊤}
use Rattle.ld_terms.specs.Tree.{Tree, Star, Box, Trees, count}
use Rattle.ld_terms.specs.Entry.{Env}
use Rattle.ld_terms.specs.Step.{Converts}
use Rattle.ld_terms.specs.Derivable.{IsSort, Derivable, IsLegalContext, ◌⨾◌⊢◌∶◌}
use Rattle.ld_terms.specs.Tests.{is_star, is_box}
use Rattle.ld_laws.specs.Typing.{HasSort}
use Rattle.ld_laws.proofs.RigidHeads.{heads_alike}
use Rattle.ld_laws.proofs.Scoping.{scopes}
use Rattle.ld_laws.proofs.BoxFree.{box_apart}
use Rattle.ld_laws.proofs.Preservation.{steps_convert}
use Rattle.ld_laws.proofs.UniqueTypes.{uniqueness}
use Rattle.ld_reduce.specs.Task.{Gives, Task}
use Rattle.ld_convert.proofs.Means.{Means, at_once_means, gives_means, fails_means, bind_means, means_more}
use Rattle.ld_infer.specs.Reading as reading
use Rattle.ld_infer.specs.Reading.{Asked, Reason, Refusal, refusal, Found}
use Rattle.ld_infer.specs.Refusals.{HasType, IsSortOf, HasNoSort, IsUntyped, IsUnsorted}
use Rattle.ld_infer.proofs.ExposedHeads.{IsExposed, exposed_means}
use Rattle.ld_infer.proofs.TypesRead.{or_false, sort_by_test, star_by_test, no_star, sorted_type}
use Rattle.ld_infer.proofs.Refused.{holds_here}

module _ (env : Env) (ctx : Trees) (legal : IsLegalContext env ctx) where
  exposed_sort_means : (star : Bool) (q : Asked) (t type u : Tree) → is_star u ≡ star → is_box type ≡ false → Derivable env ctx t type → IsExposed env type u →
      Means env (reading.exposed_sort env (count ctx) star q type) (IsSortOf env ctx t) (IsUnsorted env ctx t)
  exposed_sort_means true q t type u e nb d x =
      gives_means Star (record { is_sort = IsSort.star; typed = ◌⨾◌⊢◌∶◌.conv IsSort.box (subst (Converts env type) (star_by_test u e) (steps_convert x.steps)) d legal })
  exposed_sort_means false q t type u e nb d x =
      fails_means (refusal q (count ctx) (Reason.NotSort type))
      (record { no_sort = no_sort; because = holds_here env ctx t q (Reason.NotSort type) (record { typed = d; no_sort = no_sort }) })
    where
      no_sort : HasNoSort env ctx t
      no_sort s IsSort.star d' =
          no_star (heads_alike env (scopes legal).of_env u Star x.rigid tt (Converts.chain (Converts.back (steps_convert x.steps)) (uniqueness env ctx t type Star d d'))) e
      no_sort s IsSort.box d' = box_apart (sorted_type d nb).typed (Converts.back (uniqueness env ctx t type Box d d'))

  sort_in_means : (sort : Bool) (q : Asked) (t type : Tree) → (is_star type || is_box type) ≡ sort → Derivable env ctx t type →
      Means env (reading.sort_in env (count ctx) sort q type) (IsSortOf env ctx t) (IsUnsorted env ctx t)
  sort_in_means true q t type e d = gives_means type (record { is_sort = sort_by_test type e; typed = d })
  sort_in_means false q t type e d =
      bind_means (IsExposed env type) (exposed_means env (IsUnsorted env ctx t) type)
      (λ u x. exposed_sort_means (is_star u) q t type u refl (or_false (is_star type) (is_box type) e) d x)

-- Below, hr says what the readings of parts mean.
module _ (env : Env) (ctx : Trees) (legal : IsLegalContext env ctx) (read : Asked → Tree → Task Refusal Found)
    (hr : (q : Asked) (t : Tree) → Means env (read q t) (HasType env ctx t) (IsUntyped env ctx t)) where
  pub sort_means : (q : Asked) (t : Tree) → Means env (reading.sort_of env (count ctx) read q t) (IsSortOf env ctx t) (IsUnsorted env ctx t)
  sort_means q t =
      bind_means (HasType env ctx t)
      (means_more (HasType env ctx t) (IsUntyped env ctx t) (λ r h. h) (λ e f. record { no_sort = λ s h d. f.no_type s d; because = f.because }) (hr q t))
      (λ r h. sort_in_means env ctx legal (is_star r.type || is_box r.type) q t r.type refl h.typed)

  -- what has a sort isn't refused where it is typed again
  pub again_means : (F : Refusal → Type 0) (q : Asked) (t : Tree) → HasSort env ctx t → Means env (reading.again env (count ctx) read q t) (λ _. ⊤) F
  again_means F q t h =
      bind_means (λ _. ⊤)
      (bind_means (λ _. ⊤) (at_once_means (Gives tt) 1 tt)
      (λ _ _. means_more (IsSortOf env ctx t) (IsUnsorted env ctx t) (λ _ _. tt) (λ e f. absurd (f.no_sort h.of h.is_sort h.typed)) (sort_means q t)))
      (λ _ _. gives_means tt tt)

  pub again_unless_means : (F : Refusal → Type 0) (comes : Bool) (q : Asked) (t : Tree) → HasSort env ctx t → Means env (reading.again_unless env (count ctx) read comes q t) (λ _. ⊤) F
  again_unless_means F true q t h = gives_means tt tt
  again_unless_means F false q t h = again_means F q t h
