-- The place of the first element that passes.
use Rattle.std.proofs.Common.{◌≡◌, ℕ, zero, suc, Bool, true, false, List, [], ◌∷◌, position, Some, None, refl, ap, ◌∙◌, sym, arith}
use Rattle.std.specs.Prelude.{slice_get}
use Rattle.std.specs.Str.{bytes_eq}
use Rattle.fb_scope.proofs.Places.{found_first, found_later, found_nowhere}
use Rattle.fb_show.specs.Formed.{AreDistinct}
use Rattle.fb_show.proofs.Levels.{bytes_same, bytes_differ}

alone_passes : {A : Type 0} (p : A → Bool) (x : A) → p x ≡ true → position p (x ∷ []) ≡ Some 0
alone_passes p x h = rw h refl

alone_fails : {A : Type 0} (p : A → Bool) (x : A) → p x ≡ false → position p (x ∷ []) ≡ None
alone_fails p x h = rw h refl

pub place_here : {A : Type 0} (p : A → Bool) (x : A) (xs : List A) → p x ≡ true → position p (x ∷ xs) ≡ Some 0
place_here p x xs h = found_first p (x ∷ []) xs 0 (alone_passes p x h)

pub place_later : {A : Type 0} (p : A → Bool) (x : A) (xs : List A) (i : ℕ) → p x ≡ false → position p xs ≡ Some i → position p (x ∷ xs) ≡ Some (suc i)
place_later p x xs i h e = found_later p (x ∷ []) xs i (alone_fails p x h) e ∙ ap Some (omega arith)

pub no_place : {A : Type 0} (p : A → Bool) (x : A) (xs : List A) → p x ≡ false → position p xs ≡ None → position p (x ∷ xs) ≡ None
no_place p x xs h e = found_nowhere p (x ∷ []) xs (alone_fails p x h) e

-- the place of a name among names that differ
pub name_place : (names : List (List ℕ)) (k : ℕ) (x : List ℕ) → AreDistinct names → slice_get names k ≡ Some x → position (bytes_eq x) names ≡ Some k
name_place [] k x d e = absurd cc
name_place (n ∷ ns) zero x d e = place_here (bytes_eq x) n ns (let same : x ≡ n = cc in ap (bytes_eq x) (sym same) ∙ bytes_same x)
name_place (n ∷ ns) (suc k) x d e =
    place_later (bytes_eq x) n ns k (bytes_differ x n (λ s. let at : 0 ≡ suc k = d 0 (suc k) x (ap Some (sym s)) e in omega (arith, at)))
    (name_place ns k x (λ i j y p q. let at : suc i ≡ suc j = d (suc i) (suc j) y p q in omega (arith, at)) e)
