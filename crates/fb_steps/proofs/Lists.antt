-- Lists: what stands at the end of an extended one, the open flags after some are closed, and what follows in a mark.
use Rattle.std.proofs.Common.{ap, arith, length, refl, suc, zero, ℕ, ◌≡◌, ◌≤◌, ◌-◌, ◌∙◌, List, [], ◌∷◌, ◌++◌, drop}
use Rattle.std.proofs.lemmas.Bool.Decides.{nat_tests}
use Rattle.std.proofs.lemmas.List.{reverse-append}
use Rattle.std.specs.Prelude.{true, ◌==◌, Some, None, slice_get, map, if◌then◌else◌}
use Rattle.ld_terms.specs.Tree.{count}
use Rattle.fb_scope.specs.Resolve.{further}
use Rattle.fb_steps.specs.Places.{OpenFlag, context_of, numbers, closed_to}

pub at_end : {X : Type 0} (xs : List X) (x : X) (k : ℕ) → k ≡ length xs → slice_get (xs ++ x ∷ []) k ≡ Some x
at_end [] x zero e = refl
at_end [] x (suc k) e = absurd (omega (arith, e))
at_end (y ∷ xs) x zero e = absurd (omega (arith, e))
at_end (y ∷ xs) x (suc k) e = at_end xs x k (omega (arith, e))

pub at_before : {X : Type 0} (xs ys : List X) (k : ℕ) (x : X) → slice_get xs k ≡ Some x → slice_get (xs ++ ys) k ≡ Some x
at_before [] ys k x h = absurd (cc)
at_before (y ∷ xs) ys zero x h = h
at_before (y ∷ xs) ys (suc k) x h = at_before xs ys k x h

pub one_longer : {X : Type 0} (xs : List X) (x : X) → length (xs ++ x ∷ []) ≡ suc (length xs)
one_longer [] x = refl
one_longer (y ∷ xs) x = ap suc (one_longer xs x)

-- some flags, and more that were opened after them
pub data EndsWith (fs : List OpenFlag) : List OpenFlag → Type 0 where
  here : EndsWith fs fs
  there : {g : OpenFlag} {gs : List OpenFlag} → EndsWith fs gs → EndsWith fs (g ∷ gs)

pub ends_length : {fs gs : List OpenFlag} → EndsWith fs gs → length fs ≤ length gs
ends_length here = omega arith
ends_length (there h) = let le = ends_length h in omega (arith, le)

drop_by : (k : ℕ) (fs : List OpenFlag) → k ≡ 0 → drop k fs ≡ fs
drop_by zero fs e = refl
drop_by (suc k) fs e = absurd (omega (arith, e))

drop_more : (k n : ℕ) (g : OpenFlag) (gs : List OpenFlag) → k ≡ suc n → drop k (g ∷ gs) ≡ drop n gs
drop_more k n g gs e = ap (λ i. drop i (g ∷ gs)) e

pub ends_closed : {fs gs : List OpenFlag} → EndsWith fs gs → closed_to (length fs) gs ≡ fs
ends_closed {fs} here = drop_by (length fs - length fs) fs (omega arith)
ends_closed {fs} (there {g = g} {gs = gs} h) =
    let le = ends_length h in
    drop_more (suc (length gs) - length fs) (length gs - length fs) g gs (omega (arith, le)) ∙ ends_closed h

pub ends_before : {f : OpenFlag} {fs gs : List OpenFlag} → EndsWith (f ∷ fs) gs → EndsWith fs gs
ends_before here = there here
ends_before (there h) = there (ends_before h)

pub ends_drop : (k : ℕ) (fs : List OpenFlag) → EndsWith (drop k fs) fs
ends_drop zero fs = here
ends_drop (suc k) [] = here
ends_drop (suc k) (f ∷ fs) = there (ends_drop k fs)

pub count_flags : (fs : List OpenFlag) → count (context_of fs) ≡ length fs
count_flags [] = refl
count_flags (f ∷ fs) = ap suc (count_flags fs)

-- one flag more
same_number : (n : ℕ) → (n == n) ≡ true
same_number n = grind (arith, nat_tests)

further_one : (ns : List ℕ) (n : ℕ) → further (ns ++ n ∷ []) ns ≡ Some 1
further_one [] n = refl
further_one (m ∷ ns) n = ap (λ b. if b then further (ns ++ n ∷ []) ns else None) (same_number m) ∙ further_one ns n

pub further_flag : (f : OpenFlag) (fs : List OpenFlag) → further (numbers (f ∷ fs)) (numbers fs) ≡ Some 1
further_flag f fs =
    ap (λ ns. further ns (numbers fs)) (reverse-append (f.number ∷ []) (map (λ g. g.number) fs)) ∙ further_one (numbers fs) f.number
