-- A test of the names one after the other.
use Rattle.std.proofs.Common.{◌≡◌, ℕ, ◌+◌, ◌≤◌, Bool, true, false, ◌||◌, List, [], ◌++◌, length, take, refl, ap, ◌∙◌, sym, arith}
use Rattle.std.specs.Prelude.{slice_get, Some}
use Rattle.std.specs.List.{list_any}
use Rattle.std.proofs.lemmas.List.{take_all, length-append, length-map, length-reverse}
use Rattle.std.proofs.lemmas.List.Folds.{list_any_at, list_any_more}
use Rattle.std.proofs.lemmas.Option.{slice_get_within, get_or_from_slice_get}
use Rattle.ld_env.specs.Named.{Named, names_of}
use Rattle.fb_scope.specs.State.{State, flag_names}
use Rattle.fb_show.specs.Cut.{own_names}

pub any_here : (p : List ℕ → Bool) (xs : List (List ℕ)) (k : ℕ) (x : List ℕ) → slice_get xs k ≡ Some x → p x ≡ true → list_any p xs ≡ true
any_here p xs k x at h = list_any_at p xs k [] (slice_get_within xs k x at) (rw (get_or_from_slice_get xs k x [] at) h)

neither : (a b : Bool) → a ≡ false → b ≡ false → (a || b) ≡ false
neither a b p q = rw (p, q) refl

pub any_more : (p : List ℕ → Bool) (xs : List (List ℕ)) (k : ℕ) (x : List ℕ) → slice_get xs k ≡ Some x → p x ≡ false → list_any p (take k xs) ≡ false → list_any p (take (k + 1) xs) ≡ false
any_more p xs k x at h e = list_any_more p xs k [] (slice_get_within xs k x at) ∙ neither (list_any p (take k xs)) _ e (ap p (get_or_from_slice_get xs k x [] at) ∙ h)

pub any_whole : (p : List ℕ → Bool) (xs : List (List ℕ)) (k : ℕ) → length xs ≤ k → list_any p (take k xs) ≡ false → list_any p xs ≡ false
any_whole p xs k l e = ap (list_any p) (sym (take_all k xs l)) ∙ e

-- how many names there are
pub own_count : (s : State) → length (own_names s) ≡ length s.flags
own_count s = length-reverse (flag_names s.flags) ∙ length-map s.flags (λ f. f.name)

pub all_count : (s : State) (entries : List Named) → length (own_names s ++ names_of entries) ≡ length s.flags + length entries
all_count s entries =
    let own = own_count s in
    let others : length (names_of entries) ≡ length entries = length-map entries (λ n. n.name) in
    omega (arith, own, others, length-append (own_names s) (names_of entries))
