-- The flags of an entry beside those that are open.
use Rattle.std.proofs.Common.{◌≡◌, ◌<◌, ◌≤◌, ◌+◌, ◌-◌, ℕ, Bool, true, false, cond, ◌&&◌, ◌==◌, if◌then◌else◌, List, [], ◌∷◌, length, map, reverse, get_or, Option, Some, None, refl, sym, ap, ◌∙◌, arith}
use Rattle.std.specs.List.{list_any, list_all, zip, prefix_len}
use Rattle.fb_scope.specs.declared.scope.Flag.{Flag}
use Rattle.std.proofs.lemmas.List.{get_or_default}
use Rattle.fb_scope.specs.State.{State, numbers}
use Rattle.fb_scope.specs.Resolve.{shared, made_under, further}
use Rattle.fb_scope.proofs.Lists.{list_any-map}
use Rattle.fb_scope.proofs.Flags.{numbers-reverse}

pub shared-numbers : (ns : List ℕ) (flags : List Flag) → shared ns (map (λ f. f.number) flags) ≡ prefix_len (λ n. list_any (λ f. f.number == n) flags) ns
shared-numbers [] flags = refl
shared-numbers (n ∷ ns) flags =
    λ i. cond (list_any-map (λ m. m == n) (λ f. f.number) flags i) (1 + shared-numbers ns flags i) 0

-- flags that are no more than the open ones do not go on behind them
either_way : {A : Type 0} (b : Bool) (x y : A) → y ≡ x → (if b then y else x) ≡ x
either_way true x y e = e
either_way false x y e = refl

pub further-few : (ns : List ℕ) (flags : List Flag) → length ns ≤ length flags → further ns (map (λ f. f.number) flags) ≡ None
further-few [] flags le = refl
further-few (n ∷ ns) [] le = absurd (omega arith)
further-few (n ∷ ns) (f ∷ flags) le = either_way (n == f.number) None (further ns (map (λ f. f.number) flags)) (further-few ns flags (omega arith))

-- each number is that of the flag at its place
abbrev pub same_number : ℕ × Flag → Bool
same_number p = p.0 == p.1.number

one_same : (b c : Bool) (n : ℕ) (r : Option ℕ) → (b && c) ≡ true → (c ≡ true → r ≡ Some n) → (if b then r else None) ≡ Some n
one_same true c n r e rest = rest e
one_same false c n r e rest = cc

pub further-many : (ns : List ℕ) (flags : List Flag) → length flags < length ns → list_all same_number (zip ns flags) ≡ true → further ns (map (λ f. f.number) flags) ≡ Some (length ns - length flags)
further-many [] flags lt e = absurd (omega arith)
further-many (n ∷ ns) [] lt e = ap Some (omega arith)
further-many (n ∷ ns) (f ∷ flags) lt e =
    one_same (n == f.number) (list_all same_number (zip ns flags)) (length ns - length flags) (further ns (map (λ f. f.number) flags)) e
    (λ rest. further-many ns flags (omega arith) rest)
    ∙ ap Some (omega arith)

one_other : (b c : Bool) (r : Option ℕ) → (b && c) ≡ false → (c ≡ false → r ≡ None) → (if b then r else None) ≡ None
one_other true c r e rest = rest e
one_other false c r e rest = refl

pub further-other : (ns : List ℕ) (flags : List Flag) → list_all same_number (zip ns flags) ≡ false → further ns (map (λ f. f.number) flags) ≡ None
further-other [] flags e = refl
further-other (n ∷ ns) [] e = cc
further-other (n ∷ ns) (f ∷ flags) e =
    one_other (n == f.number) (list_all same_number (zip ns flags)) (further ns (map (λ f. f.number) flags)) e (λ rest. further-other ns flags rest)

-- the mark of an entry, as it is read
pub mark_at : (s : State) (marks : List (List ℕ)) (k : ℕ) (mark : List ℕ) → marks ≡ s.marks → k < length s.marks → mark ≡ get_or marks k mark → mark ≡ made_under s k
mark_at s marks k mark kept lt e = e ∙ ap (λ ms. get_or ms k mark) kept ∙ get_or_default s.marks k mark [] lt

-- the numbers of the open flags, as they are kept
pub numbers_of : (s : State) (flags kept : List Flag) → flags ≡ kept → reverse kept ≡ s.flags → map (λ f. f.number) flags ≡ numbers s.flags
numbers_of s flags kept e view = ap (map (λ f. f.number)) e ∙ sym (numbers-reverse kept) ∙ ap numbers view
