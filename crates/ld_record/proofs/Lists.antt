-- Lists by their last member.
use Rattle.std.proofs.Common.{◌≡◌, ◌∙◌, ℕ, zero, suc, List, [], ◌∷◌, ◌++◌, get_or, map, refl, ap, sym, subst}
use Rattle.std.specs.List.{AllByRecursion}
use Rattle.std.proofs.lemmas.List.{append_assoc, append-nil, map-append}
use Rattle.ld_terms.specs.Tree.{Tree, Trees, Nil, ◌▸◌}
use Rattle.ld_terms.specs.Known.{extended, trees}

-- what holds of the default and at each place holds with one more
pub with_one_more : {X : Type 0} (P : X → Type 0) (d x : X) (xs : List X) → P d → ((i : ℕ) → P (get_or xs i d)) → P x → (i : ℕ) → P (get_or (xs ++ x ∷ []) i d)
with_one_more P d x [] none h last zero = last
with_one_more P d x [] none h last (suc i) = none
with_one_more P d x (y ∷ ys) none h last zero = h 0
with_one_more P d x (y ∷ ys) none h last (suc i) = with_one_more P d x ys none (λ k. h (suc k)) last i

-- induction by the last member
pub by_last : (P : List ℕ → Type 0) → P [] → ((xs : List ℕ) (x : ℕ) → P xs → P (xs ++ x ∷ [])) → (xs : List ℕ) → P xs
by_last P base step xs = go [] xs base
  where
    go : (front rest : List ℕ) → P front → P (front ++ rest)
    go front [] h = subst P (sym (append-nil front)) h
    go front (x ∷ rest) h = subst P (append_assoc front (x ∷ []) rest) (go (front ++ x ∷ []) rest (step front x h))

pub all_last : (P : ℕ → Type 0) (xs : List ℕ) (x : ℕ) → AllByRecursion P (xs ++ x ∷ []) → AllByRecursion P xs × P x
all_last P [] x h = (tt, h.0)
all_last P (y ∷ ys) x h = let t = all_last P ys x h.1 in ((h.0, t.0), t.1)

pub extended_last : (us : Trees) (ts : List Tree) (t : Tree) → extended us (ts ++ t ∷ []) ≡ extended us ts ▸ t
extended_last us [] t = refl
extended_last us (x ∷ ts) t = extended_last (us ▸ x) ts t

pub trees_last : (g : ℕ → Tree) (xs : List ℕ) (x : ℕ) → trees (map g (xs ++ x ∷ [])) ≡ trees (map g xs) ▸ g x
trees_last g xs x = ap trees (map-append g xs (x ∷ [])) ∙ extended_last Nil (map g xs) (g x)
