-- A cut looks at no byte behind the limit.
use Rattle.std.proofs.Common.{◌≡◌, ℕ, zero, suc, ◌+◌, min, ◌<◌, ◌≤◌, ◌⊎◌, ⊎_elim, inl, inr, Bool, true, false, ◌&&◌, nat_le, nat_lt, if◌then◌else◌}
use Rattle.std.proofs.Common.{List, [], ◌++◌, length, take, refl, ap, ◌∙◌, sym, subst, arith}
use Rattle.std.specs.Prelude.{slice_index_or, codes}
use Rattle.std.proofs.lemmas.Bool.{cases_lt}
use Rattle.std.proofs.lemmas.Bool.Decides.{nat_tests}
use Rattle.std.proofs.lemmas.List.{take_all, length-take-le, get_or-take, take-take}
use Rattle.ld_terms.specs.Tree.{Tree}
use Rattle.fb_write.specs.Canonical.{term_text}
use Rattle.fb_show.specs.Cut.{cut_at, cut, shown_text, Filled}
use Rattle.fb_show.specs.Display.{base, shown}
use Rattle.fb_show.specs.Shown.{own_numbered}

-- stated over the byte that is looked at
at_take : (l n : ℕ) (t : List ℕ) → suc n < l → slice_index_or (take l t) (suc n) 0 ≡ slice_index_or t (suc n) 0
at_take l n t h = get_or-take l t (suc n) 0 h

cut_at_take : (l n : ℕ) (t : List ℕ) → n < l → cut_at (take l t) n ≡ cut_at t n
cut_at_take l zero t h = refl
cut_at_take l (suc n) t h = rw (at_take l n t h, cut_at_take l n t (omega (arith, h))) refl

if_within : (c : Bool) (x y m : ℕ) → x ≤ m → y ≤ m → (if c then x else y) ≤ m
if_within true x y m a b = a
if_within false x y m a b = b

cut_at_within : (t : List ℕ) (n : ℕ) → cut_at t n ≤ n
cut_at_within t zero = omega arith
cut_at_within t (suc n) =
    if_within (nat_le 128 (slice_index_or t (suc n) 0) && nat_lt (slice_index_or t (suc n) 0) 192) (cut_at t n) (suc n) (suc n)
    (omega (arith, cut_at_within t n)) (omega arith)

if_not : {A : Type 0} (n m : ℕ) (x y : A) → m < n → (if nat_le n m then x else y) ≡ y
if_not n m x y h = let e : nat_le n m ≡ false = grind (arith, nat_tests) in rw e refl

front_cut : (most : ℕ) (t : List ℕ) → cut most (take (suc most) t) ≡ cut most t
front_cut most t = ⊎_elim
    (λ long. let n : length (take (suc most) t) ≡ suc most = length-take-le (suc most) t (omega (arith, long)) in
    if_not (length (take (suc most) t)) most _ _ (omega (arith, n))
    ∙ ap (λ v. take v (take (suc most) t) ++ codes "...") (cut_at_take (suc most) most t (omega arith))
    ∙ ap (λ v. v ++ codes "...") (take-take (cut_at t most) (suc most) t (let w = cut_at_within t most in omega (arith, w)))
    ∙ sym (if_not (length t) most _ _ long))
    (λ short. ap (cut most) (take_all (suc most) t (omega (arith, short))))
    (cases_lt most (length t))

-- A text that was written up to a limit above the most is cut as the whole.
pub cut_up_to : (l most : ℕ) (t : List ℕ) → (l ≡ suc most) ⊎ (length (take l t) < l) → cut most (take l t) ≡ cut most t
cut_up_to l most t (inl e) = ap (λ v. cut most (take v t)) e ∙ front_cut most t
cut_up_to l most t (inr h) = ⊎_elim
    (λ long. absurd (let n : length (take l t) ≡ l = length-take-le l t (omega (arith, long)) in omega (arith, h, n)))
    (λ short. ap (cut most) (take_all l t short))
    (cases_lt l (length t))

-- a limit of one more than the most, or the greatest that there is
pub one_more : (most n l greatest : ℕ) → l ≡ min (most + 1) greatest → n < greatest → (l ≡ suc most) ⊎ (n < l)
one_more most n l greatest e h = ⊎_elim
    (λ (less : most < greatest). inl (omega (arith, e, less)))
    (λ (more : greatest ≤ most). inr (omega (arith, e, h, more)))
    (cases_lt most greatest)

-- the text of a term that was written up to such a limit, over the base of its names
pub text_cut_up_to : (own names : List (List ℕ)) (b : List ℕ) (d : ℕ) (t : Tree) (l most : ℕ) (none text : List ℕ) → b ≡ base 120 (own ++ names) → none ≡ []
    → (l ≡ suc most) ⊎ (length text < l) → Filled l none text (term_text (shown (own_numbered own b) names d t)) → cut most text ≡ cut most (shown_text own names d t)
text_cut_up_to own names b d t l most none text is empty limit f =
    let whole = shown_text own names d t in
    let front : text ≡ take l whole =
    f.filled ∙ ap (λ v. take l (v ++ term_text (shown (own_numbered own b) names d t))) empty ∙ ap (λ v. take l (term_text (shown (own_numbered own v) names d t))) is in
    ap (cut most) front ∙ cut_up_to l most whole (⊎_elim inl (λ h. inr (subst (λ v. length v < l) front h)) limit)
