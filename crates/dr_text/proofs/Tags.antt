-- The records by their tags.
use Rattle.std.proofs.Common.{⊎_elim, ◌≡◌, ◌≤◌, ℕ, zero, suc, Option, Some, None, List, [], ◌∷◌, ◌++◌, length, drop, get_or, refl, sym, ap, ◌∙◌, subst, arith}
use Rattle.std.proofs.lemmas.Bool.{cases_lt}
use Rattle.std.specs.Prelude.{nat_eq, if◌then◌else◌}
use Rattle.ld_terms.specs.Rule.{EqRule, Rule, counted}
use Rattle.ld_terms.specs.Record.{Record, numbers_before, name_of, numbers_behind}
use Rattle.dr_text.specs.Spelling.{tag}
use Rattle.dr_text.specs.Shapes.{Fits, IsRecordOf, IsShapeOf}
use Rattle.dr_text.specs.declared.shape.Shape.{Shape}
use Rattle.dr_text.specs.declared.shape.Shape.TheVariants.{Plain, Counted, Named}

-- the shape for each tag
abbrev pub shape_at : ℕ → Option Shape
shape_at t =
    if nat_eq t 0x01 then Some (Plain 0)
    else if nat_eq t 0x02 then Some (Plain 0)
    else if nat_eq t 0x03 then Some (Plain 1)
    else if nat_eq t 0x04 then Some (Plain 2)
    else if nat_eq t 0x05 then Some (Plain 2)
    else if nat_eq t 0x06 then Some (Plain 2)
    else if nat_eq t 0x07 then Some (Counted 1)
    else if nat_eq t 0x10 then Some (Plain 2)
    else if nat_eq t 0x20 then Some (Plain 2)
    else if nat_eq t 0x21 then Some (Plain 3)
    else if nat_eq t 0x22 then Some (Plain 4)
    else if nat_eq t 0x23 then Some (Plain 2)
    else if nat_eq t 0x24 then Some (Plain 2)
    else if nat_eq t 0x25 then Some (Plain 4)
    else if nat_eq t 0x26 then Some (Plain 4)
    else if nat_eq t 0x27 then Some (Plain 4)
    else if nat_eq t 0x28 then Some (Counted 2)
    else if nat_eq t 0x30 then Some (Plain 4)
    else if nat_eq t 0x31 then Some (Plain 5)
    else if nat_eq t 0x32 then Some (Plain 6)
    else if nat_eq t 0x33 then Some (Plain 6)
    else if nat_eq t 0x34 then Some (Plain 6)
    else if nat_eq t 0x35 then Some (Plain 6)
    else if nat_eq t 0x36 then Some (Plain 7)
    else if nat_eq t 0x37 then Some (Plain 5)
    else if nat_eq t 0x38 then Some (Plain 5)
    else if nat_eq t 0x39 then Some (Counted 5)
    else if nat_eq t 0x3a then Some (Counted 5)
    else if nat_eq t 0x40 then Some Named
    else if nat_eq t 0x41 then Some Named
    else if nat_eq t 0x50 then Some (Plain 1)
    else if nat_eq t 0x60 then Some (Plain 1)
    else None

-- the record with a tag, its numbers and its name
abbrev pub made : (t : ℕ) (before name behind : List ℕ) → Record
made t before name behind =
    let n : ℕ → ℕ = λ i. get_or before i 0 in
    if nat_eq t 0x01 then Record.Star
    else if nat_eq t 0x02 then Record.Box
    else if nat_eq t 0x03 then Record.Var (n 0)
    else if nat_eq t 0x04 then Record.App (n 0) (n 1)
    else if nat_eq t 0x05 then Record.Lam (n 0) (n 1)
    else if nat_eq t 0x06 then Record.Pi (n 0) (n 1)
    else if nat_eq t 0x07 then Record.Const (n 0) (drop 2 before)
    else if nat_eq t 0x10 then Record.Context (n 0) (n 1)
    else if nat_eq t 0x20 then Record.Equal (n 0) (n 1) EqRule.Refl
    else if nat_eq t 0x21 then Record.Equal (n 0) (n 1) (EqRule.Sym (n 2))
    else if nat_eq t 0x22 then Record.Equal (n 0) (n 1) (EqRule.Trans (n 2) (n 3))
    else if nat_eq t 0x23 then Record.Equal (n 0) (n 1) EqRule.Beta
    else if nat_eq t 0x24 then Record.Equal (n 0) (n 1) EqRule.Delta
    else if nat_eq t 0x25 then Record.Equal (n 0) (n 1) (EqRule.App (n 2) (n 3))
    else if nat_eq t 0x26 then Record.Equal (n 0) (n 1) (EqRule.Lam (n 2) (n 3))
    else if nat_eq t 0x27 then Record.Equal (n 0) (n 1) (EqRule.Pi (n 2) (n 3))
    else if nat_eq t 0x28 then Record.Equal (n 0) (n 1) (EqRule.Const (drop 3 before))
    else if nat_eq t 0x30 then Record.Node (n 0) (n 1) (n 2) (n 3) Rule.Sort
    else if nat_eq t 0x31 then Record.Node (n 0) (n 1) (n 2) (n 3) (Rule.Var (n 4))
    else if nat_eq t 0x32 then Record.Node (n 0) (n 1) (n 2) (n 3) (Rule.Weak (n 4) (n 5))
    else if nat_eq t 0x33 then Record.Node (n 0) (n 1) (n 2) (n 3) (Rule.Form (n 4) (n 5))
    else if nat_eq t 0x34 then Record.Node (n 0) (n 1) (n 2) (n 3) (Rule.Appl (n 4) (n 5))
    else if nat_eq t 0x35 then Record.Node (n 0) (n 1) (n 2) (n 3) (Rule.Abst (n 4) (n 5))
    else if nat_eq t 0x36 then Record.Node (n 0) (n 1) (n 2) (n 3) (Rule.Conv (n 4) (n 5) (n 6))
    else if nat_eq t 0x37 then Record.Node (n 0) (n 1) (n 2) (n 3) (Rule.Def (n 4))
    else if nat_eq t 0x38 then Record.Node (n 0) (n 1) (n 2) (n 3) (Rule.DefPrim (n 4))
    else if nat_eq t 0x39 then Record.Node (n 0) (n 1) (n 2) (n 3) (Rule.Inst (n 4) (drop 6 before))
    else if nat_eq t 0x3a then Record.Node (n 0) (n 1) (n 2) (n 3) (Rule.InstPrim (n 4) (drop 6 before))
    else if nat_eq t 0x40 then Record.Entry name (get_or behind 0 0)
    else if nat_eq t 0x41 then Record.PrimEntry name (get_or behind 0 0)
    else if nat_eq t 0x50 then Record.Flag (n 0)
    else if nat_eq t 0x60 then Record.End (n 0)
    else Record.Star

-- a record is the one with its tag, its numbers and its name
pub made_again : (r : Record) → made (tag r) (numbers_before r) (name_of r) (numbers_behind r) ≡ r
made_again Record.Star = refl
made_again Record.Box = refl
made_again (Record.Var i) = refl
made_again (Record.App t u) = refl
made_again (Record.Lam t u) = refl
made_again (Record.Pi t u) = refl
made_again (Record.Const k ts) = refl
made_again (Record.Context c t) = refl
made_again (Record.Equal l r EqRule.Refl) = refl
made_again (Record.Equal l r (EqRule.Sym x)) = refl
made_again (Record.Equal l r (EqRule.Trans x y)) = refl
made_again (Record.Equal l r EqRule.Beta) = refl
made_again (Record.Equal l r EqRule.Delta) = refl
made_again (Record.Equal l r (EqRule.App x y)) = refl
made_again (Record.Equal l r (EqRule.Lam x y)) = refl
made_again (Record.Equal l r (EqRule.Pi x y)) = refl
made_again (Record.Equal l r (EqRule.Const es)) = refl
made_again (Record.Node m c t u Rule.Sort) = refl
made_again (Record.Node m c t u (Rule.Var x)) = refl
made_again (Record.Node m c t u (Rule.Weak x y)) = refl
made_again (Record.Node m c t u (Rule.Form x y)) = refl
made_again (Record.Node m c t u (Rule.Appl x y)) = refl
made_again (Record.Node m c t u (Rule.Abst x y)) = refl
made_again (Record.Node m c t u (Rule.Conv x y z)) = refl
made_again (Record.Node m c t u (Rule.Def x)) = refl
made_again (Record.Node m c t u (Rule.DefPrim x)) = refl
made_again (Record.Node m c t u (Rule.Inst x ns)) = refl
made_again (Record.Node m c t u (Rule.InstPrim x ns)) = refl
made_again (Record.Entry name n) = refl
made_again (Record.PrimEntry name n) = refl
made_again (Record.Flag n) = refl
made_again (Record.End n) = refl

some : {A : Type 0} (P : A → Type 0) (x y : A) → Some x ≡ Some y → P x → P y
some P x y e p = let same : x ≡ y = cc in subst P same p

-- the numbers and the name of a record fit its tag's shape
pub fits_shape : (r : Record) (s : Shape) → shape_at (tag r) ≡ Some s → Fits s (numbers_before r) (name_of r) (numbers_behind r)
fits_shape Record.Star s e = some (λ shape. Fits shape (numbers_before Record.Star) (name_of Record.Star) (numbers_behind Record.Star)) (Plain 0) s e (refl, refl, refl)
fits_shape Record.Box s e = some (λ shape. Fits shape (numbers_before Record.Box) (name_of Record.Box) (numbers_behind Record.Box)) (Plain 0) s e (refl, refl, refl)
fits_shape (Record.Var i) s e = some (λ shape. Fits shape (numbers_before (Record.Var i)) (name_of (Record.Var i)) (numbers_behind (Record.Var i))) (Plain 1) s e (refl, refl, refl)
fits_shape (Record.App t u) s e = some (λ shape. Fits shape (numbers_before (Record.App t u)) (name_of (Record.App t u)) (numbers_behind (Record.App t u))) (Plain 2) s e (refl, refl, refl)
fits_shape (Record.Lam t u) s e = some (λ shape. Fits shape (numbers_before (Record.Lam t u)) (name_of (Record.Lam t u)) (numbers_behind (Record.Lam t u))) (Plain 2) s e (refl, refl, refl)
fits_shape (Record.Pi t u) s e = some (λ shape. Fits shape (numbers_before (Record.Pi t u)) (name_of (Record.Pi t u)) (numbers_behind (Record.Pi t u))) (Plain 2) s e (refl, refl, refl)
fits_shape (Record.Const k ts) s e = some (λ shape. Fits shape (numbers_before (Record.Const k ts)) (name_of (Record.Const k ts)) (numbers_behind (Record.Const k ts))) (Counted 1) s e (record { first = k ∷ []; others = ts; so_many = refl; is = refl }, refl, refl)
fits_shape (Record.Context c t) s e = some (λ shape. Fits shape (numbers_before (Record.Context c t)) (name_of (Record.Context c t)) (numbers_behind (Record.Context c t))) (Plain 2) s e (refl, refl, refl)
fits_shape (Record.Equal l r EqRule.Refl) s e = some (λ shape. Fits shape (numbers_before (Record.Equal l r EqRule.Refl)) (name_of (Record.Equal l r EqRule.Refl)) (numbers_behind (Record.Equal l r EqRule.Refl))) (Plain 2) s e (refl, refl, refl)
fits_shape (Record.Equal l r (EqRule.Sym x)) s e = some (λ shape. Fits shape (numbers_before (Record.Equal l r (EqRule.Sym x))) (name_of (Record.Equal l r (EqRule.Sym x))) (numbers_behind (Record.Equal l r (EqRule.Sym x)))) (Plain 3) s e (refl, refl, refl)
fits_shape (Record.Equal l r (EqRule.Trans x y)) s e = some (λ shape. Fits shape (numbers_before (Record.Equal l r (EqRule.Trans x y))) (name_of (Record.Equal l r (EqRule.Trans x y))) (numbers_behind (Record.Equal l r (EqRule.Trans x y)))) (Plain 4) s e (refl, refl, refl)
fits_shape (Record.Equal l r EqRule.Beta) s e = some (λ shape. Fits shape (numbers_before (Record.Equal l r EqRule.Beta)) (name_of (Record.Equal l r EqRule.Beta)) (numbers_behind (Record.Equal l r EqRule.Beta))) (Plain 2) s e (refl, refl, refl)
fits_shape (Record.Equal l r EqRule.Delta) s e = some (λ shape. Fits shape (numbers_before (Record.Equal l r EqRule.Delta)) (name_of (Record.Equal l r EqRule.Delta)) (numbers_behind (Record.Equal l r EqRule.Delta))) (Plain 2) s e (refl, refl, refl)
fits_shape (Record.Equal l r (EqRule.App x y)) s e = some (λ shape. Fits shape (numbers_before (Record.Equal l r (EqRule.App x y))) (name_of (Record.Equal l r (EqRule.App x y))) (numbers_behind (Record.Equal l r (EqRule.App x y)))) (Plain 4) s e (refl, refl, refl)
fits_shape (Record.Equal l r (EqRule.Lam x y)) s e = some (λ shape. Fits shape (numbers_before (Record.Equal l r (EqRule.Lam x y))) (name_of (Record.Equal l r (EqRule.Lam x y))) (numbers_behind (Record.Equal l r (EqRule.Lam x y)))) (Plain 4) s e (refl, refl, refl)
fits_shape (Record.Equal l r (EqRule.Pi x y)) s e = some (λ shape. Fits shape (numbers_before (Record.Equal l r (EqRule.Pi x y))) (name_of (Record.Equal l r (EqRule.Pi x y))) (numbers_behind (Record.Equal l r (EqRule.Pi x y)))) (Plain 4) s e (refl, refl, refl)
fits_shape (Record.Equal l r (EqRule.Const es)) s e = some (λ shape. Fits shape (numbers_before (Record.Equal l r (EqRule.Const es))) (name_of (Record.Equal l r (EqRule.Const es))) (numbers_behind (Record.Equal l r (EqRule.Const es)))) (Counted 2) s e (record { first = l ∷ r ∷ []; others = es; so_many = refl; is = refl }, refl, refl)
fits_shape (Record.Node m c t u Rule.Sort) s e = some (λ shape. Fits shape (numbers_before (Record.Node m c t u Rule.Sort)) (name_of (Record.Node m c t u Rule.Sort)) (numbers_behind (Record.Node m c t u Rule.Sort))) (Plain 4) s e (refl, refl, refl)
fits_shape (Record.Node m c t u (Rule.Var x)) s e = some (λ shape. Fits shape (numbers_before (Record.Node m c t u (Rule.Var x))) (name_of (Record.Node m c t u (Rule.Var x))) (numbers_behind (Record.Node m c t u (Rule.Var x)))) (Plain 5) s e (refl, refl, refl)
fits_shape (Record.Node m c t u (Rule.Weak x y)) s e = some (λ shape. Fits shape (numbers_before (Record.Node m c t u (Rule.Weak x y))) (name_of (Record.Node m c t u (Rule.Weak x y))) (numbers_behind (Record.Node m c t u (Rule.Weak x y)))) (Plain 6) s e (refl, refl, refl)
fits_shape (Record.Node m c t u (Rule.Form x y)) s e = some (λ shape. Fits shape (numbers_before (Record.Node m c t u (Rule.Form x y))) (name_of (Record.Node m c t u (Rule.Form x y))) (numbers_behind (Record.Node m c t u (Rule.Form x y)))) (Plain 6) s e (refl, refl, refl)
fits_shape (Record.Node m c t u (Rule.Appl x y)) s e = some (λ shape. Fits shape (numbers_before (Record.Node m c t u (Rule.Appl x y))) (name_of (Record.Node m c t u (Rule.Appl x y))) (numbers_behind (Record.Node m c t u (Rule.Appl x y)))) (Plain 6) s e (refl, refl, refl)
fits_shape (Record.Node m c t u (Rule.Abst x y)) s e = some (λ shape. Fits shape (numbers_before (Record.Node m c t u (Rule.Abst x y))) (name_of (Record.Node m c t u (Rule.Abst x y))) (numbers_behind (Record.Node m c t u (Rule.Abst x y)))) (Plain 6) s e (refl, refl, refl)
fits_shape (Record.Node m c t u (Rule.Conv x y z)) s e = some (λ shape. Fits shape (numbers_before (Record.Node m c t u (Rule.Conv x y z))) (name_of (Record.Node m c t u (Rule.Conv x y z))) (numbers_behind (Record.Node m c t u (Rule.Conv x y z)))) (Plain 7) s e (refl, refl, refl)
fits_shape (Record.Node m c t u (Rule.Def x)) s e = some (λ shape. Fits shape (numbers_before (Record.Node m c t u (Rule.Def x))) (name_of (Record.Node m c t u (Rule.Def x))) (numbers_behind (Record.Node m c t u (Rule.Def x)))) (Plain 5) s e (refl, refl, refl)
fits_shape (Record.Node m c t u (Rule.DefPrim x)) s e = some (λ shape. Fits shape (numbers_before (Record.Node m c t u (Rule.DefPrim x))) (name_of (Record.Node m c t u (Rule.DefPrim x))) (numbers_behind (Record.Node m c t u (Rule.DefPrim x)))) (Plain 5) s e (refl, refl, refl)
fits_shape (Record.Node m c t u (Rule.Inst x ns)) s e = some (λ shape. Fits shape (numbers_before (Record.Node m c t u (Rule.Inst x ns))) (name_of (Record.Node m c t u (Rule.Inst x ns))) (numbers_behind (Record.Node m c t u (Rule.Inst x ns)))) (Counted 5) s e (record { first = m ∷ c ∷ t ∷ u ∷ x ∷ []; others = ns; so_many = refl; is = refl }, refl, refl)
fits_shape (Record.Node m c t u (Rule.InstPrim x ns)) s e = some (λ shape. Fits shape (numbers_before (Record.Node m c t u (Rule.InstPrim x ns))) (name_of (Record.Node m c t u (Rule.InstPrim x ns))) (numbers_behind (Record.Node m c t u (Rule.InstPrim x ns)))) (Counted 5) s e (record { first = m ∷ c ∷ t ∷ u ∷ x ∷ []; others = ns; so_many = refl; is = refl }, refl, refl)
fits_shape (Record.Entry name n) s e = some (λ shape. Fits shape (numbers_before (Record.Entry name n)) (name_of (Record.Entry name n)) (numbers_behind (Record.Entry name n))) (Named) s e (refl, refl)
fits_shape (Record.PrimEntry name n) s e = some (λ shape. Fits shape (numbers_before (Record.PrimEntry name n)) (name_of (Record.PrimEntry name n)) (numbers_behind (Record.PrimEntry name n))) (Named) s e (refl, refl)
fits_shape (Record.Flag n) s e = some (λ shape. Fits shape (numbers_before (Record.Flag n)) (name_of (Record.Flag n)) (numbers_behind (Record.Flag n))) (Plain 1) s e (refl, refl, refl)
fits_shape (Record.End n) s e = some (λ shape. Fits shape (numbers_before (Record.End n)) (name_of (Record.End n)) (numbers_behind (Record.End n))) (Plain 1) s e (refl, refl, refl)

-- some numbers and a name are those of a record
by_numbers : (t : ℕ) (before name behind : List ℕ) → (name ≡ []) × (behind ≡ []) → IsRecordOf t before [] [] → IsRecordOf t before name behind
by_numbers t before name behind e r = subst (λ x. IsRecordOf t before x behind) (sym e.0) (subst (λ x. IsRecordOf t before [] x) (sym e.1) r)

is_record : (r : Record) → IsRecordOf (tag r) (numbers_before r) (name_of r) (numbers_behind r)
is_record r = record { made = r; of_tag = refl; of_before = refl; of_name = refl; of_behind = refl }

-- each record has a shape, which is that of its tag
pub shape_of_record : (r : Record) → (s : Shape) × (shape_at (tag r) ≡ Some s)
shape_of_record Record.Star = (Plain 0, refl)
shape_of_record Record.Box = (Plain 0, refl)
shape_of_record (Record.Var i) = (Plain 1, refl)
shape_of_record (Record.App t u) = (Plain 2, refl)
shape_of_record (Record.Lam t u) = (Plain 2, refl)
shape_of_record (Record.Pi t u) = (Plain 2, refl)
shape_of_record (Record.Const k ts) = (Counted 1, refl)
shape_of_record (Record.Context c t) = (Plain 2, refl)
shape_of_record (Record.Equal l r EqRule.Refl) = (Plain 2, refl)
shape_of_record (Record.Equal l r (EqRule.Sym x)) = (Plain 3, refl)
shape_of_record (Record.Equal l r (EqRule.Trans x y)) = (Plain 4, refl)
shape_of_record (Record.Equal l r EqRule.Beta) = (Plain 2, refl)
shape_of_record (Record.Equal l r EqRule.Delta) = (Plain 2, refl)
shape_of_record (Record.Equal l r (EqRule.App x y)) = (Plain 4, refl)
shape_of_record (Record.Equal l r (EqRule.Lam x y)) = (Plain 4, refl)
shape_of_record (Record.Equal l r (EqRule.Pi x y)) = (Plain 4, refl)
shape_of_record (Record.Equal l r (EqRule.Const es)) = (Counted 2, refl)
shape_of_record (Record.Node m c t u Rule.Sort) = (Plain 4, refl)
shape_of_record (Record.Node m c t u (Rule.Var x)) = (Plain 5, refl)
shape_of_record (Record.Node m c t u (Rule.Weak x y)) = (Plain 6, refl)
shape_of_record (Record.Node m c t u (Rule.Form x y)) = (Plain 6, refl)
shape_of_record (Record.Node m c t u (Rule.Appl x y)) = (Plain 6, refl)
shape_of_record (Record.Node m c t u (Rule.Abst x y)) = (Plain 6, refl)
shape_of_record (Record.Node m c t u (Rule.Conv x y z)) = (Plain 7, refl)
shape_of_record (Record.Node m c t u (Rule.Def x)) = (Plain 5, refl)
shape_of_record (Record.Node m c t u (Rule.DefPrim x)) = (Plain 5, refl)
shape_of_record (Record.Node m c t u (Rule.Inst x ns)) = (Counted 5, refl)
shape_of_record (Record.Node m c t u (Rule.InstPrim x ns)) = (Counted 5, refl)
shape_of_record (Record.Entry name n) = (Named, refl)
shape_of_record (Record.PrimEntry name n) = (Named, refl)
shape_of_record (Record.Flag n) = (Plain 1, refl)
shape_of_record (Record.End n) = (Plain 1, refl)

shaped : (t : ℕ) (s : Shape) → shape_at t ≡ Some s → ((before name behind : List ℕ) → Fits s before name behind → IsRecordOf t before name behind) → IsShapeOf t s
shaped t s e make = record { fits = λ r same. fits_shape r s (ap shape_at same ∙ e); record_of = make }

-- what holds of all lists of a length
abbrev Of : ℕ → (List ℕ → Type 0) → Type 0
Of zero P = P []
Of (suc n) P = (x : ℕ) → Of n (λ xs. P (x ∷ xs))

all_of : (n : ℕ) (P : List ℕ → Type 0) → Of n P → (xs : List ℕ) → length xs ≡ n → P xs
all_of zero P p [] e = p
all_of zero P p (x ∷ xs) e = absurd (omega (arith, e))
all_of (suc n) P p [] e = absurd (omega (arith, e))
all_of (suc n) P p (x ∷ xs) e = all_of n (λ ys. P (x ∷ ys)) (p x) xs (omega (arith, e))

plain : (t n : ℕ) → shape_at t ≡ Some (Plain n) → Of n (λ xs. IsRecordOf t xs [] []) → IsShapeOf t (Plain n)
plain t n e p = shaped t (Plain n) e (λ before name behind f. by_numbers t before name behind (f.1, f.2) (all_of n (λ xs. IsRecordOf t xs [] []) p before f.0))

with_count : (t n : ℕ) → shape_at t ≡ Some (Counted n) → Of n (λ xs. (ns : List ℕ) → IsRecordOf t (xs ++ counted ns) [] []) → IsShapeOf t (Counted n)
with_count t n e p = shaped t (Counted n) e (λ before name behind f. by_numbers t before name behind (f.1, f.2)
    (let R : List ℕ → Type 0 = λ xs. IsRecordOf t xs [] [] in
    subst R (sym f.0.is) (all_of n (λ xs. (ns : List ℕ) → IsRecordOf t (xs ++ counted ns) [] []) p f.0.first f.0.so_many f.0.others)))

named : (t : ℕ) → shape_at t ≡ Some Named → ((name : List ℕ) (n : ℕ) → IsRecordOf t (length name ∷ []) name (n ∷ [])) → IsShapeOf t Named
named t e p = shaped t Named e (λ before name behind f.
    let R : List ℕ → Type 0 = λ xs. IsRecordOf t xs name behind in
    subst R (sym f.0) (all_of 1 (λ ns. IsRecordOf t (length name ∷ []) name ns) (λ n. p name n) behind f.1))

pub tag_01 : IsShapeOf 0x01 (Plain 0)
tag_01 = plain 0x01 0 refl (is_record (Record.Star))

pub tag_02 : IsShapeOf 0x02 (Plain 0)
tag_02 = plain 0x02 0 refl (is_record (Record.Box))

pub tag_03 : IsShapeOf 0x03 (Plain 1)
tag_03 = plain 0x03 1 refl (λ i. is_record (Record.Var i))

pub tag_04 : IsShapeOf 0x04 (Plain 2)
tag_04 = plain 0x04 2 refl (λ t u. is_record (Record.App t u))

pub tag_05 : IsShapeOf 0x05 (Plain 2)
tag_05 = plain 0x05 2 refl (λ t u. is_record (Record.Lam t u))

pub tag_06 : IsShapeOf 0x06 (Plain 2)
tag_06 = plain 0x06 2 refl (λ t u. is_record (Record.Pi t u))

pub tag_07 : IsShapeOf 0x07 (Counted 1)
tag_07 = with_count 0x07 1 refl (λ k ts. is_record (Record.Const k ts))

pub tag_10 : IsShapeOf 0x10 (Plain 2)
tag_10 = plain 0x10 2 refl (λ c t. is_record (Record.Context c t))

pub tag_20 : IsShapeOf 0x20 (Plain 2)
tag_20 = plain 0x20 2 refl (λ l r. is_record (Record.Equal l r EqRule.Refl))

pub tag_21 : IsShapeOf 0x21 (Plain 3)
tag_21 = plain 0x21 3 refl (λ l r x. is_record (Record.Equal l r (EqRule.Sym x)))

pub tag_22 : IsShapeOf 0x22 (Plain 4)
tag_22 = plain 0x22 4 refl (λ l r x y. is_record (Record.Equal l r (EqRule.Trans x y)))

pub tag_23 : IsShapeOf 0x23 (Plain 2)
tag_23 = plain 0x23 2 refl (λ l r. is_record (Record.Equal l r EqRule.Beta))

pub tag_24 : IsShapeOf 0x24 (Plain 2)
tag_24 = plain 0x24 2 refl (λ l r. is_record (Record.Equal l r EqRule.Delta))

pub tag_25 : IsShapeOf 0x25 (Plain 4)
tag_25 = plain 0x25 4 refl (λ l r x y. is_record (Record.Equal l r (EqRule.App x y)))

pub tag_26 : IsShapeOf 0x26 (Plain 4)
tag_26 = plain 0x26 4 refl (λ l r x y. is_record (Record.Equal l r (EqRule.Lam x y)))

pub tag_27 : IsShapeOf 0x27 (Plain 4)
tag_27 = plain 0x27 4 refl (λ l r x y. is_record (Record.Equal l r (EqRule.Pi x y)))

pub tag_28 : IsShapeOf 0x28 (Counted 2)
tag_28 = with_count 0x28 2 refl (λ l r es. is_record (Record.Equal l r (EqRule.Const es)))

pub tag_30 : IsShapeOf 0x30 (Plain 4)
tag_30 = plain 0x30 4 refl (λ m c t u. is_record (Record.Node m c t u Rule.Sort))

pub tag_31 : IsShapeOf 0x31 (Plain 5)
tag_31 = plain 0x31 5 refl (λ m c t u x. is_record (Record.Node m c t u (Rule.Var x)))

pub tag_32 : IsShapeOf 0x32 (Plain 6)
tag_32 = plain 0x32 6 refl (λ m c t u x y. is_record (Record.Node m c t u (Rule.Weak x y)))

pub tag_33 : IsShapeOf 0x33 (Plain 6)
tag_33 = plain 0x33 6 refl (λ m c t u x y. is_record (Record.Node m c t u (Rule.Form x y)))

pub tag_34 : IsShapeOf 0x34 (Plain 6)
tag_34 = plain 0x34 6 refl (λ m c t u x y. is_record (Record.Node m c t u (Rule.Appl x y)))

pub tag_35 : IsShapeOf 0x35 (Plain 6)
tag_35 = plain 0x35 6 refl (λ m c t u x y. is_record (Record.Node m c t u (Rule.Abst x y)))

pub tag_36 : IsShapeOf 0x36 (Plain 7)
tag_36 = plain 0x36 7 refl (λ m c t u x y z. is_record (Record.Node m c t u (Rule.Conv x y z)))

pub tag_37 : IsShapeOf 0x37 (Plain 5)
tag_37 = plain 0x37 5 refl (λ m c t u x. is_record (Record.Node m c t u (Rule.Def x)))

pub tag_38 : IsShapeOf 0x38 (Plain 5)
tag_38 = plain 0x38 5 refl (λ m c t u x. is_record (Record.Node m c t u (Rule.DefPrim x)))

pub tag_39 : IsShapeOf 0x39 (Counted 5)
tag_39 = with_count 0x39 5 refl (λ m c t u x ns. is_record (Record.Node m c t u (Rule.Inst x ns)))

pub tag_3a : IsShapeOf 0x3a (Counted 5)
tag_3a = with_count 0x3a 5 refl (λ m c t u x ns. is_record (Record.Node m c t u (Rule.InstPrim x ns)))

pub tag_40 : IsShapeOf 0x40 Named
tag_40 = named 0x40 refl (λ name n. is_record (Record.Entry name n))

pub tag_41 : IsShapeOf 0x41 Named
tag_41 = named 0x41 refl (λ name n. is_record (Record.PrimEntry name n))

pub tag_50 : IsShapeOf 0x50 (Plain 1)
tag_50 = plain 0x50 1 refl (λ n. is_record (Record.Flag n))

pub tag_60 : IsShapeOf 0x60 (Plain 1)
tag_60 = plain 0x60 1 refl (λ n. is_record (Record.End n))

-- what holds at the least of some numbers and at the others
pub from : (P : ℕ → Type 0) (a t : ℕ) → a ≤ t → P a → (suc a ≤ t → P t) → P t
from P a t le here more = ⊎_elim (λ lt. more (omega (arith, lt))) (λ ge. subst P (let e : a ≡ t = omega (arith, ge, le) in e) here) (cases_lt a t)
