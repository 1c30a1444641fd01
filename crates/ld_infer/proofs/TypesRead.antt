-- What the tests of a type tell, and the types of variables.
use Rattle.std.proofs.Common.{◌≡◌, ℕ, zero, suc, Bool, true, false, ◌||◌, Option, None, Some, refl, ap, subst}
use Rattle.ld_terms.specs.Tree.{Tree, Star, Box, Pi, Trees, Nil, ◌▸◌}
use Rattle.ld_terms.specs.Put.{lift, put}
use Rattle.ld_terms.specs.Entry.{Env}
use Rattle.ld_terms.specs.Derivable.{IsSort, Derivable, Arguments, IsLegalContext, ◌⨾◌⊢◌∶∶◌}
use Rattle.ld_terms.specs.Tests.{is_star, is_box}
use Rattle.ld_laws.specs.Typing.{At, HasSort}
use Rattle.ld_laws.specs.Heads.{Alike}
use Rattle.ld_laws.specs.Reduction.{Steps, end, then_on}
use Rattle.ld_laws.proofs.LegalContexts.{legal_of, last_of, weak_sort}
use Rattle.ld_laws.proofs.Correctness.{IsCorrect, correct}
use Rattle.ld_laws.proofs.Preservation.{reduced}
use Rattle.ld_convert.proofs.Agreeing.{some_injective}
use Rattle.ld_infer.specs.Reading.{product_of, type_in, lifted}

pub or_false : (x y : Bool) → (x || y) ≡ false → y ≡ false
or_false true y h = absurd (cc)
or_false false y h = h

pub sort_by_test : (n : Tree) → (is_star n || is_box n) ≡ true → IsSort n
sort_by_test Star h = IsSort.star
sort_by_test Box h = IsSort.box
sort_by_test n h = absurd (cc)

pub star_by_test : (n : Tree) → is_star n ≡ true → n ≡ Star
star_by_test Star h = refl
star_by_test n h = absurd (cc)

pub box_by_test : (n : Tree) → is_box n ≡ true → n ≡ Box
box_by_test Box h = refl
box_by_test n h = absurd (cc)

pub product_by_test : (n : Tree) (p : Tree × Tree) → product_of n ≡ Some p → n ≡ Pi p.0 p.1
product_by_test (Pi a b) p h = ap (λ q. Pi q.0 q.1) (some_injective h)
product_by_test n p h = absurd (cc)

pub no_product : {env : Env} {u a b : Tree} → Alike env u (Pi a b) → product_of u ≡ None → ⊥
no_product (Alike.product h k) e = cc

pub no_star : {env : Env} {u : Tree} → Alike env u Star → is_star u ≡ false → ⊥
no_star Alike.star e = cc

pub box_no_product : {env : Env} {a b : Tree} → Alike env Box (Pi a b) → ⊥
box_no_product h = elim h [ ]

-- types and their sorts
sorted_by : {env : Env} {ctx : Trees} {n : Tree} → IsCorrect env ctx n → is_box n ≡ false → HasSort env ctx n
sorted_by IsCorrect.is_box e = absurd (cc)
sorted_by (IsCorrect.sorted h) e = h

pub sorted_type : {env : Env} {ctx : Trees} {m n : Tree} → Derivable env ctx m n → is_box n ≡ false → HasSort env ctx n
sorted_type d e = sorted_by (correct d) e

product_sorted : {env : Env} {ctx : Trees} {a b : Tree} → IsCorrect env ctx (Pi a b) → HasSort env ctx (Pi a b)
product_sorted (IsCorrect.sorted h) = h

pub sorted_product : {env : Env} {ctx : Trees} {m a b : Tree} → Derivable env ctx m (Pi a b) → HasSort env ctx (Pi a b)
sorted_product d = product_sorted (correct d)

pub star_sorted : {env : Env} {ctx : Trees} → IsLegalContext env ctx → HasSort env ctx Star
star_sorted l = record { of = Box; is_sort = IsSort.box; typed = l }

pub steps_typed : {env : Env} {ctx : Trees} {t u n : Tree} → Steps env t u → Derivable env ctx t n → Derivable env ctx u n
steps_typed end d = d
steps_typed {ctx = ctx} {n = n} (then_on s w) d = steps_typed w (reduced s ctx n d)

-- variables
lifted_some : (o : Option Tree) (a : Tree) → lifted o ≡ Some a → (b : Tree) × (o ≡ Some b) × (lift b 1 0 ≡ a)
lifted_some None a h = absurd (cc)
lifted_some (Some b) a h = (b, refl, some_injective h)

pub type_at : (ctx : Trees) (i : ℕ) (a : Tree) → type_in ctx i ≡ Some a → At ctx i a
type_at Nil i a h = absurd (cc)
type_at (ctx ▸ b) zero a h = subst (At (ctx ▸ b) 0) (some_injective h) At.here
type_at (ctx ▸ b) (suc i) a h =
    let p = lifted_some (type_in ctx i) a h in subst (At (ctx ▸ b) (suc i)) p.2 (At.there (type_at ctx i p.0 p.1))

pub at_sorted : {env : Env} {ctx : Trees} {i : ℕ} {a : Tree} → IsLegalContext env ctx → At ctx i a → HasSort env ctx a
at_sorted l At.here = let h = last_of l in record { of = h.of; is_sort = h.is_sort; typed = weak_sort h.is_sort h.typed h.is_sort h.typed }
at_sorted l (At.there at) =
    let h = last_of l in
    let g = at_sorted (legal_of h.typed) at in
    record { of = g.of; is_sort = g.is_sort; typed = weak_sort g.is_sort g.typed h.is_sort h.typed }

-- the arguments before the last one, and the last one
pub all_but_last : {env : Env} {ctx ps us : Trees} {p u : Tree} → Arguments env ctx (ps ▸ p) (us ▸ u) → Arguments env ctx ps us
all_but_last (◌⨾◌⊢◌∶∶◌.more args d) = args

pub last_argument : {env : Env} {ctx ps us : Trees} {p u : Tree} → Arguments env ctx (ps ▸ p) (us ▸ u) → Derivable env ctx u (put p us)
last_argument (◌⨾◌⊢◌∶∶◌.more args d) = d
