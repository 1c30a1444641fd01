-- `lift` is a renaming and `put` a substitution by a function. No later proof meets a depth or a sum of indices.
use Rattle.std.proofs.Common.{ap, arith, refl, suc, sym, zero, ℕ, ⊎_elim, ◌≡◌, ◌+◌, ◌-◌, ◌<◌, ◌≤◌, ◌∙◌}
use Rattle.std.proofs.lemmas.Bool.{cases_lt}
use Rattle.std.proofs.lemmas.Bool.Decides.{nat_tests}
use Rattle.std.specs.Prelude.{nat_lt, if◌then◌else◌}
use mathlib.Core.Path.{ap₂}
use Rattle.ld_terms.specs.Entry.{IsScoped}
use Rattle.ld_terms.specs.Put.{in_place, in_place_below, lift, lift_all, put, put_all_below, put_below}
use Rattle.ld_terms.specs.Tree.{App, Box, Const, Lam, Nil, Pi, Star, Tree, Trees, Var, count, ◌▸◌}
use Rattle.ld_laws.proofs.Renaming.{next, ren, ren_all, ren_as_sub, ren_ren, ren_sub, sub, sub_agree, sub_all, sub_ren, sub_same, sub_sub, up, up_eq, up_ren}

-- `lift` is a renaming
abbrev pub shift : (by from : ℕ) → ℕ → ℕ
shift by from i = if nat_lt i from then i else i + by

shift_suc : (by from i : ℕ) → suc (shift by from i) ≡ shift by (suc from) (suc i)
shift_suc by from i = grind (arith, nat_tests)

pub up_shift : (by from i : ℕ) → up_ren (shift by from) i ≡ shift by (suc from) i
up_shift by from zero = grind (arith, nat_tests)
up_shift by from (suc i) = shift_suc by from i

shift_up : (by from : ℕ) (r : ℕ → ℕ) → ((i : ℕ) → shift by from i ≡ r i) → (i : ℕ) → shift by (suc from) i ≡ up_ren r i
shift_up by from r h zero = sym (up_shift by from zero)
shift_up by from r h (suc i) = sym (shift_suc by from i) ∙ ap suc (h i)

mutual
  pub lift_ren : (t : Tree) (by from : ℕ) (r : ℕ → ℕ) → ((i : ℕ) → shift by from i ≡ r i) → lift t by from ≡ ren r t
  lift_ren Star by from r h = refl
  lift_ren Box by from r h = refl
  lift_ren (Var i) by from r h = ap Var (h i)
  lift_ren (App f u) by from r h = ap₂ App (lift_ren f by from r h) (lift_ren u by from r h)
  lift_ren (Lam a m) by from r h = ap₂ Lam (lift_ren a by from r h) (lift_ren m by (suc from) (up_ren r) (shift_up by from r h))
  lift_ren (Pi a m) by from r h = ap₂ Pi (lift_ren a by from r h) (lift_ren m by (suc from) (up_ren r) (shift_up by from r h))
  lift_ren (Const k us) by from r h = ap (Const k) (lift_ren_all us by from r h)

  pub lift_ren_all : (us : Trees) (by from : ℕ) (r : ℕ → ℕ) → ((i : ℕ) → shift by from i ≡ r i) → lift_all us by from ≡ ren_all r us
  lift_ren_all Nil by from r h = refl
  lift_ren_all (us ▸ u) by from r h = ap₂ ◌▸◌ (lift_ren_all us by from r h) (lift_ren u by from r h)

-- `put` is a substitution
below_lt : (us : Trees) (d i : ℕ) → i < d → in_place_below us d i ≡ Var i
below_lt us d i h = grind (arith, nat_tests)

below_ge : (us : Trees) (d i : ℕ) → d ≤ i → in_place_below us d i ≡ lift (in_place us (i - d)) d 0
below_ge us d i h = grind (arith, nat_tests)

pub next_lift : (t : Tree) (d : ℕ) → ren next (lift t d 0) ≡ lift t (suc d) 0
next_lift t d =
    ap (ren next) (lift_ren t d 0 (shift d 0) (λ i. refl))
    ∙ ren_ren t next (shift d 0) (shift (suc d) 0) (λ i. grind (arith, nat_tests))
    ∙ sym (lift_ren t (suc d) 0 (shift (suc d) 0) (λ i. refl))

pub below_suc : (us : Trees) (d i : ℕ) → up (in_place_below us d) i ≡ in_place_below us (suc d) i
below_suc us d zero = sym (below_lt us (suc d) 0 (omega arith))
below_suc us d (suc i) =
    ⊎_elim
    (λ lt. ap (ren next) (below_lt us d i lt) ∙ sym (below_lt us (suc d) (suc i) (omega arith)))
    (λ ge. ap (ren next) (below_ge us d i ge) ∙ next_lift (in_place us (i - d)) d ∙ ap (λ k. lift (in_place us k) (suc d) 0) (minus i d) ∙ sym (below_ge us (suc d) (suc i) (omega arith)))
    (cases_lt i d)
  where
    minus : (i d : ℕ) → i - d ≡ suc i - suc d
    minus i d = omega arith

below_up : (us : Trees) (d : ℕ) (s : ℕ → Tree) → ((i : ℕ) → in_place_below us d i ≡ s i) → (i : ℕ) → in_place_below us (suc d) i ≡ up s i
below_up us d s h i = sym (below_suc us d i) ∙ up_eq (in_place_below us d) s h i

mutual
  pub put_sub : (t : Tree) (us : Trees) (d : ℕ) (s : ℕ → Tree) → ((i : ℕ) → in_place_below us d i ≡ s i) → put_below t us d ≡ sub s t
  put_sub Star us d s h = refl
  put_sub Box us d s h = refl
  put_sub (Var i) us d s h = h i
  put_sub (App f u) us d s h = ap₂ App (put_sub f us d s h) (put_sub u us d s h)
  put_sub (Lam a m) us d s h = ap₂ Lam (put_sub a us d s h) (put_sub m us (suc d) (up s) (below_up us d s h))
  put_sub (Pi a m) us d s h = ap₂ Pi (put_sub a us d s h) (put_sub m us (suc d) (up s) (below_up us d s h))
  put_sub (Const k vs) us d s h = ap (Const k) (put_sub_all vs us d s h)

  pub put_sub_all : (vs us : Trees) (d : ℕ) (s : ℕ → Tree) → ((i : ℕ) → in_place_below us d i ≡ s i) → put_all_below vs us d ≡ sub_all s vs
  put_sub_all Nil us d s h = refl
  put_sub_all (vs ▸ v) us d s h = ap₂ ◌▸◌ (put_sub_all vs us d s h) (put_sub v us d s h)

-- as the rules use them
pub lift_next : (t : Tree) → lift t 1 0 ≡ ren next t
lift_next t = lift_ren t 1 0 next (λ i. grind (arith, nat_tests))

lift_none : (t : Tree) → lift t 0 0 ≡ t
lift_none t = lift_ren t 0 0 (λ i. i) (λ i. grind (arith, nat_tests)) ∙ ren_as_sub t (λ i. i) Var (λ i. refl) ∙ sub_same t Var (λ i. refl)

pub below_zero : (us : Trees) (i : ℕ) → in_place_below us 0 i ≡ in_place us i
below_zero us i = below_ge us 0 i (omega arith) ∙ lift_none (in_place us (i - 0)) ∙ ap (in_place us) minus_zero
  where
    minus_zero : i - 0 ≡ i
    minus_zero = omega arith

pub put_as_sub : (t : Tree) (us : Trees) → put t us ≡ sub (in_place us) t
put_as_sub t us = put_sub t us 0 (in_place us) (below_zero us)

-- a substitution after a list put in, where the list replaces all free variables
in_place_sub : (us : Trees) (s : ℕ → Tree) (i : ℕ) → i < count us → sub s (in_place us i) ≡ in_place (sub_all s us) i
in_place_sub Nil s i lt = absurd (omega arith)
in_place_sub (us ▸ u) s zero lt = refl
in_place_sub (us ▸ u) s (suc i) lt = in_place_sub us s i (omega arith)

pub sub_put_all : (t : Tree) (us : Trees) (s : ℕ → Tree) → IsScoped t (count us) → sub s (put t us) ≡ put t (sub_all s us)
sub_put_all t us s c =
    ap (sub s) (put_as_sub t us)
    ∙ sub_sub t s (in_place us) (λ i. sub s (in_place us i)) (λ i. refl)
    ∙ sub_agree t (count us) (λ i. sub s (in_place us i)) (in_place (sub_all s us)) c (in_place_sub us s)
    ∙ sym (put_as_sub t (sub_all s us))

-- the same after one tree put in for the last variable, and after a lift by one
one_up : (s : ℕ → Tree) (n : Tree) (i : ℕ) → sub s (in_place (Nil ▸ n) i) ≡ sub (in_place (Nil ▸ sub s n)) (up s i)
one_up s n zero = refl
one_up s n (suc i) = sym (sub_ren (s i) (in_place (Nil ▸ sub s n)) next Var (λ j. refl) ∙ sub_same (s i) Var (λ j. refl))

pub sub_put_one : (m n : Tree) (s : ℕ → Tree) → sub s (put m (Nil ▸ n)) ≡ put (sub (up s) m) (Nil ▸ sub s n)
sub_put_one m n s =
    ap (sub s) (put_as_sub m (Nil ▸ n))
    ∙ sub_sub m s (in_place (Nil ▸ n)) (λ i. sub s (in_place (Nil ▸ n) i)) (λ i. refl)
    ∙ sym (sub_sub m (in_place (Nil ▸ sub s n)) (up s) (λ i. sub s (in_place (Nil ▸ n) i)) (λ i. sym (one_up s n i)))
    ∙ sym (put_as_sub (sub (up s) m) (Nil ▸ sub s n))

pub sub_lift : (t : Tree) (s : ℕ → Tree) → sub (up s) (lift t 1 0) ≡ lift (sub s t) 1 0
sub_lift t s =
    ap (sub (up s)) (lift_next t)
    ∙ sub_ren t (up s) next (λ i. ren next (s i)) (λ i. refl)
    ∙ sym (ren_sub t next s (λ i. ren next (s i)) (λ i. refl))
    ∙ sym (lift_next (sub s t))
