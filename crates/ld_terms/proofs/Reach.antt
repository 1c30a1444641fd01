-- A term that reaches no variable from some place on is the same after it is lifted, or has terms put in, there.
use Rattle.std.proofs.Common.{◌≡◌, ◌≤◌, ◌-◌, ℕ, suc, max, refl, ap, arith}
use Rattle.std.proofs.lemmas.Bool.Decides.{nat_tests}
use Rattle.ld_terms.specs.Tree.{Tree, Star, Box, Var, App, Lam, Pi, Const, Trees, Nil, ◌▸◌}
use Rattle.ld_terms.specs.Put.{lift, lift_all, put_below, put_all_below}
use Rattle.ld_terms.specs.Item.{Item, One, Many, reach, reach_all, reach_of, lift_item, put_item}
use Rattle.ld_terms.proofs.Banks.{both}

first_within : (a b n : ℕ) → max a b ≤ n → a ≤ n
first_within a b n h = grind arith

second_within : (a b n : ℕ) → max a b ≤ n → b ≤ n
second_within a b n h = grind arith

body_within : (a b n : ℕ) → max a (b - 1) ≤ n → b ≤ suc n
body_within a b n h = grind arith

mutual
  lift_within : (t : Tree) (by from : ℕ) → reach t ≤ from → lift t by from ≡ t
  lift_within Star by from h = refl
  lift_within Box by from h = refl
  lift_within (Var i) by from h = grind (arith, nat_tests)
  lift_within (App f u) by from h = both App (lift_within f by from (first_within _ _ _ h)) (lift_within u by from (second_within _ _ _ h))
  lift_within (Lam a m) by from h = both Lam (lift_within a by from (first_within _ _ _ h)) (lift_within m by (suc from) (body_within _ _ _ h))
  lift_within (Pi a b) by from h = both Pi (lift_within a by from (first_within _ _ _ h)) (lift_within b by (suc from) (body_within _ _ _ h))
  lift_within (Const k us) by from h = ap (Const k) (lift_all_within us by from h)

  lift_all_within : (us : Trees) (by from : ℕ) → reach_all us ≤ from → lift_all us by from ≡ us
  lift_all_within Nil by from h = refl
  lift_all_within (us ▸ u) by from h = both ◌▸◌ (lift_all_within us by from (first_within _ _ _ h)) (lift_within u by from (second_within _ _ _ h))

mutual
  put_within : (t : Tree) (us : Trees) (below : ℕ) → reach t ≤ below → put_below t us below ≡ t
  put_within Star us below h = refl
  put_within Box us below h = refl
  put_within (Var i) us below h = grind (arith, nat_tests)
  put_within (App f u) us below h = both App (put_within f us below (first_within _ _ _ h)) (put_within u us below (second_within _ _ _ h))
  put_within (Lam a m) us below h = both Lam (put_within a us below (first_within _ _ _ h)) (put_within m us (suc below) (body_within _ _ _ h))
  put_within (Pi a b) us below h = both Pi (put_within a us below (first_within _ _ _ h)) (put_within b us (suc below) (body_within _ _ _ h))
  put_within (Const k vs) us below h = ap (Const k) (put_all_within vs us below h)

  put_all_within : (vs us : Trees) (below : ℕ) → reach_all vs ≤ below → put_all_below vs us below ≡ vs
  put_all_within Nil us below h = refl
  put_all_within (vs ▸ v) us below h = both ◌▸◌ (put_all_within vs us below (first_within _ _ _ h)) (put_within v us below (second_within _ _ _ h))

pub lift_item_within : (x : Item) (by from : ℕ) → reach_of x ≤ from → lift_item x by from ≡ x
lift_item_within (One t) by from h = ap One (lift_within t by from h)
lift_item_within (Many us) by from h = ap Many (lift_all_within us by from h)

pub put_item_within : (x : Item) (us : Trees) (below : ℕ) → reach_of x ≤ below → put_item x us below ≡ x
put_item_within (One t) us below h = ap One (put_within t us below h)
put_item_within (Many vs) us below h = ap Many (put_all_within vs us below h)
