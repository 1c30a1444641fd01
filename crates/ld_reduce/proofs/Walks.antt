-- Steps made so far, and what they leave of a way. Under an argument, a step is that of the function part.
use Rattle.std.proofs.Common.{◌≡◌, ◌<◌, ◌≤◌, ◌+◌, max, ℕ, suc, List, Option, None, Some, refl, ap, ◌∙◌, subst, arith}
use Rattle.ld_terms.specs.Tree.{Tree, Star, Box, Var, App, Lam, Pi, Const}
use Rattle.ld_terms.specs.Entry.{Env}
use Rattle.ld_terms.specs.Item.{One, IsSmall, height, greatest_index}
use Rattle.ld_env.specs.Named.{Named}
use Rattle.ld_reduce.specs.Heads.{Reached, Runs, over, more, too_high, applied, beta_step, delta_step, first_of, head_step}
use Rattle.ld_reduce.specs.Forms.{Fits, Walks, none, further, next_of}

-- the room of a whole term is that of small ones
pub fits_small : (t : Tree) → Fits 500 t → IsSmall (One t)
fits_small t h = record { height = h.height; index = h.index }

pub small_fits : (t : Tree) → IsSmall (One t) → Fits 500 t
small_fits t h = record { height = h.height; index = h.index }

-- what the ways from the tree reached are for those from the first
pub runs_after : {next : Tree → Option Tree} {t u : Tree} {r : Reached} {n m : ℕ} → Walks next 500 t u n → Runs next u r m → Runs next t r (n + m)
runs_after {next} {t} {u} {r} {n} {m} none run =
    let P : ℕ → Type 0 = λ k. Runs next t r k in
    let e : m ≡ 0 + m = omega arith in
    subst P e run
runs_after {next} {t} {u} {r} {n} {m} (further {n = k} w is fits) run =
    let P : ℕ → Type 0 = λ j. Runs next t r j in
    let e : k + suc m ≡ suc k + m = omega arith in
    subst P e (runs_after w (more _ is (fits_small _ fits) run))

-- what is left of a way after some steps
pub record Rest (next : Tree → Option Tree) (u : Tree) (r : Reached) (m n : ℕ) : Type 0 where
  pub rest : ℕ
  pub run : Runs next u r rest
  pub is : m ≡ n + rest

pub one_less : {next : Tree → Option Tree} {u v : Tree} {r : Reached} {k : ℕ} → next u ≡ Some v → IsSmall (One v) → Runs next u r k → Rest next v r k 1
one_less is small (over e) = absurd (cc)
one_less {next} {u} {v} {r} is small (more {n = n} w e s run) =
    let same : w ≡ v = cc in
    let P : Tree → Type 0 = λ x. Runs next x r n in
    record { rest = n; run = subst P same run; is = omega arith }
one_less {next} {u} {v} is small (too_high w e high) =
    let same : v ≡ w = cc in
    let P : Tree → Type 0 = λ x. IsSmall (One x) in
    absurd (high (subst P same small))

pub walked : {next : Tree → Option Tree} {t u : Tree} {r : Reached} {n m : ℕ} → Walks next 500 t u n → Runs next t r m → Rest next u r m n
walked {m = m} none run = record { rest = m; run = run; is = omega arith }
walked (further w is fits) run =
    let h = walked w run in
    let k = one_less is (fits_small _ fits) h.run in
    record { rest = k.rest; run = k.run; is = omega (arith, h.is, k.is) }

wants_one : {next : Tree → Option Tree} {u v : Tree} {r : Reached} {k : ℕ} → next u ≡ Some v → Runs next u r k → 0 < k
wants_one is (over e) = absurd (cc)
wants_one is (more w e s run) = omega arith
wants_one is (too_high w e high) = omega arith

pub wants_more : {next : Tree → Option Tree} {t u v : Tree} {r : Reached} {n m : ℕ} → Walks next 500 t u n → next u ≡ Some v → Runs next t r m → n < m
wants_more w is run = let h = walked w run in omega (arith, h.is, wants_one is h.run)

-- some steps and then others
pub walks_after : {next : Tree → Option Tree} {room : ℕ} {t u v : Tree} {n m : ℕ} → Walks next room t u n → Walks next room u v m → Walks next room t v (n + m)
walks_after {next} {room} {t} {u} {v} {n} {m} w none =
    let P : ℕ → Type 0 = λ k. Walks next room t u k in
    let e : n ≡ n + 0 = omega arith in
    subst P e w
walks_after {next} {room} {t} {u} {v} {n} {m} w (further {n = k} x is fits) =
    let P : ℕ → Type 0 = λ j. Walks next room t v j in
    let e : suc (n + k) ≡ n + suc k = omega arith in
    subst P e (further (walks_after w x) is fits)

beta_applied : (f u g : Tree) → beta_step f ≡ Some g → beta_step (App f u) ≡ Some (App g u)
beta_applied Star u g e = ap (applied u) e
beta_applied Box u g e = ap (applied u) e
beta_applied (Var i) u g e = ap (applied u) e
beta_applied (App h v) u g e = ap (applied u) e
beta_applied (Lam a m) u g e = absurd (cc)
beta_applied (Pi a b) u g e = ap (applied u) e
beta_applied (Const k us) u g e = ap (applied u) e

first_applied : (u : Tree) (x y : Option Tree) → first_of (applied u x) (applied u y) ≡ applied u (first_of x y)
first_applied u None y = refl
first_applied u (Some x) y = refl

head_applied : (env : Env) (f u g : Tree) → head_step env f ≡ Some g → head_step env (App f u) ≡ Some (App g u)
head_applied env Star u g e = ap (applied u) e
head_applied env Box u g e = ap (applied u) e
head_applied env (Var i) u g e = ap (applied u) e
head_applied env (App h v) u g e = first_applied u (beta_step (App h v)) (delta_step env (App h v)) ∙ ap (applied u) e
head_applied env (Lam a m) u g e = absurd (cc)
head_applied env (Pi a b) u g e = ap (applied u) e
head_applied env (Const k us) u g e = ap (applied u) e

pub next_applied : (o : Option (List Named)) (env : Env) (f u g : Tree) → next_of o env f ≡ Some g → next_of o env (App f u) ≡ Some (App g u)
next_applied None env f u g e = beta_applied f u g e
next_applied (Some n) env f u g e = head_applied env f u g e

-- where the function part has no step and is no abstraction, neither has the whole
beta_none : (f u : Tree) → beta_step f ≡ None → ((a m : Tree) → f ≡ Lam a m → ⊥) → beta_step (App f u) ≡ None
beta_none Star u e other = refl
beta_none Box u e other = refl
beta_none (Var i) u e other = refl
beta_none (App h v) u e other = ap (applied u) e
beta_none (Lam a m) u e other = absurd (other a m refl)
beta_none (Pi a b) u e other = refl
beta_none (Const k us) u e other = refl

head_none : (env : Env) (f u : Tree) → head_step env f ≡ None → ((a m : Tree) → f ≡ Lam a m → ⊥) → head_step env (App f u) ≡ None
head_none env Star u e other = refl
head_none env Box u e other = refl
head_none env (Var i) u e other = refl
head_none env (App h v) u e other = first_applied u (beta_step (App h v)) (delta_step env (App h v)) ∙ ap (applied u) e
head_none env (Lam a m) u e other = absurd (other a m refl)
head_none env (Pi a b) u e other = refl
head_none env (Const k us) u e other = ap (applied u) e

pub next_none : (o : Option (List Named)) (env : Env) (f u : Tree) → next_of o env f ≡ None → ((a m : Tree) → f ≡ Lam a m → ⊥) → next_of o env (App f u) ≡ None
next_none None env f u e other = beta_none f u e other
next_none (Some n) env f u e other = head_none env f u e other

-- under an argument there is room for one less
module _ (r room : ℕ) (one : r + 1 ≡ room) where
  pub fits_part : (f u : Tree) → Fits room (App f u) → Fits r f
  fits_part f u h = record { height = less_height (height f) (height u) h.height; index = less_index (greatest_index f) (greatest_index u) h.index }
    where
      less_height : (x y : ℕ) → max x y + 1 ≤ room → x ≤ r
      less_height x y e = grind arith

      less_index : (x y : ℕ) → max x y ≤ 65535 → x ≤ 65535
      less_index x y e = grind arith

  pub fits_with : (f g u : Tree) → Fits room (App f u) → Fits r g → Fits room (App g u)
  fits_with f g u h k = record {
    height = with_height (height f) (height g) (height u) h.height k.height;
    index = with_index (greatest_index f) (greatest_index g) (greatest_index u) h.index k.index;
  }
    where
      with_height : (x y z : ℕ) → max x z + 1 ≤ room → y ≤ r → max y z + 1 ≤ room
      with_height x y z e k = grind arith

      with_index : (x y z : ℕ) → max x z ≤ 65535 → y ≤ 65535 → max y z ≤ 65535
      with_index x y z e k = grind arith

  pub walks_under : (o : Option (List Named)) (env : Env) (f u g : Tree) (n : ℕ) → Fits room (App f u) → Walks (next_of o env) r f g n → Walks (next_of o env) room (App f u) (App g u) n
  walks_under o env f u g n whole none = none
  walks_under o env f u g n whole (further {u = h} {n = k} w is fits) =
      further (walks_under o env f u h k whole w) (next_applied o env h u g is) (fits_with f g u whole fits)
