-- A type that a reading gives is small.
use Rattle.std.proofs.Common.{◌≡◌, ◌-◌, ℕ, zero, suc, arith, refl, subst}
use Rattle.std.specs.Prelude.{Bool, true, false, ◌||◌, Option, Some, None, slice_get, ⊤}
use Rattle.ld_terms.specs.Tree.{Tree, Star, Box, Var, App, Lam, Pi, Const, Trees, Nil, ◌▸◌, count}
use Rattle.ld_terms.specs.Put.{put}
use Rattle.ld_terms.specs.Entry.{Entry, Env}
use Rattle.ld_terms.specs.Item.{IsSmall, One}
use Rattle.ld_terms.specs.Tests.{is_star, is_box}
use Rattle.ld_reduce.specs.Task as task
use Rattle.ld_reduce.specs.Task.{Pairs, Answer, Gives, Fails, Task, gives, fails, formed, ◌>>=◌, ◌>>◌, faults_by, with_fault}
use Rattle.ld_convert.specs.Apart.{Apart}
use Rattle.ld_convert.specs.Compares.{compare_within}
use Rattle.ld_infer.specs.Reading as reading
use Rattle.ld_infer.specs.Reading.{Asked, Found, Refusal, found, read_within, type_in, Types, SortOf}

-- what holds of each value that a task gives
abbrev pub Posts : {E X : Type 0} → Task E X → (X → Type 0) → Type 0
Posts {E} {X} p P = (K L : Pairs) (x : X) (n : ℕ) → p K (Gives x) L n → P x

same_value : {E X : Type 0} {x y : X} → ◌≡◌ {A = Answer E X} (Gives x) (Gives y) → y ≡ x
same_value e = cc

no_fault : {E X : Type 0} {x : X} {f : E} → ◌≡◌ {A = Answer E X} (Gives x) (Fails f) → ⊥
no_fault e = cc

gives_posts : {E X : Type 0} (P : X → Type 0) (y : X) → P y → Posts (gives {E = E} y) P
gives_posts P y h K L x n g = subst P (same_value g.0) h

fails_posts : {E X : Type 0} (P : X → Type 0) (f : E) → Posts (fails {X = X} f) P
fails_posts P f K L x n g = absurd (no_fault g.0)

nested_posts : {E X : Type 0} (P : X → Type 0) → Posts (task.nested {E = E} {X = X}) P
nested_posts P K L x n g = let e = g.0 in absurd (cc (e))

bind_posts : {E X Y : Type 0} {p : Task E X} {f : X → Task E Y} (G : X → Type 0) {P : Y → Type 0} → Posts p G → ((x : X) → G x → Posts (f x) P) → Posts (p >>= f) P
bind_posts G hp hf K L y n (task.◌>>=◌.goes_on x b i j px fx e) = hf x (hp K b x i px) b L y j fx
bind_posts G hp hf K L y n (task.◌>>=◌.ends stop pt h) = elim h [ ]

then_posts : {E X Y : Type 0} {p : Task E X} {q : Task E Y} {P : Y → Type 0} → Posts q P → Posts (p >> q) P
then_posts h = bind_posts (λ _. ⊤) (λ K L x n g. tt) (λ _ _. h)

faulted : {E F X : Type 0} (P : X → Type 0) (g : E → F) (s : Answer E X) (x : X) → Gives x ≡ with_fault g s → ((y : X) → s ≡ Gives y → P y) → P x
faulted P g (Gives y) x e h = subst P (same_value e) (h y refl)
faulted P g (Fails f) x e h = absurd (cc)
faulted P g task.High x e h = absurd (cc)
faulted P g task.Nested x e h = absurd (cc)

faults_posts : {E F X : Type 0} (g : E → F) (p : Task E X) (P : X → Type 0) → Posts p P → Posts (faults_by g p) P
faults_posts g p P h K L x n (s, ps, e) = faulted P g s x e (λ y q. h K L y n (subst (λ v. p K v L n) q ps))

formed_posts : {E : Type 0} (t : Tree) → Posts (formed {E = E} t) (λ u. IsSmall (One u))
formed_posts t K L u n (task.formed.small s e k m) = subst (λ x. IsSmall (One x)) (same_value e) s
formed_posts t K L u n (task.formed.high s e k m) = absurd (cc)

small_star : IsSmall (One Star)
small_star = record { height = omega arith; index = omega arith }

small_box : IsSmall (One Box)
small_box = record { height = omega arith; index = omega arith }

abbrev IsSmallType : Found → Type 0
IsSmallType r = IsSmall (One r.type)

formed_found : {E : Type 0} (t : Tree) (comes : Bool) → Posts (formed {E = E} t >>= (λ n. gives (found n comes))) IsSmallType
formed_found t comes = bind_posts (λ u. IsSmall (One u)) (formed_posts t) (λ u h. gives_posts IsSmallType (found u comes) h)

module _ (env : Env) (depth : ℕ) where
  exposed_sort_posts : (star : Bool) (q : Asked) (type : Tree) → Posts (reading.exposed_sort env depth star q type) (λ s. IsSmall (One s))
  exposed_sort_posts true q type = gives_posts (λ s. IsSmall (One s)) Star small_star
  exposed_sort_posts false q type = fails_posts (λ s. IsSmall (One s)) _

  sort_in_posts : (sort : Bool) (q : Asked) (type : Tree) → IsSmall (One type) → Posts (reading.sort_in env depth sort q type) (λ s. IsSmall (One s))
  sort_in_posts true q type h = gives_posts (λ s. IsSmall (One s)) type h
  sort_in_posts false q type h = bind_posts (λ _. ⊤) (λ K L x n g. tt) (λ t _. exposed_sort_posts (is_star t) q type)

module _ (env : Env) (compare : Tree → Tree → Task Apart (Unit {0})) (read : Trees → Asked → Tree → Task Refusal Found)
    (hr : (ctx : Trees) (q : Asked) (t : Tree) → Posts (read ctx q t) IsSmallType) where
  sort_of_posts : (ctx : Trees) (q : Asked) (t : Tree) → Posts (reading.sort_of env (count ctx) (read ctx) q t) (λ s. IsSmall (One s))
  sort_of_posts ctx q t = bind_posts IsSmallType (hr ctx q t) (λ r h. sort_in_posts env (count ctx) (is_star r.type || is_box r.type) q r.type h)

  variable_posts : (o : Option Tree) → Posts (reading.variable_reading o) IsSmallType
  variable_posts None K L x n g = absurd g
  variable_posts (Some a) K L x n g = formed_found a true K L x n g

  instance_posts : (ctx : Trees) (o : Option Entry) (us : Trees) → Posts (reading.instance_reading env compare read ctx o us) IsSmallType
  instance_posts ctx None us K L x n g = absurd g
  instance_posts ctx (Some e) us K L x n g = then_posts (formed_found (put e.type us) false) K L x n g

  reading_posts : (ctx : Trees) (q : Asked) (t : Tree) → Posts (reading.reading env compare read ctx q t) IsSmallType
  reading_posts ctx q Star = gives_posts IsSmallType (found Box false) small_box
  reading_posts ctx q Box = fails_posts IsSmallType _
  reading_posts ctx q (Var i) = variable_posts (type_in ctx i)
  reading_posts ctx q (App f u) = bind_posts (λ _. ⊤) (λ K L x n g. tt) (λ p _. then_posts (formed_found (put p.1 (Nil ▸ u)) false))
  reading_posts ctx q (Lam a m) = then_posts (bind_posts (λ _. ⊤) (λ K L x n g. tt) (λ r _. formed_found (Pi a r.type) true))
  reading_posts ctx q (Pi a b) =
      then_posts (bind_posts (λ s. IsSmall (One s)) (faults_posts _ _ (λ s. IsSmall (One s)) (sort_of_posts (ctx ▸ a) _ b)) (λ s h. gives_posts IsSmallType (found s (is_star s)) h))
  reading_posts ctx q (Const k us) = instance_posts ctx (slice_get env k) us

read_posts : (left : ℕ) (env : Env) (ctx : Trees) (q : Asked) (t : Tree) → Posts (read_within left env ctx q t) IsSmallType
read_posts zero env ctx q t = nested_posts IsSmallType
read_posts (suc left) env ctx q t = reading_posts env (compare_within left env) (read_within left env) (read_posts left env) ctx q t

pub types_small : (env : Env) (ctx : Trees) (m : ℕ) (q : Asked) (t : Tree) → Posts (Types env ctx m q t) (λ r. IsSmall (One r.type))
types_small env ctx m q t = read_posts (1001 - m) env ctx q t
