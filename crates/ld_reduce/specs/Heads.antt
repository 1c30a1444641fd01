-- Steps at the head of a tree, and the forms that they end in. The head is found by going through applications to the
-- function part; the arguments that are passed are its spine.
use Rattle.std.specs.Prelude.{◌≡◌, ℕ, suc, Bool, true, ◌==◌, Option, Some, None, slice_get}
use Rattle.ld_terms.specs.Tree.{Tree, App, Lam, Const, Trees, Nil, ◌▸◌, count}
use Rattle.ld_terms.specs.Put.{put}
use Rattle.ld_terms.specs.Item.{One, IsSmall}
use Rattle.ld_terms.specs.Entry.{Entry, Body, Defined, Env}
use Rattle.ld_reduce.specs.Task.{Answer, Gives, High, Task}

abbrev pub applied : Tree → Option Tree → Option Tree
applied u None = None
applied u (Some f) = Some (App f u)

-- what a tree is after the beta step at its head, where one can be made
abbrev pub beta_step : Tree → Option Tree
beta_step (App (Lam a m) u) = Some (put m (Nil ▸ u))
beta_step (App f u) = applied u (beta_step f)
beta_step _ = None

-- what an instance of an entry unfolds to, where the entry has a body, and as many parameters as the instance has arguments
abbrev pub with_arguments : (as_many : Bool) → Body → Trees → Option Tree
with_arguments true (Defined body) us = Some (put body us)
with_arguments _ _ us = None

abbrev pub unfolding_of : Option Entry → Trees → Option Tree
unfolding_of None us = None
unfolding_of (Some e) us = with_arguments (count us == count e.params) e.body us

-- what a tree is after its head, a defined constant, is unfolded
abbrev pub delta_step : Env → Tree → Option Tree
delta_step env (Const k us) = unfolding_of (slice_get env k) us
delta_step env (App f u) = applied u (delta_step env f)
delta_step env _ = None

-- the beta step at the head, and where none can be made the unfolding
abbrev pub first_of : Option Tree → Option Tree → Option Tree
first_of None o = o
first_of (Some u) o = Some u

abbrev pub head_step : Env → Tree → Option Tree
head_step env t = first_of (beta_step t) (delta_step env t)

-- the number of the head, where it is a defined constant
abbrev pub if_some : ℕ → Option Tree → Option ℕ
if_some k None = None
if_some k (Some t) = Some k

abbrev pub head_number : Env → Tree → Option ℕ
head_number env (Const k us) = if_some k (unfolding_of (slice_get env k) us)
head_number env (App f u) = head_number env f
head_number env _ = None

-- where a way of steps comes to: a tree, or one that isn't small
pub data Reached : Type 0 where
  At : Tree → Reached
  TooHigh : Reached

-- a way from a tree comes to this, by so many steps
abbrev pub Way : Type 1
Way = Reached → ℕ → Type 0

-- Steps one after another, until none can be made; every tree that they give must be small. The one that isn't counts.
pub data Runs (next : Tree → Option Tree) : Tree → Reached → ℕ → Type 0 where
  over : {t : Tree} → next t ≡ None → Runs next t (At t) 0
  more : {t : Tree} {r : Reached} {n : ℕ} (u : Tree) → next t ≡ Some u → IsSmall (One u) → Runs next u r n → Runs next t r (suc n)
  too_high : {t : Tree} (u : Tree) → next t ≡ Some u → ¬ IsSmall (One u) → Runs next t TooHigh 1

-- beta steps at the head, up to the beta-head form: the head is no abstraction, or the spine is empty
abbrev pub BetaHead : Tree → Way
BetaHead t r n = Runs beta_step t r n

-- beta steps at the head and unfoldings of the head, up to a rigid tree
abbrev pub Expose : Env → Tree → Way
Expose env t r n = Runs (head_step env) t r n

-- the head, a defined constant, unfolded
pub data Unfold (env : Env) : Tree → Reached → ℕ → Type 0 where
  unfolded : {t u : Tree} → delta_step env t ≡ Some u → IsSmall (One u) → Unfold env t (At u) 1
  too_high : {t : Tree} (u : Tree) → delta_step env t ≡ Some u → ¬ IsSmall (One u) → Unfold env t TooHigh 1

-- the same as a task
abbrev pub answer : {E : Type 0} → Reached → Answer E Tree
answer (At t) = Gives t
answer TooHigh = High

abbrev pub reaches : {E : Type 0} → Way → Task E Tree
reaches way K r K' n = (h : Reached) × way h n × (r ≡ answer h) × (K' ≡ K)
