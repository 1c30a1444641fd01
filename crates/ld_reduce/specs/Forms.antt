-- Head forms within a room for height, and the equality that is kept of a term and its form.
use Rattle.std.specs.Prelude.{◌≡◌, ◌≤◌, ◌+◌, ℕ, suc, ⊤, List, length, Option, None, Some, Result, Ok, Err}
use Rattle.ld_terms.specs.Tree.{Tree, App, Nil, ◌▸◌}
use Rattle.ld_terms.specs.Put.{put}
use Rattle.ld_terms.specs.Entry.{Env}
use Rattle.ld_terms.specs.Item.{Item, height, greatest_index}
use Rattle.ld_terms.specs.Bank.{tree_at, list_at, IsTermAt, IsListAt}
use Rattle.ld_terms.specs.Known.{Known}
use Rattle.ld_terms.specs.declared.bank.TermId.{TermId}
use Rattle.ld_env.specs.Named.{Named}
use Rattle.ld_env.specs.Entries.{env_of, AreLive}
use Rattle.ld_record.specs.declared.record.EqId.{EqId}
use Rattle.ld_reduce.specs.Heads.{beta_step, head_step}
use Rattle.ld_reduce.specs.Work.{Work, Takes}
use Rattle.ld_reduce.specs.Steps.{IsRedex, IsInstance, Joins, bound_so_far}
use Rattle.ld_reduce.specs.declared.stop.Stop.{Stop}
use Rattle.ld_reduce.specs.declared.stop.Stop.TheVariants as stop
use Rattle.ld_reduce.specs.declared.top.Redex.{Redex}
use Rattle.ld_reduce.specs.declared.top.Redex.TheVariants as redex

-- where heads are unfolded: the entries stand on terms that are there
abbrev pub AreAllLive : List Item → Option (List Named) → Type 0
AreAllLive items None = ⊤
AreAllLive items (Some named) = AreLive items named

-- they are those of the environment
abbrev pub HasEntries : List Item → Env → Option (List Named) → Type 0
HasEntries items env None = ⊤
HasEntries items env (Some named) = (env_of items named ≡ env) × AreLive items named

-- the step at the head, with unfoldings or without, and below which entries it unfolds
abbrev pub next_of : Option (List Named) → Env → Tree → Option Tree
next_of None env = beta_step
next_of (Some named) env = head_step env

abbrev pub bound_of : Option (List Named) → Env → ℕ
bound_of None env = 0
bound_of (Some named) env = length env

pub record Fits (room : ℕ) (t : Tree) : Type 0 where
  pub height : height t ≤ room
  pub index : greatest_index t ≤ 65535

-- so many steps lead from a tree to another, each to one that fits
pub data Walks (next : Tree → Option Tree) (room : ℕ) (t : Tree) : Tree → ℕ → Type 0 where
  none : Walks next room t t 0
  further : {u v : Tree} {n : ℕ} → Walks next room t u n → next u ≡ Some v → Fits room v → Walks next room t v (suc n)

-- no step can be made, or none in the function part
abbrev pub IsDone : (Tree → Option Tree) → Tree → Type 0
IsDone next t = next t ≡ None

pub record IsPartDone (next : Tree → Option Tree) (t : Tree) : Type 0 where
  pub none : (f u : Tree) → t ≡ App f u → next f ≡ None

-- steps were made that lead from the tree to the number's, and an equality is kept of the two
pub record Leads (next : Tree → Option Tree) (room bound : ℕ) (from : Tree) (items : List Item) (known : Known) (old new : Work) (to : TermId) (equal : Option EqId) : Type 0 where
  pub steps : ℕ
  pub walks : Walks next room from (tree_at items to) steps
  pub takes : Takes old new steps
  pub term : IsTermAt items to
  pub fits : Fits room (tree_at items to)
  pub joins : Joins known equal from (tree_at items to) (bound_so_far known equal)
  pub most : bound_so_far known equal ≤ bound

-- a step is wanted where none is left
pub record Wants (next : Tree → Option Tree) (room : ℕ) (from : Tree) (old new : Work) : Type 0 where
  pub steps : ℕ
  pub between : Tree
  pub to : Tree
  pub walks : Walks next room from between steps
  pub is : next between ≡ Some to
  pub takes : Takes old new steps
  pub left : new.left ≡ 0

-- a step leads to a tree that doesn't fit
pub record Passes (next : Tree → Option Tree) (room : ℕ) (from : Tree) (old new : Work) : Type 0 where
  pub steps : ℕ
  pub between : Tree
  pub to : Tree
  pub walks : Walks next room from between steps
  pub is : next between ≡ Some to
  pub high : ¬ Fits room to
  pub takes : Takes old new (suc steps)

abbrev pub StopsIn : (Tree → Option Tree) → (room : ℕ) → Tree → Stop → (old new : Work) → Type 0
StopsIn next room from stop.Spent old new = Wants next room from old new
StopsIn next room from stop.High old new = Passes next room from old new
StopsIn next room from stop.Nested old new = ⊥
StopsIn next room from stop.Memory old new = ⊤

-- what a call answers that goes from a tree to one where it is done
abbrev pub LeadsTo : ((Tree → Option Tree) → Tree → Type 0) → (Tree → Option Tree) → (room bound : ℕ) → Tree → List Item → Known → (old new : Work) → Result (TermId × Option EqId) Stop → Type 0
LeadsTo Done next room bound from items known old new (Ok p) = Leads next room bound from items known old new p.0 p.1 × Done next (tree_at items p.0)
LeadsTo Done next room bound from items known old new (Err s) = StopsIn next room from s old new

-- what a redex becomes, and below which entries it unfolds
abbrev pub outcome : List Item → Redex → Tree
outcome items (redex.Beta m u) = put (tree_at items m) (Nil ▸ tree_at items u)
outcome items (redex.Delta body us) = put (tree_at items body) (list_at items us)

abbrev pub redex_bound : Env → Redex → ℕ
redex_bound env (redex.Beta m u) = 0
redex_bound env (redex.Delta body us) = length env

-- the tree is this redex
abbrev pub IsRedexOf : List Item → Env → Tree → Redex → Type 0
IsRedexOf items env t (redex.Beta m u) = IsTermAt items m × IsTermAt items u × IsRedex t (tree_at items m) (tree_at items u)
IsRedexOf items env t (redex.Delta body us) = IsTermAt items body × IsListAt items us × IsInstance env t (list_at items us) (tree_at items body)

-- the redex that a tree is, or none
pub record IsStep (next : Tree → Option Tree) (bound : ℕ) (items : List Item) (env : Env) (t : Tree) (r : Redex) : Type 0 where
  pub redex : IsRedexOf items env t r
  pub is : next t ≡ Some (outcome items r)
  pub most : redex_bound env r ≤ bound

abbrev pub IsTop : (Tree → Option Tree) → (bound : ℕ) → List Item → Env → Tree → Option Redex → Type 0
IsTop next bound items env t None = next t ≡ None
IsTop next bound items env t (Some r) = IsStep next bound items env t r

-- the same over every environment of the entries, where the function part has no step
abbrev pub IsTopOver : List Item → Option (List Named) → Tree → Option Redex → Type 0
IsTopOver items o t r = (env : Env) → HasEntries items env o → IsPartDone (next_of o env) t → IsTop (next_of o env) (bound_of o env) items env t r

-- what a call answers that makes the step of the tree itself, if it has one
pub record LeadsOn (next : Tree → Option Tree) (room bound : ℕ) (from : Tree) (items : List Item) (known : Known) (old new : Work) (to : TermId) (equal : EqId) : Type 0 where
  pub leads : Leads next room bound from items known old new to (Some equal)
  pub less : new.left + 1 ≤ old.left

abbrev pub LeadsTop : (Tree → Option Tree) → (room bound : ℕ) → Tree → List Item → Known → (old new : Work) → Result (Option (TermId × EqId)) Stop → Type 0
LeadsTop next room bound from items known old new (Ok None) = (next from ≡ None) × (new ≡ old)
LeadsTop next room bound from items known old new (Ok (Some p)) = LeadsOn next room bound from items known old new p.0 p.1
LeadsTop next room bound from items known old new (Err s) = StopsIn next room from s old new
