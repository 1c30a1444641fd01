-- What a turn of a comparison works on, and what it comes to.
use Rattle.std.specs.Prelude.{◌≡◌, ◌≤◌, ◌<◌, ◌+◌, ◌||◌, ℕ, ⊤, Bool, true, false, List, length, Option, Some, None, Result, Ok, Err}
use Rattle.ld_terms.specs.Tree.{Tree}
use Rattle.ld_terms.specs.Entry.{Env}
use Rattle.ld_terms.specs.Tests.{equals}
use Rattle.ld_terms.specs.Item.{Item}
use Rattle.ld_terms.specs.Bank.{tree_at, IsTermAt}
use Rattle.ld_terms.specs.Known.{Known}
use Rattle.ld_terms.specs.Named.{IsNamed}
use Rattle.ld_terms.specs.declared.bank.TermId.{TermId}
use Rattle.ld_env.specs.Named.{Named}
use Rattle.ld_env.specs.Entries.{env_of, AreLive}
use Rattle.ld_record.specs.declared.record.Kept.{Kept}
use Rattle.ld_record.specs.Kept.{known_of, IsSound}
use Rattle.ld_reduce.specs.Task.{Pairs, Answer, Gives, Fails, Task, gives, fails}
use Rattle.ld_reduce.specs.Work.{Work}
use Rattle.ld_reduce.specs.Cost.{Equates}
use Rattle.ld_reduce.specs.declared.stop.Stop.{Stop}
use Rattle.ld_convert.specs.Apart as spec
use Rattle.ld_convert.specs.Apart.{Apart, apart}
use Rattle.ld_convert.specs.Compares.{all_same, turn}
use Rattle.ld_convert.specs.Known.{is_known}
use Rattle.ld_convert.specs.Pairs.{ArePairsLive}
use Rattle.ld_convert.specs.Walks.{AreSame}
use Rattle.ld_convert.specs.Account.{Comes, StopsTask}
use Rattle.ld_convert.specs.declared.known.Pair.{Pair}
use Rattle.ld_convert.specs.declared.parts.Part.{Part}
use Rattle.ld_convert.specs.declared.job.Compared.{Compared}
use Rattle.ld_convert.specs.declared.job.Compared.TheVariants as compared
use Rattle.ld_convert.specs.declared.turning.Led.{Led}
use Rattle.ld_convert.specs.declared.turning.Turned.{Turned}
use Rattle.ld_convert.specs.declared.turning.Turned.TheVariants as turned
use Rattle.ld_convert.specs.declared.turning.Walked.{Walked}
use Rattle.ld_convert.specs.declared.turning.Walked.TheVariants as walked

-- a derivation of the entries that are there, and known pairs with equalities that it keeps
pub record IsReady (items : List Item) (kept : List Kept) (entries : List Named) (ps : List Pair) : Type 0 where
  pub sound : IsSound items kept
  pub env : env_of items entries ≡ (known_of items kept).env
  pub live : AreLive items entries
  pub pairs : ArePairsLive items (known_of items kept) (length (known_of items kept).env) ps

-- two terms that name only what is there
pub record AreComparable (items : List Item) (known : Known) (a b : TermId) : Type 0 where
  pub first : IsTermAt items a
  pub second : IsTermAt items b
  pub first_named : IsNamed known.env (tree_at items a)
  pub second_named : IsNamed known.env (tree_at items b)

pub record IsComparablePart (items : List Item) (known : Known) (p : Part) : Type 0 where
  pub terms : AreComparable items known p.left p.right
  pub under : p.under ≤ 1

-- equalities of two trees with the two terms to which they lead
pub record IsLed (items : List Item) (known : Known) (a b : Tree) (bound : ℕ) (l : Led) : Type 0 where
  pub left : IsTermAt items l.left
  pub right : IsTermAt items l.right
  pub first : Equates known l.first a (tree_at items l.left) bound
  pub second : Equates known l.second b (tree_at items l.right) bound

-- what a turn answers: nothing is left to be compared, two trees are apart, or there is a new pair
abbrev pub answer_of : List Item → Turned → Answer Apart (Option (Tree × Tree))
answer_of items (turned.Done (compared.Same e)) = Gives None
answer_of items (turned.Done (compared.Apart l r under)) = Fails (apart (tree_at items l) (tree_at items r) under)
answer_of items (turned.Next l) = Gives (Some (tree_at items l.left, tree_at items l.right))

-- with the equalities of two trees that it has
abbrev pub IsTurned : List Item → Known → (a b : Tree) → (bound : ℕ) → Turned → Type 0
IsTurned items known a b bound (turned.Done (compared.Same e)) = Equates known e a b bound
IsTurned items known a b bound (turned.Done (compared.Apart l r under)) = IsTermAt items l × IsTermAt items r
IsTurned items known a b bound (turned.Next l) = IsLed items known a b bound l

abbrev pub TurnedAs : Task Apart (Option (Tree × Tree)) → (a b : Tree) (bound : ℕ) → List Item → Known → (K K' : Pairs) → (old new : Work) → Result Turned Stop → Type 0
TurnedAs p a b bound items known K K' old new (Ok t) = Comes p K (answer_of items t) K' old new × IsTurned items known a b bound t
TurnedAs p a b bound items known K K' old new (Err s) = StopsTask p K K' old new s

-- one turn more, unless the two are the same at once: then nothing is left to be compared
abbrev pub unless : (at_once : Bool) → Task Apart (Option (Tree × Tree)) → Task Apart (Option (Tree × Tree))
unless true p = gives None
unless false p = p

abbrev pub next_turn : Env → (compare : Tree → Tree → Task Apart (Unit {0})) → (a b : Tree) → Task Apart (Option (Tree × Tree))
next_turn env compare a b K = unless (equals a b || is_known K a b) (turn env compare a b) K

-- a new pair comes by a step at least
abbrev pub AreSpentLess : (old new : Work) → Turned → Type 0
AreSpentLess old new (turned.Done c) = ⊤
AreSpentLess old new (turned.Next l) = new.left < old.left

-- Binders are passed only where the nesting grows, which ends at 1,001.
abbrev pub IsShallow : ℕ → Compared → Type 0
IsShallow nest (compared.Same e) = ⊤
IsShallow nest (compared.Apart l r under) = under + nest ≤ 1001

abbrev pub IsShallowTurn : ℕ → Turned → Type 0
IsShallowTurn nest (turned.Done c) = IsShallow nest c
IsShallowTurn nest (turned.Next l) = ⊤

abbrev pub IsShallowWalk : ℕ → Walked → Type 0
IsShallowWalk nest (walked.Same es) = ⊤
IsShallowWalk nest (walked.Apart l r under) = under + nest ≤ 1001

-- the parts of two trees, where there are parts; else the trees are apart
abbrev pub same_parts : Env → (compare : Tree → Tree → Task Apart (Unit {0})) → Option (List spec.Part) → (a b : Tree) → Task Apart (Unit {0})
same_parts env compare None a b = fails (apart a b 0)
same_parts env compare (Some ps) a b = all_same env compare ps

-- what the comparison of parts answers: an equality for each, or two terms that are apart
abbrev pub WalkedAs : Task Apart (Unit {0}) → List spec.Part → (bound : ℕ) → List Item → Known → (K K' : Pairs) → (old new : Work) → Result Walked Stop → Type 0
WalkedAs p ps bound items known K K' old new (Ok (walked.Same es)) = Comes p K (Gives tt) K' old new × AreSame known bound es.items ps
WalkedAs p ps bound items known K K' old new (Ok (walked.Apart l r under)) =
    Comes p K (Fails (apart (tree_at items l) (tree_at items r) under)) K' old new × IsTermAt items l × IsTermAt items r
WalkedAs p ps bound items known K K' old new (Err s) = StopsTask p K K' old new s
