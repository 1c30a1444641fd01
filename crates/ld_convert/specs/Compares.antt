-- The plain comparison of two trees.
use Rattle.std.specs.Prelude.{◌≡◌, ℕ, zero, suc, ◌+◌, ◌-◌, Bool, true, false, ◌||◌, ◌==◌, nat_lt, if◌then◌else◌, List, [], ◌∷◌, Option, Some, None}
use Rattle.ld_terms.specs.Tree.{Tree}
use Rattle.ld_terms.specs.Entry.{Env}
use Rattle.ld_terms.specs.Tests.{equals}
use Rattle.ld_reduce.specs.Task.{Pairs, Answer, Gives, Task, gives, fails, nested, Ends, ◌>>=◌, ◌>>◌, faults_by}
use Rattle.ld_reduce.specs.Heads.{head_number, BetaHead, Unfold, reaches}
use Rattle.ld_convert.specs.Apart.{Apart, apart, below, Part, parts_of}
use Rattle.ld_convert.specs.Known.{is_known, with_pair, or_else}

pub data Side : Type 0 where
  Left : Side
  Right : Side

-- The sides to be unfolded: both where their heads are one defined constant, else the one whose constant was defined later.
abbrev pub sides_of : Option ℕ → Option ℕ → List Side
sides_of None None = []
sides_of (Some k) None = Left ∷ []
sides_of None (Some l) = Right ∷ []
sides_of (Some k) (Some l) = if k == l then Left ∷ Right ∷ [] else if nat_lt k l then Right ∷ [] else Left ∷ []

abbrev pub sides : Env → Tree → Tree → List Side
sides env a b = sides_of (head_number env a) (head_number env b)

abbrev pub unfolded : Env → List Side → Tree → Tree → Task Apart (Tree × Tree)
unfolded env [] a b = gives (a, b)
unfolded env (Left ∷ ss) a b = reaches (Unfold env a) >>= λ u. unfolded env ss u b
unfolded env (Right ∷ ss) a b = reaches (Unfold env b) >>= λ v. unfolded env ss a v

-- Below, compare is the comparison of parts.
module _ (env : Env) (compare : Tree → Tree → Task Apart (Unit {0})) where
  -- the parts one after another, until two are apart
  abbrev pub all_same : List Part → Task Apart (Unit {0})
  all_same [] = gives tt
  all_same (p ∷ ps) = faults_by (below p.under) (compare p.left p.right) >> all_same ps

  -- nothing is left to be compared where all parts are the same
  abbrev pub by_parts : List Part → Task Apart (Option (Tree × Tree))
  by_parts ps = all_same ps >> gives None

  -- a new pair is left to be compared
  abbrev pub by_unfolding : List Side → Tree → Tree → Task Apart (Option (Tree × Tree))
  by_unfolding ss a b = unfolded env ss a b >>= λ pair. gives (Some pair)

  -- what is left to be compared of two trees in beta-head form: nothing where they are the same, or a new pair
  abbrev pub by_heads : (equal : Bool) → List Side → Option (List Part) → Tree → Tree → Task Apart (Option (Tree × Tree))
  by_heads true ss ps a b = gives None
  by_heads false [] None a b = fails (apart a b 0)
  by_heads false [] (Some ps) a b = by_parts ps
  by_heads false (s ∷ ss) None a b = by_unfolding (s ∷ ss) a b
  by_heads false (s ∷ ss) (Some ps) a b = or_else (by_parts ps) (by_unfolding (s ∷ ss) a b)

  -- one turn: both in beta-head form, and then by their heads
  abbrev pub heads_turn : Tree → Tree → Task Apart (Option (Tree × Tree))
  heads_turn a b = by_heads (equals a b) (sides env a b) (parts_of a b) a b

  abbrev pub turn : Tree → Tree → Task Apart (Option (Tree × Tree))
  turn a b = reaches (BetaHead a) >>= λ u. reaches (BetaHead b) >>= λ v. heads_turn u v

  -- turns, until the trees are equal or a known pair, or there is nothing left to be compared
  pub data Turns : Tree → Tree → Pairs → Answer Apart (Unit {0}) → Pairs → ℕ → Type 0 where
    same : {a b : Tree} {K : Pairs} → (equals a b || is_known K a b) ≡ true → Turns a b K (Gives tt) K 0
    last : {a b : Tree} {K K' : Pairs} {n : ℕ} → (equals a b || is_known K a b) ≡ false → turn a b K (Gives None) K' n → Turns a b K (Gives tt) K' n
    stop : {a b : Tree} {K K' : Pairs} {r : Answer Apart (Unit {0})} {n : ℕ} (s : Answer Apart (Option (Tree × Tree))) →
        (equals a b || is_known K a b) ≡ false → turn a b K s K' n → Ends s r → Turns a b K r K' n
    again : {a b : Tree} {K K' : Pairs} {r : Answer Apart (Unit {0})} {n : ℕ} (pair : Tree × Tree) (between : Pairs) (i j : ℕ) →
        (equals a b || is_known K a b) ≡ false → turn a b K (Gives (Some pair)) between i → Turns pair.0 pair.1 between r K' j → n ≡ i + j → Turns a b K r K' n

-- a pair that was found the same, but not at once, is known from then on
abbrev pub remember : (at_once : Bool) → Answer Apart (Unit {0}) → Tree → Tree → Pairs → Pairs
remember false (Gives x) a b K = with_pair (is_known K a b) K a b
remember _ _ a b K = K

-- one comparison, where compare is that of its parts
pub record comparison (env : Env) (compare : Tree → Tree → Task Apart (Unit {0})) (a b : Tree) (K : Pairs) (r : Answer Apart (Unit {0})) (K' : Pairs) (n : ℕ) : Type 0 where
  pub found : Pairs
  pub turns : Turns env compare a b K r found n
  pub remembers : K' ≡ remember (equals a b || is_known K a b) r a b found

-- the comparison where so many nestings are left
abbrev pub compare_within : (left : ℕ) → Env → Tree → Tree → Task Apart (Unit {0})
compare_within zero env a b = nested
compare_within (suc left) env a b = comparison env (compare_within left env) a b

-- The comparison of two trees at nesting m. It gives that they are the same, or has the two at which it ended.
abbrev pub Compares : Env → (m : ℕ) → Tree → Tree → Task Apart (Unit {0})
Compares env m a b = compare_within (1001 - m) env a b
