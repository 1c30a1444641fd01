-- The pairs that are known to be the same, and tasks that go on after a fault.
use Rattle.std.specs.Prelude.{◌≡◌, ℕ, ◌+◌, Bool, true, false, ◌&&◌, ◌||◌, [], ◌∷◌, ◌++◌}
use Rattle.ld_terms.specs.Tree.{Tree}
use Rattle.ld_terms.specs.Tests.{equals}
use Rattle.ld_reduce.specs.Task.{Pairs, Answer, Gives, Fails, High, Nested, Task}

abbrev pub is_known : Pairs → Tree → Tree → Bool
is_known [] a b = false
is_known (p ∷ ps) a b = (equals p.0 a && equals p.1 b) || is_known ps a b

-- the known pairs with one more, unless it is there
abbrev pub with_pair : (known : Bool) → Pairs → Tree → Tree → Pairs
with_pair true K a b = K
with_pair false K a b = K ++ (a, b) ∷ []

-- A task and, where it has a fault, another.
pub data or_else {E F X : Type 0} (p : Task E X) (q : Task F X) (K : Pairs) (r : Answer F X) (K' : Pairs) (n : ℕ) : Type 0 where
  first : (x : X) → p K (Gives x) K' n → r ≡ Gives x → or_else p q K r K' n
  high : p K High K' n → r ≡ High → or_else p q K r K' n
  nesting : p K Nested K' n → r ≡ Nested → or_else p q K r K' n
  second : (e : E) (between : Pairs) (i j : ℕ) → p K (Fails e) between i → q between r K' j → n ≡ i + j → or_else p q K r K' n
