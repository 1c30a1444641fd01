-- What a check answers, with the known pairs before and after it and the number of steps that it makes.
use Rattle.std.specs.Prelude.{◌≡◌, ℕ, ◌+◌, List}
use Rattle.ld_terms.specs.Tree.{Tree}
use Rattle.ld_terms.specs.Item.{One, IsSmall}

-- pairs of trees that were found the same, each behind those found before
abbrev pub Pairs : Type 0
Pairs = List (Tree × Tree)

-- An answer is a value or a fault; or a tree wasn't small, or the nesting was passed.
pub data Answer (E X : Type 0) : Type 0 where
  Gives : X → Answer E X
  Fails : E → Answer E X
  High : Answer E X
  Nested : Answer E X

-- From the known pairs a task answers, leaves known pairs, and makes a number of steps.
abbrev pub Task : Type 0 → Type 0 → Type 1
Task E X = Pairs → Answer E X → Pairs → ℕ → Type 0

-- At once it gives a value, has a fault, or answers that the nesting is passed.
abbrev pub gives : {E X : Type 0} → X → Task E X
gives x K r K' n = (r ≡ Gives x) × (K' ≡ K) × (n ≡ 0)

abbrev pub fails : {E X : Type 0} → E → Task E X
fails e K r K' n = (r ≡ Fails e) × (K' ≡ K) × (n ≡ 0)

abbrev pub nested : {E X : Type 0} → Task E X
nested K r K' n = (r ≡ Nested) × (K' ≡ K) × (n ≡ 0)

-- no answer, for what isn't there
abbrev pub no_answer : {E X : Type 0} → Task E X
no_answer K r K' n = ⊥

-- one step
abbrev pub step : {E : Type 0} → Task E (Unit {0})
step K r K' n = (r ≡ Gives tt) × (K' ≡ K) × (n ≡ 1)

-- a tree that is formed must be small
pub data formed {E : Type 0} (t : Tree) (K : Pairs) (r : Answer E Tree) (K' : Pairs) (n : ℕ) : Type 0 where
  small : IsSmall (One t) → r ≡ Gives t → K' ≡ K → n ≡ 0 → formed t K r K' n
  high : ¬ IsSmall (One t) → r ≡ High → K' ≡ K → n ≡ 0 → formed t K r K' n

-- an answer that gives no value ends what it is a part of
pub data Ends {E X Y : Type 0} : Answer E X → Answer E Y → Type 0 where
  fault : {e : E} → Ends (Fails e) (Fails e)
  high : Ends High High
  nesting : Ends Nested Nested

-- a task and then, with the value that it gives, another
pub data ◌>>=◌ {E X Y : Type 0} (p : Task E X) (f : X → Task E Y) (K : Pairs) (r : Answer E Y) (K' : Pairs) (n : ℕ) : Type 0 where
  goes_on : (x : X) (between : Pairs) (i j : ℕ) → p K (Gives x) between i → f x between r K' j → n ≡ i + j → ◌>>=◌ p f K r K' n
  ends : (stop : Answer E X) → p K stop K' n → Ends stop r → ◌>>=◌ p f K r K' n

infixl 10 ◌>>=◌
infixl 10 ◌>>◌
abbrev pub ◌>>◌ : {E X Y : Type 0} → Task E X → Task E Y → Task E Y
◌>>◌ p q = p >>= (λ _. q)

-- the answer with its fault told anew
abbrev pub with_fault : {E F X : Type 0} → (E → F) → Answer E X → Answer F X
with_fault f (Gives x) = Gives x
with_fault f (Fails e) = Fails (f e)
with_fault f High = High
with_fault f Nested = Nested

abbrev pub faults_by : {E F X : Type 0} → (E → F) → Task E X → Task F X
faults_by {E} {F} {X} f p K r K' n = (s : Answer E X) × p K s K' n × (r ≡ with_fault f s)

-- the answer of a task, which has no other
pub record Answers {E X : Type 0} (p : Task E X) (K : Pairs) (r : Answer E X) (K' : Pairs) (n : ℕ) : Type 0 where
  pub is : p K r K' n
  pub only : (s : Answer E X) (L : Pairs) (m : ℕ) → p K s L m → (s ≡ r) × (L ≡ K') × (m ≡ n)
