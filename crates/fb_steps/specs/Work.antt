-- The work that makes items: readings with a budget in common, and the items between them.
use Rattle.std.specs.Prelude.{◌≡◌, ℕ, suc, ◌+◌, ◌-◌, ◌<◌, ◌≤◌, List, [], ◌∷◌, ◌++◌}
use Rattle.ld_terms.specs.Tree.{Tree}
use Rattle.ld_reduce.specs.Task as task
use Rattle.ld_reduce.specs.Task.{Pairs, Answer, Task}
use Rattle.ld_infer.specs.Reading.{Refusal}
use Rattle.fb_steps.specs.Items.{Item, Flag, Line, LineBody}

-- how the work ends: with a value, or at a reading that isn't right at a cost up to what is left
pub data Ending (X : Type 0) : Type 0 where
  Done : X → Ending X
  Spent : Ending X
  High : Ending X
  Nested : Ending X
  Refused : Refusal → Ending X

-- From the known pairs, the steps left and the number of lines before, work ends, with items; it leaves known pairs, has made
-- steps, and there are lines now.
abbrev pub Work : Type 0 → Type 1
Work X = Pairs → (left lines : ℕ) → Ending X → List Item → Pairs → (steps lines_now : ℕ) → Type 0

-- at once, with no item
abbrev pub done : {X : Type 0} → X → Work X
done x K left j r items L n i = (r ≡ Done x) × (items ≡ []) × (L ≡ K) × (n ≡ 0) × (i ≡ j)

abbrev pub flag : (depth : ℕ) → Tree → Work (Unit {0})
flag depth a K left j r items L n i = (r ≡ Done tt) × (items ≡ Flag depth a ∷ []) × (L ≡ K) × (n ≡ 0) × (i ≡ j)

-- the next line, which gives its number
abbrev pub line : (depth : ℕ) → LineBody → (type part : Tree) → Work ℕ
line depth body type part K left j r items L n i = (r ≡ Done (suc j)) × (items ≡ Line depth (suc j) body type part ∷ []) × (L ≡ K) × (n ≡ 0) × (i ≡ suc j)

-- a stop ends what it is a part of
pub data Ends {X Y : Type 0} : Ending X → Ending Y → Type 0 where
  spent : Ends Spent Spent
  high : Ends High High
  nesting : Ends Nested Nested
  refused : {f : Refusal} → Ends (Refused f) (Refused f)

infixl 10 ◌>>=◌
infixl 10 ◌>>◌
-- work and then, with its value, more work on what is left
pub data ◌>>=◌ {X Y : Type 0} (p : Work X) (f : X → Work Y) (K : Pairs) (left j : ℕ) (r : Ending Y) (items : List Item) (L : Pairs) (n i : ℕ) : Type 0 where
  goes_on : (x : X) (between : Pairs) (first second : List Item) (n1 n2 j1 : ℕ) →
      p K left j (Done x) first between n1 j1 → f x between (left - n1) j1 r second L n2 i → items ≡ first ++ second → n ≡ n1 + n2 → ◌>>=◌ p f K left j r items L n i
  ends : (stop : Ending X) → p K left j stop items L n i → Ends stop r → ◌>>=◌ p f K left j r items L n i

abbrev pub ◌>>◌ : {X Y : Type 0} → Work X → Work Y → Work Y
◌>>◌ p q = p >>= (λ _. q)

-- how a reading with an answer ends
abbrev pub ending : {X : Type 0} → Answer Refusal X → Ending X
ending (task.Gives x) = Done x
ending (task.Fails f) = Refused f
ending task.High = High
ending task.Nested = Nested

-- a reading: its answer at a cost up to what is left; where it has none, the steps are spent
pub data reads {X : Type 0} (p : Task Refusal X) (K : Pairs) (left j : ℕ) (r : Ending X) (items : List Item) (L : Pairs) (n i : ℕ) : Type 0 where
  answered : (a : Answer Refusal X) → p K a L n → n ≤ left → r ≡ ending a → items ≡ [] → i ≡ j → reads p K left j r items L n i
  none : ((a : Answer Refusal X) (M : Pairs) (cost : ℕ) → p K a M cost → left < cost) → r ≡ Spent → items ≡ [] → L ≡ K → n ≡ left → i ≡ j → reads p K left j r items L n i
