-- The items of a term are fixed, and so is what they spell.
use Rattle.std.specs.Prelude.{◌≡◌, ℕ, List}
use Rattle.ld_terms.specs.Tree.{Tree, Trees}
use Rattle.ld_terms.specs.Entry.{Entry, Env}
use Rattle.ld_reduce.specs.Task.{Pairs}
use Rattle.fb_steps.specs.Items.{Item}
use Rattle.fb_steps.specs.Work.{Ending, Work}
use Rattle.fb_steps.specs.Steps.{steps_of, entry_steps}
use Rattle.fb_steps.specs.Places.{Place}
use Rattle.fb_steps.specs.Spells.{Spells}

-- two ends of work are the same, with the items, the known pairs, the steps and the number of lines
pub record Agree {X : Type 0} (r s : Ending X) (is js : List Item) (L M : Pairs) (n m i j : ℕ) : Type 0 where
  pub ending : r ≡ s
  pub items : is ≡ js
  pub known : L ≡ M
  pub steps : n ≡ m
  pub lines : i ≡ j

abbrev pub EndsOnce : {X : Type 0} → Work X → Type 0
EndsOnce {X} w = (K L M : Pairs) (left lines : ℕ) (r s : Ending X) (is js : List Item) (n m i j : ℕ) → w K left lines r is L n i → w K left lines s js M m j → Agree r s is js L M n m i j

pub record StepsOnce : Type 0 where
  pub of_term : (Δ : Env) (Γ : Trees) (t type : Tree) → EndsOnce (steps_of Δ Γ t type)
  pub of_entry : (Δ : Env) (k : ℕ) (e : Entry) → EndsOnce (entry_steps Δ k e)

abbrev pub SpellsOnce : Type 0
SpellsOnce = (first : ℕ) (name : ℕ → List ℕ) (p q r : Place) (items : List Item) → Spells first name p items q → Spells first name p items r → q ≡ r
