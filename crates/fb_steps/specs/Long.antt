-- The text of items is too long: whatever work ends with, it has items that take more than what may be said.
use Rattle.std.specs.Prelude.{◌<◌, ◌+◌, ℕ, List, [], ◌∷◌}
use Rattle.ld_reduce.specs.Task.{Pairs}
use Rattle.fb_steps.specs.Items.{Item}
use Rattle.fb_steps.specs.Work.{Ending, Work}

-- how long the text of items is, by the length of the text of one
abbrev pub length_by : (Item → ℕ) → List Item → ℕ
length_by size [] = 0
length_by size (i ∷ is) = size i + length_by size is

-- From the known pairs, the steps left and the number of lines before, each end has more than so much.
abbrev pub IsTooLong : {X : Type 0} → (Item → ℕ) → (most : ℕ) → Work X → Pairs → (left lines : ℕ) → Type 0
IsTooLong {X} size most w K left lines = (r : Ending X) (items : List Item) (L : Pairs) (n i : ℕ) → w K left lines r items L n i → most < length_by size items
