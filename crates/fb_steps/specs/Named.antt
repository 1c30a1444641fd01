-- What a line's name stands for, where no arguments are written: what is taken for it where it is applied to.
use Rattle.std.specs.Prelude.{◌≡◌, ℕ, suc, ◌+◌, List, Some, length, Ok, slice_get}
use Rattle.ld_terms.specs.Entry.{Entry, EntryAt}
use Rattle.fb_steps.specs.Items.{Item}
use Rattle.fb_steps.specs.Places.{Place}
use Rattle.fb_steps.specs.Spells.{Spells}
use Rattle.fb_scope.specs.State.{State, numbers}
use Rattle.fb_scope.specs.Resolve.{as_entry}
use Rattle.fb_scope.specs.declared.resolve.Found.TheVariants.{Const}

-- An entry that was made under the open flags and no others stands for its instance with all of them.
abbrev pub LineNamed : Type 0
LineNamed = (s : State) (k : ℕ) → slice_get s.marks k ≡ Some (numbers s.flags) → as_entry s 0 (Some k) ≡ Ok (Const k (length s.flags))

-- Where the place has the first entries alone before the items, each entry behind them has the name of a line of its number.
abbrev pub LinesNamed : Type 0
LinesNamed = (first : ℕ) (name : ℕ → List ℕ) (p q : Place) (items : List Item) → length p.env ≡ first → Spells first name p items q →
    (j : ℕ) (e : Entry) → EntryAt q.env (first + j) e → e.name ≡ name (suc j)
