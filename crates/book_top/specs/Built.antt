-- What the reading of an item's terms answers, in the code's values.
use Rattle.std.specs.Prelude.{◌≡◌, ◌≤◌, ⊤, List, length, IsOk, Result, Ok, Err}
use Rattle.ld_terms.specs.Tree.{Tree, Star, Trees, Nil}
use Rattle.ld_terms.specs.Item.{Item, One, Many, IsSmall}
use Rattle.ld_terms.specs.Bank.{Holds}
use Rattle.ld_terms.specs.declared.bank.TermId.{TermId}
use Rattle.ld_terms.specs.declared.bank.TermFault.{TermFault}
use Rattle.ld_terms.specs.declared.bank.TermFault.TheVariants as fault
use Rattle.fb_scope.specs.State.{State}
use Rattle.fb_scope.specs.declared.resolve.Found.{Found}
use Rattle.fb_scope.specs.declared.resolve.Found.TheVariants as stands
use Rattle.book_top.specs.declared.status.TextFault.{TextFault}
use Rattle.book_top.specs.declared.names.NameStop.{NameStop}
use Rattle.book_top.specs.declared.names.NameStop.TheVariants as stop

-- the tree that was read
abbrev pub read : {E : Type 0} → Result Tree E → Tree
read (Ok t) = t
read (Err e) = Star

-- the list of trees that was read
abbrev pub read_list : {E : Type 0} → Result Trees E → Trees
read_list (Ok us) = us
read_list (Err e) = Nil

-- the flags of arguments that are implied are open
abbrev pub AreOpen : State → Found → Type 0
AreOpen s (stands.Var i) = ⊤
AreOpen s (stands.Const k n) = n ≤ length s.flags

-- All names are read, or the first that isn't has this fault; want of memory is free.
abbrev pub Reads : {A : Type 0} → Result A TextFault → Result (Unit {0}) NameStop → Type 0
Reads reading (Ok u) = IsOk reading
Reads reading (Err (stop.Text f)) = reading ≡ Err f
Reads reading (Err stop.Memory) = ⊤

-- a number that stands for the tree or the list, or that it isn't small; want of memory is free
abbrev pub BuildsItem : List Item → Item → Result TermId TermFault → Type 0
BuildsItem items it (Ok id) = Holds items id it × IsSmall it
BuildsItem items it (Err fault.High) = ¬ IsSmall it
BuildsItem items it (Err fault.Memory) = ⊤

abbrev pub Builds : List Item → Tree → Result TermId TermFault → Type 0
Builds items t r = BuildsItem items (One t) r

abbrev pub BuildsList : List Item → Trees → Result TermId TermFault → Type 0
BuildsList items us r = BuildsItem items (Many us) r
