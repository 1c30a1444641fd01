-- What a call with a budget answers, and what it leaves of a bank and a derivation.
use Rattle.std.specs.Prelude.{◌≡◌, ◌<◌, ◌≤◌, ℕ, ⊤, List, Result, Ok, Err}
use Rattle.ld_terms.specs.Tree.{Tree}
use Rattle.ld_terms.specs.Item.{Item, One, IsSmall}
use Rattle.ld_terms.specs.Bank.{tree_at, IsTermAt, Extends}
use Rattle.ld_terms.specs.Known.{Known, equality_at}
use Rattle.ld_terms.specs.declared.bank.TermId.{TermId}
use Rattle.ld_terms.specs.declared.bank.TermFault.{TermFault}
use Rattle.ld_terms.specs.declared.bank.TermFault.TheVariants as fault
use Rattle.ld_record.specs.declared.record.EqId.{EqId}
use Rattle.ld_record.specs.declared.record.Kept.{Kept}
use Rattle.ld_record.specs.Equal.{HasSides}
use Rattle.ld_record.specs.Kept.{known_of, IsSound, Begins}
use Rattle.ld_record.specs.Growth.{Adds}
use Rattle.ld_reduce.specs.Heads.{Reached, At, TooHigh, Way}
use Rattle.ld_reduce.specs.Work.{Work, Takes}
use Rattle.ld_reduce.specs.declared.stop.Stop.{Stop}
use Rattle.ld_reduce.specs.declared.stop.Stop.TheVariants as stop

-- The way comes to this, by steps that were made.
pub record Comes (way : Way) (r : Reached) (old new : Work) : Type 0 where
  pub steps : ℕ
  pub comes : way r steps
  pub takes : Takes old new steps

-- The way comes to nothing by the steps that were left, and all of these were made.
pub record IsSpent (way : Way) (old new : Work) : Type 0 where
  pub none : (r : Reached) (n : ℕ) → way r n → old.left < n
  pub left : new.left ≡ 0
  pub takes : Takes old new old.left

-- Why a call stops. Want of memory is free; no call here is nested.
abbrev pub Stops : Way → Stop → (old new : Work) → Type 0
Stops way stop.Spent old new = IsSpent way old new
Stops way stop.High old new = Comes way TooHigh old new
Stops way stop.Nested old new = ⊥
Stops way stop.Memory old new = ⊤

-- the number is that of an equality of the two trees, which unfolds only entries below the bound
pub record Equates (known : Known) (e : EqId) (l r : Tree) (bound : ℕ) : Type 0 where
  pub sides : HasSides known e l r
  pub most : (equality_at known e.0).bound ≤ bound

-- the number of a small term, and an equality of the first tree and this term's
pub record Found (items : List Item) (known : Known) (from : Tree) (bound : ℕ) (to : TermId) (e : EqId) : Type 0 where
  pub term : IsTermAt items to
  pub small : IsSmall (One (tree_at items to))
  pub equal : Equates known e from (tree_at items to) bound

-- what a call answers that goes such a way from a tree
abbrev pub Answers : Way → (from : Tree) → (bound : ℕ) → List Item → Known → (old new : Work) → Result (TermId × EqId) Stop → Type 0
Answers way from bound items known old new (Ok p) = Comes way (At (tree_at items p.0)) old new × Found items known from bound p.0 p.1
Answers way from bound items known old new (Err s) = Stops way s old new

-- Terms and records are added at the end; of what is known, nothing changes.
pub record Goes (items later : List Item) (old new : List Kept) : Type 0 where
  pub extends : Extends items later
  pub begins : Begins old new
  pub adds : Adds (known_of items old) (known_of later new)
  pub sound : IsSound later new

abbrev pub stop_of : TermFault → Stop
stop_of fault.High = stop.High
stop_of fault.Memory = stop.Memory
