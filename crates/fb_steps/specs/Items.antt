-- The items of a printed term, on trees and levels: flags and lines at depths. Lines are numbered from 1 in the order of the text.
use Rattle.std.specs.Prelude.{ℕ, List}
use Rattle.ld_terms.specs.Tree.{Tree}

-- what a line applies its head to: a term, or an earlier line by its number
pub data Operand : Type 0 where
  Term : Tree → Operand
  OfLine : (number : ℕ) → Operand

-- a term; what an earlier line introduces; or a head and what it is applied to
pub data LineBody : Type 0 where
  Plain : Tree → LineBody
  Intro : (number : ℕ) → LineBody
  Elim : (head : Tree) → List Operand → LineBody

-- A flag at a depth, or a line at a depth. With a line goes the part for which it is printed, which its text doesn't show.
pub data Item : Type 0 where
  Flag : (depth : ℕ) → (type : Tree) → Item
  Line : (depth number : ℕ) → LineBody → (type part : Tree) → Item
