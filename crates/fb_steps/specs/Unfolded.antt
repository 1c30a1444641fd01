-- Each line unfolds to the part for which it is printed.
use Rattle.std.specs.Prelude.{◌≡◌, ◌<◌, ◌≤◌, ℕ, suc, ◌+◌, List, All, ⊤}
use Rattle.ld_terms.specs.Tree.{Tree, Trees, count}
use Rattle.ld_terms.specs.Item.{IsSmall, One}
use Rattle.ld_terms.specs.Entry.{Entry, EntryAt, Env, HasBody}
use Rattle.ld_laws.specs.Entries.{NamesOnly}
use Rattle.ld_laws.specs.Unfolding.{Unfolded}
use Rattle.fb_steps.specs.Items.{Item, Flag, Line}

-- The line of this number, behind the first entries, has these parameters and this type, which names none but the first entries; and
-- its body, with the lines unfolded, is the part. Where the part is small, under as many flags as may be open, the body is.
pub record IsLine (first : ℕ) (env : Env) (number : ℕ) (params : Trees) (type part : Tree) : Type 0 where
  pub before : ℕ
  pub number_is : number ≡ suc before
  pub entry : Entry
  pub at : EntryAt env (first + before) entry
  pub params_are : entry.params ≡ params
  pub type_is : entry.type ≡ type
  pub names : NamesOnly (λ k. k < first) type
  pub body : Tree
  pub has_body : HasBody entry.body body
  pub unfolds : Unfolded env first body part
  pub small : IsSmall (One part) → count params ≤ 64 → IsSmall (One body)

-- the same, with as many parameters as the line's depth
pub record IsLineAt (first : ℕ) (env : Env) (depth number : ℕ) (type part : Tree) : Type 0 where
  pub params : Trees
  pub depth_is : count params ≡ depth
  pub is : IsLine first env number params type part

abbrev pub IsUnfolded : (first : ℕ) → Env → Item → Type 0
IsUnfolded first env (Flag depth type) = ⊤
IsUnfolded first env (Line depth number body type part) = IsLineAt first env depth number type part

abbrev pub AreUnfolded : (first : ℕ) → Env → List Item → Type 0
AreUnfolded first env items = All (IsUnfolded first env) items
