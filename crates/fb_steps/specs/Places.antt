-- What a book has come to where printed items are read after it: its entries, the flags under which each was made, and the open flags.
use Rattle.std.specs.Prelude.{ℕ, suc, ◌-◌, List, [], ◌∷◌, ◌++◌, length, map, reverse, drop}
use Rattle.ld_terms.specs.Tree.{Tree, Trees, Const, Nil, ◌▸◌}
use Rattle.ld_terms.specs.Entry.{Entry, Env, Defined}
use Rattle.fb_scope.specs.Names.{implied}

-- an open flag: its number, which no other flag has, and its type
pub record OpenFlag : Type 0 where
  pub number : ℕ
  pub type : Tree

-- Open flags are innermost first.
abbrev pub context_of : List OpenFlag → Trees
context_of [] = Nil
context_of (f ∷ fs) = context_of fs ▸ f.type

-- the instance of an entry with the variables of so many flags, where no others are open
abbrev pub own_instance : (k flags : ℕ) → Tree
own_instance k n = Const k (implied n n)

-- the numbers of open flags, outermost first
abbrev pub numbers : List OpenFlag → List ℕ
numbers flags = reverse (map (λ f. f.number) flags)

-- A mark has the numbers of the flags under which an entry was made, outermost first.
pub record Place : Type 0 where
  pub env : Env
  pub marks : List (List ℕ)
  pub flags : List OpenFlag
  pub opened : ℕ

-- all flags but the outermost, so many, are closed
abbrev pub closed_to : (depth : ℕ) → List OpenFlag → List OpenFlag
closed_to depth flags = drop (length flags - depth) flags

abbrev pub closed : (depth : ℕ) → Place → Place
closed depth p = record { env = p.env; marks = p.marks; flags = closed_to depth p.flags; opened = p.opened }

abbrev pub with_flag : Tree → Place → Place
with_flag type p = record { env = p.env; marks = p.marks; flags = record { number = p.opened; type = type } ∷ p.flags; opened = suc p.opened }

-- a line's entry has the open flags as its parameters
abbrev pub line_entry : List ℕ → List OpenFlag → (body type : Tree) → Entry
line_entry name flags body type = record { name = name; params = context_of flags; body = Defined body; type = type }

abbrev pub with_line : List ℕ → (body type : Tree) → Place → Place
with_line name body type p = record { env = p.env ++ line_entry name p.flags body type ∷ []; marks = p.marks ++ numbers p.flags ∷ []; flags = p.flags; opened = p.opened }
