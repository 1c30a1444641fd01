-- What a book has come to between its items, and what an item adds to it.
use Rattle.std.specs.Prelude.{ℕ, ◌-◌, List, [], ◌∷◌, ◌++◌, map}
use Rattle.ld_terms.specs.Tree.{Tree, Trees, Nil, ◌▸◌, count}
use Rattle.ld_terms.specs.Entry.{Entry, Env}
use Rattle.ld_terms.specs.Known.{Note, FlagNote, EntryNote}
use Rattle.ld_infer.specs.Standing.{Standing, env, without}
use Rattle.ld_defrules.specs.Judged.{primitive_of, line_of}
use Rattle.fb_scope.specs.State.{State, start, left_to, entered, noted}

-- the entries, the types of the open flags, and the names and numbers of those flags, with the flags of each entry
pub record Book : Type 0 where
  pub env : Env
  pub context : Trees
  pub scope : State

abbrev pub empty : Book
empty = record { env = []; context = Nil; scope = start }

-- the book that a theory and a scope stand for
abbrev pub book_of : Standing → State → Book
book_of s scope = record { env = env s; context = s.context; scope = scope }

abbrev pub names_of : Env → List (List ℕ)
names_of env = map (λ e. e.name) env

-- all flags but the outermost, so many, are closed
abbrev pub closed : (bars : ℕ) → Book → Book
closed bars b = record { env = b.env; context = without (count b.context - bars) b.context; scope = left_to bars b.scope }

-- an item as it is read
pub data Reading : Type 0 where
  Flag : (type : Tree) → Reading
  Prim : (type : Tree) → Reading
  Line : (body type : Tree) → Reading

abbrev pub with_flag : List ℕ → Tree → Book → Book
with_flag name type b = record { env = b.env; context = b.context ▸ type; scope = entered name b.scope }

-- an entry made under the open flags
abbrev pub with_entry : Entry → Book → Book
with_entry e b = record { env = b.env ++ e ∷ []; context = b.context; scope = noted b.scope }

-- the book with an item of this name, as it is read there
abbrev pub with_item : List ℕ → Reading → Book → Book
with_item name (Flag type) b = with_flag name type b
with_item name (Prim type) b = with_entry (primitive_of name b.context type) b
with_item name (Line body type) b = with_entry (line_of name b.context body type) b

-- what the item leaves in a derivation
abbrev pub note_of : List ℕ → Reading → Book → Note
note_of name (Flag type) b = FlagNote b.context type
note_of name (Prim type) b = EntryNote (primitive_of name b.context type)
note_of name (Line body type) b = EntryNote (line_of name b.context body type)
