-- What a table's entry of a number is.
use Rattle.std.specs.Prelude.{◌≡◌, ℕ, List}
use Rattle.ld_terms.specs.Item.{Item}
use Rattle.ld_terms.specs.Tree.{Trees, Tree}
use Rattle.ld_terms.specs.Put.{put}
use Rattle.ld_terms.specs.Entry.{Env, EntryAt}
use Rattle.ld_terms.specs.Derivable.{IsSort}
use Rattle.ld_terms.specs.Known.{Known, Judges, judgement_at}
use Rattle.ld_env.specs.declared.env.Entry.{Entry}
use Rattle.ld_env.specs.Named.{named}
use Rattle.ld_env.specs.Entries.{entry_of, IsLiveEntry}

-- the entry of this number, but for its name, which no rule of a node or an equality asks for
pub record IsEnteredAt (items : List Item) (env : Env) (k : ℕ) (entry : Entry) : Type 0 where
  pub name : List ℕ
  pub at : EntryAt env k (entry_of items (named name entry))
  pub live : IsLiveEntry items entry

-- node n gives the term a sort
pub record HasSortAt (known : Known) (n m : ℕ) (ctx : Trees) (t : Tree) : Type 0 where
  pub sort : IsSort (judgement_at known n).type
  pub judged : Judges known n m ctx t (judgement_at known n).type

-- node n gives the argument its parameter's type, with the arguments before it put in
pub record IsArgument (known : Known) (n m : ℕ) (ctx : Trees) (param : Tree) (before : Trees) (u : Tree) : Type 0 where
  pub entries : (judgement_at known n).entries ≡ m
  pub context : (judgement_at known n).context ≡ ctx
  pub term : (judgement_at known n).term ≡ u
  pub type : (judgement_at known n).type ≡ put param before
