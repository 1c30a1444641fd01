-- What kept entries are in trees, over the terms of a bank.
use Rattle.std.specs.Prelude.{◌≡◌, List, map, Option, None, Some, All}
use Rattle.ld_terms.specs.Tree.{Nil}
use Rattle.ld_terms.specs.Entry.{Body, Defined, Primitive, Env, Entry as TreeEntry}
use Rattle.ld_terms.specs.Item.{Item}
use Rattle.ld_terms.specs.Bank.{tree_at, listed, IsTermAt}
use Rattle.ld_terms.specs.declared.bank.TermId.{TermId}
use Rattle.ld_env.specs.declared.env.Entry.{Entry}
use Rattle.ld_env.specs.Named.{Named}

abbrev pub body_of : List Item → Option TermId → Body
body_of items None = Primitive
body_of items (Some t) = Defined (tree_at items t)

abbrev pub entry_of : List Item → Named → TreeEntry
entry_of items n = record {
  name = n.name;
  params = listed items Nil n.entry.params;
  body = body_of items n.entry.body;
  type = tree_at items n.entry.of;
}

abbrev pub env_of : List Item → List Named → Env
env_of items = map (entry_of items)

-- the parameters' types, the body and the type are terms of the bank
pub record IsLiveEntry (items : List Item) (entry : Entry) : Type 0 where
  pub params : All (IsTermAt items) entry.params
  pub body : (t : TermId) → entry.body ≡ Some t → IsTermAt items t
  pub type : IsTermAt items entry.of

pub record AreLive (items : List Item) (env : List Named) : Type 0 where
  pub each : All (λ n. IsLiveEntry items n.entry) env
