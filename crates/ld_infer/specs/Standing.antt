-- What a theory stands for.
use Rattle.std.specs.Prelude.{◌≡◌, ℕ, zero, suc, List, [], ◌∷◌, ◌++◌, length}
use Rattle.ld_terms.specs.Tree.{Tree, Trees, Nil, ◌▸◌}
use Rattle.ld_terms.specs.Item.{Item}
use Rattle.ld_terms.specs.Bank.{Extends}
use Rattle.ld_terms.specs.Entry.{Env}
use Rattle.ld_terms.specs.Entry as named
use Rattle.ld_terms.specs.Derivable.{IsSort}
use Rattle.ld_terms.specs.Known.{Known, Judgement, EntryNote, FlagNote}
use Rattle.ld_env.specs.Named.{Named}
use Rattle.ld_record.specs.declared.record.JudgeId.{JudgeId}
use Rattle.ld_record.specs.declared.record.Kept.{Kept}
use Rattle.ld_record.specs.Kept.{known_of, Begins}
use Rattle.ld_record.specs.Growth.{Knows, Adds}
use Rattle.ld_convert.specs.Pairs.{pairs_of, ArePairsLive}
use Rattle.ld_convert.specs.declared.job.Job.{Job}
use Rattle.ld_convert.specs.declared.known.Pair.{Pair}
use Rattle.ld_infer.specs.Account.{Account, account_by}

-- what the numbers of the bank stand for, the records that are kept, the entries with their names, and the context
pub record Standing : Type 0 where
  pub items : List Item
  pub kept : List Kept
  pub entries : List Named
  pub context : Trees

abbrev pub known : Standing → Known
known s = known_of s.items s.kept

abbrev pub env : Standing → Env
env s = (known s).env

-- Terms, contexts and judgements are added, and nothing else.
pub record Continues (old new : Standing) : Type 0 where
  pub items : Extends old.items new.items
  pub kept : Begins old.kept new.kept
  pub adds : Adds (known old) (known new)
  pub entries : new.entries ≡ old.entries
  pub context : new.context ≡ old.context

-- the judgement of a term and its type in the context, over all entries
abbrev pub here : Standing → Tree → Tree → Judgement
here s t type = record { entries = length (env s); context = s.context; term = t; type = type }

-- the number is that of a judgement of the term and a sort of it
pub record KnowsSort (s : Standing) (j : JudgeId) (t : Tree) : Type 0 where
  pub sort : Tree
  pub is : IsSort sort
  pub knows : Knows (known s) j (here s t sort)

-- the number is that of a judgement of a term and this type
pub record KnowsType (s : Standing) (j : JudgeId) (type : Tree) : Type 0 where
  pub term : Tree
  pub knows : Knows (known s) j (here s term type)

-- what a job may do and has done; its pairs are of the standing's terms
abbrev pub account : Standing → Job → Account
account s job = account_by job.budget (pairs_of s.items job.known)

-- the pairs are of terms, and each has an equality that is kept, over the entries that are there
pub record KnowsPairs (s : Standing) (pairs : List Pair) : Type 0 where
  pub live : ArePairsLive s.items (known s) (length (env s)) pairs

-- One variable is added at the end of the context.
pub record Enters (old new : Standing) (a : Tree) : Type 0 where
  pub items : Extends old.items new.items
  pub kept : Begins old.kept new.kept
  pub adds : Adds (known old) (known new)
  pub entries : new.entries ≡ old.entries
  pub context : new.context ≡ old.context ▸ a

-- the context without its last variable
abbrev pub without_last : Trees → Trees
without_last Nil = Nil
without_last (ctx ▸ a) = ctx

-- the context without so many of its last variables
abbrev pub without : ℕ → Trees → Trees
without zero ctx = ctx
without (suc n) ctx = without n (without_last ctx)

-- One entry is added, with its note.
pub record AddsEntry (old new : Standing) (e : named.Entry) : Type 0 where
  pub env : env new ≡ env old ++ e ∷ []
  pub notes : (known new).notes ≡ (known old).notes ++ EntryNote e ∷ []
  pub context : new.context ≡ old.context

-- One flag is opened, with its note.
pub record AddsFlag (old new : Standing) (a : Tree) : Type 0 where
  pub env : env new ≡ env old
  pub notes : (known new).notes ≡ (known old).notes ++ FlagNote old.context a ∷ []
  pub entries : new.entries ≡ old.entries
  pub context : new.context ≡ old.context ▸ a

-- Terms and records are added at the end.
pub record Goes (old new : Standing) : Type 0 where
  pub items : Extends old.items new.items
  pub kept : Begins old.kept new.kept
