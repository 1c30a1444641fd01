-- The terms of printed items as they are read: small, where the printed term and its type are.
use Rattle.std.specs.Prelude.{◌≡◌, ◌≤◌, ℕ, suc, ◌+◌, List, All, [], length, ⊤}
use Rattle.ld_terms.specs.Tree.{Tree, Trees, Nil, ◌▸◌, count}
use Rattle.ld_terms.specs.Item.{IsSmall, One}
use Rattle.ld_terms.specs.Entry.{Entry, EntryAt, Env, HasBody}
use Rattle.ld_terms.specs.Derivable.{Derivable, IsLegal}
use Rattle.ld_reduce.specs.Task.{Pairs}
use Rattle.fb_steps.specs.Items.{Item, Flag, Line}
use Rattle.fb_steps.specs.Work.{Ending}
use Rattle.fb_steps.specs.Steps.{steps_of, entry_steps, printed_term}
use Rattle.fb_steps.specs.Places.{OpenFlag, Place, context_of}
use Rattle.fb_steps.specs.Spells.{Spells}
use Rattle.fb_steps.specs.Laws.{IsReady}

-- The line of this number, behind the first entries, has a small body, and its type is small.
pub record IsSmallLine (first : ℕ) (env : Env) (number : ℕ) (type : Tree) : Type 0 where
  pub before : ℕ
  pub number_is : number ≡ suc before
  pub entry : Entry
  pub at : EntryAt env (first + before) entry
  pub body : Tree
  pub has_body : HasBody entry.body body
  pub body_small : IsSmall (One body)
  pub type_small : IsSmall (One type)

abbrev pub IsSmallItem : (first : ℕ) → Env → Item → Type 0
IsSmallItem first env (Flag depth type) = IsSmall (One type)
IsSmallItem first env (Line depth number body type part) = IsSmallLine first env number type

pub record AreSmall (first : ℕ) (name : ℕ → List ℕ) (p : Place) (items : List Item) : Type 0 where
  pub after : Place
  pub spells : Spells first name p items after
  pub each : All (IsSmallItem first after.env) items

abbrev pub EachSmall : Trees → Type 0
EachSmall Nil = ⊤
EachSmall (ps ▸ a) = EachSmall ps × IsSmall (One a)

-- No item of a small term has a term that isn't small.
pub record ItemsSmall : Type 0 where
  pub of_term : (Δ : Env) (name : ℕ → List ℕ) (flags : List OpenFlag) (t type : Tree) (p : Place) (K L : Pairs) (left n lines : ℕ) (r : Ending ℕ) (items : List Item) →
      IsReady Δ name flags p K → Derivable Δ (context_of flags) t type → count (context_of flags) ≤ 64 → IsSmall (One t) → IsSmall (One type) →
      steps_of Δ (context_of flags) t type K left 0 r items L n lines → AreSmall (length Δ) name p items
  pub of_entry : (Δ : Env) (name : ℕ → List ℕ) (k : ℕ) (e : Entry) (p : Place) (K L : Pairs) (left n lines : ℕ) (r : Ending ℕ) (items : List Item) →
      IsReady Δ name [] p K → IsLegal Δ → EntryAt Δ k e → count e.params ≤ 64 → EachSmall e.params → IsSmall (One (printed_term k e.params e.body)) → IsSmall (One e.type) →
      entry_steps Δ k e K left 0 r items L n lines → AreSmall (length Δ) name p items
