-- What holds of the items of a term, and of those of an entry.
use Rattle.std.specs.Prelude.{◌≡◌, ◌≤◌, ℕ, List, All, [], ◌∷◌, ◌++◌, length}
use Rattle.ld_terms.specs.Tree.{Tree, Trees, count}
use Rattle.ld_terms.specs.Entry.{Entry, EntryAt, Env, IsFresh}
use Rattle.ld_terms.specs.Derivable.{Derivable, IsLegal, IsLegalContext}
use Rattle.ld_reduce.specs.Task.{Pairs}
use Rattle.ld_convert.specs.Sameness.{AreConvertible}
use Rattle.ld_infer.specs.Reading.{Refusal}
use Rattle.fb_steps.specs.Items.{Item, Line, LineBody}
use Rattle.fb_steps.specs.Work.{Ending, Done, Refused}
use Rattle.fb_steps.specs.Steps.{steps_of, entry_steps, printed_term}
use Rattle.fb_steps.specs.Places.{OpenFlag, Place, context_of, closed_to}
use Rattle.fb_steps.specs.Spells.{Spells, Derives}
use Rattle.fb_steps.specs.Shown.{AreShown, HasRoom}
use Rattle.fb_steps.specs.Unfolded.{AreUnfolded, IsLine}

-- Names for lines: none is an entry's, and no two are the same.
pub record AreLineNames (Δ : Env) (name : ℕ → List ℕ) : Type 0 where
  pub fresh : (number : ℕ) → IsFresh (name number) Δ
  pub differ : (i j : ℕ) → name i ≡ name j → i ≡ j

-- Items are read after these entries, each with its mark, where the open flags begin with these.
pub record Begins (Δ : Env) (flags : List OpenFlag) (p : Place) : Type 0 where
  pub env_is : p.env ≡ Δ
  pub marked : length p.marks ≡ length Δ
  pub flags_are : closed_to (length flags) p.flags ≡ flags

-- names for lines, a place, and known pairs that are convertible
pub record IsReady (Δ : Env) (name : ℕ → List ℕ) (flags : List OpenFlag) (p : Place) (K : Pairs) : Type 0 where
  pub names : AreLineNames Δ name
  pub begins : Begins Δ flags p
  pub known : AreConvertible Δ K

-- the last item is a line
pub record LastLine (items : List Item) (depth number : ℕ) (type part : Tree) : Type 0 where
  pub front : List Item
  pub body : LineBody
  pub is : items ≡ front ++ Line depth number body type part ∷ []

-- The items spell entries behind those of the place. Each line's body unfolds to the part for which it is printed, and its stated
-- type names no line. The last line's part is the term, its stated type is the term's, and its parameters are those of the term.
pub record IsPrinted (first : ℕ) (name : ℕ → List ℕ) (p : Place) (items : List Item) (number : ℕ) (params : Trees) (t type : Tree) : Type 0 where
  pub after : Place
  pub spells : Spells first name p items after
  pub lines : Env
  pub more : after.env ≡ p.env ++ lines
  pub each : AreUnfolded first after.env items
  pub last : LastLine items (count params) number type t
  pub last_is : IsLine first after.env number params type t

-- The items unfold to what is printed.
pub record ItemsUnfold : Type 0 where
  pub of_term : (Δ : Env) (name : ℕ → List ℕ) (flags : List OpenFlag) (t type : Tree) (p : Place) (K L : Pairs) (left n lines number : ℕ) (items : List Item) →
      IsReady Δ name flags p K → Derivable Δ (context_of flags) t type → steps_of Δ (context_of flags) t type K left 0 (Done number) items L n lines →
      IsPrinted (length Δ) name p items number (context_of flags) t type
  pub of_entry : (Δ : Env) (name : ℕ → List ℕ) (k : ℕ) (e : Entry) (p : Place) (K L : Pairs) (left n lines number : ℕ) (items : List Item) →
      IsReady Δ name [] p K → IsLegal Δ → EntryAt Δ k e → entry_steps Δ k e K left 0 (Done number) items L n lines →
      IsPrinted (length Δ) name p items number e.params (printed_term k e.params e.body) e.type

-- What each item's rule asks for is derivable after the items before it, and the entries make a legal environment.
pub record AreDerived (first : ℕ) (name : ℕ → List ℕ) (p : Place) (items : List Item) : Type 0 where
  pub after : Place
  pub derives : Derives first name p items after
  pub legal : IsLegal after.env

-- Each item has a derivation after the items before it, however the work ends.
pub record ItemsDerivable : Type 0 where
  pub of_term : (Δ : Env) (name : ℕ → List ℕ) (flags : List OpenFlag) (t type : Tree) (p : Place) (K L : Pairs) (left n lines : ℕ) (r : Ending ℕ) (items : List Item) →
      IsReady Δ name flags p K → Derivable Δ (context_of flags) t type → steps_of Δ (context_of flags) t type K left 0 r items L n lines →
      AreDerived (length Δ) name p items
  pub of_entry : (Δ : Env) (name : ℕ → List ℕ) (k : ℕ) (e : Entry) (p : Place) (K L : Pairs) (left n lines : ℕ) (r : Ending ℕ) (items : List Item) →
      IsReady Δ name [] p K → IsLegal Δ → EntryAt Δ k e → entry_steps Δ k e K left 0 r items L n lines →
      AreDerived (length Δ) name p items

-- No reading is refused by a rule.
pub record NeverRefused : Type 0 where
  pub of_term : (Δ : Env) (flags : List OpenFlag) (t type : Tree) (K L : Pairs) (left n lines : ℕ) (f : Refusal) (items : List Item) →
      AreConvertible Δ K → Derivable Δ (context_of flags) t type → ¬ steps_of Δ (context_of flags) t type K left 0 (Refused f) items L n lines
  pub of_entry : (Δ : Env) (k : ℕ) (e : Entry) (K L : Pairs) (left n lines : ℕ) (f : Refusal) (items : List Item) →
      AreConvertible Δ K → IsLegal Δ → EntryAt Δ k e → ¬ entry_steps Δ k e K left 0 (Refused f) items L n lines

-- Each tree that is shown is a term over the entries and the flags at its depth, and no flag is opened where 64 are open.
pub record ItemsShown : Type 0 where
  pub of_term : (Δ : Env) (flags : List OpenFlag) (t type : Tree) (K L : Pairs) (left n lines : ℕ) (r : Ending ℕ) (items : List Item) →
      AreConvertible Δ K → Derivable Δ (context_of flags) t type → steps_of Δ (context_of flags) t type K left 0 r items L n lines → AreShown Δ items
  pub of_entry : (Δ : Env) (k : ℕ) (e : Entry) (K L : Pairs) (left n lines : ℕ) (r : Ending ℕ) (items : List Item) →
      AreConvertible Δ K → IsLegal Δ → EntryAt Δ k e → entry_steps Δ k e K left 0 r items L n lines → AreShown Δ items
  pub room_for_term : (Δ : Env) (Γ : Trees) (t type : Tree) (K L : Pairs) (left n i lines : ℕ) (r : Ending ℕ) (items : List Item) →
      steps_of Δ Γ t type K left i r items L n lines → All HasRoom items
  pub room_for_entry : (Δ : Env) (k : ℕ) (e : Entry) (K L : Pairs) (left n i lines : ℕ) (r : Ending ℕ) (items : List Item) →
      count e.params ≤ 64 → entry_steps Δ k e K left i r items L n lines → All HasRoom items

-- Where items have derivations, a place whose context is legal leads to such a place.
abbrev pub PlacesLegal : Type 0
PlacesLegal = (first : ℕ) (name : ℕ → List ℕ) (p q : Place) (items : List Item) → IsLegalContext p.env (context_of p.flags) → Derives first name p items q → IsLegalContext q.env (context_of q.flags)
