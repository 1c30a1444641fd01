-- What printed items spell, and when each of them has a derivation after those before it.
use Rattle.std.specs.Prelude.{◌≡◌, ℕ, zero, suc, ◌+◌, ◌≤◌, List, [], ◌∷◌, length, Some, slice_get}
use Rattle.ld_terms.specs.Tree.{Tree, App, Lam, Trees, Nil, ◌▸◌, count}
use Rattle.ld_terms.specs.Entry.{Entry, EntryAt, Env, IsFresh}
use Rattle.ld_terms.specs.Derivable.{Derivable}
use Rattle.ld_laws.specs.Typing.{HasSort}
use Rattle.fb_scope.specs.Resolve.{further}
use Rattle.fb_steps.specs.Items.{Operand, Term, OfLine, LineBody, Plain, Intro, Elim, Item, Flag, Line}
use Rattle.fb_steps.specs.Places.{OpenFlag, Place, context_of, own_instance, numbers, closed_to, closed, with_flag, with_line}

-- a term abstracted over the last of the parameters, so many, the first of them outermost
abbrev pub abstracted : ℕ → (params : Trees) → Tree → Tree
abstracted zero params t = t
abstracted (suc n) Nil t = t
abstracted (suc n) (ps ▸ p) t = abstracted n ps (Lam p t)

-- Below, the lines stand behind so many entries; the flags under which each entry was made are given, and those that are open.
module _ (first : ℕ) (marks : List (List ℕ)) (flags : List OpenFlag) where
  -- an earlier line, made under the open flags and no others, is its instance with them
  pub data OperandIs : Operand → Tree → Type 0 where
    term : {t : Tree} → OperandIs (Term t) t
    of_line : (j : ℕ) → slice_get marks (first + j) ≡ Some (numbers flags) →
        OperandIs (OfLine (suc j)) (own_instance (first + j) (length flags))

  -- a term applied to operands
  pub data Applies : Tree → List Operand → Tree → Type 0 where
    alone : {f : Tree} → Applies f [] f
    applied : {f u t : Tree} {b : Operand} {bs : List Operand} → OperandIs b u → Applies (App f u) bs t → Applies f (b ∷ bs) t

  -- What is introduced is the earlier line's instance with all its flags, abstracted over those behind the open ones.
  pub data BodyIs (env : Env) : LineBody → Tree → Type 0 where
    plain : {t : Tree} → BodyIs env (Plain t) t
    intro : (j n : ℕ) (mark : List ℕ) (e : Entry) → EntryAt env (first + j) e → slice_get marks (first + j) ≡ Some mark → further mark (numbers flags) ≡ Some n →
        BodyIs env (Intro (suc j)) (abstracted n e.params (own_instance (first + j) (count e.params)))
    elim_by : {f t : Tree} {bs : List Operand} → Applies f bs t → BodyIs env (Elim f bs) t

-- And lines have these names, by their numbers, which are those of their places behind the first entries.
module _ (first : ℕ) (name : ℕ → List ℕ) where
  -- The items spell a place, one after another. It asks for no derivation.
  pub data Spells : Place → List Item → Place → Type 0 where
    none : {p : Place} → Spells p [] p
    flag : {p q : Place} {depth : ℕ} {type : Tree} {items : List Item} → depth ≤ length p.flags →
        Spells (with_flag type (closed depth p)) items q → Spells p (Flag depth type ∷ items) q
    line : {p q : Place} {depth j : ℕ} {body : LineBody} {type part : Tree} {items : List Item} (t : Tree) → depth ≤ length p.flags → length p.env ≡ first + j →
        BodyIs first p.marks (closed_to depth p.flags) p.env body t → Spells (with_line (name (suc j)) t type (closed depth p)) items q → Spells p (Line depth (suc j) body type part ∷ items) q

  -- The same, where what each item's rule asks for is derivable after the items before it: a flag's type has a sort, and a line's
  -- body has the stated type, and its name is no entry's.
  pub data Derives : Place → List Item → Place → Type 0 where
    none : {p : Place} → Derives p [] p
    flag : {p q : Place} {depth : ℕ} {type : Tree} {items : List Item} → depth ≤ length p.flags →
        HasSort p.env (context_of (closed_to depth p.flags)) type →
        Derives (with_flag type (closed depth p)) items q → Derives p (Flag depth type ∷ items) q
    line : {p q : Place} {depth j : ℕ} {body : LineBody} {type part : Tree} {items : List Item} (t : Tree) → depth ≤ length p.flags → length p.env ≡ first + j →
        BodyIs first p.marks (closed_to depth p.flags) p.env body t → IsFresh (name (suc j)) p.env → Derivable p.env (context_of (closed_to depth p.flags)) t type →
        Derives (with_line (name (suc j)) t type (closed depth p)) items q → Derives p (Line depth (suc j) body type part ∷ items) q
