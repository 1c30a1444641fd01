-- What the rules answer for an item, and what an item adds to a theory.
use Rattle.std.specs.Prelude.{◌≡◌, ℕ, Bool, true, false, List, Result, Ok, Err}
use Rattle.ld_terms.specs.Tree.{Tree, Box, Trees, count}
use Rattle.ld_terms.specs.Tests.{equals, is_box}
use Rattle.ld_terms.specs.Entry.{Entry, Env, Defined, Primitive}
use Rattle.ld_terms.specs.Item.{Item}
use Rattle.ld_terms.specs.Bank.{tree_at}
use Rattle.ld_terms.specs.declared.bank.TermId.{TermId}
use Rattle.ld_record.specs.declared.record.JudgeId.{JudgeId}
use Rattle.ld_record.specs.Growth.{Knows}
use Rattle.ld_infer.specs.declared.failure.RuleName.{RuleName}
use Rattle.ld_infer.specs.declared.failure.RuleName.TheVariants.{Weak, Def, DefPrim}
use Rattle.ld_infer.specs.declared.failure.PathStep.TheVariants.{Of, Body}
use Rattle.ld_infer.specs.declared.failure.InferFault.{InferFault}
use Rattle.ld_infer.specs.declared.failure.Why.{Why}
use Rattle.ld_infer.specs.declared.failure.InferFault.TheVariants as infer
use Rattle.ld_reduce.specs.Task.{Task, Gives, Fails, gives, fails, ◌>>=◌, ◌>>◌, faults_by}
use Rattle.ld_convert.specs.Apart.{Apart, apart}
use Rattle.ld_convert.specs.Compares.{Compares}
use Rattle.ld_infer.specs.Account.{Account, Comes}
use Rattle.ld_infer.specs.Reading.{Refusal, refusal, inside, within, NotSame, Found, Types, SortOf}
use Rattle.ld_infer.specs.Standing.{Standing, known, here, KnowsSort}
use Rattle.ld_infer.specs.Infers.{StopsBy, IsTyped, reason_of, refusal_of}
use Rattle.ld_infer.specs.declared.inference.Typed.{Typed}
use Rattle.ld_reduce.specs.declared.stop.Stop.TheVariants as Stop
use Rattle.ld_defrules.specs.declared.ItemFault.{ItemFault}
use Rattle.ld_defrules.specs.declared.ItemFault.TheVariants as fault

-- the refusal of a body whose type is another than the stated one
abbrev pub other_type : (ctx : Trees) → (type stated : Tree) → Apart → Refusal
other_type ctx type stated d = inside Body (refusal (Def, 2) (count ctx) (NotSame type stated d))

-- over an environment, under the flags whose types are a context
module _ (env : Env) (ctx : Trees) where
  -- the stated type of an item has a sort, for which a rule asks as its second premise
  abbrev pub type_judged : RuleName → (type : Tree) → Task Refusal Tree
  type_judged rule type = within Of (SortOf env ctx 1 (rule, 2) type)

  abbrev pub flag_judged : (type : Tree) → Task Refusal (Unit {0})
  flag_judged type = type_judged Weak type >> gives tt

  abbrev pub primitive_judged : (type : Tree) → Task Refusal (Unit {0})
  primitive_judged type = type_judged DefPrim type >> gives tt

  -- the reading of a line's body
  abbrev pub body_judged : (body : Tree) → Task Refusal Found
  body_judged body = within Body (Types env ctx 1 (Def, 2) body)

  -- the type found is the one stated, or is compared with it
  abbrev pub same_as_stated : (equal : Bool) → (type stated : Tree) → Task Refusal (Unit {0})
  same_as_stated true type stated = gives tt
  same_as_stated false type stated = faults_by (other_type ctx type stated) (Compares env 1 type stated)

  abbrev pub has_type : (body stated : Tree) → Task Refusal (Unit {0})
  has_type body stated = body_judged body >>= λ r. same_as_stated (equals r.type stated) r.type stated

  -- The word box itself has no sort, and is the type of a body without a comparison.
  abbrev pub box_or_not : (box : Bool) → (type : Tree) → Task Refusal (Unit {0})
  box_or_not true type = gives tt
  box_or_not false type = fails (other_type ctx type Box (apart type Box 0))

  abbrev pub has_box : (body : Tree) → Task Refusal (Unit {0})
  has_box body = body_judged body >>= λ r. box_or_not (is_box r.type) r.type

  -- a line: its stated type has a sort unless it is box itself, and its body has the stated type
  abbrev pub line_judging : (box : Bool) → (body stated : Tree) → Task Refusal (Unit {0})
  line_judging true body stated = has_box body
  line_judging false body stated = type_judged Def stated >> has_type body stated

  abbrev pub line_judged : (body stated : Tree) → Task Refusal (Unit {0})
  line_judged body stated = line_judging (is_box stated) body stated

-- the entries of a primitive and of a line, whose parameters are the flags' types
abbrev pub primitive_of : List ℕ → Trees → Tree → Entry
primitive_of name ctx type = record { name = name; params = ctx; body = Primitive; type = type }

abbrev pub line_of : List ℕ → Trees → (body type : Tree) → Entry
line_of name ctx body type = record { name = name; params = ctx; body = Defined body; type = type }

-- The task ends with what a fault says. Want of memory is free.
abbrev pub ItemStops : {X : Type 0} → List Item → Task Refusal X → ItemFault → (before after : Account) → Type 0
ItemStops items p fault.NameTaken before after = ⊥
ItemStops items p (fault.Refused f) before after = Comes p (Fails (refusal_of items f)) before after
ItemStops items p (fault.Stop s) before after = StopsBy p s before after

-- An item is accepted, with what it adds; or it is refused. Taken says that its name is taken.
abbrev pub Judges : List Item → Task Refusal (Unit {0}) → (Taken Adds : Type 0) → (before after : Account) → {X : Type 0} → Result X ItemFault → Type 0
Judges items p Taken Adds before after (Ok x) = Comes p (Gives tt) before after × Adds
Judges items p Taken Adds before after (Err fault.NameTaken) = Taken
Judges items p Taken Adds before after (Err (fault.Refused f)) = ItemStops items p (fault.Refused f) before after
Judges items p Taken Adds before after (Err (fault.Stop s)) = ItemStops items p (fault.Stop s) before after

-- the judgement of an item's type and a sort, where the task gives a sort
abbrev pub SortsType : (old new : Standing) → Task Refusal Tree → TermId → (before after : Account) → Result JudgeId ItemFault → Type 0
SortsType old new p t before after (Ok j) = ((s : Tree) × Comes p (Gives s) before after) × KnowsSort new j (tree_at old.items t)
SortsType old new p t before after (Err f) = ItemStops new.items p f before after

-- the judgement of a line's body and its stated type
abbrev pub TypesLine : (old new : Standing) → Task Refusal (Unit {0}) → (body of : TermId) → (before after : Account) → Result JudgeId ItemFault → Type 0
TypesLine old new p body of before after (Ok j) = Comes p (Gives tt) before after × Knows (known new) j (here old (tree_at old.items body) (tree_at old.items of))
TypesLine old new p body of before after (Err f) = ItemStops new.items p f before after

-- the reading of a line's body
abbrev pub BodyTypes : (old new : Standing) → Task Refusal Found → (body : TermId) → (before after : Account) → Result Typed ItemFault → Type 0
BodyTypes old new p body before after (Ok r) = IsTyped old new p body before after r
BodyTypes old new p body before after (Err f) = ItemStops new.items p f before after

-- the fault is that a body has another type than the stated one, for this reason
abbrev pub IsOtherType : List Item → Trees → Why → ItemFault → Type 0
IsOtherType items ctx why (fault.Refused f) = refusal_of items f ≡ inside Body (refusal (Def, 2) (count ctx) (reason_of items why))
IsOtherType items ctx why (fault.Stop s) = s ≡ Stop.Memory
IsOtherType items ctx why fault.NameTaken = ⊥

abbrev pub item_fault : InferFault → ItemFault
item_fault (infer.Refused f) = fault.Refused f
item_fault (infer.Stop s) = fault.Stop s
