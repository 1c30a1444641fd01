-- What a rule refuses has no derivation: the laws of judging, for what the code answers.
use Rattle.std.proofs.Common.{◌≡◌, List}
use Rattle.std.specs.Prelude.{Result, Err}
use Rattle.ld_terms.specs.Tree.{Tree, Trees}
use Rattle.ld_terms.specs.Entry.{Env}
use Rattle.ld_terms.specs.Item.{Item}
use Rattle.ld_terms.specs.Derivable.{IsLegalContext, Derivable}
use Rattle.ld_convert.specs.Sameness.{AreConvertible}
use Rattle.ld_infer.specs.declared.failure.Failure.{Failure}
use Rattle.ld_infer.specs.Account.{Account}
use Rattle.ld_infer.specs.Infers.{refusal_of}
use Rattle.ld_infer.specs.Refusals.{HasNoSort}
use Rattle.ld_defrules.specs.declared.ItemFault.{ItemFault}
use Rattle.ld_defrules.specs.declared.ItemFault.TheVariants as fault
use Rattle.ld_defrules.specs.Judged.{flag_judged, primitive_judged, line_judged, ItemStops}
use Rattle.ld_defrules.proofs.Rightness.{judging_right}

-- the answer is this fault, and a refusal by a rule
abbrev pub IsRefusal : (X : Type 0) → ItemFault → Failure → Type 0
IsRefusal X g f = ◌≡◌ {A = Result X ItemFault} (Err g) (Err (fault.Refused f))

module _ (env : Env) (ctx : Trees) (legal : IsLegalContext env ctx) (items : List Item) (before after : Account) (known : AreConvertible env before.known) where
  pub flag_refused : (X : Type 0) (type : Tree) (g : ItemFault) → ItemStops items (flag_judged env ctx type) g before after → (f : Failure) → IsRefusal X g f → HasNoSort env ctx type
  flag_refused X type fault.NameTaken h f is = absurd h
  flag_refused X type (fault.Refused r) h f is = judging_right.refused.flags env ctx type before.known after.known (refusal_of items r) h.steps legal known h.answers.is
  flag_refused X type (fault.Stop s) h f is = absurd (cc)

  pub primitive_refused : (X : Type 0) (type : Tree) (g : ItemFault) → ItemStops items (primitive_judged env ctx type) g before after → (f : Failure) → IsRefusal X g f → HasNoSort env ctx type
  primitive_refused X type fault.NameTaken h f is = absurd h
  primitive_refused X type (fault.Refused r) h f is =
      judging_right.refused.primitives env ctx type before.known after.known (refusal_of items r) h.steps legal known h.answers.is
  primitive_refused X type (fault.Stop s) h f is = absurd (cc)

  pub line_refused : (X : Type 0) (body type : Tree) (g : ItemFault) → ItemStops items (line_judged env ctx body type) g before after → (f : Failure) → IsRefusal X g f →
      ¬ Derivable env ctx body type
  line_refused X body type fault.NameTaken h f is = absurd h
  line_refused X body type (fault.Refused r) h f is =
      judging_right.refused.lines env ctx body type before.known after.known (refusal_of items r) h.steps legal known h.answers.is
  line_refused X body type (fault.Stop s) h f is = absurd (cc)
