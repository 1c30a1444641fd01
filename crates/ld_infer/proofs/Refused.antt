-- What a refusal says of what is read, and how the refusal of a part is that of the whole.
use Rattle.std.proofs.Common.{List, ◌∷◌, refl}
use Rattle.ld_terms.specs.Tree.{Tree, Pi, Trees, count}
use Rattle.ld_terms.specs.Entry.{Env}
use Rattle.ld_terms.specs.Derivable.{Derivable, Arguments}
use Rattle.ld_infer.specs.declared.failure.PathStep.{PathStep}
use Rattle.ld_infer.specs.Parts.{PartAt, PartAmong}
use Rattle.ld_infer.specs.Reading.{Asked, Reason, Refusal, refusal, inside}
use Rattle.ld_infer.specs.Refusals.{Holds, HoldsAt}

-- a term without a product as a type
pub record NoFunction (env : Env) (ctx : Trees) (t : Tree) (f : Refusal) : Type 0 where
  pub refused : (a b : Tree) → Derivable env ctx t (Pi a b) → ⊥
  pub because : HoldsAt env (PartAt ctx t) f

-- an argument that hasn't the type wanted, and arguments that haven't their parameters' types
pub record Misfit (env : Env) (ctx : Trees) (t wanted : Tree) (f : Refusal) : Type 0 where
  pub refused : Derivable env ctx t wanted → ⊥
  pub because : HoldsAt env (PartAt ctx t) f

pub record Misfits (env : Env) (ctx ps us : Trees) (f : Refusal) : Type 0 where
  pub refused : Arguments env ctx ps us → ⊥
  pub because : HoldsAt env (PartAmong ctx us) f

-- the reason holds of the term itself
pub holds_here : (env : Env) (ctx : Trees) (t : Tree) (q : Asked) (reason : Reason) → Holds env ctx t reason → HoldsAt env (PartAt ctx t) (refusal q (count ctx) reason)
holds_here env ctx t q reason h = record { context = ctx; part = t; there = PartAt.here; depth_is = refl; holds = h }

pub holds_inside : (env : Env) (s : PathStep) (Finds More : List PathStep → Trees → Tree → Type 0) →
    ((path : List PathStep) (ctx : Trees) (t : Tree) → Finds path ctx t → More (s ∷ path) ctx t) → (f : Refusal) → HoldsAt env Finds f → HoldsAt env More (inside s f)
holds_inside env s Finds More g f h = record { context = h.context; part = h.part; there = g f.path h.context h.part h.there; depth_is = h.depth_is; holds = h.holds }

pub holds_more : (env : Env) (Finds More : List PathStep → Trees → Tree → Type 0) →
    ((path : List PathStep) (ctx : Trees) (t : Tree) → Finds path ctx t → More path ctx t) → (f : Refusal) → HoldsAt env Finds f → HoldsAt env More f
holds_more env Finds More g f h = record { context = h.context; part = h.part; there = g f.path h.context h.part h.there; depth_is = h.depth_is; holds = h.holds }
