use Rattle.std.proofs.Common.{length, ap, ◌∙◌}
use Rattle.ld_terms.specs.Tree.{Star, Var, Pi, Const, Nil, ◌▸◌}
use Rattle.ld_record.specs.Kept.{known_of}
use Rattle.ld_record.specs.Tests.{judged}
use Rattle.ld_record.proofs.Growing.{knows_later, adds_trans}
use Rattle.ld_record.proofs.sample.judged_application.Goals as goal

pub variable-requires-clause-sound : goal.variable-requires-clause-sound
variable-requires-clause-sound c = c.requires.sound

pub variable-requires-clause-there : goal.variable-requires-clause-there
variable-requires-clause-there c = c.requires.judged.one

pub variable-requires-clause-x : goal.variable-requires-clause-x
variable-requires-clause-x c = c.requires.variable

pub variable-requires-clause-a : goal.variable-requires-clause-a
variable-requires-clause-a c = c.requires.a

pub variable-requires-clause-typed : goal.variable-requires-clause-typed
variable-requires-clause-typed c = c.requires.judged.typed_is

pub variable-requires-clause-weakened : goal.variable-requires-clause-weakened
variable-requires-clause-weakened c = c.requires.judged.inner_is

pub identity-requires-clause-sound : goal.identity-requires-clause-sound
identity-requires-clause-sound c = c.variable.ensures.sound

pub identity-requires-clause-there : goal.identity-requires-clause-there
identity-requires-clause-there c = ap length (c.variable.ensures.adds.env) ∙ c.requires.judged.one

pub identity-requires-clause-term : goal.identity-requires-clause-term
identity-requires-clause-term c = c.requires.identity

pub identity-requires-clause-product : goal.identity-requires-clause-product
identity-requires-clause-product c = c.requires.product

pub identity-requires-clause-body : goal.identity-requires-clause-body
identity-requires-clause-body c = c.in_ok-body.ensures.number

pub identity-requires-clause-formed : goal.identity-requires-clause-formed
identity-requires-clause-formed c =
    knows_later (known_of c.args.bank.now c.args.deriv.now) (known_of c.args.bank.now c.variable.new.deriv) c.args.judged.2 (judged 1 Nil (Pi (Const 0 Nil) (Const 0 Nil)) Star)
    c.variable.ensures.adds c.requires.judged.formed_is

pub inner_identity-requires-clause-sound : goal.inner_identity-requires-clause-sound
inner_identity-requires-clause-sound c = c.identity.ensures.sound

pub inner_identity-requires-clause-there : goal.inner_identity-requires-clause-there
inner_identity-requires-clause-there c = ap length (c.identity.ensures.adds.env ∙ c.variable.ensures.adds.env) ∙ c.requires.judged.one

pub inner_identity-requires-clause-body : goal.inner_identity-requires-clause-body
inner_identity-requires-clause-body c =
    knows_later (known_of c.args.bank.now c.variable.new.deriv) (known_of c.args.bank.now c.identity.new.deriv) c.in_ok-body.body (judged 1 (Nil ▸ Const 0 Nil) (Var 0) (Const 0 Nil))
    c.identity.ensures.adds c.in_ok-body.ensures.number

pub inner_identity-requires-clause-identity : goal.inner_identity-requires-clause-identity
inner_identity-requires-clause-identity c = c.in_ok-identity.ensures.number

pub inner_identity-requires-clause-typed : goal.inner_identity-requires-clause-typed
inner_identity-requires-clause-typed c =
    knows_later (known_of c.args.bank.now c.args.deriv.now) (known_of c.args.bank.now c.identity.new.deriv) c.args.judged.0 (judged 1 Nil (Const 0 Nil) Star)
    (adds_trans (known_of c.args.bank.now c.args.deriv.now) (known_of c.args.bank.now c.variable.new.deriv) (known_of c.args.bank.now c.identity.new.deriv) c.variable.ensures.adds c.identity.ensures.adds) c.requires.judged.typed_is

pub applied-requires-clause-sound : goal.applied-requires-clause-sound
applied-requires-clause-sound c = c.inner_identity.ensures.sound

pub applied-requires-clause-there : goal.applied-requires-clause-there
applied-requires-clause-there c = ap length (c.inner_identity.ensures.adds.env ∙ c.identity.ensures.adds.env ∙ c.variable.ensures.adds.env) ∙ c.requires.judged.one

pub applied-requires-clause-term : goal.applied-requires-clause-term
applied-requires-clause-term c = c.requires.applied

pub applied-requires-clause-function : goal.applied-requires-clause-function
applied-requires-clause-function c = c.in_ok-function.ensures.number

pub applied-requires-clause-argument : goal.applied-requires-clause-argument
applied-requires-clause-argument c =
    knows_later (known_of c.args.bank.now c.variable.new.deriv) (known_of c.args.bank.now c.inner_identity.new.deriv) c.in_ok-body.body (judged 1 (Nil ▸ Const 0 Nil) (Var 0) (Const 0 Nil))
    (adds_trans (known_of c.args.bank.now c.variable.new.deriv) (known_of c.args.bank.now c.identity.new.deriv) (known_of c.args.bank.now c.inner_identity.new.deriv) c.identity.ensures.adds c.inner_identity.ensures.adds) c.in_ok-body.ensures.number

pub flagged-requires-clause-sound : goal.flagged-requires-clause-sound
flagged-requires-clause-sound c = c.applied.ensures.sound

pub flagged-requires-clause-there : goal.flagged-requires-clause-there
flagged-requires-clause-there c = ap length (c.applied.ensures.adds.env ∙ c.inner_identity.ensures.adds.env ∙ c.identity.ensures.adds.env ∙ c.variable.ensures.adds.env) ∙ c.requires.judged.one

pub flagged-requires-clause-formed : goal.flagged-requires-clause-formed
flagged-requires-clause-formed c =
    knows_later (known_of c.args.bank.now c.args.deriv.now) (known_of c.args.bank.now c.applied.new.deriv) c.args.judged.2 (judged 1 Nil (Pi (Const 0 Nil) (Const 0 Nil)) Star)
    (adds_trans (known_of c.args.bank.now c.args.deriv.now) (known_of c.args.bank.now c.inner_identity.new.deriv) (known_of c.args.bank.now c.applied.new.deriv) (adds_trans (known_of c.args.bank.now c.args.deriv.now) (known_of c.args.bank.now c.identity.new.deriv) (known_of c.args.bank.now c.inner_identity.new.deriv) (adds_trans (known_of c.args.bank.now c.args.deriv.now) (known_of c.args.bank.now c.variable.new.deriv) (known_of c.args.bank.now c.identity.new.deriv) c.variable.ensures.adds c.identity.ensures.adds) c.inner_identity.ensures.adds) c.applied.ensures.adds) c.requires.judged.formed_is
