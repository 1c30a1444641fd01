use Rattle.std.proofs.Common.{Err, ap}
use Rattle.std.proofs.lemmas.Result.{err_from_is_err_and}
use Rattle.ld_infer.proofs.Going.{continues_trans, continues_refl}
use Rattle.ld_infer.proofs.Leading.{fault_once, own_follows, own_high, own_type, sort_before, there_stays}
use Rattle.ld_infer.proofs.theory.Theory.own_variable.Goals as goal

pub last_variable-requires : goal.last_variable-requires
last_variable-requires c = record { there = c.requires.there }

pub lift_type-requires-clause-there : goal.lift_type-requires-clause-there
lift_type-requires-clause-there c = there_stays c.args.self.now c.last_variable.new.self c.args.out c.last_variable.ensures.continues c.requires.there

pub lift_type-requires-clause-last : goal.lift_type-requires-clause-last
lift_type-requires-clause-last c = c.in-Ok.ensures.ends

pub lift_type-requires-clause-term : goal.lift_type-requires-clause-term
lift_type-requires-clause-term c = c.in-Ok.ensures.ends.term

pub lift_type-requires-clause-sort : goal.lift_type-requires-clause-sort
lift_type-requires-clause-sort c = sort_before c.last_variable.new.self c.args.out c.in-Ok.last c.in-Ok.ensures.ends

pub returns-in_err-lifted-clause-high : goal.returns-in_err-lifted-clause-high
returns-in_err-lifted-clause-high c =
    let p = err_from_is_err_and c.from_residual.result c.from_residual.ensures.1 in
    rw (p.1, p.2) (λ is. own_high c.args.self.now c.last_variable.new.self c.last_variable.new.self c.args.out c.in-Ok.last c.in-Ok.last.of c.last_variable.ensures.continues (continues_refl c.last_variable.new.self) c.in-Ok.ensures.ends (c.in_err-lifted.ensures.high (ap Err (fault_once _ _ is))))

pub returns-in_err-lifted-clause-continues : goal.returns-in_err-lifted-clause-continues
returns-in_err-lifted-clause-continues c = continues_trans c.args.self.now c.last_variable.new.self c.lift_type.new.self c.last_variable.ensures.continues c.lift_type.ensures.continues

pub type_variable-requires-clause-there : goal.type_variable-requires-clause-there
type_variable-requires-clause-there c = there_stays c.args.self.now c.lift_type.new.self c.args.out (continues_trans c.args.self.now c.last_variable.new.self c.lift_type.new.self c.last_variable.ensures.continues c.lift_type.ensures.continues) c.requires.there

pub type_variable-requires-clause-of : goal.type_variable-requires-clause-of
type_variable-requires-clause-of c = c.in_ok-lifted.ensures.typed

pub type_variable-requires-clause-found : goal.type_variable-requires-clause-found
type_variable-requires-clause-found c = own_type c.args.self.now c.last_variable.new.self c.lift_type.new.self c.args.out c.in-Ok.last c.in_ok-lifted.lifted.of c.last_variable.ensures.continues c.lift_type.ensures.continues c.in-Ok.ensures.ends c.in_ok-lifted.ensures.lifted

pub type_variable-requires-clause-follows : goal.type_variable-requires-clause-follows
type_variable-requires-clause-follows c = own_follows c.args.self.now c.last_variable.new.self c.lift_type.new.self c.args.out c.in-Ok.last c.in_ok-lifted.lifted.of c.last_variable.ensures.continues c.lift_type.ensures.continues c.in-Ok.ensures.ends c.in_ok-lifted.ensures.lifted

pub returns-clause-typed : goal.returns-clause-typed
returns-clause-typed c = c.type_variable.ensures.typed

pub returns-clause-high : goal.returns-clause-high
returns-clause-high c = λ e. absurd (c.type_variable.ensures.high e)

pub returns-clause-continues : goal.returns-clause-continues
returns-clause-continues c =
    continues_trans _ _ _ c.last_variable.ensures.continues (continues_trans _ _ _ c.lift_type.ensures.continues c.type_variable.ensures.continues)
