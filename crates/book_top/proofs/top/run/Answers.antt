use Rattle.fb_base.specs.Desk.{Seen}
use Rattle.std.proofs.Common.{ap}
use Rattle.book_top.specs.Top.{Outcome}
use Rattle.book_top.specs.Said.{SaysOf}
use Rattle.book_top.proofs.Performing.{never_usage, asks_command, asks_nothing, any_may, any_changes, no_command_answers, usage_said}
use Rattle.book_top.proofs.Performing.{may_memory, unread_outcome, unread_changes, unread_says}
use Rattle.book_top.proofs.Complete.{completes}
use Rattle.book_top.proofs.Underivable.{rightly_refused}
use Rattle.book_top.proofs.top.run.Goals as goal

-- ---- a command

pub returns-in-Ok-Some-clause-outcome : goal.returns-in-Ok-Some-clause-outcome
returns-in-Ok-Some-clause-outcome g c =
    λ told. Outcome.command _ (asks_command _ c.in-Ok-Some.ensures.asked _ c.in-Ok-Some.field-0-is) (c.perform.ensures.performs told)

pub returns-in-Ok-Some-clause-usage : goal.returns-in-Ok-Some-clause-usage
returns-in-Ok-Some-clause-usage g c = λ is. absurd (never_usage _ c.perform.result c.perform.ensures.may is)

pub returns-in-Ok-Some-clause-no_command : goal.returns-in-Ok-Some-clause-no_command
returns-in-Ok-Some-clause-no_command g c =
    λ unknown. absurd (unknown _ (asks_command _ c.in-Ok-Some.ensures.asked _ c.in-Ok-Some.field-0-is))

pub returns-in-Ok-Some-clause-may : goal.returns-in-Ok-Some-clause-may
returns-in-Ok-Some-clause-may g c =
    any_may c.perform.result (asks_command _ c.in-Ok-Some.ensures.asked _ c.in-Ok-Some.field-0-is) c.perform.ensures.may

pub returns-in-Ok-Some-clause-only_says : goal.returns-in-Ok-Some-clause-only_says
returns-in-Ok-Some-clause-only_says g c =
    λ unknown. absurd (unknown _ (asks_command _ c.in-Ok-Some.ensures.asked _ c.in-Ok-Some.field-0-is))

pub returns-in-Ok-Some-clause-changes : goal.returns-in-Ok-Some-clause-changes
returns-in-Ok-Some-clause-changes g c =
    any_changes (g.D.Desk.seen c.args.desk.now) (g.D.Desk.seen c.perform.new.desk)
    (asks_command _ c.in-Ok-Some.ensures.asked _ c.in-Ok-Some.field-0-is) c.perform.ensures.changes

pub returns-in-Ok-Some-clause-said : goal.returns-in-Ok-Some-clause-said
returns-in-Ok-Some-clause-said g c =
    λ tells. SaysOf.command _ (asks_command _ c.in-Ok-Some.ensures.asked _ c.in-Ok-Some.field-0-is) (c.perform.ensures.reports tells)

pub returns-in-Ok-Some-clause-absent : goal.returns-in-Ok-Some-clause-absent
returns-in-Ok-Some-clause-absent g c = λ told sound is. record {
  command = _;
  asked = asks_command _ c.in-Ok-Some.ensures.asked _ c.in-Ok-Some.field-0-is;
  absent = c.perform.ensures.absent told sound is;
}

pub returns-in-Ok-Some-clause-complete : goal.returns-in-Ok-Some-clause-complete
returns-in-Ok-Some-clause-complete g c =
    completes (g.D.Desk.seen c.args.desk.now) (g.D.Desk.seen c.perform.new.desk) _ c.perform.result
    (returns-in-Ok-Some-clause-outcome g c) c.perform.ensures.desk
    (returns-in-Ok-Some-clause-absent g c)

pub returns-in-Ok-Some-clause-underivable : goal.returns-in-Ok-Some-clause-underivable
returns-in-Ok-Some-clause-underivable g c =
    rightly_refused (g.D.Desk.seen c.args.desk.now) (g.D.Desk.seen c.perform.new.desk) _ c.perform.result
    (returns-in-Ok-Some-clause-outcome g c)

-- ---- nothing that is known

pub returns-in-Ok-None-clause-outcome : goal.returns-in-Ok-None-clause-outcome
returns-in-Ok-None-clause-outcome g c = λ told.
    Outcome.no_command (asks_nothing _ c.in-Ok-None.ensures.asked c.in-Ok-None.field-0-is) (no_command_answers _ c.say.ensures.same)
    (ap (λ (s : Seen). s.files) c.say.ensures.only)

pub returns-in-Ok-None-clause-usage : goal.returns-in-Ok-None-clause-usage
returns-in-Ok-None-clause-usage g c = λ is. asks_nothing _ c.in-Ok-None.ensures.asked c.in-Ok-None.field-0-is

pub returns-in-Ok-None-clause-no_command : goal.returns-in-Ok-None-clause-no_command
returns-in-Ok-None-clause-no_command g c = λ unknown. no_command_answers _ c.say.ensures.same

pub returns-in-Ok-None-clause-may : goal.returns-in-Ok-None-clause-may
returns-in-Ok-None-clause-may g c = λ d also. absurd (asks_nothing _ c.in-Ok-None.ensures.asked c.in-Ok-None.field-0-is d also)

pub returns-in-Ok-None-clause-changes : goal.returns-in-Ok-None-clause-changes
returns-in-Ok-None-clause-changes g c = λ d also. absurd (asks_nothing _ c.in-Ok-None.ensures.asked c.in-Ok-None.field-0-is d also)

pub returns-in-Ok-None-clause-said : goal.returns-in-Ok-None-clause-said
returns-in-Ok-None-clause-said g c = λ tells.
    SaysOf.no_command (asks_nothing _ c.in-Ok-None.ensures.asked c.in-Ok-None.field-0-is)
    (usage_said _ _ _ _ c.say.ensures.same (c.say.ensures.said tells)) c.say.ensures.same

pub returns-in-Ok-None-clause-complete : goal.returns-in-Ok-None-clause-complete
returns-in-Ok-None-clause-complete g c =
    λ told undisturbed possible. absurd (asks_nothing _ c.in-Ok-None.ensures.asked c.in-Ok-None.field-0-is possible.command possible.asked)

pub returns-in-Ok-None-clause-underivable : goal.returns-in-Ok-None-clause-underivable
returns-in-Ok-None-clause-underivable g c =
    rightly_refused (g.D.Desk.seen c.args.desk.now) (g.D.Desk.seen c.say.new.desk) _ c.say.result (returns-in-Ok-None-clause-outcome g c)

-- ---- no memory to read the words

pub returns-in-Err-clause-outcome : goal.returns-in-Err-clause-outcome
returns-in-Err-clause-outcome g c = λ told. unread_outcome _ _ c.in-Err.ensures.either

pub returns-in-Err-clause-may : goal.returns-in-Err-clause-may
returns-in-Err-clause-may g c = λ d also. may_memory d

pub returns-in-Err-clause-changes : goal.returns-in-Err-clause-changes
returns-in-Err-clause-changes g c = λ d also. unread_changes _ d

pub returns-in-Err-clause-said : goal.returns-in-Err-clause-said
returns-in-Err-clause-said g c = λ tells. unread_says _ _ c.in-Err.ensures.either
