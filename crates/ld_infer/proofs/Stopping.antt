-- What a fault of a part says of the whole.
use Rattle.std.proofs.Common.{List, subst, sym, inl, inr}
use Rattle.ld_terms.specs.Item.{Item}
use Rattle.ld_infer.specs.declared.failure.PathStep.{PathStep}
use Rattle.ld_infer.specs.declared.failure.InferFault.{InferFault}
use Rattle.ld_infer.specs.declared.failure.InferFault.TheVariants as fault
use Rattle.ld_reduce.specs.declared.stop.Stop.{Stop}
use Rattle.ld_reduce.specs.declared.stop.Stop.TheVariants as stop
use Rattle.ld_reduce.specs.Task.{Task, Gives, Fails, High, Nested, ◌>>=◌, Ends, faults_by}
use Rattle.ld_infer.specs.Account.{Account, Comes}
use Rattle.ld_infer.specs.Reading.{Refusal, inside, within}
use Rattle.ld_infer.specs.Infers.{StopsBy, Stops, IsWithin, IsRefusedBy, refusal_of}
use Rattle.ld_infer.proofs.Accounts.{comes_then, comes_ended, comes_faulted, runs_out_first, runs_out_then, runs_out_faulted}

pub stop_first : {X Y : Type 0} (p : Task Refusal X) (g : X → Task Refusal Y) (s : Stop) (before after : Account) → StopsBy p s before after → StopsBy (p >>= g) s before after
stop_first p g stop.Spent before after h = runs_out_first p g before after h
stop_first p g stop.High before after h = comes_ended p g High High before after h Ends.high
stop_first p g stop.Nested before after h = comes_ended p g Nested Nested before after h Ends.nesting
stop_first p g stop.Memory before after h = tt

-- a fault of what comes first is one of the whole
pub stops_first : {X Y : Type 0} (items : List Item) (p : Task Refusal X) (g : X → Task Refusal Y) (f : InferFault) (before after : Account)
    → Stops items p f before after → Stops items (p >>= g) f before after
stops_first items p g (fault.Refused r) before after h = comes_ended p g (Fails (refusal_of items r)) (Fails (refusal_of items r)) before after h Ends.fault
stops_first items p g (fault.Stop s) before after h = stop_first p g s before after h

pub stop_then : {X Y : Type 0} (p : Task Refusal X) (g : X → Task Refusal Y) (x : X) (s : Stop) (before between after : Account)
    → Comes p (Gives x) before between → StopsBy (g x) s between after → StopsBy (p >>= g) s before after
stop_then p g x stop.Spent before between after c h = runs_out_then p g x before between after c h
stop_then p g x stop.High before between after c h = comes_then p g x High before between after c h
stop_then p g x stop.Nested before between after c h = comes_then p g x Nested before between after c h
stop_then p g x stop.Memory before between after c h = tt

-- a fault of what comes behind something that gave a value
pub stops_then : {X Y : Type 0} (items : List Item) (p : Task Refusal X) (g : X → Task Refusal Y) (x : X) (f : InferFault) (before between after : Account)
    → Comes p (Gives x) before between → Stops items (g x) f between after → Stops items (p >>= g) f before after
stops_then items p g x (fault.Refused r) before between after c h = comes_then p g x (Fails (refusal_of items r)) before between after c h
stops_then items p g x (fault.Stop s) before between after c h = stop_then p g x s before between after c h

-- what stops a task stops it where its faults are told anew
pub stop_told : {E F X : Type 0} (g : E → F) (p : Task E X) (s : Stop) (before after : Account) → StopsBy p s before after → StopsBy (faults_by g p) s before after
stop_told g p stop.Spent before after h = runs_out_faulted g p before after h
stop_told g p stop.High before after h = comes_faulted g p High before after h
stop_told g p stop.Nested before after h = comes_faulted g p Nested before after h
stop_told g p stop.Memory before after h = tt

-- a fault of a part that stands at a step
pub stops_within : {X : Type 0} (items : List Item) (step : PathStep) (p : Task Refusal X) (f g : InferFault) (before after : Account)
    → Stops items p f before after → IsWithin step f g → Stops items (within step p) g before after
stops_within items step p (fault.Refused r) g before after h is =
    let P : InferFault → Type 0 = λ x. Stops items (within step p) x before after in
    elim is [
      | inl e ↦ subst P (sym e) (comes_faulted (inside step) p (Fails (refusal_of items r)) before after h)
      | inr e ↦ subst P (sym e) tt
    ]
stops_within items step p (fault.Stop s) g before after h is =
    let P : InferFault → Type 0 = λ x. Stops items (within step p) x before after in subst P (sym is) (stop_told (inside step) p s before after h)

-- what gives a value gives it at a step too
pub gives_within : {X : Type 0} (step : PathStep) (p : Task Refusal X) (x : X) (before after : Account) → Comes p (Gives x) before after → Comes (within step p) (Gives x) before after
gives_within step p x before after h = comes_faulted (inside step) p (Gives x) before after h

-- a fault that is a refusal
pub refused_by : {X : Type 0} (items : List Item) (p : Task Refusal X) (r : Refusal) (f : InferFault) (before after : Account)
    → IsRefusedBy items r f → Comes p (Fails r) before after → Stops items p f before after
refused_by items p r (fault.Refused x) before after is h = let P : Refusal → Type 0 = λ y. Comes p (Fails y) before after in subst P (sym is) h
refused_by items p r (fault.Stop s) before after is h = absurd is
