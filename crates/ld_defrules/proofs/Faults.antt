-- What a fault of an item says, from what a fault of a part says.
use Rattle.std.proofs.Common.{List}
use Rattle.std.specs.Prelude.{Err}
use Rattle.ld_terms.specs.Item.{Item}
use Rattle.ld_infer.specs.declared.failure.PathStep.{PathStep}
use Rattle.ld_infer.specs.declared.failure.InferFault.{InferFault}
use Rattle.ld_infer.specs.declared.failure.InferFault.TheVariants as infer
use Rattle.ld_reduce.specs.Task.{Task, Gives, ◌>>=◌}
use Rattle.ld_infer.specs.Account.{Account, Comes}
use Rattle.ld_infer.specs.Reading.{Refusal, within}
use Rattle.ld_infer.specs.Infers.{Stops, IsWithin}
use Rattle.ld_infer.proofs.Stopping.{stops_first, stops_then, stops_within}
use Rattle.ld_defrules.specs.declared.ItemFault.{ItemFault}
use Rattle.ld_defrules.specs.declared.ItemFault.TheVariants as fault
use Rattle.ld_defrules.specs.Judged.{ItemStops, Judges, item_fault}

item_stops : {X : Type 0} (items : List Item) (p : Task Refusal X) (f : InferFault) (before after : Account) → Stops items p f before after → ItemStops items p (item_fault f) before after
item_stops items p (infer.Refused r) before after h = h
item_stops items p (infer.Stop s) before after h = h

-- a fault of a term that stands at a step of the item
pub item_stops_within : {X : Type 0} (items : List Item) (step : PathStep) (p : Task Refusal X) (f g : InferFault) (before after : Account)
    → Stops items p f before after → IsWithin step f g → ItemStops items (within step p) (item_fault g) before after
item_stops_within items step p f g before after h is = item_stops items (within step p) g before after (stops_within items step p f g before after h is)

pub item_stops_first : {X Y : Type 0} (items : List Item) (p : Task Refusal X) (g : X → Task Refusal Y) (f : ItemFault) (before after : Account)
    → ItemStops items p f before after → ItemStops items (p >>= g) f before after
item_stops_first items p g fault.NameTaken before after h = absurd h
item_stops_first items p g (fault.Refused r) before after h = stops_first items p g (infer.Refused r) before after h
item_stops_first items p g (fault.Stop s) before after h = stops_first items p g (infer.Stop s) before after h

pub item_stops_then : {X Y : Type 0} (items : List Item) (p : Task Refusal X) (g : X → Task Refusal Y) (x : X) (f : ItemFault) (before between after : Account)
    → Comes p (Gives x) before between → ItemStops items (g x) f between after → ItemStops items (p >>= g) f before after
item_stops_then items p g x fault.NameTaken before between after c h = absurd h
item_stops_then items p g x (fault.Refused r) before between after c h = stops_then items p g x (infer.Refused r) before between after c h
item_stops_then items p g x (fault.Stop s) before between after c h = stops_then items p g x (infer.Stop s) before between after c h

-- an item that stops is not accepted
pub judges_stop : (X : Type 0) (items : List Item) (p : Task Refusal (Unit {0})) (Taken Adds : Type 0) (f : ItemFault) (before after : Account)
    → ItemStops items p f before after → Judges items p Taken Adds before after {X = X} (Err f)
judges_stop X items p Taken Adds fault.NameTaken before after h = absurd h
judges_stop X items p Taken Adds (fault.Refused r) before after h = h
judges_stop X items p Taken Adds (fault.Stop s) before after h = h
