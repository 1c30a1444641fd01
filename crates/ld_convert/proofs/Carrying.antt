-- What is left of a task after a part of it: what comes of the rest comes of the whole.
use Rattle.ld_reduce.specs.Task.{Pairs, Answer, Gives, High, Nested, Task, high, nesting, ◌>>=◌}
use Rattle.ld_reduce.specs.Work.{Work}
use Rattle.ld_reduce.specs.declared.stop.Stop.{Stop}
use Rattle.ld_reduce.specs.declared.stop.Stop.TheVariants as stop
use Rattle.ld_convert.specs.Account.{Comes, RunsOut, StopsTask}
use Rattle.ld_convert.proofs.Spending.{comes_then, comes_end, out_first, out_then}

pub record Carries {E X : Type 0} (p q : Task E X) (K M : Pairs) (old mid : Work) : Type 0 where
  pub comes : (r : Answer E X) (L : Pairs) (new : Work) → Comes q M r L mid new → Comes p K r L old new
  pub out : (new : Work) → RunsOut q M mid new → RunsOut p K old new

pub carries_all : {E X : Type 0} (p : Task E X) (K : Pairs) (w : Work) → Carries p p K K w w
carries_all p K w = record { comes = λ r L new h. h; out = λ new h. h }

pub carries_trans : {E X : Type 0} (p q s : Task E X) (K M N : Pairs) (a b d : Work) → Carries p q K M a b → Carries q s M N b d → Carries p s K N a d
carries_trans p q s K M N a b d f g = record { comes = λ r L new h. f.comes r L new (g.comes r L new h); out = λ new h. f.out new (g.out new h) }

-- after a task that gives a value, what goes on with the value is left
pub carries_then : {E X Y : Type 0} (p : Task E X) (f : X → Task E Y) (x : X) (K M : Pairs) (a b : Work) → Comes p K (Gives x) M a b → Carries (p >>= f) (f x) K M a b
carries_then p f x K M a b h = record {
  comes = λ r L new t. comes_then p f x K M L r a b new h t;
  out = λ new t. out_then p f x K M a b new h t;
}

-- the whole stops where the rest does
pub carries_stop : {E X : Type 0} (p q : Task E X) (K M L : Pairs) (a b d : Work) (s : Stop) → Carries p q K M a b → StopsTask q M L b d s → StopsTask p K L a d s
carries_stop p q K M L a b d stop.Spent f h = f.out d h
carries_stop p q K M L a b d stop.High f h = f.comes High L d h
carries_stop p q K M L a b d stop.Nested f h = f.comes Nested L d h
carries_stop p q K M L a b d stop.Memory f h = tt

-- and where its first part does
pub first_stops : {E X Y : Type 0} (p : Task E X) (f : X → Task E Y) (K L : Pairs) (a b : Work) (s : Stop) → StopsTask p K L a b s → StopsTask (p >>= f) K L a b s
first_stops p f K L a b stop.Spent h = out_first p f K a b h
first_stops p f K L a b stop.High h = comes_end p f High High K L a b h high
first_stops p f K L a b stop.Nested h = comes_end p f Nested Nested K L a b h nesting
first_stops p f K L a b stop.Memory h = tt
