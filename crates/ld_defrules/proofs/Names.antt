-- A name that is not found is free.
use Rattle.std.proofs.Common.{◌≡◌, false, Option, Some, None, MatchOption, is_some, true≢false}

pub absent_by : {X : Type 0} {P : Type 0} (Q : X → Type 0) (o : Option X) → is_some o ≡ false → MatchOption o P Q → P
absent_by Q None e h = h
absent_by Q (Some x) e h = absurd (true≢false e)
