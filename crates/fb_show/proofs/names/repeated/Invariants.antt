use Rattle.std.proofs.Common.{◌≡◌, replicate}
use Rattle.std.specs.String.{string_bytes}
use Rattle.fb_show.proofs.names.repeated.Given as goal

abbrev pub invariant-loop : goal.invariant-loop
invariant-loop g l = string_bytes l.text ≡ replicate l.counter l.letter
