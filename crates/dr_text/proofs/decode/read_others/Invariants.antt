use Rattle.std.proofs.Common.{◌≡◌, ◌<◌}
use Rattle.dr_text.proofs.Reading.{ReadsOn, power}
use Rattle.dr_text.proofs.decode.read_others.Given as goal

-- what stands in the rest goes on with the bytes read so far
abbrev pub invariant-loop-place : goal.invariant-loop-place
invariant-loop-place l = record {
  on : ReadsOn l.low l.bytes l.value l.scale l.rest;
  scale : l.scale ≡ power l._place;
  below : l.value < l.scale;
}
