use Rattle.std.proofs.Common.{◌≡◌, false, take}
use Rattle.std.specs.List.{list_any}
use Rattle.ld_env.specs.Named.{names_of}
use Rattle.fb_show.specs.Display.{is_numbered}
use Rattle.fb_show.proofs.names.is_taken.Given as goal

abbrev pub invariant-loop-k : goal.invariant-loop-k
invariant-loop-k l = list_any (is_numbered l.letter l.letters) (take l.k (names_of l.env)) ≡ false
