use Rattle.std.proofs.Common.{◌≡◌, false, take}
use Rattle.std.specs.List.{list_any}
use Rattle.fb_show.specs.Cut.{own_names}
use Rattle.fb_show.specs.Display.{is_numbered}
use Rattle.fb_show.proofs.names.is_flag_taken.Given as goal

abbrev pub invariant-loop-level : goal.invariant-loop-level
invariant-loop-level l = list_any (is_numbered l.letter l.letters) (take l.level (own_names l.scope)) ≡ false
