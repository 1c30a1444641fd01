use Rattle.std.proofs.Common.{◌*◌, ◌+◌}
use Rattle.fb_show.proofs.term.+term.Given as goal

abbrev pub decreases-term : goal.decreases-term
decreases-term l = l.t.0 * 2

abbrev pub decreases-spine : goal.decreases-spine
decreases-spine l = l.t.0 * 2 + 1

abbrev pub decreases-list : goal.decreases-list
decreases-list l = l.t.0 * 2
