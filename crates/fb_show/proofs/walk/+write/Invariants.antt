use Rattle.std.proofs.Common.{◌*◌, ◌+◌}
use Rattle.fb_show.proofs.walk.+write.Given as goal

abbrev pub decreases-write : goal.decreases-write
decreases-write l = l.t.0 * 4

abbrev pub decreases-part : goal.decreases-part
decreases-part l = l.t.0 * 4 + 1

abbrev pub decreases-head : goal.decreases-head
decreases-head l = l.t.0 * 4 + 2

abbrev pub decreases-binder : goal.decreases-binder
decreases-binder l = l.t.0 * 4 + 1

abbrev pub decreases-domain : goal.decreases-domain
decreases-domain l = l.t.0 * 4 + 2

abbrev pub decreases-list : goal.decreases-list
decreases-list l = l.t.0 * 4

abbrev pub decreases-before : goal.decreases-before
decreases-before l = l.t.0 * 4 + 1

abbrev pub decreases-filling : goal.decreases-filling
decreases-filling l = l.t.0 * 4 + 1
