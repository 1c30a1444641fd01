use Rattle.fb_parse.specs.ItemView.{items_view}
use Rattle.book_top.proofs.Checks.{Checks}
use Rattle.book_top.proofs.check.check_items.Given as goal

abbrev pub invariant-loop-number : goal.invariant-loop-number
invariant-loop-number g l =
    Checks l.fn.budget (g.D.Desk.seen l.fn.desk) (g.D.Desk.seen l.desk) l.fn.out (items_view l.fn.text l.items) l.number l.theory l.scope l.writer l.steps
