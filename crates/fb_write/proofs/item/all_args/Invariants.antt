use Rattle.std.proofs.Common.{drop}
use Rattle.fb_parse.specs.ItemView.{args_view}
use Rattle.fb_write.specs.Writing.{args_text, args_from}
use Rattle.fb_write.proofs.Written.{Written}
use Rattle.fb_write.proofs.item.all_args.Given as goal

abbrev pub invariant-loop-arg : goal.invariant-loop-arg
invariant-loop-arg l = Written l.fn.out.items l.out.items (args_from l.first (args_view (drop l.arg-index l.args))) (args_text (args_view l.args))
