use Rattle.std.proofs.Common.{drop}
use Rattle.fb_parse.specs.View.{views}
use Rattle.fb_write.specs.Canonical.{terms_text, arguments_text}
use Rattle.fb_write.specs.Writing.{terms_from}
use Rattle.fb_write.proofs.Written.{Written}
use Rattle.fb_write.proofs.term.+term.Given as goal

abbrev pub invariant-terms-loop-arg : goal.invariant-terms-loop-arg
invariant-terms-loop-arg l = Written l.fn.out.items l.out.items (terms_from l.first (views (drop l.arg-index l.args))) (terms_text (views l.args))

abbrev pub invariant-arguments-loop-arg : goal.invariant-arguments-loop-arg
invariant-arguments-loop-arg l = Written l.fn.out.items l.out.items (arguments_text (views (drop l.arg-index l.args))) (arguments_text (views l.args))
