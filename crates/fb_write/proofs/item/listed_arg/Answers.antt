use Rattle.std.proofs.Common.{◌++◌, codes, refl, ap}
use Rattle.fb_parse.specs.ItemView.{arg_view}
use Rattle.fb_write.specs.Canonical.{arg_text}
use Rattle.fb_write.specs.Writing.{comma}
use Rattle.fb_write.proofs.Written.{Written, start, step, stop, exits, last}
use Rattle.fb_write.proofs.item.listed_arg.Goals as goal

pub returns-in_err-push_comma : goal.returns-in_err-push_comma
returns-in_err-push_comma c =
    let arg = arg_text (arg_view c.args.arg) in
    let w0 : Written c.args.out.now.items c.args.out.now.items (comma c.args.first ++ arg) (comma c.args.first ++ arg) = start refl in
    exits _ c.from_residual.ensures.0 (stop (comma c.args.first) arg w0 c.in_err-push_comma.ensures)

pub returns-in-Hole : goal.returns-in-Hole
returns-in-Hole c =
    let w0 : Written c.args.out.now.items c.args.out.now.items (comma c.args.first ++ codes "_") (comma c.args.first ++ arg_text (arg_view c.args.arg)) =
    start (ap (λ a. comma c.args.first ++ arg_text (arg_view a)) c.in-Hole.is) in
    last c.push.new.out.items (codes "_") c.push.result (step (comma c.args.first) (codes "_") w0 c.in_ok-push_comma.ensures) c.push.ensures
