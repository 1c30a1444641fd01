use Rattle.std.proofs.Common.{rules, ◌++◌, codes, ℕ, List, arith}
use Rattle.fb_parse.specs.ItemView.{args_view}
use Rattle.fb_write.specs.Canonical.{filling_text}
use Rattle.fb_write.specs.Writing.{args_text}
use Rattle.fb_write.proofs.Written.{Written, start, step, stop, exits, last, filling_some}
use Rattle.fb_write.proofs.item.filling.Goals as goal

pub returns-in_err-push : goal.returns-in_err-push
returns-in_err-push c =
    let whole : List ℕ = filling_text (args_view c.args.args.now) in
    let w0 : Written c.args.out.now.items c.args.out.now.items (codes "(" ++ (args_text (args_view c.args.args.now) ++ (codes ")"))) whole = start (filling_some c.args.args.now (first_of (omega arith, search rules))) in
    exits _ c.from_residual.ensures.0 (stop (codes "(") (args_text (args_view c.args.args.now) ++ (codes ")")) w0 c.in_err-push.ensures)

pub returns-in_err-all_args : goal.returns-in_err-all_args
returns-in_err-all_args c =
    let whole : List ℕ = filling_text (args_view c.args.args.now) in
    let w0 : Written c.args.out.now.items c.args.out.now.items (codes "(" ++ (args_text (args_view c.args.args.now) ++ (codes ")"))) whole = start (filling_some c.args.args.now (first_of (omega arith, search rules))) in
    let w1 = step (codes "(") (args_text (args_view c.args.args.now) ++ (codes ")")) w0 c.in_ok-push.ensures in
    exits _ c.from_residual-in_err-all_args.ensures.0 (stop (args_text (args_view c.args.args.now)) (codes ")") w1 c.in_err-all_args.ensures)

pub returns : goal.returns
returns c =
    let whole : List ℕ = filling_text (args_view c.args.args.now) in
    let w0 : Written c.args.out.now.items c.args.out.now.items (codes "(" ++ (args_text (args_view c.args.args.now) ++ (codes ")"))) whole = start (filling_some c.args.args.now (first_of (omega arith, search rules))) in
    let w1 = step (codes "(") (args_text (args_view c.args.args.now) ++ (codes ")")) w0 c.in_ok-push.ensures in
    let w2 = step (args_text (args_view c.args.args.now)) (codes ")") w1 c.in_ok-all_args.ensures in
    last c.push-2.new.out.items (codes ")") c.push-2.result w2 c.push-2.ensures
