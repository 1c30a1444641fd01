use Rattle.std.proofs.Common.{◌++◌, codes, ℕ, List, append_assoc}
use Rattle.fb_parse.specs.ItemView.{at_span, kind_view, item_view}
use Rattle.fb_write.specs.Canonical.{kind_text, bars_text, item_text}
use Rattle.fb_write.proofs.Written.{Written, start, step, stop, exits, last}
use Rattle.fb_write.proofs.item.write_item.Goals as goal

pub returns-in_err-bars : goal.returns-in_err-bars
returns-in_err-bars c =
    let whole : List ℕ = item_text (item_view c.args.text.now c.args.item.now) in
    let w0 : Written c.args.out.now.items c.args.out.now.items (bars_text c.args.item.now.bars ++ (kind_text (at_span c.args.text.now c.args.item.now.name) (kind_view c.args.text.now c.args.item.now.kind) ++ (codes "\n"))) whole = start (simp append_assoc) in
    exits _ c.from_residual.ensures.0 (stop (bars_text c.args.item.now.bars) (kind_text (at_span c.args.text.now c.args.item.now.name) (kind_view c.args.text.now c.args.item.now.kind) ++ (codes "\n")) w0 c.in_err-bars.ensures)

pub returns-in_err-kind : goal.returns-in_err-kind
returns-in_err-kind c =
    let whole : List ℕ = item_text (item_view c.args.text.now c.args.item.now) in
    let w0 : Written c.args.out.now.items c.args.out.now.items (bars_text c.args.item.now.bars ++ (kind_text (at_span c.args.text.now c.args.item.now.name) (kind_view c.args.text.now c.args.item.now.kind) ++ (codes "\n"))) whole = start (simp append_assoc) in
    let w1 = step (bars_text c.args.item.now.bars) (kind_text (at_span c.args.text.now c.args.item.now.name) (kind_view c.args.text.now c.args.item.now.kind) ++ (codes "\n")) w0 c.in_ok-bars.ensures in
    exits _ c.from_residual-in_err-kind.ensures.0 (stop (kind_text (at_span c.args.text.now c.args.item.now.name) (kind_view c.args.text.now c.args.item.now.kind)) (codes "\n") w1 c.in_err-kind.ensures)

pub returns : goal.returns
returns c =
    let whole : List ℕ = item_text (item_view c.args.text.now c.args.item.now) in
    let w0 : Written c.args.out.now.items c.args.out.now.items (bars_text c.args.item.now.bars ++ (kind_text (at_span c.args.text.now c.args.item.now.name) (kind_view c.args.text.now c.args.item.now.kind) ++ (codes "\n"))) whole = start (simp append_assoc) in
    let w1 = step (bars_text c.args.item.now.bars) (kind_text (at_span c.args.text.now c.args.item.now.name) (kind_view c.args.text.now c.args.item.now.kind) ++ (codes "\n")) w0 c.in_ok-bars.ensures in
    let w2 = step (kind_text (at_span c.args.text.now c.args.item.now.name) (kind_view c.args.text.now c.args.item.now.kind)) (codes "\n") w1 c.in_ok-kind.ensures in
    last c.push.new.out.items (codes "\n") c.push.result w2 c.push.ensures
