use Rattle.std.proofs.Common.{◌++◌, codes, ℕ, List, append_assoc}
use Rattle.fb_parse.specs.View.{view}
use Rattle.fb_parse.specs.ItemView.{at_span}
use Rattle.fb_write.specs.Canonical.{term_text}
use Rattle.fb_write.proofs.Written.{Written, start, step, stop, exits, last}
use Rattle.fb_write.proofs.item.flag.Goals as goal

pub returns-in_err-push : goal.returns-in_err-push
returns-in_err-push c =
    let whole : List ℕ = codes "[" ++ at_span c.args.text.now c.args.name ++ codes " : " ++ term_text (view c.args.of) ++ codes "]" in
    let w0 : Written c.args.out.now.items c.args.out.now.items (codes "[" ++ ((at_span c.args.text.now c.args.name) ++ (codes " : " ++ (term_text (view c.args.of) ++ (codes "]"))))) whole = start (simp append_assoc) in
    exits _ c.from_residual.ensures.0 (stop (codes "[") ((at_span c.args.text.now c.args.name) ++ (codes " : " ++ (term_text (view c.args.of) ++ (codes "]")))) w0 c.in_err-push.ensures)

pub returns-in_err-push_span : goal.returns-in_err-push_span
returns-in_err-push_span c =
    let whole : List ℕ = codes "[" ++ at_span c.args.text.now c.args.name ++ codes " : " ++ term_text (view c.args.of) ++ codes "]" in
    let w0 : Written c.args.out.now.items c.args.out.now.items (codes "[" ++ ((at_span c.args.text.now c.args.name) ++ (codes " : " ++ (term_text (view c.args.of) ++ (codes "]"))))) whole = start (simp append_assoc) in
    let w1 = step (codes "[") ((at_span c.args.text.now c.args.name) ++ (codes " : " ++ (term_text (view c.args.of) ++ (codes "]")))) w0 c.in_ok-push.ensures in
    exits _ c.from_residual-in_err-push_span.ensures.0 (stop ((at_span c.args.text.now c.args.name)) (codes " : " ++ (term_text (view c.args.of) ++ (codes "]"))) w1 c.in_err-push_span.ensures)

pub returns-in_err-push-2 : goal.returns-in_err-push-2
returns-in_err-push-2 c =
    let whole : List ℕ = codes "[" ++ at_span c.args.text.now c.args.name ++ codes " : " ++ term_text (view c.args.of) ++ codes "]" in
    let w0 : Written c.args.out.now.items c.args.out.now.items (codes "[" ++ ((at_span c.args.text.now c.args.name) ++ (codes " : " ++ (term_text (view c.args.of) ++ (codes "]"))))) whole = start (simp append_assoc) in
    let w1 = step (codes "[") ((at_span c.args.text.now c.args.name) ++ (codes " : " ++ (term_text (view c.args.of) ++ (codes "]")))) w0 c.in_ok-push.ensures in
    let w2 = step ((at_span c.args.text.now c.args.name)) (codes " : " ++ (term_text (view c.args.of) ++ (codes "]"))) w1 c.in_ok-push_span.ensures in
    exits _ c.from_residual-in_err-push-2.ensures.0 (stop (codes " : ") (term_text (view c.args.of) ++ (codes "]")) w2 c.in_err-push-2.ensures)

pub returns-in_err-term : goal.returns-in_err-term
returns-in_err-term c =
    let whole : List ℕ = codes "[" ++ at_span c.args.text.now c.args.name ++ codes " : " ++ term_text (view c.args.of) ++ codes "]" in
    let w0 : Written c.args.out.now.items c.args.out.now.items (codes "[" ++ ((at_span c.args.text.now c.args.name) ++ (codes " : " ++ (term_text (view c.args.of) ++ (codes "]"))))) whole = start (simp append_assoc) in
    let w1 = step (codes "[") ((at_span c.args.text.now c.args.name) ++ (codes " : " ++ (term_text (view c.args.of) ++ (codes "]")))) w0 c.in_ok-push.ensures in
    let w2 = step ((at_span c.args.text.now c.args.name)) (codes " : " ++ (term_text (view c.args.of) ++ (codes "]"))) w1 c.in_ok-push_span.ensures in
    let w3 = step (codes " : ") (term_text (view c.args.of) ++ (codes "]")) w2 c.in_ok-push-2.ensures in
    exits _ c.from_residual-in_err-term.ensures.0 (stop (term_text (view c.args.of)) (codes "]") w3 c.in_err-term.ensures)

pub returns : goal.returns
returns c =
    let whole : List ℕ = codes "[" ++ at_span c.args.text.now c.args.name ++ codes " : " ++ term_text (view c.args.of) ++ codes "]" in
    let w0 : Written c.args.out.now.items c.args.out.now.items (codes "[" ++ ((at_span c.args.text.now c.args.name) ++ (codes " : " ++ (term_text (view c.args.of) ++ (codes "]"))))) whole = start (simp append_assoc) in
    let w1 = step (codes "[") ((at_span c.args.text.now c.args.name) ++ (codes " : " ++ (term_text (view c.args.of) ++ (codes "]")))) w0 c.in_ok-push.ensures in
    let w2 = step ((at_span c.args.text.now c.args.name)) (codes " : " ++ (term_text (view c.args.of) ++ (codes "]"))) w1 c.in_ok-push_span.ensures in
    let w3 = step (codes " : ") (term_text (view c.args.of) ++ (codes "]")) w2 c.in_ok-push-2.ensures in
    let w4 = step (term_text (view c.args.of)) (codes "]") w3 c.in_ok-term.ensures in
    last c.push-3.new.out.items (codes "]") c.push-3.result w4 c.push-3.ensures
