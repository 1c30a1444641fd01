use Rattle.std.proofs.Common.{◌++◌, codes, ℕ, List, ap, ◌∙◌, append_assoc}
use Rattle.fb_parse.specs.View.{view}
use Rattle.fb_parse.specs.ItemView.{at_span, body_view, kind_view}
use Rattle.fb_write.specs.Canonical.{term_text, body_text, kind_text}
use Rattle.fb_write.proofs.Written.{Written, start, step, stop, exits, last}
use Rattle.fb_write.proofs.item.kind.Goals as goal

pub returns-in_err-push_span-in-Prim : goal.returns-in_err-push_span-in-Prim
returns-in_err-push_span-in-Prim c =
    let whole : List ℕ = kind_text (at_span c.args.text.now c.args.name) (kind_view c.args.text.now c.args.kind) in
    let w0 : Written c.args.out.now.items c.args.out.now.items (at_span c.args.text.now c.args.name ++ (codes " := prim : " ++ (term_text (view c.in-Prim.of)))) whole = start (ap (λ k. kind_text (at_span c.args.text.now c.args.name) (kind_view c.args.text.now k)) c.in-Prim.is ∙ simp append_assoc) in
    exits _ c.from_residual.ensures.0 (stop (at_span c.args.text.now c.args.name) (codes " := prim : " ++ (term_text (view c.in-Prim.of))) w0 c.in_err-push_span-in-Prim.ensures)

pub returns-in_err-push-in-Prim : goal.returns-in_err-push-in-Prim
returns-in_err-push-in-Prim c =
    let whole : List ℕ = kind_text (at_span c.args.text.now c.args.name) (kind_view c.args.text.now c.args.kind) in
    let w0 : Written c.args.out.now.items c.args.out.now.items (at_span c.args.text.now c.args.name ++ (codes " := prim : " ++ (term_text (view c.in-Prim.of)))) whole = start (ap (λ k. kind_text (at_span c.args.text.now c.args.name) (kind_view c.args.text.now k)) c.in-Prim.is ∙ simp append_assoc) in
    let w1 = step (at_span c.args.text.now c.args.name) (codes " := prim : " ++ (term_text (view c.in-Prim.of))) w0 c.in_ok-push_span-in-Prim.ensures in
    exits _ c.from_residual-in_err-push-in-Prim.ensures.0 (stop (codes " := prim : ") (term_text (view c.in-Prim.of)) w1 c.in_err-push-in-Prim.ensures)

pub returns-in_ok-push-in-Prim : goal.returns-in_ok-push-in-Prim
returns-in_ok-push-in-Prim c =
    let whole : List ℕ = kind_text (at_span c.args.text.now c.args.name) (kind_view c.args.text.now c.args.kind) in
    let w0 : Written c.args.out.now.items c.args.out.now.items (at_span c.args.text.now c.args.name ++ (codes " := prim : " ++ (term_text (view c.in-Prim.of)))) whole = start (ap (λ k. kind_text (at_span c.args.text.now c.args.name) (kind_view c.args.text.now k)) c.in-Prim.is ∙ simp append_assoc) in
    let w1 = step (at_span c.args.text.now c.args.name) (codes " := prim : " ++ (term_text (view c.in-Prim.of))) w0 c.in_ok-push_span-in-Prim.ensures in
    let w2 = step (codes " := prim : ") (term_text (view c.in-Prim.of)) w1 c.in_ok-push-in-Prim.ensures in
    last c.term.new.out.items (term_text (view c.in-Prim.of)) c.term.result w2 c.term.ensures

pub returns-in_err-push_span-in-Line : goal.returns-in_err-push_span-in-Line
returns-in_err-push_span-in-Line c =
    let whole : List ℕ = kind_text (at_span c.args.text.now c.args.name) (kind_view c.args.text.now c.args.kind) in
    let w0 : Written c.args.out.now.items c.args.out.now.items (at_span c.args.text.now c.args.name ++ (codes " := " ++ (body_text (body_view c.args.text.now c.in-Line.of_line) ++ (codes " : " ++ (term_text (view c.in-Line.of)))))) whole = start (ap (λ k. kind_text (at_span c.args.text.now c.args.name) (kind_view c.args.text.now k)) c.in-Line.is ∙ simp append_assoc) in
    exits _ c.from_residual-in_err-push_span-in-Line.ensures.0 (stop (at_span c.args.text.now c.args.name) (codes " := " ++ (body_text (body_view c.args.text.now c.in-Line.of_line) ++ (codes " : " ++ (term_text (view c.in-Line.of))))) w0 c.in_err-push_span-in-Line.ensures)

pub returns-in_err-push-in-Line : goal.returns-in_err-push-in-Line
returns-in_err-push-in-Line c =
    let whole : List ℕ = kind_text (at_span c.args.text.now c.args.name) (kind_view c.args.text.now c.args.kind) in
    let w0 : Written c.args.out.now.items c.args.out.now.items (at_span c.args.text.now c.args.name ++ (codes " := " ++ (body_text (body_view c.args.text.now c.in-Line.of_line) ++ (codes " : " ++ (term_text (view c.in-Line.of)))))) whole = start (ap (λ k. kind_text (at_span c.args.text.now c.args.name) (kind_view c.args.text.now k)) c.in-Line.is ∙ simp append_assoc) in
    let w1 = step (at_span c.args.text.now c.args.name) (codes " := " ++ (body_text (body_view c.args.text.now c.in-Line.of_line) ++ (codes " : " ++ (term_text (view c.in-Line.of))))) w0 c.in_ok-push_span-in-Line.ensures in
    exits _ c.from_residual-in_err-push-in-Line.ensures.0 (stop (codes " := ") (body_text (body_view c.args.text.now c.in-Line.of_line) ++ (codes " : " ++ (term_text (view c.in-Line.of)))) w1 c.in_err-push-in-Line.ensures)

pub returns-in_err-body-in-Line : goal.returns-in_err-body-in-Line
returns-in_err-body-in-Line c =
    let whole : List ℕ = kind_text (at_span c.args.text.now c.args.name) (kind_view c.args.text.now c.args.kind) in
    let w0 : Written c.args.out.now.items c.args.out.now.items (at_span c.args.text.now c.args.name ++ (codes " := " ++ (body_text (body_view c.args.text.now c.in-Line.of_line) ++ (codes " : " ++ (term_text (view c.in-Line.of)))))) whole = start (ap (λ k. kind_text (at_span c.args.text.now c.args.name) (kind_view c.args.text.now k)) c.in-Line.is ∙ simp append_assoc) in
    let w1 = step (at_span c.args.text.now c.args.name) (codes " := " ++ (body_text (body_view c.args.text.now c.in-Line.of_line) ++ (codes " : " ++ (term_text (view c.in-Line.of))))) w0 c.in_ok-push_span-in-Line.ensures in
    let w2 = step (codes " := ") (body_text (body_view c.args.text.now c.in-Line.of_line) ++ (codes " : " ++ (term_text (view c.in-Line.of)))) w1 c.in_ok-push-in-Line.ensures in
    exits _ c.from_residual-in_err-body-in-Line.ensures.0 (stop (body_text (body_view c.args.text.now c.in-Line.of_line)) (codes " : " ++ (term_text (view c.in-Line.of))) w2 c.in_err-body-in-Line.ensures)

pub returns-in_err-push-in-Line-2 : goal.returns-in_err-push-in-Line-2
returns-in_err-push-in-Line-2 c =
    let whole : List ℕ = kind_text (at_span c.args.text.now c.args.name) (kind_view c.args.text.now c.args.kind) in
    let w0 : Written c.args.out.now.items c.args.out.now.items (at_span c.args.text.now c.args.name ++ (codes " := " ++ (body_text (body_view c.args.text.now c.in-Line.of_line) ++ (codes " : " ++ (term_text (view c.in-Line.of)))))) whole = start (ap (λ k. kind_text (at_span c.args.text.now c.args.name) (kind_view c.args.text.now k)) c.in-Line.is ∙ simp append_assoc) in
    let w1 = step (at_span c.args.text.now c.args.name) (codes " := " ++ (body_text (body_view c.args.text.now c.in-Line.of_line) ++ (codes " : " ++ (term_text (view c.in-Line.of))))) w0 c.in_ok-push_span-in-Line.ensures in
    let w2 = step (codes " := ") (body_text (body_view c.args.text.now c.in-Line.of_line) ++ (codes " : " ++ (term_text (view c.in-Line.of)))) w1 c.in_ok-push-in-Line.ensures in
    let w3 = step (body_text (body_view c.args.text.now c.in-Line.of_line)) (codes " : " ++ (term_text (view c.in-Line.of))) w2 c.in_ok-body-in-Line.ensures in
    exits _ c.from_residual-in_err-push-in-Line-2.ensures.0 (stop (codes " : ") (term_text (view c.in-Line.of)) w3 c.in_err-push-in-Line-2.ensures)

pub returns-in_ok-push-in-Line-2 : goal.returns-in_ok-push-in-Line-2
returns-in_ok-push-in-Line-2 c =
    let whole : List ℕ = kind_text (at_span c.args.text.now c.args.name) (kind_view c.args.text.now c.args.kind) in
    let w0 : Written c.args.out.now.items c.args.out.now.items (at_span c.args.text.now c.args.name ++ (codes " := " ++ (body_text (body_view c.args.text.now c.in-Line.of_line) ++ (codes " : " ++ (term_text (view c.in-Line.of)))))) whole = start (ap (λ k. kind_text (at_span c.args.text.now c.args.name) (kind_view c.args.text.now k)) c.in-Line.is ∙ simp append_assoc) in
    let w1 = step (at_span c.args.text.now c.args.name) (codes " := " ++ (body_text (body_view c.args.text.now c.in-Line.of_line) ++ (codes " : " ++ (term_text (view c.in-Line.of))))) w0 c.in_ok-push_span-in-Line.ensures in
    let w2 = step (codes " := ") (body_text (body_view c.args.text.now c.in-Line.of_line) ++ (codes " : " ++ (term_text (view c.in-Line.of)))) w1 c.in_ok-push-in-Line.ensures in
    let w3 = step (body_text (body_view c.args.text.now c.in-Line.of_line)) (codes " : " ++ (term_text (view c.in-Line.of))) w2 c.in_ok-body-in-Line.ensures in
    let w4 = step (codes " : ") (term_text (view c.in-Line.of)) w3 c.in_ok-push-in-Line-2.ensures in
    last c.term-in-Line.new.out.items (term_text (view c.in-Line.of)) c.term-in-Line.result w4 c.term-in-Line.ensures
