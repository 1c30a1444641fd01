use Rattle.std.proofs.Common.{◌++◌, codes, ℕ, List, ap, ◌∙◌, append_assoc}
use Rattle.fb_parse.specs.View.{view, views}
use Rattle.fb_parse.specs.ItemView.{at_span, args_view, body_view}
use Rattle.fb_write.specs.Canonical.{term_text, terms_text, filling_text, body_text}
use Rattle.fb_write.proofs.Written.{Written, start, step, stop, exits, last}
use Rattle.fb_write.proofs.item.body.Goals as goal

pub returns-in_err-push-in-Intro : goal.returns-in_err-push-in-Intro
returns-in_err-push-in-Intro c =
    let whole : List ℕ = body_text (body_view c.args.text.now c.args.body) in
    let w0 : Written c.args.out.now.items c.args.out.now.items (codes "by intro " ++ (at_span c.args.text.now c.in-Intro.name)) whole = start (ap (λ b. body_text (body_view c.args.text.now b)) c.in-Intro.is) in
    exits _ c.from_residual.ensures.0 (stop (codes "by intro ") (at_span c.args.text.now c.in-Intro.name) w0 c.in_err-push-in-Intro.ensures)

pub returns-in_err-push-in-Elim : goal.returns-in_err-push-in-Elim
returns-in_err-push-in-Elim c =
    let whole : List ℕ = body_text (body_view c.args.text.now c.args.body) in
    let w0 : Written c.args.out.now.items c.args.out.now.items (codes "by elim " ++ (terms_text (views c.in-Elim.parts.now))) whole = start (ap (λ b. body_text (body_view c.args.text.now b)) c.in-Elim.is) in
    exits _ c.from_residual-in_err-push-in-Elim.ensures.0 (stop (codes "by elim ") (terms_text (views c.in-Elim.parts.now)) w0 c.in_err-push-in-Elim.ensures)

pub returns-in_err-push-in-Same : goal.returns-in_err-push-in-Same
returns-in_err-push-in-Same c =
    let whole : List ℕ = body_text (body_view c.args.text.now c.args.body) in
    let w0 : Written c.args.out.now.items c.args.out.now.items (codes "by same " ++ (term_text (view c.in-Same.tree))) whole = start (ap (λ b. body_text (body_view c.args.text.now b)) c.in-Same.is) in
    exits _ c.from_residual-in_err-push-in-Same.ensures.0 (stop (codes "by same ") (term_text (view c.in-Same.tree)) w0 c.in_err-push-in-Same.ensures)

pub returns-in_err-push-in-Fill : goal.returns-in_err-push-in-Fill
returns-in_err-push-in-Fill c =
    let whole : List ℕ = body_text (body_view c.args.text.now c.args.body) in
    let w0 : Written c.args.out.now.items c.args.out.now.items (codes "by use " ++ (at_span c.args.text.now c.in-Fill.name ++ (filling_text (args_view c.in-Fill.args.now)))) whole = start (ap (λ b. body_text (body_view c.args.text.now b)) c.in-Fill.is ∙ simp append_assoc) in
    exits _ c.from_residual-in_err-push-in-Fill.ensures.0 (stop (codes "by use ") (at_span c.args.text.now c.in-Fill.name ++ (filling_text (args_view c.in-Fill.args.now))) w0 c.in_err-push-in-Fill.ensures)

pub returns-in_err-push_span-in-Fill : goal.returns-in_err-push_span-in-Fill
returns-in_err-push_span-in-Fill c =
    let whole : List ℕ = body_text (body_view c.args.text.now c.args.body) in
    let w0 : Written c.args.out.now.items c.args.out.now.items (codes "by use " ++ (at_span c.args.text.now c.in-Fill.name ++ (filling_text (args_view c.in-Fill.args.now)))) whole = start (ap (λ b. body_text (body_view c.args.text.now b)) c.in-Fill.is ∙ simp append_assoc) in
    let w1 = step (codes "by use ") (at_span c.args.text.now c.in-Fill.name ++ (filling_text (args_view c.in-Fill.args.now))) w0 c.in_ok-push-in-Fill.ensures in
    exits _ c.from_residual-in_err-push_span-in-Fill.ensures.0 (stop (at_span c.args.text.now c.in-Fill.name) (filling_text (args_view c.in-Fill.args.now)) w1 c.in_err-push_span-in-Fill.ensures)

pub returns-in_ok-push_span-in-Fill : goal.returns-in_ok-push_span-in-Fill
returns-in_ok-push_span-in-Fill c =
    let whole : List ℕ = body_text (body_view c.args.text.now c.args.body) in
    let w0 : Written c.args.out.now.items c.args.out.now.items (codes "by use " ++ (at_span c.args.text.now c.in-Fill.name ++ (filling_text (args_view c.in-Fill.args.now)))) whole = start (ap (λ b. body_text (body_view c.args.text.now b)) c.in-Fill.is ∙ simp append_assoc) in
    let w1 = step (codes "by use ") (at_span c.args.text.now c.in-Fill.name ++ (filling_text (args_view c.in-Fill.args.now))) w0 c.in_ok-push-in-Fill.ensures in
    let w2 = step (at_span c.args.text.now c.in-Fill.name) (filling_text (args_view c.in-Fill.args.now)) w1 c.in_ok-push_span-in-Fill.ensures in
    last c.filling.new.out.items (filling_text (args_view c.in-Fill.args.now)) c.filling.result w2 c.filling.ensures
