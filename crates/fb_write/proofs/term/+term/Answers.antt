use Rattle.std.proofs.Common.{◌++◌, codes, ℕ, ◌+◌, false, List, drop, refl, ap, sym, append_assoc}
use Rattle.fb_parse.specs.View.{view, views}
use Rattle.fb_write.specs.Canonical.{is_compound, in_parentheses, term_text, terms_text, arguments_text}
use Rattle.fb_write.specs.Writing.{comma, terms_from}
use Rattle.fb_write.proofs.Written.{Written, start, step, stop, exits, last, inst_text, apply_text, fun_text, all_text, arrow_text, terms_go_on, terms_end, arguments_go_on, arguments_end}
use Rattle.fb_write.proofs.term.+term.Goals as goal

pub term-returns-in_err-push-in-Inst : goal.term-returns-in_err-push-in-Inst
term-returns-in_err-push-in-Inst t c =
    let whole : List ℕ = term_text (view c.args.tree) in
    let w0 : Written c.args.out.now.items c.args.out.now.items (c.in-Inst.name.now ++ (codes "(" ++ (terms_text (views c.in-Inst.args.now) ++ (codes ")")))) whole = start (inst_text c.args.tree c.in-Inst.name c.in-Inst.args c.in-Inst.is) in
    exits _ c.from_residual.ensures.0 (stop (c.in-Inst.name.now) (codes "(" ++ (terms_text (views c.in-Inst.args.now) ++ (codes ")"))) w0 c.in_err-push-in-Inst.ensures)

pub term-returns-in_err-push-in-Inst-2 : goal.term-returns-in_err-push-in-Inst-2
term-returns-in_err-push-in-Inst-2 t c =
    let whole : List ℕ = term_text (view c.args.tree) in
    let w0 : Written c.args.out.now.items c.args.out.now.items (c.in-Inst.name.now ++ (codes "(" ++ (terms_text (views c.in-Inst.args.now) ++ (codes ")")))) whole = start (inst_text c.args.tree c.in-Inst.name c.in-Inst.args c.in-Inst.is) in
    let w1 = step (c.in-Inst.name.now) (codes "(" ++ (terms_text (views c.in-Inst.args.now) ++ (codes ")"))) w0 c.in_ok-push-in-Inst.ensures in
    exits _ c.from_residual-in_err-push-in-Inst-2.ensures.0 (stop (codes "(") (terms_text (views c.in-Inst.args.now) ++ (codes ")")) w1 c.in_err-push-in-Inst-2.ensures)

pub term-returns-in_err-terms-in-Inst : goal.term-returns-in_err-terms-in-Inst
term-returns-in_err-terms-in-Inst t c =
    let whole : List ℕ = term_text (view c.args.tree) in
    let w0 : Written c.args.out.now.items c.args.out.now.items (c.in-Inst.name.now ++ (codes "(" ++ (terms_text (views c.in-Inst.args.now) ++ (codes ")")))) whole = start (inst_text c.args.tree c.in-Inst.name c.in-Inst.args c.in-Inst.is) in
    let w1 = step (c.in-Inst.name.now) (codes "(" ++ (terms_text (views c.in-Inst.args.now) ++ (codes ")"))) w0 c.in_ok-push-in-Inst.ensures in
    let w2 = step (codes "(") (terms_text (views c.in-Inst.args.now) ++ (codes ")")) w1 c.in_ok-push-in-Inst-2.ensures in
    exits _ c.from_residual-in_err-terms-in-Inst.ensures.0 (stop (terms_text (views c.in-Inst.args.now)) (codes ")") w2 c.in_err-terms-in-Inst.ensures)

pub term-returns-in_ok-terms-in-Inst : goal.term-returns-in_ok-terms-in-Inst
term-returns-in_ok-terms-in-Inst t c =
    let whole : List ℕ = term_text (view c.args.tree) in
    let w0 : Written c.args.out.now.items c.args.out.now.items (c.in-Inst.name.now ++ (codes "(" ++ (terms_text (views c.in-Inst.args.now) ++ (codes ")")))) whole = start (inst_text c.args.tree c.in-Inst.name c.in-Inst.args c.in-Inst.is) in
    let w1 = step (c.in-Inst.name.now) (codes "(" ++ (terms_text (views c.in-Inst.args.now) ++ (codes ")"))) w0 c.in_ok-push-in-Inst.ensures in
    let w2 = step (codes "(") (terms_text (views c.in-Inst.args.now) ++ (codes ")")) w1 c.in_ok-push-in-Inst-2.ensures in
    let w3 = step (terms_text (views c.in-Inst.args.now)) (codes ")") w2 c.in_ok-terms-in-Inst.ensures in
    last c.push-in-Inst-3.new.out.items (codes ")") c.push-in-Inst-3.result w3 c.push-in-Inst-3.ensures

pub term-returns-in_err-part-in-Apply : goal.term-returns-in_err-part-in-Apply
term-returns-in_err-part-in-Apply t c =
    let whole : List ℕ = term_text (view c.args.tree) in
    let w0 : Written c.args.out.now.items c.args.out.now.items (in_parentheses c.is_compound.result (term_text (view c.in-Apply.head)) ++ (arguments_text (views c.in-Apply.args.now))) whole = start (apply_text c.args.tree c.in-Apply.head c.in-Apply.args c.is_compound.result c.in-Apply.is c.is_compound.ensures) in
    exits _ c.from_residual-in_err-part-in-Apply.ensures.0 (stop (in_parentheses c.is_compound.result (term_text (view c.in-Apply.head))) (arguments_text (views c.in-Apply.args.now)) w0 c.in_err-part-in-Apply.ensures)

pub term-returns-in_ok-part-in-Apply : goal.term-returns-in_ok-part-in-Apply
term-returns-in_ok-part-in-Apply t c =
    let whole : List ℕ = term_text (view c.args.tree) in
    let w0 : Written c.args.out.now.items c.args.out.now.items (in_parentheses c.is_compound.result (term_text (view c.in-Apply.head)) ++ (arguments_text (views c.in-Apply.args.now))) whole = start (apply_text c.args.tree c.in-Apply.head c.in-Apply.args c.is_compound.result c.in-Apply.is c.is_compound.ensures) in
    let w1 = step (in_parentheses c.is_compound.result (term_text (view c.in-Apply.head))) (arguments_text (views c.in-Apply.args.now)) w0 c.in_ok-part-in-Apply.ensures in
    last c.arguments.new.out.items (arguments_text (views c.in-Apply.args.now)) c.arguments.result w1 c.arguments.ensures

pub term-returns-in_err-binder-in-Fun : goal.term-returns-in_err-binder-in-Fun
term-returns-in_err-binder-in-Fun t c =
    let whole : List ℕ = term_text (view c.args.tree) in
    let w0 : Written c.args.out.now.items c.args.out.now.items (codes "fun " ++ c.in-Fun.name.now ++ codes " : " ++ term_text (view c.in-Fun.of) ++ codes " . " ++ (term_text (view c.in-Fun.body))) whole = start (fun_text c.args.tree c.in-Fun.name c.in-Fun.of c.in-Fun.body c.in-Fun.is) in
    exits _ c.from_residual-in_err-binder-in-Fun.ensures.0 (stop (codes "fun " ++ c.in-Fun.name.now ++ codes " : " ++ term_text (view c.in-Fun.of) ++ codes " . ") (term_text (view c.in-Fun.body)) w0 c.in_err-binder-in-Fun.ensures)

pub term-returns-in_ok-binder-in-Fun : goal.term-returns-in_ok-binder-in-Fun
term-returns-in_ok-binder-in-Fun t c =
    let whole : List ℕ = term_text (view c.args.tree) in
    let w0 : Written c.args.out.now.items c.args.out.now.items (codes "fun " ++ c.in-Fun.name.now ++ codes " : " ++ term_text (view c.in-Fun.of) ++ codes " . " ++ (term_text (view c.in-Fun.body))) whole = start (fun_text c.args.tree c.in-Fun.name c.in-Fun.of c.in-Fun.body c.in-Fun.is) in
    let w1 = step (codes "fun " ++ c.in-Fun.name.now ++ codes " : " ++ term_text (view c.in-Fun.of) ++ codes " . ") (term_text (view c.in-Fun.body)) w0 c.in_ok-binder-in-Fun.ensures in
    last c.term.new.out.items (term_text (view c.in-Fun.body)) c.term.result w1 c.term.ensures

pub term-returns-in_err-binder-in-All : goal.term-returns-in_err-binder-in-All
term-returns-in_err-binder-in-All t c =
    let whole : List ℕ = term_text (view c.args.tree) in
    let w0 : Written c.args.out.now.items c.args.out.now.items (codes "all " ++ c.in-All.name.now ++ codes " : " ++ term_text (view c.in-All.of) ++ codes " . " ++ (term_text (view c.in-All.range))) whole = start (all_text c.args.tree c.in-All.name c.in-All.of c.in-All.range c.in-All.is) in
    exits _ c.from_residual-in_err-binder-in-All.ensures.0 (stop (codes "all " ++ c.in-All.name.now ++ codes " : " ++ term_text (view c.in-All.of) ++ codes " . ") (term_text (view c.in-All.range)) w0 c.in_err-binder-in-All.ensures)

pub term-returns-in_ok-binder-in-All : goal.term-returns-in_ok-binder-in-All
term-returns-in_ok-binder-in-All t c =
    let whole : List ℕ = term_text (view c.args.tree) in
    let w0 : Written c.args.out.now.items c.args.out.now.items (codes "all " ++ c.in-All.name.now ++ codes " : " ++ term_text (view c.in-All.of) ++ codes " . " ++ (term_text (view c.in-All.range))) whole = start (all_text c.args.tree c.in-All.name c.in-All.of c.in-All.range c.in-All.is) in
    let w1 = step (codes "all " ++ c.in-All.name.now ++ codes " : " ++ term_text (view c.in-All.of) ++ codes " . ") (term_text (view c.in-All.range)) w0 c.in_ok-binder-in-All.ensures in
    last c.term-in-All.new.out.items (term_text (view c.in-All.range)) c.term-in-All.result w1 c.term-in-All.ensures

pub term-returns-in_err-part-in-Arrow : goal.term-returns-in_err-part-in-Arrow
term-returns-in_err-part-in-Arrow t c =
    let whole : List ℕ = term_text (view c.args.tree) in
    let w0 : Written c.args.out.now.items c.args.out.now.items (in_parentheses c.is_open_ended.result (term_text (view c.in-Arrow.domain)) ++ (codes " -> " ++ (term_text (view c.in-Arrow.range)))) whole = start (arrow_text c.args.tree c.in-Arrow.domain c.in-Arrow.range c.is_open_ended.result c.in-Arrow.is c.is_open_ended.ensures) in
    exits _ c.from_residual-in_err-part-in-Arrow.ensures.0 (stop (in_parentheses c.is_open_ended.result (term_text (view c.in-Arrow.domain))) (codes " -> " ++ (term_text (view c.in-Arrow.range))) w0 c.in_err-part-in-Arrow.ensures)

pub term-returns-in_err-push-in-Arrow : goal.term-returns-in_err-push-in-Arrow
term-returns-in_err-push-in-Arrow t c =
    let whole : List ℕ = term_text (view c.args.tree) in
    let w0 : Written c.args.out.now.items c.args.out.now.items (in_parentheses c.is_open_ended.result (term_text (view c.in-Arrow.domain)) ++ (codes " -> " ++ (term_text (view c.in-Arrow.range)))) whole = start (arrow_text c.args.tree c.in-Arrow.domain c.in-Arrow.range c.is_open_ended.result c.in-Arrow.is c.is_open_ended.ensures) in
    let w1 = step (in_parentheses c.is_open_ended.result (term_text (view c.in-Arrow.domain))) (codes " -> " ++ (term_text (view c.in-Arrow.range))) w0 c.in_ok-part-in-Arrow.ensures in
    exits _ c.from_residual-in_err-push-in-Arrow.ensures.0 (stop (codes " -> ") (term_text (view c.in-Arrow.range)) w1 c.in_err-push-in-Arrow.ensures)

pub term-returns-in_ok-push-in-Arrow : goal.term-returns-in_ok-push-in-Arrow
term-returns-in_ok-push-in-Arrow t c =
    let whole : List ℕ = term_text (view c.args.tree) in
    let w0 : Written c.args.out.now.items c.args.out.now.items (in_parentheses c.is_open_ended.result (term_text (view c.in-Arrow.domain)) ++ (codes " -> " ++ (term_text (view c.in-Arrow.range)))) whole = start (arrow_text c.args.tree c.in-Arrow.domain c.in-Arrow.range c.is_open_ended.result c.in-Arrow.is c.is_open_ended.ensures) in
    let w1 = step (in_parentheses c.is_open_ended.result (term_text (view c.in-Arrow.domain))) (codes " -> " ++ (term_text (view c.in-Arrow.range))) w0 c.in_ok-part-in-Arrow.ensures in
    let w2 = step (codes " -> ") (term_text (view c.in-Arrow.range)) w1 c.in_ok-push-in-Arrow.ensures in
    last c.term-in-Arrow.new.out.items (term_text (view c.in-Arrow.range)) c.term-in-Arrow.result w2 c.term-in-Arrow.ensures

pub binder-returns-in_err-push : goal.binder-returns-in_err-push
binder-returns-in_err-push t c =
    let whole : List ℕ = c.args.word.now ++ c.args.name.now ++ codes " : " ++ term_text (view c.args.of) ++ codes " . " in
    let w0 : Written c.args.out.now.items c.args.out.now.items (c.args.word.now ++ (c.args.name.now ++ (codes " : " ++ (term_text (view c.args.of) ++ (codes " . "))))) whole = start (simp append_assoc) in
    exits _ c.from_residual.ensures.0 (stop (c.args.word.now) (c.args.name.now ++ (codes " : " ++ (term_text (view c.args.of) ++ (codes " . ")))) w0 c.in_err-push.ensures)

pub binder-returns-in_err-push-2 : goal.binder-returns-in_err-push-2
binder-returns-in_err-push-2 t c =
    let whole : List ℕ = c.args.word.now ++ c.args.name.now ++ codes " : " ++ term_text (view c.args.of) ++ codes " . " in
    let w0 : Written c.args.out.now.items c.args.out.now.items (c.args.word.now ++ (c.args.name.now ++ (codes " : " ++ (term_text (view c.args.of) ++ (codes " . "))))) whole = start (simp append_assoc) in
    let w1 = step (c.args.word.now) (c.args.name.now ++ (codes " : " ++ (term_text (view c.args.of) ++ (codes " . ")))) w0 c.in_ok-push.ensures in
    exits _ c.from_residual-in_err-push-2.ensures.0 (stop (c.args.name.now) (codes " : " ++ (term_text (view c.args.of) ++ (codes " . "))) w1 c.in_err-push-2.ensures)

pub binder-returns-in_err-push-3 : goal.binder-returns-in_err-push-3
binder-returns-in_err-push-3 t c =
    let whole : List ℕ = c.args.word.now ++ c.args.name.now ++ codes " : " ++ term_text (view c.args.of) ++ codes " . " in
    let w0 : Written c.args.out.now.items c.args.out.now.items (c.args.word.now ++ (c.args.name.now ++ (codes " : " ++ (term_text (view c.args.of) ++ (codes " . "))))) whole = start (simp append_assoc) in
    let w1 = step (c.args.word.now) (c.args.name.now ++ (codes " : " ++ (term_text (view c.args.of) ++ (codes " . ")))) w0 c.in_ok-push.ensures in
    let w2 = step (c.args.name.now) (codes " : " ++ (term_text (view c.args.of) ++ (codes " . "))) w1 c.in_ok-push-2.ensures in
    exits _ c.from_residual-in_err-push-3.ensures.0 (stop (codes " : ") (term_text (view c.args.of) ++ (codes " . ")) w2 c.in_err-push-3.ensures)

pub binder-returns-in_err-term : goal.binder-returns-in_err-term
binder-returns-in_err-term t c =
    let whole : List ℕ = c.args.word.now ++ c.args.name.now ++ codes " : " ++ term_text (view c.args.of) ++ codes " . " in
    let w0 : Written c.args.out.now.items c.args.out.now.items (c.args.word.now ++ (c.args.name.now ++ (codes " : " ++ (term_text (view c.args.of) ++ (codes " . "))))) whole = start (simp append_assoc) in
    let w1 = step (c.args.word.now) (c.args.name.now ++ (codes " : " ++ (term_text (view c.args.of) ++ (codes " . ")))) w0 c.in_ok-push.ensures in
    let w2 = step (c.args.name.now) (codes " : " ++ (term_text (view c.args.of) ++ (codes " . "))) w1 c.in_ok-push-2.ensures in
    let w3 = step (codes " : ") (term_text (view c.args.of) ++ (codes " . ")) w2 c.in_ok-push-3.ensures in
    exits _ c.from_residual-in_err-term.ensures.0 (stop (term_text (view c.args.of)) (codes " . ") w3 c.in_err-term.ensures)

pub binder-returns : goal.binder-returns
binder-returns t c =
    let whole : List ℕ = c.args.word.now ++ c.args.name.now ++ codes " : " ++ term_text (view c.args.of) ++ codes " . " in
    let w0 : Written c.args.out.now.items c.args.out.now.items (c.args.word.now ++ (c.args.name.now ++ (codes " : " ++ (term_text (view c.args.of) ++ (codes " . "))))) whole = start (simp append_assoc) in
    let w1 = step (c.args.word.now) (c.args.name.now ++ (codes " : " ++ (term_text (view c.args.of) ++ (codes " . ")))) w0 c.in_ok-push.ensures in
    let w2 = step (c.args.name.now) (codes " : " ++ (term_text (view c.args.of) ++ (codes " . "))) w1 c.in_ok-push-2.ensures in
    let w3 = step (codes " : ") (term_text (view c.args.of) ++ (codes " . ")) w2 c.in_ok-push-3.ensures in
    let w4 = step (term_text (view c.args.of)) (codes " . ") w3 c.in_ok-term.ensures in
    last c.push-4.new.out.items (codes " . ") c.push-4.result w4 c.push-4.ensures

pub part-returns-in_err-push : goal.part-returns-in_err-push
part-returns-in_err-push t c =
    let whole : List ℕ = in_parentheses c.args.enclosed (term_text (view c.args.tree)) in
    let w0 : Written c.args.out.now.items c.args.out.now.items (codes "(" ++ (term_text (view c.args.tree) ++ (codes ")"))) whole = start (ap (λ b. in_parentheses b (term_text (view c.args.tree))) c.if-not-enclosed.false) in
    exits _ c.from_residual.ensures.0 (stop (codes "(") (term_text (view c.args.tree) ++ (codes ")")) w0 c.in_err-push.ensures)

pub part-returns-in_err-term : goal.part-returns-in_err-term
part-returns-in_err-term t c =
    let whole : List ℕ = in_parentheses c.args.enclosed (term_text (view c.args.tree)) in
    let w0 : Written c.args.out.now.items c.args.out.now.items (codes "(" ++ (term_text (view c.args.tree) ++ (codes ")"))) whole = start (ap (λ b. in_parentheses b (term_text (view c.args.tree))) c.if-not-enclosed.false) in
    let w1 = step (codes "(") (term_text (view c.args.tree) ++ (codes ")")) w0 c.in_ok-push.ensures in
    exits _ c.from_residual-in_err-term.ensures.0 (stop (term_text (view c.args.tree)) (codes ")") w1 c.in_err-term.ensures)

pub part-returns : goal.part-returns
part-returns t c =
    let whole : List ℕ = in_parentheses c.args.enclosed (term_text (view c.args.tree)) in
    let w0 : Written c.args.out.now.items c.args.out.now.items (codes "(" ++ (term_text (view c.args.tree) ++ (codes ")"))) whole = start (ap (λ b. in_parentheses b (term_text (view c.args.tree))) c.if-not-enclosed.false) in
    let w1 = step (codes "(") (term_text (view c.args.tree) ++ (codes ")")) w0 c.in_ok-push.ensures in
    let w2 = step (term_text (view c.args.tree)) (codes ")") w1 c.in_ok-term.ensures in
    last c.push-2.new.out.items (codes ")") c.push-2.result w2 c.push-2.ensures

pub listed-returns-in_err-push_comma : goal.listed-returns-in_err-push_comma
listed-returns-in_err-push_comma t c =
    let whole : List ℕ = comma c.args.first ++ term_text (view c.args.tree) in
    let w0 : Written c.args.out.now.items c.args.out.now.items (comma c.args.first ++ (term_text (view c.args.tree))) whole = start (refl) in
    exits _ c.from_residual.ensures.0 (stop (comma c.args.first) (term_text (view c.args.tree)) w0 c.in_err-push_comma.ensures)

pub listed-returns : goal.listed-returns
listed-returns t c =
    let whole : List ℕ = comma c.args.first ++ term_text (view c.args.tree) in
    let w0 : Written c.args.out.now.items c.args.out.now.items (comma c.args.first ++ (term_text (view c.args.tree))) whole = start (refl) in
    let w1 = step (comma c.args.first) (term_text (view c.args.tree)) w0 c.in_ok-push_comma.ensures in
    last c.term.new.out.items (term_text (view c.args.tree)) c.term.result w1 c.term.ensures

pub argument-returns-in_err-push : goal.argument-returns-in_err-push
argument-returns-in_err-push t c =
    let part = in_parentheses (is_compound (view c.args.tree)) (term_text (view c.args.tree)) in
    let w0 : Written c.args.out.now.items c.args.out.now.items (codes " " ++ part) (codes " " ++ part) = start refl in
    exits _ c.from_residual.ensures.0 (stop (codes " ") part w0 c.in_err-push.ensures)

pub argument-returns : goal.argument-returns
argument-returns t c =
    let whole : List ℕ = codes " " ++ in_parentheses (is_compound (view c.args.tree)) (term_text (view c.args.tree)) in
    let w0 : Written c.args.out.now.items c.args.out.now.items (codes " " ++ (in_parentheses c.is_compound.result (term_text (view c.args.tree)))) whole = start (ap (λ b. codes " " ++ in_parentheses b (term_text (view c.args.tree))) (sym c.is_compound.ensures)) in
    let w1 = step (codes " ") (in_parentheses c.is_compound.result (term_text (view c.args.tree))) w0 c.in_ok-push.ensures in
    last c.part.new.out.items (in_parentheses c.is_compound.result (term_text (view c.args.tree))) c.part.result w1 c.part.ensures

pub terms-loop-arg-init : goal.terms-loop-arg-init
terms-loop-arg-init t c = start refl

pub terms-returns-in_err-listed : goal.terms-returns-in_err-listed
terms-returns-in_err-listed t c =
    let l = c.loop-arg in
    let a = c.arg-item.result in
    let w = terms_go_on l.first c.args.args.now l.arg-index a c.loop-arg-test.true c.arg-item.is l.invariant in
    exits _ c.from_residual.ensures.0 (stop (comma l.first ++ term_text (view a)) (terms_from false (views (drop (l.arg-index + 1) c.args.args.now))) w c.in_err-listed.ensures)

pub terms-loop-arg-preserved : goal.terms-loop-arg-preserved
terms-loop-arg-preserved t c =
    let l = c.loop-arg in
    let a = c.arg-item.result in
    let w = terms_go_on l.first c.args.args.now l.arg-index a c.loop-arg-test.true c.arg-item.is l.invariant in
    step (comma l.first ++ term_text (view a)) (terms_from false (views (drop (l.arg-index + 1) c.args.args.now))) w c.in_ok-listed.ensures

pub terms-returns : goal.terms-returns
terms-returns t c = terms_end c.loop-arg.first c.args.args.now c.loop-arg.arg-index c.loop-arg-test.false c.loop-arg.invariant

pub arguments-loop-arg-init : goal.arguments-loop-arg-init
arguments-loop-arg-init t c = start refl

pub arguments-returns-in_err-argument : goal.arguments-returns-in_err-argument
arguments-returns-in_err-argument t c =
    let l = c.loop-arg in
    let a = c.arg-item.result in
    let w = arguments_go_on c.args.args.now l.arg-index a c.loop-arg-test.true c.arg-item.is l.invariant in
    exits _ c.from_residual.ensures.0 (stop (codes " " ++ in_parentheses (is_compound (view a)) (term_text (view a))) (arguments_text (views (drop (l.arg-index + 1) c.args.args.now))) w c.in_err-argument.ensures)

pub arguments-loop-arg-preserved : goal.arguments-loop-arg-preserved
arguments-loop-arg-preserved t c =
    let l = c.loop-arg in
    let a = c.arg-item.result in
    let w = arguments_go_on c.args.args.now l.arg-index a c.loop-arg-test.true c.arg-item.is l.invariant in
    step (codes " " ++ in_parentheses (is_compound (view a)) (term_text (view a))) (arguments_text (views (drop (l.arg-index + 1) c.args.args.now))) w c.in_ok-argument.ensures

pub arguments-returns : goal.arguments-returns
arguments-returns t c = arguments_end c.args.args.now c.loop-arg.arg-index c.loop-arg-test.false c.loop-arg.invariant
