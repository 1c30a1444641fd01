use Rattle.std.proofs.Common.{rules, ◌≤◌, map, length, ap, sym, subst, ◌∙◌, arith, refl, List}
use Rattle.ld_terms.specs.Item.{tree}
use Rattle.ld_terms.specs.Bank.{tree_at, list_at}
use Rattle.ld_terms.specs.Tree.{App}
use Rattle.ld_terms.specs.Known.{bound_at, greatest}
use Rattle.ld_record.specs.declared.record.EqId.{EqId}
use Rattle.ld_record.specs.Equal.{eq_numbers_of, ByConst}
use Rattle.ld_record.specs.declared.record.EqStep.TheVariants as step
use Rattle.ld_record.specs.Kept.{known_of}
use Rattle.ld_reduce.proofs.Going.{goes_trans, equates_later}
use Rattle.ld_convert.specs.Apart.{parts_of}
use Rattle.ld_convert.proofs.Gathering.{lambda_parts, product_parts}
use Rattle.ld_convert.proofs.Congruent.{function_named, spine_last, by_two, two_of, const_follows, kept_ok, fits_here, two_bounded, all_bounded, right_is}
use Rattle.ld_convert.proofs.whole.+congruence.Goals as goal

pub congruence-requires : goal.congruence-requires
congruence-requires t c =
    let items = c.args.bank.now in
    let known = known_of items c.args.deriv.now in
    let x = c.in-App-App in
    let left = sym (ap tree x.ensures.tree) in
    let h = spine_last known c.args.equals.items c.pop.new.self.items c.in-Some.last (tree_at items c.args.a) (tree_at items c.args.b) (tree_at items x.f) (tree_at items x.g) (tree_at items x.field-1-0) (tree_at items x.field-1-1)
    left (sym (ap tree x.ensures'.tree)) c.in-Some.ensures.items c.requires.same in
    (search rules, (c.requires.sound, (x.ensures.parts.0, (x.ensures'.parts.0, (function_named known (tree_at items c.args.a) (tree_at items x.f) (tree_at items x.field-1-0) left c.requires.named, h.parts)))))

pub emit_eq-requires-clause-fits : goal.emit_eq-requires-clause-fits
emit_eq-requires-clause-fits t c =
    let items = c.args.bank.now in
    let known = known_of items c.args.deriv.now in
    let later = known_of items c.congruence.new.deriv in
    let x = c.in-App-App in
    let left = sym (ap tree x.ensures.tree) in
    let right = sym (ap tree x.ensures'.tree) in
    let h = spine_last known c.args.equals.items c.pop.new.self.items c.in-Some.last (tree_at items c.args.a) (tree_at items c.args.b) (tree_at items x.f) (tree_at items x.g) (tree_at items x.field-1-0) (tree_at items x.field-1-1)
    left right c.in-Some.ensures.items c.requires.same in
    fits_here items later c.args.a c.args.b (step.App c.in_ok-first-in-App-App.first c.in-Some.last) c.requires.first c.requires.second
    (by_two later App (tree_at items c.args.a) (tree_at items c.args.b) (tree_at items x.f) (tree_at items x.g) (tree_at items x.field-1-0) (tree_at items x.field-1-1) c.in_ok-first-in-App-App.first c.in-Some.last _ _
    left right c.in_ok-first-in-App-App.ensures.equal (equates_later known later c.in-Some.last (tree_at items x.field-1-0) (tree_at items x.field-1-1) (length known.env) c.congruence.ensures.goes.adds h.equal))

pub two-requires : goal.two-requires
two-requires t c =
    let items = c.args.bank.now in
    let known = known_of items c.args.deriv.now in
    let x = c.in-Lam-Lam in
    ap length c.deref.ensures.value
    ∙ two_of known c.args.equals.items (parts_of (tree_at items c.args.a) (tree_at items c.args.b)) _ _ c.requires.same
    (lambda_parts items c.args.a c.args.b x.field-0-0 x.field-1-0 x.field-0-1 x.field-1-1 (right_is items c.args.a _ _ x.is-0 c.node.ensures.tree) (right_is items c.args.b _ _ x.is-1 c.node-2.ensures.tree))

pub two-requires-in-Pi-Pi : goal.two-requires-in-Pi-Pi
two-requires-in-Pi-Pi t c =
    let items = c.args.bank.now in
    let known = known_of items c.args.deriv.now in
    let x = c.in-Pi-Pi in
    ap length c.deref-in-Pi-Pi.ensures.value
    ∙ two_of known c.args.equals.items (parts_of (tree_at items c.args.a) (tree_at items c.args.b)) _ _ c.requires.same
    (product_parts items c.args.a c.args.b x.field-0-0 x.field-1-0 x.field-0-1 x.field-1-1 (right_is items c.args.a _ _ x.is-0 c.node.ensures.tree) (right_is items c.args.b _ _ x.is-1 c.node-2.ensures.tree))

pub emit_eq-requires-in-Const-Const-clause-fits : goal.emit_eq-requires-in-Const-Const-clause-fits
emit_eq-requires-in-Const-Const-clause-fits t c =
    let items = c.args.bank.now in
    let known = known_of items c.args.deriv.now in
    let x = c.in-Const-Const in
    let P : List EqId → Type 0 = λ es. ByConst known (tree_at items c.args.a) (tree_at items c.args.b) es in
    fits_here items known c.args.a c.args.b (step.Const c.from_vec.result) c.requires.first c.requires.second
    (subst P (sym c.from_vec.ensures)
    (const_follows known c.args.equals.items (tree_at items c.args.a) (tree_at items c.args.b) x.field-0-0 x.field-0-1 (list_at items x.field-1-0) (list_at items x.field-1-1)
    (sym (ap tree (right_is items c.args.a _ _ x.is-0 c.node.ensures.tree))) (sym (ap tree (right_is items c.args.b _ _ x.is-1 c.node-2.ensures.tree))) c.requires.named c.requires.same))

pub returns-in_ok-first-in-App-App-clause-equal : goal.returns-in_ok-first-in-App-App-clause-equal
returns-in_ok-first-in-App-App-clause-equal t c =
    let items = c.args.bank.now in
    let known = known_of items c.args.deriv.now in
    let later = known_of items c.congruence.new.deriv in
    let x = c.in-App-App in
    let h = spine_last known c.args.equals.items c.pop.new.self.items c.in-Some.last (tree_at items c.args.a) (tree_at items c.args.b) (tree_at items x.f) (tree_at items x.g) (tree_at items x.field-1-0) (tree_at items x.field-1-1)
    (sym (ap tree x.ensures.tree)) (sym (ap tree x.ensures'.tree)) c.in-Some.ensures.items c.requires.same in
    kept_ok items later (known_of items c.emit_eq.new.self) c.args.a c.args.b (step.App c.in_ok-first-in-App-App.first c.in-Some.last) (length known.env) c.emit_eq.result c.requires.first c.requires.second c.emit_eq.ensures.number
    (two_bounded later c.in_ok-first-in-App-App.first c.in-Some.last _ _ _ _ (length known.env) c.in_ok-first-in-App-App.ensures.equal
    (equates_later known later c.in-Some.last (tree_at items x.field-1-0) (tree_at items x.field-1-1) (length known.env) c.congruence.ensures.goes.adds h.equal))

pub returns-in_ok-first-in-App-App-clause-goes : goal.returns-in_ok-first-in-App-App-clause-goes
returns-in_ok-first-in-App-App-clause-goes t c =
    goes_trans _ _ _ _ _ _ c.congruence.ensures.goes
    (record { extends = record { longer = omega arith; kept = λ t h. refl }; begins = c.emit_eq.ensures.begins; adds = c.emit_eq.ensures.adds; sound = c.emit_eq.ensures.sound })

pub returns-in-Const-Const-clause-equal : goal.returns-in-Const-Const-clause-equal
returns-in-Const-Const-clause-equal t c =
    let items = c.args.bank.now in
    let known = known_of items c.args.deriv.now in
    let same = c.requires.same in
    let P : List EqId → Type 0 = λ es. greatest (map (bound_at known) (eq_numbers_of es)) ≤ length known.env in
    kept_ok items known (known_of items c.emit_eq-in-Const-Const.new.self) c.args.a c.args.b (step.Const c.from_vec.result) (length known.env) c.emit_eq-in-Const-Const.result c.requires.first c.requires.second
    c.emit_eq-in-Const-Const.ensures.number (subst P (sym c.from_vec.ensures) (all_bounded known (length known.env) c.args.equals.items same.parts same.same))
