use Rattle.std.proofs.Common.{arith, ◌≡◌, ◌+◌, ◌-◌, [], ◌∷◌, ◌++◌, length, vec_len, ap, ◌∙◌, sym, subst}
use Rattle.std.proofs.lemmas.Result.{err_from_is_err_and}
use Rattle.std.proofs.lemmas.Grind.{common_steps}
use Rattle.fb_lex.specs.Tokens.{is_end}
use Rattle.fb_parse.specs.ItemView.{item_view, items_view, before_items}
use Rattle.fb_parse.specs.Lines.{LinesAre, LinesFail}
use Rattle.fb_parse.proofs.LineRules.{lines_end, pass_are, pass_fail, pass_fault, bar_passes, bar_back, line_passes, line_back, no_item, item_are, item_fail, left_within, left_some, before_items_push, before_items_none}
use Rattle.fb_parse.proofs.book.lines.Goals as goal

pub lines-init : goal.lines-init
lines-init c = record {
  stands = c.requires.stands;
  read = λ is h. subst (λ v. LinesAre c.args.text.now 0 c.args.first (before_items c.args.text.now v is)) (sym c.new-items.ensures.items) h;
  fails = λ f h. subst (λ n. LinesFail c.args.text.now 0 (100_000 - n) c.args.first f) c.new-items.ensures.len h;
  few = omega (arith, c.new-items.ensures.len);
  room = omega (arith, left_within c.args.text.now c.args.first);
}

pub advance-requires-clause-stands : goal.advance-requires-clause-stands
advance-requires-clause-stands c = c.lines.invariant.stands

pub returns-in_err-next-in-Bar : goal.returns-in_err-next-in-Bar
returns-in_err-next-in-Bar c =
    let p = err_from_is_err_and c.from_residual.result c.from_residual.ensures.1 in
    rw (p.1, p.2) (c.lines.invariant.fails _ (pass_fault _ (bar_passes c.args.text.now c.lines.next c.lines.bars c.in-Bar.is) (ap is_end c.in-Bar.is) c.in_err-next-in-Bar.ensures.next))

pub overflow_add-bars : goal.overflow_add-bars
overflow_add-bars c = let some = left_some c.args.text.now c.lines.next (ap is_end c.in-Bar.is) in omega (arith, some, c.lines.invariant.room, c.requires.short)

pub lines-preserved-in-Bar : goal.lines-preserved-in-Bar
lines-preserved-in-Bar c = record {
  stands = c.in_ok-next-in-Bar.ensures.stands;
  read = λ is h. c.lines.invariant.read is (pass_are (bar_passes c.args.text.now c.lines.next c.lines.bars c.in-Bar.is) (ap is_end c.in-Bar.is) c.in_ok-next-in-Bar.ensures.next h);
  fails = λ f h. c.lines.invariant.fails f (pass_fail (bar_passes c.args.text.now c.lines.next c.lines.bars c.in-Bar.is) (bar_back c.args.text.now c.lines.next c.lines.bars c.in-Bar.is) (ap is_end c.in-Bar.is) c.in_ok-next-in-Bar.ensures.next h);
  few = c.lines.invariant.few;
  room = omega (arith, c.lines.invariant.room, c.in_ok-next-in-Bar.ensures.later);
}

pub advance-requires-in-Newline-clause-stands : goal.advance-requires-in-Newline-clause-stands
advance-requires-in-Newline-clause-stands c = c.lines.invariant.stands

pub returns-in_err-next-in-Newline : goal.returns-in_err-next-in-Newline
returns-in_err-next-in-Newline c =
    let p = err_from_is_err_and c.from_residual-in_err-next-in-Newline.result c.from_residual-in_err-next-in-Newline.ensures.1 in
    rw (p.1, p.2) (c.lines.invariant.fails _ (pass_fault _ (line_passes c.args.text.now c.lines.next c.lines.bars c.in-Newline.is) (ap is_end c.in-Newline.is) c.in_err-next-in-Newline.ensures.next))

pub lines-preserved-in-Newline : goal.lines-preserved-in-Newline
lines-preserved-in-Newline c = record {
  stands = c.in_ok-next-in-Newline.ensures.stands;
  read = λ is h. c.lines.invariant.read is (pass_are (line_passes c.args.text.now c.lines.next c.lines.bars c.in-Newline.is) (ap is_end c.in-Newline.is) c.in_ok-next-in-Newline.ensures.next h);
  fails = λ f h. c.lines.invariant.fails f (pass_fail (line_passes c.args.text.now c.lines.next c.lines.bars c.in-Newline.is) (line_back c.args.text.now c.lines.next c.lines.bars c.in-Newline.is) (ap is_end c.in-Newline.is) c.in_ok-next-in-Newline.ensures.next h);
  few = c.lines.invariant.few;
  room = omega (arith, c.lines.invariant.room, c.in_ok-next-in-Newline.ensures.later);
}

pub returns-then-not-begins_item : goal.returns-then-not-begins_item
returns-then-not-begins_item c = c.lines.invariant.fails _ (no_item c.args.text.now c.lines.next c.lines.bars _ c.in_default.not-End c.in_default.not-Bar c.in_default.not-Newline (sym c.if-not-begins_item.ensures))

pub next_item-requires : goal.next_item-requires
next_item-requires c = record { stands = c.lines.invariant.stands; begins = sym c.if-not-begins_item.ensures; few = omega (arith, c.len.ensures, c.lines.invariant.few) }

pub returns-in_err-part-in_default : goal.returns-in_err-part-in_default
returns-in_err-part-in_default c =
    let p = err_from_is_err_and c.from_residual-in_err-part-in_default.result c.from_residual-in_err-part-in_default.ensures.1 in
    rw (p.1, p.2) (c.lines.invariant.fails _ (subst (λ n. LinesFail c.args.text.now c.lines.bars (100_000 - n) c.lines.next c.in_err-part-in_default.field-0.0) c.len.ensures c.in_err-part-in_default.ensures.read))

pub returns-then-is_err : goal.returns-then-is_err
returns-then-is_err c = LinesFail.memory

pub lines-preserved : goal.lines-preserved
lines-preserved c =
    let pushed : c.push.new.self.items ≡ c.lines.items.items ++ c.in_ok-part-in_default.part.item ∷ [] = grind (arith, common_steps) in
    let grown : vec_len c.push.new.self ≡ vec_len c.lines.items + 1 = grind (arith, common_steps) in
    let fewer : (100_000 - vec_len c.push.new.self) + 1 ≡ 100_000 - vec_len c.lines.items = omega (arith, grown, c.len.ensures, c.in_ok-part-in_default.ensures.room, c.lines.invariant.few) in
    record {
      stands = c.in_ok-part-in_default.ensures.stands;
      read = λ is h. subst (λ v. LinesAre c.args.text.now 0 c.args.first v)
          (sym (ap (λ w. before_items c.args.text.now w is) pushed ∙ before_items_push c.args.text.now c.lines.items.items c.in_ok-part-in_default.part.item is))
          (c.lines.invariant.read (item_view c.args.text.now c.in_ok-part-in_default.part.item ∷ is) (item_are c.in_ok-part-in_default.ensures.ended c.in_ok-part-in_default.ensures.read h));
      fails = λ f h. c.lines.invariant.fails f (subst (λ n. LinesFail c.args.text.now c.lines.bars n c.lines.next f) fewer (item_fail (sym c.if-not-begins_item.ensures) c.in_ok-part-in_default.ensures.ended c.in_ok-part-in_default.ensures.read h));
      few = omega (arith, grown, c.len.ensures, c.in_ok-part-in_default.ensures.room, c.lines.invariant.few);
      room = omega (arith, c.lines.invariant.room, c.in_ok-part-in_default.ensures.later);
    }

pub returns : goal.returns
returns c = (
  subst (λ v. LinesAre c.args.text.now 0 c.args.first v) (before_items_none c.args.text.now c.lines.items.items ∙ ap (items_view c.args.text.now) (sym c.into_bump_slice.ensures))
      (c.lines.invariant.read [] (lines_end c.args.text.now c.lines.next c.lines.bars c.in-End.is)),
  omega (arith, c.lines.invariant.few, ap length c.into_bump_slice.ensures, c.lines.items.ok),
)
