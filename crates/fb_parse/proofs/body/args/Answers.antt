use Rattle.std.proofs.Common.{rules, arith, ◌≡◌, ◌<◌, [], ◌∷◌, ◌++◌, ap, ◌∙◌, sym, subst}
use Rattle.std.proofs.lemmas.Result.{err_from_is_err_and}
use Rattle.std.proofs.lemmas.Grind.{common_steps}
use Rattle.fb_lex.specs.TokenList.{left}
use Rattle.fb_parse.specs.ItemParts.{ArgsAre, SomeArgs}
use Rattle.fb_parse.specs.ItemView.{arg_view, args_view, before_args}
use Rattle.fb_parse.specs.Parts.{behind_terms}
use Rattle.fb_parse.specs.Reading.{Read, Fails}
use Rattle.fb_parse.proofs.Arguments.{args_fails_1, args_fails_2, args_read, more_args_none, comma_args_fails_1, comma_args_fails_2, comma_args_fails_3, comma_args_read, before_args_push, before_args_none}
use Rattle.fb_parse.proofs.body.args.Goals as goal

pub returns-in_err-first-clause-read : goal.returns-in_err-first-clause-read
returns-in_err-first-clause-read c =
    let p = err_from_is_err_and c.from_residual.result c.from_residual.ensures.1 in
    rw (p.1, p.2) (args_fails_1 c.args.text.now c.args.at c.in_err-first.ensures.read)

pub returns-then-is_err-clause-read : goal.returns-then-is_err-clause-read
returns-then-is_err-clause-read c = Fails.memory

pub loop-next-init : goal.loop-next-init
loop-next-init c =
    let pushed : c.push.new.self.items ≡ c.new-args.result.items ++ c.in_ok-first.first.arg ∷ [] = grind (arith, common_steps) in
    record {
      stands = c.in_ok-first.ensures.stands;
      read = λ ys u r. subst (λ v. Read c.args.text.now (ArgsAre v) SomeArgs behind_terms c.args.at u)
          (sym (ap (λ w. before_args w ys) (pushed ∙ ap (λ w. w ++ c.in_ok-first.first.arg ∷ []) c.new-args.ensures.items)))
          (args_read c.args.text.now c.args.at c.in_ok-first.ensures.read r);
      fails = λ f h. args_fails_2 c.args.text.now c.args.at c.in_ok-first.ensures.read h;
      later = c.in_ok-first.ensures.later;
    }

pub returns-in_err-from-clause-read : goal.returns-in_err-from-clause-read
returns-in_err-from-clause-read c =
    let p = err_from_is_err_and c.from_residual-in_err-from.result c.from_residual-in_err-from.ensures.1 in
    rw (p.1, p.2) (c.loop-next.invariant.fails _ (comma_args_fails_1 c.args.text.now c.loop-next.next (search rules) c.in_err-from.ensures.read))

pub returns-in_err-given-clause-read : goal.returns-in_err-given-clause-read
returns-in_err-given-clause-read c =
    let p = err_from_is_err_and c.from_residual-in_err-given.result c.from_residual-in_err-given.ensures.1 in
    rw (p.1, p.2) (c.loop-next.invariant.fails _ (comma_args_fails_2 c.args.text.now c.loop-next.next (search rules) c.in_ok-from.ensures.read c.in_err-given.ensures.read))

pub returns-then-is_err-2-clause-read : goal.returns-then-is_err-2-clause-read
returns-then-is_err-2-clause-read c = Fails.memory

pub loop-next-smaller : goal.loop-next-smaller
loop-next-smaller c = let h : left c.args.text.now c.in_ok-given.given.next < left c.args.text.now c.loop-next.next = omega (arith, c.in_ok-from.ensures.later, c.in_ok-given.ensures.later) in h

pub loop-next-preserved : goal.loop-next-preserved
loop-next-preserved c =
    let pushed : c.push-in-loop-next.new.self.items ≡ c.loop-next.args.items ++ c.in_ok-given.given.arg ∷ [] = grind (arith, common_steps) in
    record {
      stands = c.in_ok-given.ensures.stands;
      read = λ ys u r. subst (λ v. Read c.args.text.now (ArgsAre v) SomeArgs behind_terms c.args.at u)
          (sym (ap (λ w. before_args w ys) pushed ∙ before_args_push c.loop-next.args.items c.in_ok-given.given.arg ys))
          (c.loop-next.invariant.read (arg_view c.in_ok-given.given.arg ∷ ys) u (comma_args_read c.args.text.now c.loop-next.next (search rules) c.in_ok-from.ensures.read c.in_ok-given.ensures.read r));
      fails = λ f h. c.loop-next.invariant.fails f (comma_args_fails_3 c.args.text.now c.loop-next.next (search rules) c.in_ok-from.ensures.read c.in_ok-given.ensures.read h);
      later = omega (arith, c.loop-next.invariant.later, c.in_ok-from.ensures.later, c.in_ok-given.ensures.later);
    }

pub returns-clause-read : goal.returns-clause-read
returns-clause-read c =
    subst (λ v. Read c.args.text.now (ArgsAre v) SomeArgs behind_terms c.args.at c.loop-next.next)
    (before_args_none c.loop-next.args.items ∙ ap args_view (sym c.into_bump_slice.ensures))
    (c.loop-next.invariant.read [] c.loop-next.next (more_args_none c.args.text.now c.loop-next.next (λ q. search rules)))
