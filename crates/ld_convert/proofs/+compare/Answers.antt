mod Whole
mod Heads
use Rattle.std.proofs.Common.{rules, ◌≡◌, ◌+◌, All, length, Ok, Err, Result, sym, subst, arith}
use Rattle.ld_terms.specs.Bank.{tree_at}
use Rattle.ld_record.specs.Kept.{known_of}
use Rattle.ld_reduce.specs.Heads.{BetaHead}
use Rattle.ld_reduce.specs.Cost.{Answers}
use Rattle.ld_reduce.specs.declared.stop.Stop.{Stop}
use Rattle.ld_reduce.proofs.Going.{goes_trans}
use Rattle.ld_reduce.proofs.Once.{runs_once}
use Rattle.ld_reduce.specs.Heads.{beta_step}
use Rattle.ld_convert.specs.Apart.{Apart, parts_of}
use Rattle.ld_convert.specs.AtOnce.{FoundAtOnce}
use Rattle.ld_convert.specs.Compares.{Compares, Turns, turn, all_same}
use Rattle.ld_convert.specs.Pairs.{pairs_of}
use Rattle.ld_convert.specs.Account.{ComparedAs, Comes}
use Rattle.ld_convert.specs.Walks.{parts_in, Gathered}
use Rattle.ld_convert.specs.Turned.{IsComparablePart, WalkedAs, TurnedAs}
use Rattle.ld_convert.specs.declared.job.Compared.{Compared}
use Rattle.ld_convert.specs.declared.turning.Turned.{Turned}
use Rattle.ld_convert.specs.declared.turning.Walked.{Walked}
use Rattle.ld_convert.proofs.NamedParts.{gathered_comparable}
use Rattle.ld_convert.proofs.Ready.{ready_later, pairs_stay, tree_later, term_later, equal_to_later, comparable_ends, turned_here}
use Rattle.ld_convert.proofs.Walking.{walk_stops, walk_apart, ready_after, walk_next, walk_ends}
use Rattle.ld_convert.proofs.AfterTurns.{next_comes, next_stops, turns_stops, parts_once, come_next}
use Rattle.ld_convert.proofs.Comparing.{next_answers, going_next, turn_stops, turn_goes_on}
use Rattle.ld_convert.proofs.OneTurn.{reached, reach_stops, first_stop, second_stop, turn_answers}
use Rattle.ld_convert.proofs.+compare.Answers.Whole.{found_answers, turns_stop, same_answers, same_remembered, apart_answers, apart_shown}
use Rattle.ld_convert.proofs.+compare.Answers.Heads.{same_or_apart, apart_at_heads, parts_stop, unfolding_stops, unfolding_leads}
use Rattle.ld_convert.proofs.+compare.Goals as goal

-- The whole comparison.
pub comparison::compare-returns-in-Some-clause-answer : goal.comparison::compare-returns-in-Some-clause-answer
comparison::compare-returns-in-Some-clause-answer = found_answers

pub comparison::compare-returns-in_err-compared-clause-answer : goal.comparison::compare-returns-in_err-compared-clause-answer
comparison::compare-returns-in_err-compared-clause-answer = turns_stop

pub comparison::compare-returns-in_err-remember-clause-goes : goal.comparison::compare-returns-in_err-remember-clause-goes
comparison::compare-returns-in_err-remember-clause-goes t c = goes_trans _ _ _ _ _ _ c.same_at_once.ensures.goes c.turns.ensures.goes

pub comparison::compare-returns-in_ok-remember-clause-answer : goal.comparison::compare-returns-in_ok-remember-clause-answer
comparison::compare-returns-in_ok-remember-clause-answer = same_answers

pub comparison::compare-returns-in_ok-remember-clause-pairs : goal.comparison::compare-returns-in_ok-remember-clause-pairs
comparison::compare-returns-in_ok-remember-clause-pairs = same_remembered

pub comparison::compare-returns-in_ok-remember-clause-goes : goal.comparison::compare-returns-in_ok-remember-clause-goes
comparison::compare-returns-in_ok-remember-clause-goes t c = goes_trans _ _ _ _ _ _ c.same_at_once.ensures.goes c.turns.ensures.goes

pub comparison::compare-returns-in_default-compared-clause-answer : goal.comparison::compare-returns-in_default-compared-clause-answer
comparison::compare-returns-in_default-compared-clause-answer = apart_answers

pub comparison::compare-returns-in_default-compared-clause-apart : goal.comparison::compare-returns-in_default-compared-clause-apart
comparison::compare-returns-in_default-compared-clause-apart = apart_shown

pub comparison::compare-returns-in_default-compared-clause-goes : goal.comparison::compare-returns-in_default-compared-clause-goes
comparison::compare-returns-in_default-compared-clause-goes t c = goes_trans _ _ _ _ _ _ c.same_at_once.ensures.goes c.turns.ensures.goes

-- Turns one after another.
pub comparison::next_turn-returns-in-None-clause-answer : goal.comparison::next_turn-returns-in-None-clause-answer
comparison::next_turn-returns-in-None-clause-answer t c =
    let items = c.args.bank.now in
    let env = (known_of items c.args.deriv.now).env in
    let later = c.turn.new.bank in
    let a = tree_at items c.args.ends.0 in
    let b = tree_at items c.args.ends.1 in
    let K = pairs_of items c.args.job.now.known in
    let L = pairs_of later c.turn.new.job.known in
    let old = c.args.job.now.budget in
    let new = c.turn.new.job.budget in
    let differ = subst (FoundAtOnce (known_of items c.same_at_once.new.deriv) K a b) c.in-None.is c.in_ok-equal.ensures.found in
    next_answers env c.args.nest a b later (known_of later c.turn.new.deriv) K L old new c.turn.result differ
    (subst (λ v. TurnedAs (turn v (Compares v (c.args.nest + 1)) a b) a b (length v) later (known_of later c.turn.new.deriv) K L old new c.turn.result) c.same_at_once.ensures.goes.adds.env c.turn.ensures.answer)

pub comparison::turns-returns-in_err-turned-clause-answer : goal.comparison::turns-returns-in_err-turned-clause-answer
comparison::turns-returns-in_err-turned-clause-answer t c =
    let items = c.args.bank.now in
    let env = (known_of items c.args.deriv.now).env in
    let compare = Compares env (c.args.nest + 1) in
    let later = c.turn.new.bank in
    let a = tree_at items c.args.a in
    let b = tree_at items c.args.b in
    let K = pairs_of items c.args.job.now.known in
    let L = pairs_of later c.turn.new.job.known in
    let old = c.args.job.now.budget in
    let new = c.turn.new.job.budget in
    let is : Err c.in_err-turned.field-0.0 ≡ c.from_residual.result = search rules in
    let P : Result Compared Stop → Type 0 = λ r. ComparedAs (Turns env compare a b) a b (length env) later (known_of later c.turn.new.deriv) K L old new r in
    subst P is
    (turns_stops env compare (parts_once env c.args.nest) a b K L old new c.in_err-turned.field-0.0
    (next_stops env compare (parts_once env c.args.nest) a b K L old new c.in_err-turned.field-0.0 c.requires.not_at_once c.in_err-turned.ensures.answer))

pub comparison::turns-turns-init : goal.comparison::turns-turns-init
comparison::turns-turns-init t c =
    let items = c.args.bank.now in
    let env = (known_of items c.args.deriv.now).env in
    let compare = Compares env (c.args.nest + 1) in
    let later = c.turn.new.bank in
    let a = tree_at items c.args.a in
    let b = tree_at items c.args.b in
    let K = pairs_of items c.args.job.now.known in
    let L = pairs_of later c.turn.new.job.known in
    let h = c.in_ok-turned.ensures.answer in
    record {
      goes = c.turn.ensures.goes;
      ready = c.turn.ensures.ready;
      most = c.turn.ensures.most;
      shallow = c.in_ok-turned.ensures.under;
      turned = h.1;
      come = come_next later env c.args.nest a b K L c.args.job.now.budget c.turn.new.job.budget c.in_ok-turned.turned
          (next_comes env compare (parts_once env c.args.nest) a b K L _ c.args.job.now.budget c.turn.new.job.budget c.requires.not_at_once h.0);
    }

pub comparison::turns-next_turn-requires : goal.comparison::turns-next_turn-requires
comparison::turns-next_turn-requires t c =
    let g = going_next _ _ _ _ _ _ _ _ _ _ _ c.in-Next.led c.in-Next.is c.turns.invariant in
    (search rules, (g.ready, (comparable_ends _ _ _ _ _ _ _ _ _ _ g.ready.sound g.turned.left g.turned.right g.turned.first g.turned.second, c.requires.nest)))

pub comparison::turns-returns-in_err-next-in-Next-clause-answer : goal.comparison::turns-returns-in_err-next-in-Next-clause-answer
comparison::turns-returns-in_err-next-in-Next-clause-answer t c =
    let items = c.args.bank.now in
    let env = (known_of items c.args.deriv.now).env in
    let later = c.next_turn.new.bank in
    let a = tree_at items c.args.a in
    let b = tree_at items c.args.b in
    let K = pairs_of items c.args.job.now.known in
    let L = pairs_of later c.next_turn.new.job.known in
    let old = c.args.job.now.budget in
    let new = c.next_turn.new.job.budget in
    let is : Err c.in_err-next-in-Next.field-0.0 ≡ c.from_residual-in_err-next-in-Next.result = search rules in
    let P : Result Compared Stop → Type 0 = λ r. ComparedAs (Turns env (Compares env (c.args.nest + 1)) a b) a b (length env) later (known_of later c.next_turn.new.deriv) K L old new r in
    let g = going_next _ _ _ _ _ _ _ _ _ _ _ c.in-Next.led c.in-Next.is c.turns.invariant in
    subst P is (turn_stops items c.turns.bank later c.args.deriv.now c.turns.deriv c.args.env.now c.args.a c.args.b c.args.nest c.args.job.now c.turns.job c.in-Next.led g L new c.in_err-next-in-Next.field-0.0 c.in_err-next-in-Next.ensures.answer)

pub comparison::turns-returns-in_err-next-in-Next-clause-goes : goal.comparison::turns-returns-in_err-next-in-Next-clause-goes
comparison::turns-returns-in_err-next-in-Next-clause-goes t c = goes_trans _ _ _ _ _ _ c.turns.invariant.goes c.next_turn.ensures.goes

pub comparison::turns-returns-in_err-turned-in-Next-clause-goes : goal.comparison::turns-returns-in_err-turned-in-Next-clause-goes
comparison::turns-returns-in_err-turned-in-Next-clause-goes t c = goes_trans _ _ _ _ _ _ (goes_trans _ _ _ _ _ _ c.turns.invariant.goes c.next_turn.ensures.goes) c.follow.ensures.goes

pub comparison::turns-turns-preserved : goal.comparison::turns-turns-preserved
comparison::turns-turns-preserved t c =
    let g = going_next _ _ _ _ _ _ _ _ _ _ _ c.in-Next.led c.in-Next.is c.turns.invariant in
    turn_goes_on c.args.bank.now c.turns.bank c.next_turn.new.bank c.args.deriv.now c.turns.deriv c.args.env.now c.args.a c.args.b c.args.nest c.args.job.now c.turns.job c.in-Next.led g
    c.next_turn.new.deriv c.follow.new.deriv c.next_turn.new.job c.in_ok-next-in-Next.next c.in_ok-turned-in-Next.turned c.requires.terms.first c.requires.terms.second c.next_turn.ensures.goes c.next_turn.ensures.ready
    c.next_turn.ensures.most c.in_ok-next-in-Next.ensures.under c.in_ok-next-in-Next.ensures.answer c.in_ok-turned-in-Next.ensures.answer c.in_ok-turned-in-Next.ensures.turned c.follow.ensures.goes

-- One turn.
pub turning::turn-returns-in_err-left-clause-answer : goal.turning::turn-returns-in_err-left-clause-answer
turning::turn-returns-in_err-left-clause-answer t c =
    let items = c.args.bank.now in
    let env = (known_of items c.args.deriv.now).env in
    let later = c.beta_head.new.bank in
    let a = tree_at items c.args.ends.0 in
    let b = tree_at items c.args.ends.1 in
    let K = pairs_of items c.args.job.now.known in
    let old = c.args.job.now.budget in
    let new = c.beta_head.new.budget in
    let s = c.in_err-left.field-0.0 in
    let stops = first_stop env c.args.nest a b a b K old new new s (reach_stops Apart (BetaHead a) K a 0 later (known_of later c.beta_head.new.deriv) old new s (runs_once beta_step a) c.in_err-left.ensures.answers) in
    let is : Err s ≡ c.from_residual.result = search rules in
    let P : Result Turned Stop → Type 0 = λ r.
    TurnedAs (turn env (Compares env (c.args.nest + 1)) a b) a b (length env) later (known_of later c.beta_head.new.deriv) K (pairs_of later c.args.job.now.known) old new r in
    subst P is (subst (λ L. TurnedAs (turn env (Compares env (c.args.nest + 1)) a b) a b (length env) later (known_of later c.beta_head.new.deriv) K L old new (Err s))
    (sym (pairs_stay _ _ _ _ _ _ c.beta_head.ensures.goes c.requires.ready.pairs)) stops)

pub turning::turn-returns-in_err-left-clause-ready : goal.turning::turn-returns-in_err-left-clause-ready
turning::turn-returns-in_err-left-clause-ready t c = ready_later _ _ _ _ _ _ c.beta_head.ensures.goes c.requires.ready

pub turning::turn-returns-in_err-right-clause-answer : goal.turning::turn-returns-in_err-right-clause-answer
turning::turn-returns-in_err-right-clause-answer t c =
    let items = c.args.bank.now in
    let env = (known_of items c.args.deriv.now).env in
    let mid = c.beta_head.new.bank in
    let later = c.beta_head-2.new.bank in
    let a = tree_at items c.args.ends.0 in
    let b = tree_at items c.args.ends.1 in
    let x = tree_at mid c.in_ok-left.left in
    let K = pairs_of items c.args.job.now.known in
    let old = c.args.job.now.budget in
    let between = c.beta_head.new.budget in
    let new = c.beta_head-2.new.budget in
    let s = c.in_err-right.field-0.0 in
    let first = reached (BetaHead a) K a 0 mid (known_of mid c.beta_head.new.deriv) old between (c.in_ok-left.left, c.in_ok-left.first) (runs_once beta_step a) c.in_ok-left.ensures.answers in
    let second =
    subst (λ t. Answers (BetaHead t) t 0 later (known_of later c.beta_head-2.new.deriv) between new (Err s)) (tree_later _ _ _ _ c.args.ends.1 c.beta_head.ensures.goes c.requires.terms.second) c.in_err-right.ensures.answers in
    let stops = second_stop env c.args.nest a b x b K old between new s first (reach_stops Apart (BetaHead b) K b 0 later (known_of later c.beta_head-2.new.deriv) between new s (runs_once beta_step b) second) in
    let is : Err s ≡ c.from_residual-in_err-right.result = search rules in
    let P : Result Turned Stop → Type 0 = λ r.
    TurnedAs (turn env (Compares env (c.args.nest + 1)) a b) a b (length env) later (known_of later c.beta_head-2.new.deriv) K (pairs_of later c.args.job.now.known) old new r in
    subst P is (subst (λ L. TurnedAs (turn env (Compares env (c.args.nest + 1)) a b) a b (length env) later (known_of later c.beta_head-2.new.deriv) K L old new (Err s))
    (sym (pairs_stay _ _ _ _ _ _ (goes_trans _ _ _ _ _ _ c.beta_head.ensures.goes c.beta_head-2.ensures.goes) c.requires.ready.pairs)) stops)

pub turning::turn-returns-in_err-right-clause-ready : goal.turning::turn-returns-in_err-right-clause-ready
turning::turn-returns-in_err-right-clause-ready t c = ready_later _ _ _ _ _ _ (goes_trans _ _ _ _ _ _ c.beta_head.ensures.goes c.beta_head-2.ensures.goes) c.requires.ready

pub turning::turn-returns-in_err-right-clause-goes : goal.turning::turn-returns-in_err-right-clause-goes
turning::turn-returns-in_err-right-clause-goes t c = goes_trans _ _ _ _ _ _ c.beta_head.ensures.goes c.beta_head-2.ensures.goes

pub turning::turn-by_heads-requires : goal.turning::turn-by_heads-requires
turning::turn-by_heads-requires t c =
    let g = goes_trans _ _ _ _ _ _ c.beta_head.ensures.goes c.beta_head-2.ensures.goes in
    let first = c.in_ok-left.ensures.answers.1 in
    let second = c.in_ok-right.ensures.answers.1 in (
      search rules,
      (
        ready_later _ _ _ _ _ _ g c.requires.ready,
        (
          comparable_ends _ _ _ _ c.in_ok-left.first c.in_ok-right.second _ _ _ _ c.beta_head-2.ensures.goes.sound (term_later _ _ _ _ c.in_ok-left.left c.beta_head-2.ensures.goes first.term) second.term
              (equal_to_later _ _ _ _ c.in_ok-left.first _ c.in_ok-left.left _ c.beta_head-2.ensures.goes first.term first.equal) second.equal,
          c.requires.nest,
        ),
      ),
    )

pub turning::turn-returns-in_err-turned-clause-answer : goal.turning::turn-returns-in_err-turned-clause-answer
turning::turn-returns-in_err-turned-clause-answer t c =
    let items = c.args.bank.now in
    let env = (known_of items c.args.deriv.now).env in
    let later = c.by_heads.new.bank in
    let a = tree_at items c.args.ends.0 in
    let b = tree_at items c.args.ends.1 in
    let L = pairs_of later c.by_heads.new.job.known in
    let s = c.in_err-turned.field-0.0 in
    let is : Err s ≡ c.from_residual-in_err-turned.result = search rules in
    let P : Result Turned Stop → Type 0 = λ r.
    TurnedAs (turn env (Compares env (c.args.nest + 1)) a b) a b (length env) later (known_of later c.by_heads.new.deriv) (pairs_of items c.args.job.now.known) L c.args.job.now.budget c.by_heads.new.job.budget r in
    subst P is
    (turn_answers items c.beta_head.new.bank c.beta_head-2.new.bank c.args.deriv.now c.beta_head.new.deriv c.beta_head-2.new.deriv c.args.ends.0 c.args.ends.1 c.in_ok-left.left c.in_ok-right.right c.in_ok-left.first
    c.in_ok-right.second c.args.job.now.known c.args.nest c.args.job.now.budget c.beta_head.new.budget c.beta_head-2.new.budget later (known_of later c.by_heads.new.deriv) L c.by_heads.new.job.budget (Err s)
    c.requires.terms.second c.requires.ready.pairs c.beta_head.ensures.goes c.beta_head-2.ensures.goes c.in_ok-left.ensures.answers c.in_ok-right.ensures.answers c.in_err-turned.ensures.answer)

pub turning::turn-returns-in_err-turned-clause-goes : goal.turning::turn-returns-in_err-turned-clause-goes
turning::turn-returns-in_err-turned-clause-goes t c = goes_trans _ _ _ _ _ _ (goes_trans _ _ _ _ _ _ c.beta_head.ensures.goes c.beta_head-2.ensures.goes) c.by_heads.ensures.goes

pub turning::turn-returns-in_err-follow-clause-goes : goal.turning::turn-returns-in_err-follow-clause-goes
turning::turn-returns-in_err-follow-clause-goes t c =
    goes_trans _ _ _ _ _ _ (goes_trans _ _ _ _ _ _ (goes_trans _ _ _ _ _ _ c.beta_head.ensures.goes c.beta_head-2.ensures.goes) c.by_heads.ensures.goes) c.follow.ensures.goes

pub turning::turn-returns-clause-answer : goal.turning::turn-returns-clause-answer
turning::turn-returns-clause-answer t c =
    let items = c.args.bank.now in
    let env = (known_of items c.args.deriv.now).env in
    let later = c.by_heads.new.bank in
    let a = tree_at items c.args.ends.0 in
    let b = tree_at items c.args.ends.1 in
    let L = pairs_of later c.by_heads.new.job.known in
    let so_far = goes_trans _ _ _ _ _ _ (goes_trans _ _ _ _ _ _ c.beta_head.ensures.goes c.beta_head-2.ensures.goes) c.by_heads.ensures.goes in
    let comes =
    turn_answers items c.beta_head.new.bank c.beta_head-2.new.bank c.args.deriv.now c.beta_head.new.deriv c.beta_head-2.new.deriv c.args.ends.0 c.args.ends.1 c.in_ok-left.left c.in_ok-right.right c.in_ok-left.first
    c.in_ok-right.second c.args.job.now.known c.args.nest c.args.job.now.budget c.beta_head.new.budget c.beta_head-2.new.budget later (known_of later c.by_heads.new.deriv) L c.by_heads.new.job.budget
    (Ok c.in_ok-turned.turned) c.requires.terms.second c.requires.ready.pairs c.beta_head.ensures.goes c.beta_head-2.ensures.goes c.in_ok-left.ensures.answers c.in_ok-right.ensures.answers c.in_ok-turned.ensures.answer in (
      subst (λ r. Comes (turn env (Compares env (c.args.nest + 1)) a b) (pairs_of items c.args.job.now.known) r L c.args.job.now.budget c.by_heads.new.job.budget) (sym c.in_ok-follow.ensures.answer) comes,
      turned_here items later c.args.deriv.now c.by_heads.new.deriv c.args.ends.0 c.args.ends.1 (known_of later c.follow.new.deriv) c.in_ok-follow.field-0 so_far c.requires.terms.first c.requires.terms.second
          c.in_ok-follow.ensures.turned,
    )

pub turning::turn-returns-clause-goes : goal.turning::turn-returns-clause-goes
turning::turn-returns-clause-goes t c =
    goes_trans _ _ _ _ _ _ (goes_trans _ _ _ _ _ _ (goes_trans _ _ _ _ _ _ c.beta_head.ensures.goes c.beta_head-2.ensures.goes) c.by_heads.ensures.goes) c.follow.ensures.goes

-- Two terms in beta-head form.
pub turning::by_heads-returns-in_default-2-clause-answer : goal.turning::by_heads-returns-in_default-2-clause-answer
turning::by_heads-returns-in_default-2-clause-answer = same_or_apart

pub turning::by_heads-returns-in_default-clause-answer : goal.turning::by_heads-returns-in_default-clause-answer
turning::by_heads-returns-in_default-clause-answer = apart_at_heads

pub turning::by_heads-returns-in_err-compared-clause-answer : goal.turning::by_heads-returns-in_err-compared-clause-answer
turning::by_heads-returns-in_err-compared-clause-answer = parts_stop

pub turning::by_heads-returns-in_err-led-in-Apart-clause-answer : goal.turning::by_heads-returns-in_err-led-in-Apart-clause-answer
turning::by_heads-returns-in_err-led-in-Apart-clause-answer = unfolding_stops

pub turning::by_heads-returns-in_err-led-in-Apart-clause-goes : goal.turning::by_heads-returns-in_err-led-in-Apart-clause-goes
turning::by_heads-returns-in_err-led-in-Apart-clause-goes t c = goes_trans _ _ _ _ _ _ c.by_parts.ensures.goes c.unfold_sides.ensures.goes

pub turning::by_heads-returns-in_err-led-in-Apart-clause-ready : goal.turning::by_heads-returns-in_err-led-in-Apart-clause-ready
turning::by_heads-returns-in_err-led-in-Apart-clause-ready t c =
    ready_later c.by_parts.new.bank c.unfold_sides.new.bank c.by_parts.new.deriv c.unfold_sides.new.deriv c.args.env.now c.by_parts.new.job.known c.unfold_sides.ensures.goes c.by_parts.ensures.ready

pub turning::by_heads-returns-in_ok-led-in-Apart-clause-answer : goal.turning::by_heads-returns-in_ok-led-in-Apart-clause-answer
turning::by_heads-returns-in_ok-led-in-Apart-clause-answer = unfolding_leads

pub turning::by_heads-returns-in_ok-led-in-Apart-clause-goes : goal.turning::by_heads-returns-in_ok-led-in-Apart-clause-goes
turning::by_heads-returns-in_ok-led-in-Apart-clause-goes t c = goes_trans _ _ _ _ _ _ c.by_parts.ensures.goes c.unfold_sides.ensures.goes

pub turning::by_heads-returns-in_ok-led-in-Apart-clause-ready : goal.turning::by_heads-returns-in_ok-led-in-Apart-clause-ready
turning::by_heads-returns-in_ok-led-in-Apart-clause-ready t c =
    ready_later c.by_parts.new.bank c.unfold_sides.new.bank c.by_parts.new.deriv c.unfold_sides.new.deriv c.args.env.now c.by_parts.new.job.known c.unfold_sides.ensures.goes c.by_parts.ensures.ready

-- The comparison of two terms by their parts.
pub turning::by_parts-walk-requires : goal.turning::by_parts-walk-requires
turning::by_parts-walk-requires t c =
    let items = c.args.bank.now in
    let known = known_of items c.args.deriv.now in
    let none = c.new-parts.result.items in
    let parts = c.gather.new.parts.items in
    let o = parts_of (tree_at items c.args.a) (tree_at items c.args.b) in
    let gathered = subst (Gathered items none parts o) c.if-not-branch.false c.in_ok-gather.ensures in
    let each = gathered_comparable items known c.args.a c.args.b none parts c.new-parts.ensures.items c.requires.terms gathered in
    (search rules, (c.requires.ready, (subst (All (IsComparablePart items known)) (sym c.deref.ensures.value) each, c.requires.nest)))

pub turning::by_parts-returns-in-Same-clause-goes : goal.turning::by_parts-returns-in-Same-clause-goes
turning::by_parts-returns-in-Same-clause-goes t c = goes_trans _ _ _ _ _ _ c.walk.ensures.goes c.congruence.ensures.goes

-- The comparison of parts one after another.
pub turning::walk-returns-in_err-equal-clause-answer : goal.turning::walk-returns-in_err-equal-clause-answer
turning::walk-returns-in_err-equal-clause-answer t c =
    let a = c.args.bank.now in
    let i = c.args.deriv.now in
    let l = c.parts in
    let P : Result Walked Stop → Type 0 = λ r.
    WalkedAs (all_same (known_of a i).env (Compares (known_of a i).env (c.args.nest + 1)) (parts_in a c.args.parts.now)) (parts_in a c.args.parts.now) (length (known_of a i).env)
    c.compare.new.bank (known_of c.compare.new.bank c.compare.new.deriv) (pairs_of a c.args.job.now.known) (pairs_of c.compare.new.bank c.compare.new.job.known)
    c.args.job.now.budget c.compare.new.job.budget r in
    let is : Err c.in_err-equal.field-0.0 ≡ c.from_residual.result = search rules in
    subst P is
    (walk_stops a l.bank c.compare.new.bank i l.deriv c.compare.new.deriv c.args.env.now c.args.parts.now l.part-index c.args.nest _ c.args.job.now l.job c.compare.new.job l.equals.items
    l.invariant c.requires.parts c.parts-test.true c.in_err-equal.field-0.0 c.in_err-equal.ensures.answer)

pub turning::walk-returns-in_err-equal-clause-ready : goal.turning::walk-returns-in_err-equal-clause-ready
turning::walk-returns-in_err-equal-clause-ready t c =
    ready_after _ _ _ _ _ c.parts.job.known _ c.compare.ensures.goes c.parts.invariant.ready c.compare.ensures.pairs

pub turning::walk-returns-in_err-equal-clause-goes : goal.turning::walk-returns-in_err-equal-clause-goes
turning::walk-returns-in_err-equal-clause-goes t c = goes_trans _ _ _ _ _ _ c.parts.invariant.goes c.compare.ensures.goes

pub turning::walk-returns-in_err-map_err-in-Same-clause-ready : goal.turning::walk-returns-in_err-map_err-in-Same-clause-ready
turning::walk-returns-in_err-map_err-in-Same-clause-ready t c =
    ready_after _ _ _ _ _ c.parts.job.known _ c.compare.ensures.goes c.parts.invariant.ready c.compare.ensures.pairs

pub turning::walk-returns-in_err-map_err-in-Same-clause-goes : goal.turning::walk-returns-in_err-map_err-in-Same-clause-goes
turning::walk-returns-in_err-map_err-in-Same-clause-goes t c = goes_trans _ _ _ _ _ _ c.parts.invariant.goes c.compare.ensures.goes

pub turning::walk-returns-in-Apart-clause-answer : goal.turning::walk-returns-in-Apart-clause-answer
turning::walk-returns-in-Apart-clause-answer t c =
    let l = c.parts in
    let x = c.in-Apart in
    walk_apart c.args.bank.now l.bank c.compare.new.bank c.args.deriv.now l.deriv c.compare.new.deriv c.args.env.now c.args.parts.now l.part-index c.args.nest _ c.args.job.now l.job c.compare.new.job
    l.equals.items l.invariant c.requires.parts c.parts-test.true x.left x.right x.under c.in_ok-equal.field-0 x.is c.in_ok-equal.ensures.answer

pub turning::walk-returns-in-Apart-clause-ready : goal.turning::walk-returns-in-Apart-clause-ready
turning::walk-returns-in-Apart-clause-ready t c =
    ready_after _ _ _ _ _ c.parts.job.known _ c.compare.ensures.goes c.parts.invariant.ready c.compare.ensures.pairs

pub turning::walk-returns-in-Apart-clause-goes : goal.turning::walk-returns-in-Apart-clause-goes
turning::walk-returns-in-Apart-clause-goes t c = goes_trans _ _ _ _ _ _ c.parts.invariant.goes c.compare.ensures.goes

pub turning::walk-parts-preserved : goal.turning::walk-parts-preserved
turning::walk-parts-preserved t c =
    let l = c.parts in
    walk_next c.args.bank.now l.bank c.compare.new.bank c.args.deriv.now l.deriv c.compare.new.deriv c.args.env.now c.args.parts.now l.part-index c.args.nest _ c.args.job.now l.job c.compare.new.job
    l.equals.items l.invariant c.requires.parts c.parts-test.true c.in-Same.equal c.in_ok-equal.field-0 c.push.new.self.items c.compare.ensures.goes c.compare.ensures.pairs c.compare.ensures.most (search rules)
    c.in-Same.is c.in_ok-equal.ensures.answer

pub turning::walk-returns-clause-answer : goal.turning::walk-returns-clause-answer
turning::walk-returns-clause-answer t c =
    let l = c.parts in
    walk_ends c.args.bank.now l.bank c.args.deriv.now l.deriv c.args.env.now c.args.parts.now l.part-index c.args.nest c.args.job.now l.job l.equals.items l.invariant (omega (arith, c.parts-test.false))
