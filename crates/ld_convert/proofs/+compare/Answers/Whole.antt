-- What `compare` answers at each of its ends.
use Rattle.std.proofs.Common.{rules, ◌≡◌, ◌+◌, length, Ok, Err, Result, ap, sym, subst, arith}
use Rattle.ld_terms.specs.Bank.{tree_at}
use Rattle.ld_record.specs.Kept.{known_of}
use Rattle.ld_reduce.specs.Cost.{Equates}
use Rattle.ld_reduce.specs.declared.stop.Stop.{Stop}
use Rattle.ld_convert.specs.Compares.{Compares, Turns}
use Rattle.ld_convert.specs.Pairs.{pairs_of}
use Rattle.ld_convert.specs.Account.{ComparedAs}
use Rattle.ld_convert.specs.declared.job.Compared.{Compared}
use Rattle.ld_convert.proofs.Ready.{tree_later, term_later}
use Rattle.ld_convert.proofs.Comparing.{compare_now, compare_stops, compare_apart, compare_same, not_found, found, kept_live}
use Rattle.ld_convert.proofs.ScopedEntries.{env_scoped}
use Rattle.ld_convert.proofs.Apartness.{shows_apart}
use Rattle.ld_convert.proofs.+compare.Goals as goal

pub found_answers : goal.comparison::compare-returns-in-Some-clause-answer
found_answers t c =
    let items = c.args.bank.now in
    let env = (known_of items c.args.deriv.now).env in
    let a = tree_at items c.args.a in
    let b = tree_at items c.args.b in
    let K = pairs_of items c.args.job.now.known in
    let f = found (known_of items c.same_at_once.new.deriv) K a b c.in_ok-equal.field-0 c.in-Some.equal c.in-Some.is c.in_ok-equal.ensures.found in (
      compare_now env c.args.nest a b K c.args.job.now.budget (omega (arith, c.if-nest-gt-GREATEST_NESTING.false)) f.0,
      subst (λ n. Equates (known_of items c.same_at_once.new.deriv) c.in-Some.equal a b n) (ap length c.same_at_once.ensures.goes.adds.env) f.1,
    )

pub turns_stop : goal.comparison::compare-returns-in_err-compared-clause-answer
turns_stop t c =
    let items = c.args.bank.now in
    let env = (known_of items c.args.deriv.now).env in
    let later = c.turns.new.bank in
    let a = tree_at items c.args.a in
    let b = tree_at items c.args.b in
    let K = pairs_of items c.args.job.now.known in
    let L = pairs_of later c.turns.new.job.known in
    let old = c.args.job.now.budget in
    let new = c.turns.new.job.budget in
    let differ = not_found (known_of items c.same_at_once.new.deriv) K a b c.in_ok-equal.field-0 c.in_default.not-Some c.in_ok-equal.ensures.found in
    let here =
    subst (λ v. ComparedAs (Turns v (Compares v (c.args.nest + 1)) a b) a b (length v) later (known_of later c.turns.new.deriv) K L old new (Err c.in_err-compared.field-0.0)) c.same_at_once.ensures.goes.adds.env
    c.in_err-compared.ensures.answer in
    let is : Err c.in_err-compared.field-0.0 ≡ c.from_residual-in_err-compared.result = search rules in
    let P : Result Compared Stop → Type 0 = λ r. ComparedAs (Compares env c.args.nest a b) a b (length env) later (known_of later c.turns.new.deriv) K L old new r in
    subst P is (compare_stops env c.args.nest a b K L old new c.in_err-compared.field-0.0 (omega (arith, c.if-nest-gt-GREATEST_NESTING.false)) differ here)

pub same_answers : goal.comparison::compare-returns-in_ok-remember-clause-answer
same_answers t c =
    let items = c.args.bank.now in
    let env = (known_of items c.args.deriv.now).env in
    let later = c.turns.new.bank in
    let a = tree_at items c.args.a in
    let b = tree_at items c.args.b in
    let K = pairs_of items c.args.job.now.known in
    let L = pairs_of later c.turns.new.job.known in
    let old = c.args.job.now.budget in
    let new = c.turns.new.job.budget in
    let differ = not_found (known_of items c.same_at_once.new.deriv) K a b c.in_ok-equal.field-0 c.in_default.not-Some c.in_ok-equal.ensures.found in
    let here =
    subst (λ v. ComparedAs (Turns v (Compares v (c.args.nest + 1)) a b) a b (length v) later (known_of later c.turns.new.deriv) K L old new (Ok c.in_ok-compared.compared)) c.same_at_once.ensures.goes.adds.env
    c.in_ok-compared.ensures.answer in
    compare_same env c.args.nest a b (tree_at later c.args.a) (tree_at later c.args.b) later (known_of later c.turns.new.deriv) K L (pairs_of later c.remember.new.known) old new c.in_ok-compared.compared c.in-Same.equal
    (omega (arith, c.if-nest-gt-GREATEST_NESTING.false)) differ c.in-Same.is (tree_later _ _ _ _ c.args.a c.turns.ensures.goes c.requires.first) (tree_later _ _ _ _ c.args.b c.turns.ensures.goes c.requires.second)
    c.in_ok-remember.ensures.ok here

pub same_remembered : goal.comparison::compare-returns-in_ok-remember-clause-pairs
same_remembered t c =
    let items = c.args.bank.now in
    let later = c.turns.new.bank in
    let known = known_of later c.turns.new.deriv in
    let mid = (known_of items c.same_at_once.new.deriv).env in
    let a = tree_at items c.args.a in
    let b = tree_at items c.args.b in
    let K = pairs_of items c.args.job.now.known in
    let L = pairs_of later c.turns.new.job.known in
    let P : Compared → Type 0 = λ x. ComparedAs (Turns mid (Compares mid (c.args.nest + 1)) a b) a b (length mid) later known K L c.args.job.now.budget c.turns.new.job.budget (Ok x) in
    let h = subst P c.in-Same.is c.in_ok-compared.ensures.answer in
    let left = sym (tree_later _ _ _ _ c.args.a c.turns.ensures.goes c.requires.first) in
    let right = sym (tree_later _ _ _ _ c.args.b c.turns.ensures.goes c.requires.second) in
    let equal =
    subst (λ n. Equates known c.in-Same.equal (tree_at later c.args.a) (tree_at later c.args.b) n) (ap length (sym c.turns.ensures.goes.adds.env))
    (subst (λ x. Equates known c.in-Same.equal x (tree_at later c.args.b) (length mid)) left (subst (λ y. Equates known c.in-Same.equal a y (length mid)) right h.1)) in
    kept_live later known (length known.env) c.turns.new.job.known c.remember.new.known _ c.turns.ensures.ready.pairs
    (record {
      terms = record { left = term_later _ _ _ _ c.args.a c.turns.ensures.goes c.requires.first; right = term_later _ _ _ _ c.args.b c.turns.ensures.goes c.requires.second };
      equal = equal;
    })
    c.remember.ensures.kept

pub apart_answers : goal.comparison::compare-returns-in_default-compared-clause-answer
apart_answers t c =
    let items = c.args.bank.now in
    let env = (known_of items c.args.deriv.now).env in
    let later = c.turns.new.bank in
    let a = tree_at items c.args.a in
    let b = tree_at items c.args.b in
    let K = pairs_of items c.args.job.now.known in
    let L = pairs_of later c.turns.new.job.known in
    let old = c.args.job.now.budget in
    let new = c.turns.new.job.budget in
    let differ = not_found (known_of items c.same_at_once.new.deriv) K a b c.in_ok-equal.field-0 c.in_default.not-Some c.in_ok-equal.ensures.found in
    let here =
    subst (λ v. ComparedAs (Turns v (Compares v (c.args.nest + 1)) a b) a b (length v) later (known_of later c.turns.new.deriv) K L old new (Ok c.in_ok-compared.compared)) c.same_at_once.ensures.goes.adds.env
    c.in_ok-compared.ensures.answer in
    compare_apart env c.args.nest a b later (known_of later c.turns.new.deriv) K L old new c.in_ok-compared.compared c.in_default-compared.field-0 c.in_default-compared.field-1 c.in_default-compared.field-2
    (omega (arith, c.if-nest-gt-GREATEST_NESTING.false)) differ c.in_default-compared.is here

pub apart_shown : goal.comparison::compare-returns-in_default-compared-clause-apart
apart_shown t c =
    let items = c.args.bank.now in
    let env = (known_of items c.args.deriv.now).env in
    let later = c.turns.new.bank in
    let a = tree_at items c.args.a in
    let b = tree_at items c.args.b in
    let K = pairs_of items c.args.job.now.known in
    let L = pairs_of later c.turns.new.job.known in
    shows_apart env c.args.nest a b (length env) later (known_of later c.turns.new.deriv) K L c.args.job.now.budget c.turns.new.job.budget c.in_ok-compared.compared
    (env_scoped items c.args.deriv.now c.requires.sound) (apart_answers t c)
