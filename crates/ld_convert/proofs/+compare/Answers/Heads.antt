-- What `by_heads` answers at each of its ends.
use Rattle.std.proofs.Common.{rules, ◌≡◌, ◌+◌, length, Ok, Err, Result, sym, ◌∙◌, subst}
use Rattle.ld_terms.specs.Bank.{tree_at}
use Rattle.ld_record.specs.Kept.{known_of}
use Rattle.ld_reduce.specs.declared.stop.Stop.{Stop}
use Rattle.ld_convert.specs.Compares.{Compares, heads_turn}
use Rattle.ld_convert.specs.Pairs.{pairs_of}
use Rattle.ld_convert.specs.Turned.{TurnedAs}
use Rattle.ld_convert.specs.declared.turning.Turned.{Turned}
use Rattle.ld_convert.proofs.ByHeads.{not_equal, sides_known, unfolds_here, heads_stop, done_same, done_apart, done_unfolded, unfolded_stops}
use Rattle.ld_convert.proofs.Ready.{pairs_stay}
use Rattle.ld_convert.proofs.+compare.Goals as goal

pub same_or_apart : goal.turning::by_heads-returns-in_default-2-clause-answer
same_or_apart t c =
    let items = c.args.bank.now in
    let env = (known_of items c.args.deriv.now).env in
    let mid = c.by_parts.new.bank in
    let differ = not_equal items c.args.a c.args.b c.same.result c.requires.terms.first c.requires.terms.second c.same.ensures c.if-same.false in
    done_same env (Compares env (c.args.nest + 1)) (tree_at items c.args.a) (tree_at items c.args.b) (length env) mid (known_of mid c.by_parts.new.deriv)
    (pairs_of items c.args.job.now.known) (pairs_of mid c.by_parts.new.job.known) c.args.job.now.budget c.by_parts.new.job.budget c.in_ok-compared.compared c.in_default.field-0
    differ c.in_default.is c.in_ok-compared.ensures.answer

pub apart_at_heads : goal.turning::by_heads-returns-in_default-clause-answer
apart_at_heads t c =
    let items = c.args.bank.now in
    let env = (known_of items c.args.deriv.now).env in
    let mid = c.by_parts.new.bank in
    let s = c.sides_to_unfold-sides.result in
    let differ = not_equal items c.args.a c.args.b c.same.result c.requires.terms.first c.requires.terms.second c.same.ensures c.if-same.false in
    let ss = sides_known env _ (tree_at items c.args.a) (tree_at items c.args.b) s c.requires.ready.env c.sides_to_unfold-sides.ensures.sides in
    done_apart env (Compares env (c.args.nest + 1)) (tree_at items c.args.a) (tree_at items c.args.b) (length env) mid (known_of mid c.by_parts.new.deriv) s
    (pairs_of items c.args.job.now.known) (pairs_of mid c.by_parts.new.job.known) c.args.job.now.budget c.by_parts.new.job.budget c.in_ok-compared.compared c.in-Apart.left c.in-Apart.right c.in-Apart.under
    differ ss (sym c.is_some.ensures ∙ c.if-is_some.false) c.in-Apart.is c.in_ok-compared.ensures.answer

pub parts_stop : goal.turning::by_heads-returns-in_err-compared-clause-answer
parts_stop t c =
    let items = c.args.bank.now in
    let env = (known_of items c.args.deriv.now).env in
    let mid = c.by_parts.new.bank in
    let a = tree_at items c.args.a in
    let b = tree_at items c.args.b in
    let compare = Compares env (c.args.nest + 1) in
    let K = pairs_of items c.args.job.now.known in
    let L = pairs_of mid c.by_parts.new.job.known in
    let old = c.args.job.now.budget in
    let new = c.by_parts.new.job.budget in
    let differ = not_equal items c.args.a c.args.b c.same.result c.requires.terms.first c.requires.terms.second c.same.ensures c.if-same.false in
    let is : Err c.in_err-compared.field-0.0 ≡ c.from_residual-in_err-compared.result = search rules in
    let P : Result Turned Stop → Type 0 = λ r. TurnedAs (heads_turn env compare a b) a b (length env) mid (known_of mid c.by_parts.new.deriv) K L old new r in
    subst P is (heads_stop env compare a b K L old new c.in_err-compared.field-0.0 differ c.in_err-compared.ensures.answer)

pub unfolding_stops : goal.turning::by_heads-returns-in_err-led-in-Apart-clause-answer
unfolding_stops t c =
    let items = c.args.bank.now in
    let env = (known_of items c.args.deriv.now).env in
    let mid = c.by_parts.new.bank in
    let later = c.unfold_sides.new.bank in
    let a = tree_at items c.args.a in
    let b = tree_at items c.args.b in
    let compare = Compares env (c.args.nest + 1) in
    let s = c.sides_to_unfold-sides.result in
    let K = pairs_of items c.args.job.now.known in
    let L = pairs_of mid c.by_parts.new.job.known in
    let M = pairs_of later c.by_parts.new.job.known in
    let old = c.args.job.now.budget in
    let between = c.by_parts.new.job.budget in
    let new = c.unfold_sides.new.budget in
    let f = c.in_err-led-in-Apart.field-0.0 in
    let differ = not_equal items c.args.a c.args.b c.same.result c.requires.terms.first c.requires.terms.second c.same.ensures c.if-same.false in
    let ss = sides_known env _ a b s c.requires.ready.env c.sides_to_unfold-sides.ensures.sides in
    let same = pairs_stay mid later c.by_parts.new.deriv c.unfold_sides.new.deriv _ c.by_parts.new.job.known c.unfold_sides.ensures.goes c.by_parts.ensures.ready.pairs in
    let u = unfolds_here items mid later c.args.deriv.now c.by_parts.new.deriv (known_of later c.unfold_sides.new.deriv) c.args.a c.args.b s L between new (Err f)
    c.by_parts.ensures.goes c.requires.terms.first c.requires.terms.second (c.in_err-led-in-Apart.ensures.answer L) in
    let is : Err f ≡ c.from_residual-in_err-led-in-Apart.result = search rules in
    let P : Result Turned Stop → Type 0 = λ r. TurnedAs (heads_turn env compare a b) a b (length env) later (known_of later c.unfold_sides.new.deriv) K M old new r in
    subst P is
    (unfolded_stops env compare a b (length env) mid (known_of mid c.by_parts.new.deriv) s K L M old between new c.in_ok-compared.compared c.in-Apart.left c.in-Apart.right c.in-Apart.under f
    differ ss (sym c.is_some.ensures ∙ c.if-is_some.true) c.in-Apart.is same c.in_ok-compared.ensures.answer u)

pub unfolding_leads : goal.turning::by_heads-returns-in_ok-led-in-Apart-clause-answer
unfolding_leads t c =
    let items = c.args.bank.now in
    let env = (known_of items c.args.deriv.now).env in
    let mid = c.by_parts.new.bank in
    let later = c.unfold_sides.new.bank in
    let a = tree_at items c.args.a in
    let b = tree_at items c.args.b in
    let s = c.sides_to_unfold-sides.result in
    let L = pairs_of mid c.by_parts.new.job.known in
    let between = c.by_parts.new.job.budget in
    let new = c.unfold_sides.new.budget in
    let known = known_of later c.unfold_sides.new.deriv in
    let l = c.in_ok-led-in-Apart.led in
    let differ = not_equal items c.args.a c.args.b c.same.result c.requires.terms.first c.requires.terms.second c.same.ensures c.if-same.false in
    let ss = sides_known env _ a b s c.requires.ready.env c.sides_to_unfold-sides.ensures.sides in
    let same = pairs_stay mid later c.by_parts.new.deriv c.unfold_sides.new.deriv _ c.by_parts.new.job.known c.unfold_sides.ensures.goes c.by_parts.ensures.ready.pairs in
    let u = unfolds_here items mid later c.args.deriv.now c.by_parts.new.deriv known c.args.a c.args.b s L between new (Ok l)
    c.by_parts.ensures.goes c.requires.terms.first c.requires.terms.second (c.in_ok-led-in-Apart.ensures.answer L) in
    done_unfolded env (Compares env (c.args.nest + 1)) a b (length env) mid later (known_of mid c.by_parts.new.deriv) known s
    (pairs_of items c.args.job.now.known) L (pairs_of later c.by_parts.new.job.known) c.args.job.now.budget between new c.in_ok-compared.compared c.in-Apart.left c.in-Apart.right c.in-Apart.under l
    differ ss (sym c.is_some.ensures ∙ c.if-is_some.true) c.in-Apart.is same c.in_ok-compared.ensures.answer u
