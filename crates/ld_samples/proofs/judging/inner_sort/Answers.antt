use Rattle.std.proofs.Common.{◌≡◌, List, refl, ap, sym, subst, IfOk}
use mathlib.Core.Path.{ap₂}
use Rattle.ld_terms.specs.Tree.{Trees, Star, Box, Nil, ◌▸◌}
use Rattle.ld_terms.specs.Item.{Item, tree, IsOne}
use Rattle.ld_terms.specs.Derivable.{IsSort}
use Rattle.ld_terms.specs.Known.{Judgement, context_at}
use Rattle.ld_terms.specs.Bank.{StandsFor, tree_at}
use Rattle.ld_terms.specs.declared.bank.TermId.{TermId}
use Rattle.ld_record.specs.declared.record.CtxId.{CtxId}
use Rattle.ld_record.specs.declared.record.Kept.{Kept}
use Rattle.ld_record.specs.declared.record.Step.TheVariants.{Weak}
use Rattle.ld_record.specs.Kept.{known_of}
use Rattle.ld_record.specs.Growth.{Knows, KnowsContext}
use Rattle.ld_record.proofs.Growing.{knows_later, judged_by}
use Rattle.ld_record.proofs.CallerLemmas.{said, node_fits, empty_known}
use Rattle.ld_record.proofs.Following.{by_weak}
use Rattle.ld_samples.specs.Samples as sample
use Rattle.ld_samples.proofs.Sampled.{says}
use Rattle.ld_samples.proofs.judging.inner_sort.Goals as goal

pub extend-requires-clause-fits : goal.extend-requires-clause-fits
extend-requires-clause-fits c = record {
  context = (empty_known c.args.bank.now c.args.deriv.now c.empty-empty.result c.empty-empty.ensures).live;
  term = record { live = c.requires.terms.star_is.live; form = subst IsOne (sym c.requires.terms.star_is.item) tt };
  judged = judged_by (known_of c.args.bank.now c.args.deriv.now) c.args.j _ (tree_at c.args.bank.now c.args.terms.star) c.requires.judged (sym (ap tree c.requires.terms.star_is.item));
}

-- the empty context, extended
extended : (items : List Item) (old new : List Kept) (none ctx : CtxId) (star : TermId) → none.0 ≡ 0 → KnowsContext (known_of items new) ctx (context_at (known_of items old) none.0 ▸ tree_at items star)
    → StandsFor items star Star → KnowsContext (known_of items new) ctx (Nil ▸ Star)
extended items old new none ctx star zero h is =
    let P : Trees → Type 0 = λ us. KnowsContext (known_of items new) ctx us in
    subst P (ap₂ ◌▸◌ (empty_known items old none zero).is (ap tree is.item)) h

pub emit-requires-clause-fits : goal.emit-requires-clause-fits
emit-requires-clause-fits c =
    let known = known_of c.args.bank.now c.extend.new.self in
    let here = knows_later (known_of c.args.bank.now c.args.deriv.now) known c.args.j sample.sort c.extend.ensures.adds c.requires.judged in
    node_fits c.args.bank.now known _ sample.inner_sort (Weak c.args.j c.args.j)
    (says _ _ _ sample.inner_sort refl refl (extended c.args.bank.now c.args.deriv.now c.extend.new.self c.empty-empty.result c.in_ok-ctx.ctx c.args.terms.star c.empty-empty.ensures c.in_ok-ctx.ensures.number c.requires.terms.star_is)
    c.requires.terms.star_is c.requires.terms.over_is)
    (by_weak known c.args.j c.args.j 0 Nil Star Box Star Box IsSort.box here here)

pub returns-clause-number : goal.returns-clause-number
returns-clause-number c =
    let P : Judgement → Type 0 = λ q. IfOk c.emit.result (λ k. Knows (known_of c.args.bank.now c.emit.new.self) k q) in
    subst P
    (said c.args.bank.now (known_of c.args.bank.now c.extend.new.self) _ sample.inner_sort
    (says _ _ _ sample.inner_sort refl refl (extended c.args.bank.now c.args.deriv.now c.extend.new.self c.empty-empty.result c.in_ok-ctx.ctx c.args.terms.star c.empty-empty.ensures c.in_ok-ctx.ensures.number c.requires.terms.star_is)
    c.requires.terms.star_is c.requires.terms.over_is))
    c.emit.ensures.number
