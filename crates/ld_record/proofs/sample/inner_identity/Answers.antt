use Rattle.std.proofs.Common.{ap, sym, ◌∙◌, subst}
use mathlib.Core.Path.{ap₂}
use Rattle.ld_terms.specs.Tree.{Tree, ◌▸◌}
use Rattle.ld_terms.specs.Put.{lift}
use Rattle.ld_terms.specs.Derivable.{IsSort}
use Rattle.ld_terms.specs.Known.{Judgement}
use Rattle.ld_record.proofs.sample.inner_identity.Goals as goal

pub emit-requires-clause-fits : goal.emit-requires-clause-fits
emit-requires-clause-fits c =
    let identity = c.requires.identity in
    let typed = c.requires.typed in
    let body = c.judge.ensures.is ∙ c.requires.body.is in
    let same = c.judge-2.ensures.is in
    let is = same ∙ identity.is in
    let sorted : Tree → Type 0 = λ s. IsSort s in
    record {
      numbers = record {
        entries = c.judge-2.ensures.numbers.entries;
        context = c.judge.ensures.numbers.context;
        term = c.judge-2.ensures.numbers.term;
        of = c.judge-2.ensures.numbers.of;
      };
      follows = record {
        first = record { live = identity.live; entries = sym (ap (λ (q : Judgement). q.entries) same) };
        second = record { live = typed.live; entries = ap (λ (q : Judgement). q.entries) typed.is ∙ sym (ap (λ (q : Judgement). q.entries) is) };
        same = ap (λ (q : Judgement). q.context) typed.is ∙ sym (ap (λ (q : Judgement). q.context) identity.is);
        sort = subst sorted (sym (ap (λ (q : Judgement). q.type) typed.is)) IsSort.star;
        context = ap (λ (q : Judgement). q.context) body ∙ sym (ap₂ ◌▸◌ (ap (λ (q : Judgement). q.context) identity.is) (ap (λ (q : Judgement). q.term) typed.is));
        term = ap (λ (q : Judgement). q.term) is ∙ sym (ap (λ (q : Judgement). lift q.term 1 0) identity.is);
        type = ap (λ (q : Judgement). q.type) is ∙ sym (ap (λ (q : Judgement). lift q.type 1 0) identity.is);
      };
    }
