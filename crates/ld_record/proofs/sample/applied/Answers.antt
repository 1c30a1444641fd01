use Rattle.std.proofs.Common.{ap, sym, ◌∙◌, subst}
use mathlib.Core.Path.{ap₂}
use Rattle.ld_terms.specs.Tree.{App, Pi, Const, Nil}
use Rattle.ld_terms.specs.Item.{tree, IsOne}
use Rattle.ld_terms.specs.Known.{Judgement}
use Rattle.ld_record.proofs.sample.applied.Goals as goal

pub emit-requires-clause-fits : goal.emit-requires-clause-fits
emit-requires-clause-fits c =
    let function = c.requires.function in
    let argument = c.requires.argument in
    let same = c.judge.ensures.is in
    let is = same ∙ argument.is in
    record {
      numbers = record {
        entries = c.judge.ensures.numbers.entries;
        context = c.judge.ensures.numbers.context;
        term = record { live = c.requires.term.live; form = subst IsOne (sym c.requires.term.item) tt };
        of = c.judge.ensures.numbers.of;
      };
      follows = record {
        first = record { live = function.live; entries = ap (λ (q : Judgement). q.entries) function.is ∙ sym (ap (λ (q : Judgement). q.entries) is) };
        second = record { live = argument.live; entries = sym (ap (λ (q : Judgement). q.entries) same) };
        function = ap (λ (q : Judgement). q.context) function.is ∙ sym (ap (λ (q : Judgement). q.context) is);
        argument = sym (ap (λ (q : Judgement). q.context) same);
        range = Const 0 Nil;
        product = ap (λ (q : Judgement). q.type) function.is ∙ sym (ap (λ (q : Judgement). Pi q.type (Const 0 Nil)) argument.is);
        term = ap tree c.requires.term.item ∙ sym (ap₂ App (ap (λ (q : Judgement). q.term) function.is) (ap (λ (q : Judgement). q.term) argument.is));
        type = ap (λ (q : Judgement). q.type) is;
      };
    }
