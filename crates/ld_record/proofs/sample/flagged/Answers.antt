use Rattle.std.proofs.Common.{ap, sym, ◌∙◌, subst}
use Rattle.ld_terms.specs.Tree.{Tree}
use Rattle.ld_terms.specs.Derivable.{IsSort}
use Rattle.ld_terms.specs.Known.{Judgement}
use Rattle.ld_record.proofs.sample.flagged.Goals as goal

pub flag-requires-clause-fits : goal.flag-requires-clause-fits
flag-requires-clause-fits c =
    let formed = c.requires.formed in
    let sorted : Tree → Type 0 = λ s. IsSort s in
    record {
      live = formed.live;
      may = record {
        over = ap (λ (q : Judgement). q.entries) formed.is ∙ sym c.requires.there;
        sort = subst sorted (sym (ap (λ (q : Judgement). q.type) formed.is)) IsSort.star;
      };
    }
