use Rattle.std.proofs.Common.{length, ap, sym, subst, ◌∙◌}
use Rattle.std.proofs.lemmas.List.Elements.{All-nil}
use Rattle.ld_terms.specs.Entry.{Env, IsFresh}
use Rattle.ld_terms.specs.Derivable.{IsSort}
use Rattle.ld_terms.specs.Known.{Judgement}
use Rattle.dr_text.proofs.variable_tests.primitive.Goals as goal

pub entry-requires-clause-fits : goal.entry-requires-clause-fits
entry-requires-clause-fits c =
    let F : Env → Type 0 = λ env. IsFresh c.args.name env in
    let S : Judgement → Type 0 = λ q. IsSort q.type in
    let sort = c.requires.sort in
    record {
      live = sort.live;
      may = record {
        free = record { some = c.requires.some; short = c.requires.short; fresh = subst F (sym c.requires.env) (All-nil _) };
        over = ap (λ (q : Judgement). q.entries) sort.is ∙ sym (ap length c.requires.env);
        sort = subst S (sym sort.is) IsSort.box;
      };
    }
