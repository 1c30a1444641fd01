use Rattle.std.proofs.Common.{sym, subst}
use Rattle.ld_env.specs.Named.{names_of}
use Rattle.fb_lex.specs.Tokens.{IsName}
use Rattle.fb_show.specs.Laws.{AreNames}
use Rattle.fb_show.proofs.SampleNames.{one_more_name}
use Rattle.fb_show.proofs.tests.push.Goals as goal

pub returns-clause-names : goal.returns-clause-names
returns-clause-names c =
    subst (λ v. AreNames (names_of v)) (sym c.in_ok-push-2.ensures.ok)
    (one_more_name c.args.env.now _ c.requires.names (subst IsName (sym c.in_ok-from_bytes.ensures) c.requires.name))
