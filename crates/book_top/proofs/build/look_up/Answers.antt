use Rattle.std.proofs.Common.{ap, ◌∙◌}
use Rattle.fb_scope.specs.Resolve.{resolve}
use Rattle.ld_infer.specs.Standing.{env}
use Rattle.book_top.proofs.Continuing.{theory_names}
use Rattle.book_top.proofs.Formed.{implied_open}
use Rattle.book_top.proofs.build.look_up.Goals as goal

pub returns-clause-found : goal.returns-clause-found
returns-clause-found c =
    c.resolve.ensures.found
    ∙ ap (λ names. resolve c.args.scope.now names c.args.name.now c.args.given c.args.instance) (theory_names c.args.theory.now c.env.result.now c.env.ensures.entries c.env.ensures.trees)

pub returns-clause-few : goal.returns-clause-few
returns-clause-few c =
    let path = c.resolve.ensures.found
    ∙ ap (λ names. resolve c.args.scope.now names c.args.name.now c.args.given c.args.instance) (theory_names c.args.theory.now c.env.result.now c.env.ensures.entries c.env.ensures.trees) in
    implied_open (env c.args.theory.now) c.args.scope.now c.args.name.now c.args.given c.args.instance c.resolve.result path c.resolve.ensures.implied
