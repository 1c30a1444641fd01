use Rattle.std.proofs.Common.{◌≡◌, ◌++◌, ◌∷◌, [], ap, ◌∙◌, arith}
use Rattle.std.proofs.lemmas.Grind.{common_steps}
use Rattle.fb_parse.specs.View.{views}
use Rattle.fb_show.proofs.Trees.{views_push}
use Rattle.fb_show.proofs.term.push.Goals as goal

pub returns-in-Ok : goal.returns-in-Ok
returns-in-Ok c =
    let e : c.push.new.self.items ≡ c.args.args.now.items ++ c.args.last ∷ [] = grind (arith, common_steps) in
    ap views e ∙ views_push c.args.args.now.items c.args.last
