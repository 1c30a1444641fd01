use Rattle.std.proofs.Common.{◌≡◌, ◌++◌, ◌∷◌, [], List, ap, sym, subst, ◌∙◌, arith}
use Rattle.std.proofs.lemmas.Grind.{common_steps}
use Rattle.ld_terms.specs.Item.{Item}
use Rattle.ld_terms.specs.Known.{with_node}
use Rattle.dr_check.specs.Stage.{Stage, judgement_of, IsJudgedAt}
use Rattle.dr_check.proofs.Growing.{Say, node_said}
use Rattle.dr_check.proofs.checker.Checker.add_node.Goals as goal
use Rattle.dr_check.proofs.checker.Checker.add_node.Goals.{In_ok-map_err}

pub returns-clause-ok : goal.returns-clause-ok
returns-clause-ok c =
    let items : c.self.inside.bank ≡ c.args.self.now.items = ap (λ (x : Stage). x.items) c.self.view_is in
    let push : c.push.new.self.items ≡ c.self.inside.nodes.items ++ c.args.judged ∷ [] = grind (arith, common_steps) in
    let say : Say c.self.inside.bank c.self.inside.env c.self.inside.terms.items c.self.inside.contexts.items c.self.inside.equalities.items c.self.inside.nodes.items c.self.inside.notes.items c.args.self.now.state =
    record { tables = c.self.invariant; state = ap (λ (x : Stage). x.state) c.self.view_is } in
    (node_said _ _ _ _ _ _ _ _ say c.push.new.self.items c.args.judged push (subst (λ (x : List Item). IsJudgedAt x c.args.judged) (sym items) c.requires)).state
    ∙ ap (λ (x : List Item). record c.args.self.now.state { known = with_node c.args.self.now.state.known (judgement_of x c.args.judged) }) items
