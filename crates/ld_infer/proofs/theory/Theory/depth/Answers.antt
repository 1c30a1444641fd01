use Rattle.std.proofs.Common.{◌≡◌, length, ap, ◌∙◌, sym, arith}
use Rattle.ld_terms.specs.Tree.{count}
use Rattle.ld_infer.specs.Standing.{Standing}
use Rattle.ld_infer.proofs.Contexts.{count-context_of}
use Rattle.ld_infer.proofs.theory.Theory.depth.Goals as goal
use Rattle.ld_infer.proofs.theory.Theory.depth.Goals.{After-len}

-- there are as many variables as the context has
many : (c : After-len) → length c.self.inside.variables.items ≡ count c.args.self.now.context
many c = sym (count-context_of c.self.inside.bank c.self.inside.variables.items) ∙ ap (λ (s : Standing). count s.context) c.self.view_is

pub overflow_cast-result : goal.overflow_cast-result
overflow_cast-result c = let all = many c in omega arith

pub returns : goal.returns
returns c = let all = many c in omega arith
