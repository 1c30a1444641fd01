use Rattle.std.proofs.Common.{◌≡◌, List, [], ◌∙◌, sym, subst, arith}
use Rattle.std.specs.List.{AllByRecursion}
use Rattle.ld_terms.specs.Tree.{Tree, Trees, Star, Const, Nil}
use Rattle.ld_terms.specs.Put.{put}
use Rattle.ld_terms.specs.Known.{IsNode, JudgeArguments}
use Rattle.ld_record.specs.declared.record.JudgeId.{JudgeId}
use Rattle.ld_record.specs.declared.record.Step.TheVariants.{InstPrim}
use Rattle.ld_record.specs.Follows.{numbers_of, entry_at, ByInstPrim}
use Rattle.ld_record.specs.Kept.{known_of}
use Rattle.ld_record.specs.Tests.{judged}
use Rattle.ld_record.proofs.Judged.{judge_none}
use Rattle.ld_record.proofs.CallerLemmas.{node_fits}
use Rattle.ld_record.proofs.Following.{by_inst_prim, says_empty, number_said}
use Rattle.ld_record.proofs.sample.typed.Goals as goal

pub emit-requires-clause-fits : goal.emit-requires-clause-fits
emit-requires-clause-fits c =
    let items = c.args.bank.now in
    let k0 = known_of items c.args.deriv.now in
    let none : c.from_vec-none.result ≡ [] = c.from_vec-none.ensures ∙ c.new.ensures.items in
    let L : List JudgeId → Type 0 = λ js. AllByRecursion (IsNode k0) (numbers_of js) in
    let J : List JudgeId → Type 0 = λ js. JudgeArguments k0 (numbers_of js) 1 Nil (entry_at k0.env 0).params Nil in
    let P : Trees → Type 0 = λ ps. JudgeArguments k0 [] 1 Nil ps Nil in
    let T : Tree → Type 0 = λ t. ByInstPrim k0 (judged 1 Nil (Const 0 Nil) (put t Nil)) c.args.j c.from_vec-none.result in
    let says = says_empty items c.args.deriv.now 1 c.empty.result c.args.a c.args.star (Const 0 Nil) Star c.empty.ensures (omega (arith, c.requires.there)) c.requires.a c.requires.star in
    node_fits items k0 _ (judged 1 Nil (Const 0 Nil) Star) (InstPrim c.args.j c.from_vec-none.result) says
    (subst T c.requires.of (by_inst_prim k0 c.args.j c.from_vec-none.result 1 0 Nil Nil c.requires.over (omega arith) (omega (arith, c.requires.there)) c.requires.body
    (subst L (sym none) tt) (subst J (sym none) (subst P (sym c.requires.params) (judge_none k0 1 Nil)))))

pub returns-clause-number : goal.returns-clause-number
returns-clause-number c =
    let items = c.args.bank.now in
    let says = says_empty items c.args.deriv.now 1 c.empty.result c.args.a c.args.star (Const 0 Nil) Star c.empty.ensures (omega (arith, c.requires.there)) c.requires.a c.requires.star in
    number_said items (known_of items c.args.deriv.now) (known_of items c.emit.new.self) _ _ c.emit.result says c.emit.ensures.number
