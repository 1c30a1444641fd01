use Rattle.std.proofs.Common.{◌≡◌, ℕ, List, map, take, get_or, ap, sym, ◌∙◌}
use Rattle.std.proofs.lemmas.List.{take_more}
use Rattle.ld_terms.specs.Tree.{◌▸◌}
use Rattle.ld_terms.specs.Bank.{tree_at}
use Rattle.ld_terms.specs.Known.{trees}
use Rattle.ld_terms.specs.Record.{State, term_at}
use Rattle.dr_check.proofs.Equating.{trees_last}
use Rattle.dr_check.proofs.checker.Checker.list_of.Goals as goal

pub loop-number-preserved : goal.loop-number-preserved
loop-number-preserved c =
    let s : State = c.args.self.now.state in
    let numbers : List ℕ = take c.loop-number.number-index c.args.numbers.now in
    let number : ℕ = get_or c.args.numbers.now c.loop-number.number-index 0 in
    let term : tree_at c.loop-number.self.items c.term-term.result ≡ term_at s number = c.term-term.ensures.is ∙ ap (λ (x : State). term_at x number) c.loop-number.invariant.same in
    record {
      same = c.keep_list-in-loop-number.ensures.same ∙ c.loop-number.invariant.same;
      list = c.in_ok-list-2.ensures.list;
      is =
          c.in_ok-list-2.ensures.is
          ∙ (λ i. c.loop-number.invariant.is i ▸ term i)
          ∙ sym (ap (λ xs. trees (map (term_at s) xs)) (take_more c.args.numbers.now c.loop-number.number-index 0 c.loop-number-test.true) ∙ trees_last (term_at s) numbers number);
    }
