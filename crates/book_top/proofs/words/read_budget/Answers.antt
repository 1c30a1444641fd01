use Rattle.std.proofs.Common.{◌≡◌, ◌∙◌, ◌==◌, false, sym, arith}
use Rattle.std.specs.Prelude.{slice_index}
use Rattle.book_top.proofs.Budgets.{none_given, some_given}
use Rattle.book_top.proofs.words.read_budget.Goals as goal

pub returns-in_default : goal.returns-in_default
returns-in_default c = none_given c.args.text cc

pub returns-in-Ok : goal.returns-in-Ok
returns-in-Ok c =
    let test : (slice_index c.in-Some.text.now 0 == 43) ≡ false = sym (c.starts_with.ensures.byte (omega arith) (omega arith) (λ w o h. h)) ∙ c.if-starts_with.false in
    some_given c.args.text c.in-Some.text c.in-Ok.budget c.in-Some.is (omega arith) test c.in-Ok.ensures.value.0.0.0 c.in-Ok.ensures.value.0.1 (omega arith)
