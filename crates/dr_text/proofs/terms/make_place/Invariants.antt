use Rattle.std.proofs.Common.{◌≡◌, ℕ, None, ◌-◌, suc, get_or, vec_len}
use Rattle.dr_text.proofs.terms.make_place.Given as goal

abbrev pub invariant-loop-numbers : goal.invariant-loop-numbers
invariant-loop-numbers l = (i : ℕ) → get_or l.numbers.items i None ≡ get_or l.fn.numbers.items i None

abbrev pub decreases-loop-numbers : goal.decreases-loop-numbers
decreases-loop-numbers l = suc l.place - vec_len l.numbers
