use Rattle.std.proofs.Common.{◌≡◌, ◌<◌, ℕ, length, get_or, Some, None}
use Rattle.dr_text.proofs.terms.Terms.forget_from.Given as goal

-- no number is another than it was, and those before the place are below the count
abbrev pub invariant-loop-place : goal.invariant-loop-place
invariant-loop-place l =
    (length l.self.numbers.items ≡ length l.fn.self.numbers.items)
    × ((i n : ℕ) → get_or l.self.numbers.items i None ≡ Some n → get_or l.fn.self.numbers.items i None ≡ Some n)
    × ((i n : ℕ) → i < l.place → get_or l.self.numbers.items i None ≡ Some n → n < l.count)
