-- The count of faults rises on the way to an answer.
use Rattle.std.proofs.Common.{◌≡◌, ◌≤◌, ◌⊎◌, inl, inr, ⊎_elim, ℕ, arith}
use Rattle.std.proofs.lemmas.Bool.{cases_lt}
use Rattle.fb_base.specs.Desk.{Rose}
use Rattle.book_top.specs.declared.status.Status.{Status}
use Rattle.book_top.specs.declared.status.Status.TheVariants as status

-- it rose on the way
pub rises_within : (a b c d : ℕ) → a ≤ b → b ≤ c → Rose b c → c ≤ d → Rose a d
rises_within a b c d ab bc (inl h) cd = inl (omega (arith, ab, h, cd))
rises_within a b c d ab bc (inr e) cd = ⊎_elim (λ lt. inl (omega (arith, ab, bc, lt))) (λ ge. inr (omega (arith, e, cd, ge))) (cases_lt c d)

-- it rose where the answer was come to, or where it was said
pub rises_by : (a b c d : ℕ) (given answer : Status) → a ≤ b → b ≤ c → c ≤ d → (given ≡ status.Desk → Rose b c)
    → (answer ≡ status.Desk → (given ≡ status.Desk) ⊎ Rose c d)
    → answer ≡ status.Desk → Rose a d
rises_by a b c d given answer ab bc cd due said is =
    ⊎_elim (λ e. rises_within a b c d ab bc (due e) cd) (λ rose. rises_within a c d d (omega (arith, ab, bc)) cd rose (omega arith))
    (said is)
