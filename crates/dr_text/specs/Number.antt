-- Numbers in the least number of bytes, seven bits a byte, the lowest first.
use Rattle.std.specs.Prelude.{ℕ, zero, suc, ◌+◌, ◌/◌, ◌%◌, List, [], ◌∷◌, nat_lt, if◌then◌else◌}

-- with at most this many bytes before the last
abbrev pub number_within : (room : ℕ) → ℕ → List ℕ
number_within zero n = n ∷ []
number_within (suc room) n = if nat_lt n 128 then n ∷ [] else (n % 128 + 128) ∷ number_within room (n / 128)

unfoldable pub number : ℕ → List ℕ
number n = number_within n n
