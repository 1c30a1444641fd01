-- Texts appended one after the other, up to one limit.
use Rattle.std.proofs.Common.{◌≡◌, ℕ, ◌≤◌, ⊎_elim, List, [], ◌++◌, length, take, ap, ◌∙◌, sym, subst, arith, append_assoc}
use Rattle.std.proofs.lemmas.Bool.{cases_lt}
use Rattle.std.proofs.lemmas.List.{append-nil, take_all, take-append-le, length-take-le}
use Rattle.fb_show.specs.Cut.{Filled}

again : (l : ℕ) (x b : List ℕ) → take l (take l x ++ b) ≡ take l (x ++ b)
again l x b = ⊎_elim
    (λ long. let n : length (take l x) ≡ l = length-take-le l x (omega (arith, long)) in
    take-append-le l (take l x) b (omega (arith, n)) ∙ take_all l (take l x) (omega (arith, n)) ∙ sym (take-append-le l x b (omega (arith, long))))
    (λ short. ap (λ v. take l (v ++ b)) (take_all l x short))
    (cases_lt l (length x))

pub filled_then : {l : ℕ} {o m n a b : List ℕ} → Filled l o m a → Filled l m n b → Filled l o n (a ++ b)
filled_then {l} {o} {m} {n} {a} {b} p q = record { filled = q.filled ∙ ap (λ v. take l (v ++ b)) p.filled ∙ again l (o ++ a) b ∙ ap (take l) (append_assoc o a b) }

pub filled_already : {l : ℕ} (o a : List ℕ) → length o ≡ l → Filled l o o a
filled_already {l} o a e = record { filled = sym (take-append-le l o a (omega (arith, e)) ∙ take_all l o (omega (arith, e))) }

pub filled_nothing : {l : ℕ} (o : List ℕ) → length o ≤ l → Filled l o o []
filled_nothing {l} o e = record { filled = sym (ap (take l) (append-nil o) ∙ take_all l o e) }

pub filled_as : {l : ℕ} {o n a b : List ℕ} → a ≡ b → Filled l o n a → Filled l o n b
filled_as {l} {o} {n} e p = subst (Filled l o n) e p
