-- The one answer of a task, from those of its parts.
use Rattle.std.proofs.Common.{◌≡◌, ◌+◌, ℕ, refl, sym, ap, ◌∙◌, subst, arith}
use Rattle.ld_terms.specs.Tree.{Tree}
use Rattle.ld_terms.specs.Item.{One, IsSmall}
use Rattle.ld_reduce.specs.Task.{Pairs, Answer, Gives, Fails, High, Task, gives, fails, step, formed, small, high, Ends, fault, nesting, ◌>>=◌, goes_on, ends, with_fault, faults_by, Answers}

pub gives_answers : {E X : Type 0} (x : X) (K : Pairs) → Answers {E = E} (gives x) K (Gives x) K 0
gives_answers x K = record { is = (refl, refl, refl); only = λ s L m h. h }

pub fails_answers : {E X : Type 0} (e : E) (K : Pairs) → Answers {E = E} {X = X} (fails e) K (Fails e) K 0
fails_answers e K = record { is = (refl, refl, refl); only = λ s L m h. h }

pub step_answers : {E : Type 0} (K : Pairs) → Answers {E = E} step K (Gives tt) K 1
step_answers K = record { is = (refl, refl, refl); only = λ s L m h. h }

pub formed_answers : {E : Type 0} (t : Tree) (K : Pairs) → IsSmall (One t) → Answers {E = E} (formed t) K (Gives t) K 0
formed_answers t K s = record { is = small s refl refl refl; only = λ r L m h. elim h [ small p e k z ↦ (e, k, z) | high n e k z ↦ absurd (n s) ] }

pub formed_high : {E : Type 0} (t : Tree) (K : Pairs) → (¬ IsSmall (One t)) → Answers {E = E} (formed t) K High K 0
formed_high t K n = record { is = high n refl refl refl; only = λ r L m h. elim h [ small p e k z ↦ absurd (n p) | high q e k z ↦ (e, k, z) ] }

-- what gives a value and what goes on with it
pub bind_answers : {E X Y : Type 0} (p : Task E X) (f : X → Task E Y) (x : X) (K K1 : Pairs) (r : Answer E Y) (K' : Pairs) (i j : ℕ)
    → Answers p K (Gives x) K1 i → Answers (f x) K1 r K' j → Answers (p >>= f) K r K' (i + j)
bind_answers {E = E} {X = X} {Y = Y} p f x K K1 r K' i j a b = record {
  is = goes_on x K1 i j a.is b.is refl;
  only = λ s L m h. elim h [
    | goes_on y M k l first second sum ↦ after s L m y M k l first second sum
    | ends stop first end ↦ absurd (gives_ends stop s (a.only stop L m first).0 end)
  ];
}
  where
    gives_ends : (stop : Answer E X) (s : Answer E Y) → stop ≡ Gives x → Ends stop s → ⊥
    gives_ends stop s e fault = cc
    gives_ends stop s e high = cc
    gives_ends stop s e nesting = cc

    after : (s : Answer E Y) (L : Pairs) (m : ℕ) (y : X) (M : Pairs) (k l : ℕ) → p K (Gives y) M k → f y M s L l → m ≡ k + l → (s ≡ r) × (L ≡ K') × (m ≡ i + j)
    after s L m y M k l first second sum =
        let one = a.only (Gives y) M k first in
        let same : y ≡ x = cc in
        let P : X → Type 0 = λ z. f z M s L l in
        let Q : Pairs → Type 0 = λ N. f x N s L l in
        let two = b.only s L l (subst Q one.1 (subst P same second)) in
        (two.0, two.1, omega (arith, sum, one.2, two.2))

-- what ends ends the whole
pub ends_answers : {E X Y : Type 0} (p : Task E X) (f : X → Task E Y) (s : Answer E X) (r : Answer E Y) (K K' : Pairs) (n : ℕ)
    → Answers p K s K' n → Ends s r → Answers (p >>= f) K r K' n
ends_answers {E = E} {X = X} {Y = Y} p f s r K K' n a e = record {
  is = ends s a.is e;
  only = λ t L m h. elim h [
    | goes_on y M k l first second sum ↦ absurd (ends_gives s r y (sym (a.only (Gives y) M k first).0) e)
    | ends stop first end ↦ let o = a.only stop L m first in (ends_once s r stop t o.0 e end, o.1, o.2)
  ];
}
  where
    ends_gives : (s : Answer E X) (r : Answer E Y) (y : X) → s ≡ Gives y → Ends s r → ⊥
    ends_gives s r y q fault = cc
    ends_gives s r y q high = cc
    ends_gives s r y q nesting = cc

    ends_once : (s : Answer E X) (r : Answer E Y) (stop : Answer E X) (t : Answer E Y) → stop ≡ s → Ends s r → Ends stop t → t ≡ r
    ends_once s r stop t q fault fault = cc
    ends_once s r stop t q fault high = cc
    ends_once s r stop t q fault nesting = cc
    ends_once s r stop t q high fault = cc
    ends_once s r stop t q high high = cc
    ends_once s r stop t q high nesting = cc
    ends_once s r stop t q nesting fault = cc
    ends_once s r stop t q nesting high = cc
    ends_once s r stop t q nesting nesting = cc

-- with a fault told anew
pub faults_answers : {E F X : Type 0} (g : E → F) (p : Task E X) (r : Answer E X) (K K' : Pairs) (n : ℕ) → Answers p K r K' n → Answers (faults_by g p) K (with_fault g r) K' n
faults_answers g p r K K' n a = record {
  is = (r, a.is, refl);
  only = λ s L m h. let o = a.only h.0 L m h.1 in (h.2 ∙ ap (with_fault g) o.0, o.1, o.2);
}
