-- What comes of a task, from what came of its parts.
use Rattle.std.proofs.Common.{◌≡◌, ◌+◌, ◌<◌, ℕ, subst, arith}
use Rattle.ld_reduce.specs.Task.{Pairs, Answer, Gives, Task, Ends, ◌>>=◌, goes_on, ends, with_fault, faults_by, Answers}
use Rattle.ld_infer.specs.Account.{Account, Comes, RunsOut}
use Rattle.ld_reduce.proofs.Tasks.{bind_answers, ends_answers, faults_answers}

-- no step is made, and nothing becomes known
pub comes_at_once : {E X : Type 0} (p : Task E X) (r : Answer E X) (old : Account) → Answers p old.known r old.known 0 → Comes p r old old
comes_at_once p r old a = record { steps = 0; answers = a; takes = record { left = omega arith; spent = omega arith } }

pub comes_then : {E X Y : Type 0} (p : Task E X) (f : X → Task E Y) (x : X) (r : Answer E Y) (old mid new : Account)
    → Comes p (Gives x) old mid → Comes (f x) r mid new → Comes (p >>= f) r old new
comes_then p f x r old mid new a b = record {
  steps = a.steps + b.steps;
  answers = bind_answers p f x old.known mid.known r new.known a.steps b.steps a.answers b.answers;
  takes = record { left = omega (arith, a.takes.left, b.takes.left); spent = omega (arith, a.takes.spent, b.takes.spent) };
}

pub comes_ended : {E X Y : Type 0} (p : Task E X) (f : X → Task E Y) (s : Answer E X) (r : Answer E Y) (old new : Account)
    → Comes p s old new → Ends s r → Comes (p >>= f) r old new
comes_ended p f s r old new a e = record { steps = a.steps; answers = ends_answers p f s r old.known new.known a.steps a.answers e; takes = a.takes }

pub comes_faulted : {E F X : Type 0} (g : E → F) (p : Task E X) (r : Answer E X) (old new : Account) → Comes p r old new → Comes (faults_by g p) (with_fault g r) old new
comes_faulted g p r old new a = record { steps = a.steps; answers = faults_answers g p r old.known new.known a.steps a.answers; takes = a.takes }

pub runs_out_first : {E X Y : Type 0} (p : Task E X) (f : X → Task E Y) (old new : Account) → RunsOut p old new → RunsOut (p >>= f) old new
runs_out_first {E = E} {X = X} {Y = Y} p f old new a = record {
  none = λ r L m h. elim h [
    | goes_on y M k l first second sum ↦ let less = a.none (Gives y) M k first in omega (arith, sum, less)
    | ends stop first end ↦ a.none stop L m first
  ];
  left = a.left;
  takes = a.takes;
}

pub runs_out_then : {E X Y : Type 0} (p : Task E X) (f : X → Task E Y) (x : X) (old mid new : Account)
    → Comes p (Gives x) old mid → RunsOut (f x) mid new → RunsOut (p >>= f) old new
runs_out_then {E = E} {X = X} {Y = Y} p f x old mid new a b = record {
  none = λ r L m h. elim h [
    | goes_on y M k l first second sum ↦ after r L m y M k l first second sum
    | ends stop first end ↦ absurd (gives_ends stop r (a.answers.only stop L m first).0 end)
  ];
  left = b.left;
  takes = record { left = omega (arith, a.takes.left, b.takes.left); spent = omega (arith, a.takes.left, a.takes.spent, b.takes.left, b.takes.spent) };
}
  where
    gives_ends : (stop : Answer E X) (s : Answer E Y) → stop ≡ Gives x → Ends stop s → ⊥
    gives_ends stop s e Ends.fault = cc
    gives_ends stop s e Ends.high = cc
    gives_ends stop s e Ends.nesting = cc

    after : (r : Answer E Y) (L : Pairs) (m : ℕ) (y : X) (M : Pairs) (k l : ℕ) → p old.known (Gives y) M k → f y M r L l → m ≡ k + l → old.left < m
    after r L m y M k l first second sum =
        let one = a.answers.only (Gives y) M k first in
        let same : y ≡ x = cc in
        let P : X → Type 0 = λ z. f z M r L l in
        let Q : Pairs → Type 0 = λ N. f x N r L l in
        let less = b.none r L l (subst Q one.1 (subst P same second)) in
        omega (arith, sum, one.2, less, a.takes.left)

pub runs_out_faulted : {E F X : Type 0} (g : E → F) (p : Task E X) (old new : Account) → RunsOut p old new → RunsOut (faults_by g p) old new
runs_out_faulted g p old new a = record { none = λ r L m h. a.none h.0 L m h.1; left = a.left; takes = a.takes }
