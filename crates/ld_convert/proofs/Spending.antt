-- What a task that is made of tasks answers, and when it runs out.
use Rattle.std.proofs.Common.{sym, refl, ◌≡◌, ◌<◌, ◌+◌, ℕ, subst, arith}
use Rattle.ld_reduce.specs.Task.{Pairs, Answer, Gives, Fails, High, Nested, Task, Ends, ◌>>=◌, goes_on, ends, with_fault, faults_by}
use Rattle.ld_reduce.specs.Work.{Work, Takes}
use Rattle.ld_reduce.proofs.Tasks.{bind_answers, ends_answers, faults_answers}
use Rattle.ld_convert.specs.Known.{or_else}
use Rattle.ld_convert.specs.Account.{Comes, RunsOut}
use Rattle.ld_convert.proofs.Agreeing.{gives_injective, no_value, Passes, value_passes, high_passes, nesting_passes, passes_agree, no_fault, Tries, passed, tried, tries}

-- steps one after the other
pub takes_both : (a b d : Work) (i j : ℕ) → Takes a b i → Takes b d j → Takes a d (i + j)
takes_both a b d i j s t = record { left = omega (arith, s.left, t.left); spent = omega (arith, s.spent, t.spent) }

-- some steps, and then all that are left
pub takes_all : (a b d : Work) (i : ℕ) → Takes a b i → Takes b d b.left → Takes a d a.left
takes_all a b d i s t = record { left = omega (arith, s.left, t.left); spent = omega (arith, s.left, s.spent, t.left, t.spent) }

-- a task that gives a value, and what goes on with it
pub comes_then : {E X Y : Type 0} (p : Task E X) (f : X → Task E Y) (x : X) (K M L : Pairs) (r : Answer E Y) (a b d : Work) → Comes p K (Gives x) M a b → Comes (f x) M r L b d → Comes (p >>= f) K r L a d
comes_then p f x K M L r a b d s t = record {
  steps = s.steps + t.steps;
  answers = bind_answers p f x K M r L s.steps t.steps s.answers t.answers;
  takes = takes_both a b d s.steps t.steps s.takes t.takes;
}

-- one that gives none ends the whole
pub comes_end : {E X Y : Type 0} (p : Task E X) (f : X → Task E Y) (s : Answer E X) (r : Answer E Y) (K L : Pairs) (a b : Work) → Comes p K s L a b → Ends s r → Comes (p >>= f) K r L a b
comes_end p f s r K L a b h e = record { steps = h.steps; answers = ends_answers p f s r K L h.steps h.answers e; takes = h.takes }

pub comes_faults : {E F X : Type 0} (g : E → F) (p : Task E X) (r : Answer E X) (K L : Pairs) (a b : Work) → Comes p K r L a b → Comes (faults_by g p) K (with_fault g r) L a b
comes_faults g p r K L a b h = record { steps = h.steps; answers = faults_answers g p r K L h.steps h.answers; takes = h.takes }

-- the first task runs out
pub out_first : {E X Y : Type 0} (p : Task E X) (f : X → Task E Y) (K : Pairs) (a b : Work) → RunsOut p K a b → RunsOut (p >>= f) K a b
out_first p f K a b h = record {
  none = λ r L n w. elim w [
    | goes_on x M i j first second sum ↦ let l = h.none (Gives x) M i first in omega (arith, sum, l)
    | ends stop first e ↦ h.none stop L n first
  ];
  left = h.left;
  takes = h.takes;
}

-- the second task runs out
pub out_then : {E X Y : Type 0} (p : Task E X) (f : X → Task E Y) (x : X) (K M : Pairs) (a b d : Work) → Comes p K (Gives x) M a b → RunsOut (f x) M b d → RunsOut (p >>= f) K a d
out_then {E = E} {X = X} {Y = Y} p f x K M a b d s h = record {
  none = λ r L n w. elim w [
    | goes_on y N i j first second sum ↦ late r L n y N i j first second sum
    | ends stop first e ↦ absurd (no_value (subst (λ v. Ends v r) (s.answers.only stop L n first).0 e))
  ];
  left = h.left;
  takes = takes_all a b d s.steps s.takes h.takes;
}
  where
    late : (r : Answer E Y) (L : Pairs) (n : ℕ) (y : X) (N : Pairs) (i j : ℕ) → p K (Gives y) N i → f y N r L j → n ≡ i + j → a.left < n
    late r L n y N i j first second sum =
        let one = s.answers.only (Gives y) N i first in
        let moved = subst (λ k. f x k r L j) one.1 (subst (λ z. f z N r L j) (gives_injective one.0) second) in
        let l = h.none r L j moved in
        omega (arith, sum, one.2, l, s.takes.left)

pub out_faults : {E F X : Type 0} (g : E → F) (p : Task E X) (K : Pairs) (a b : Work) → RunsOut p K a b → RunsOut (faults_by g p) K a b
out_faults g p K a b h = record { none = λ r L n w. h.none w.0 L n w.1; left = h.left; takes = h.takes }

-- the task that goes on after a fault runs out before one
pub or_else_out : {E F X : Type 0} (p : Task E X) (q : Task F X) (K : Pairs) (a b : Work) → RunsOut p K a b → RunsOut (or_else p q) K a b
or_else_out p q K a b h = record {
  none = λ r L n w. elim w [
    | or_else.first x first e ↦ h.none (Gives x) L n first
    | or_else.high first e ↦ h.none High L n first
    | or_else.nesting first e ↦ h.none Nested L n first
    | or_else.second e M i j first second sum ↦ let l = h.none (Fails e) M i first in omega (arith, sum, l)
  ];
  left = h.left;
  takes = h.takes;
}

gives_fails : {E X : Type 0} {x : X} {e : E} → ◌≡◌ {A = Answer E X} (Gives x) (Fails e) → ⊥
gives_fails h = cc

high_fails : {E X : Type 0} {e : E} → ◌≡◌ {A = Answer E X} High (Fails e) → ⊥
high_fails h = cc

nested_fails : {E X : Type 0} {e : E} → ◌≡◌ {A = Answer E X} Nested (Fails e) → ⊥
nested_fails h = cc

-- a fault, and what goes on after it
pub or_else_then : {E F X : Type 0} (p : Task E X) (q : Task F X) (e : E) (K M L : Pairs) (r : Answer F X) (a b d : Work) → Comes p K (Fails e) M a b → Comes q M r L b d → Comes (or_else p q) K r L a d
or_else_then {E = E} {F = F} {X = X} p q e K M L r a b d s t = record {
  steps = s.steps + t.steps;
  answers = record { is = or_else.second e M s.steps t.steps s.answers.is t.answers.is refl; only = λ v N m w. alone v N m w };
  takes = takes_both a b d s.steps t.steps s.takes t.takes;
}
  where
    alone : (v : Answer F X) (N : Pairs) (m : ℕ) → or_else p q K v N m → (v ≡ r) × (N ≡ L) × (m ≡ s.steps + t.steps)
    alone v N m (or_else.first x first f) = absurd (gives_fails (s.answers.only (Gives x) N m first).0)
    alone v N m (or_else.high first f) = absurd (high_fails (s.answers.only High N m first).0)
    alone v N m (or_else.nesting first f) = absurd (nested_fails (s.answers.only Nested N m first).0)
    alone v N m (or_else.second f H i j first second sum) =
        let one = s.answers.only (Fails f) H i first in
        let two = t.answers.only v N j (subst (λ k. q k v N j) one.1 second) in
        (two.0, two.1, omega (arith, sum, one.2, two.2))

-- what goes on after a fault runs out
pub or_else_out_then : {E F X : Type 0} (p : Task E X) (q : Task F X) (e : E) (K M : Pairs) (a b d : Work) → Comes p K (Fails e) M a b → RunsOut q M b d → RunsOut (or_else p q) K a d
or_else_out_then {E = E} {F = F} {X = X} p q e K M a b d s t = record { none = λ v N m w. late v N m w; left = t.left; takes = takes_all a b d s.steps s.takes t.takes }
  where
    late : (v : Answer F X) (N : Pairs) (m : ℕ) → or_else p q K v N m → a.left < m
    late v N m (or_else.first x first f) = absurd (gives_fails (s.answers.only (Gives x) N m first).0)
    late v N m (or_else.high first f) = absurd (high_fails (s.answers.only High N m first).0)
    late v N m (or_else.nesting first f) = absurd (nested_fails (s.answers.only Nested N m first).0)
    late v N m (or_else.second f H i j first second sum) =
        let one = s.answers.only (Fails f) H i first in
        let l = t.none v N j (subst (λ k. q k v N j) one.1 second) in
        omega (arith, sum, one.2, l, s.takes.left)

passes_is : {E F X : Type 0} (p : Task E X) (q : Task F X) (s : Answer E X) (r : Answer F X) (K L : Pairs) (n : ℕ) → p K s L n → Passes s r → or_else p q K r L n
passes_is p q (Gives x) r K L n h value_passes = or_else.first x h refl
passes_is p q High r K L n h high_passes = or_else.high h refl
passes_is p q Nested r K L n h nesting_passes = or_else.nesting h refl
passes_is p q (Fails e) r K L n h x = absurd (no_fault x)

-- an answer that is no fault is that of the whole
pub or_else_passes : {E F X : Type 0} (p : Task E X) (q : Task F X) (s : Answer E X) (r : Answer F X) (K L : Pairs) (a b : Work) → Comes p K s L a b → Passes s r → Comes (or_else p q) K r L a b
or_else_passes {E = E} {F = F} {X = X} p q s r K L a b c h = record {
  steps = c.steps;
  answers = record { is = passes_is p q s r K L c.steps c.answers.is h; only = λ v N m w. alone v N m (tries p q K v N m w) };
  takes = c.takes;
}
  where
    alone : (v : Answer F X) (N : Pairs) (m : ℕ) → Tries p q K v N m → (v ≡ r) × (N ≡ L) × (m ≡ c.steps)
    alone v N m (passed t first g) =
        let o = c.answers.only t N m first in
        (passes_agree (subst (λ x. Passes x v) o.0 g) h, o.1, o.2)
    alone v N m (tried e M i j first second sum) = absurd (no_fault (subst (λ x. Passes x r) (sym (c.answers.only (Fails e) M i first).0) h))
