-- Tasks that are made of tasks with at most one answer have at most one answer.
use Rattle.std.specs.Prelude.{◌≡◌, ℕ, ◌+◌, Bool, true, false, refl, Some, None}
use Rattle.std.proofs.Common.{sym, ◌∙◌, ap, subst}
use Rattle.ld_reduce.specs.Task.{Pairs, Answer, Gives, Fails, High, Nested, Task, gives, Ends, fault, high, nesting, ◌>>=◌, goes_on, ends, with_fault, faults_by}
use Rattle.ld_reduce.specs.Heads.{Way, reaches}
use Rattle.ld_reduce.specs.Laws.{Once}
use Rattle.ld_reduce.proofs.Once.{answers_once}
use Rattle.ld_convert.specs.Known.{or_else}
use Rattle.ld_convert.specs.Laws.{Agree, AnswersOnce}

pub gives_injective : {E X : Type 0} {x y : X} → ◌≡◌ {A = Answer E X} (Gives x) (Gives y) → x ≡ y
gives_injective e = cc

pub some_injective : {X : Type 0} {x y : X} → Some x ≡ Some y → x ≡ y
some_injective e = cc

pub none_some : {X : Type 0} {y : X} → None ≡ Some y → ⊥
none_some e = cc

pub both_tests : {t : Bool} → t ≡ true → t ≡ false → ⊥
both_tests e f = cc

pub no_value : {E X Y : Type 0} {x : X} {r : Answer E Y} → Ends (Gives x) r → ⊥
no_value h = elim h [ ]

pub ends_agree : {E X Y : Type 0} {s : Answer E X} {r1 r2 : Answer E Y} → Ends s r1 → Ends s r2 → r1 ≡ r2
ends_agree fault fault = refl
ends_agree high high = refl
ends_agree nesting nesting = refl

pub at_once : {E X : Type 0} (v : Answer E X) (k : ℕ) (K L M : Pairs) (r s : Answer E X) (n m : ℕ) →
    (r ≡ v) × (L ≡ K) × (n ≡ k) → (s ≡ v) × (M ≡ K) × (m ≡ k) → Agree r s L M n m
at_once v k K L M r s n m a b = record { answer = a.0 ∙ sym b.0; known = a.1 ∙ sym b.1; steps = a.2 ∙ sym b.2 }

pub gives_once : {E X : Type 0} (x : X) → AnswersOnce (gives {E = E} x)
gives_once x = at_once (Gives x) 0

pub reaches_once : {E : Type 0} (way : Way) → Once way → AnswersOnce (reaches {E = E} way)
reaches_once way once K L M r s n m p q =
    let o = answers_once way once K L M r s n m p q in
    record { answer = o.0; known = o.1; steps = o.2 }

pub bind_once : {E X Y : Type 0} (p : Task E X) (f : X → Task E Y) → AnswersOnce p → ((x : X) → AnswersOnce (f x)) → AnswersOnce (p >>= f)
bind_once p f hp hf K K1 K2 r1 r2 n1 n2 (goes_on x b i j px fx e) (goes_on x' b' i' j' px' fx' e') =
    let q = hp K b b' (Gives x) (Gives x') i i' px px' in
    let s = hf x' b' K1 K2 r1 r2 j j' (subst (λ k. f x' k r1 K1 j) q.known (subst (λ y. f y b r1 K1 j) (gives_injective q.answer) fx)) fx' in
    record { answer = s.answer; known = s.known; steps = e ∙ ap (λ k. k + j) q.steps ∙ ap (λ k. i' + k) s.steps ∙ sym e' }
bind_once p f hp hf K K1 K2 r1 r2 n1 n2 (goes_on x b i j px fx e) (ends t pt h) =
    let q = hp K b K2 (Gives x) t i n2 px pt in absurd (no_value (subst (λ v. Ends v r2) (sym q.answer) h))
bind_once p f hp hf K K1 K2 r1 r2 n1 n2 (ends t pt h) (goes_on x b i j px fx e) =
    let q = hp K K1 b t (Gives x) n1 i pt px in absurd (no_value (subst (λ v. Ends v r1) q.answer h))
bind_once p f hp hf K K1 K2 r1 r2 n1 n2 (ends t pt h) (ends t' pt' h') =
    let q = hp K K1 K2 t t' n1 n2 pt pt' in record { answer = ends_agree (subst (λ v. Ends v r1) q.answer h) h'; known = q.known; steps = q.steps }

pub faults_once : {E F X : Type 0} (g : E → F) (p : Task E X) → AnswersOnce p → AnswersOnce (faults_by g p)
faults_once g p hp K K1 K2 r1 r2 n1 n2 (s, ps, e) (s', ps', e') =
    let q = hp K K1 K2 s s' n1 n2 ps ps' in record { answer = e ∙ ap (with_fault g) q.answer ∙ sym e'; known = q.known; steps = q.steps }

-- what goes on after a fault: the answer itself where it is none
pub data Passes {E F X : Type 0} : Answer E X → Answer F X → Type 0 where
  value_passes : {x : X} → Passes (Gives x) (Gives x)
  high_passes : Passes High High
  nesting_passes : Passes Nested Nested

pub passes_agree : {E F X : Type 0} {s : Answer E X} {r1 r2 : Answer F X} → Passes s r1 → Passes s r2 → r1 ≡ r2
passes_agree value_passes value_passes = refl
passes_agree high_passes high_passes = refl
passes_agree nesting_passes nesting_passes = refl

pub no_fault : {E F X : Type 0} {e : E} {r : Answer F X} → Passes (Fails e) r → ⊥
no_fault h = elim h [ ]

pub fails_injective : {E X : Type 0} {x y : E} → ◌≡◌ {A = Answer E X} (Fails x) (Fails y) → x ≡ y
fails_injective e = cc

-- the two ends of a task and another after its fault
pub data Tries {E F X : Type 0} (p : Task E X) (q : Task F X) (K : Pairs) (r : Answer F X) (L : Pairs) (n : ℕ) : Type 0 where
  passed : (s : Answer E X) → p K s L n → Passes s r → Tries p q K r L n
  tried : (e : E) (between : Pairs) (i j : ℕ) → p K (Fails e) between i → q between r L j → n ≡ i + j → Tries p q K r L n

passed_as : {E F X : Type 0} (p : Task E X) (q : Task F X) (K : Pairs) (r t : Answer F X) (L : Pairs) (n : ℕ) (s : Answer E X) → p K s L n → Passes s t → r ≡ t → Tries p q K r L n
passed_as p q K r t L n s a h e = passed s a (subst (Passes s) (sym e) h)

pub tries : {E F X : Type 0} (p : Task E X) (q : Task F X) (K : Pairs) (r : Answer F X) (L : Pairs) (n : ℕ) → or_else p q K r L n → Tries p q K r L n
tries p q K r L n (or_else.first x a e) = passed_as p q K r (Gives x) L n (Gives x) a value_passes e
tries p q K r L n (or_else.high a e) = passed_as p q K r High L n High a high_passes e
tries p q K r L n (or_else.nesting a e) = passed_as p q K r Nested L n Nested a nesting_passes e
tries p q K r L n (or_else.second e b i j a c sum) = tried e b i j a c sum

tries_once : {E F X : Type 0} (p : Task E X) (q : Task F X) (K K1 K2 : Pairs) (r1 r2 : Answer F X) (n1 n2 : ℕ) → AnswersOnce p → AnswersOnce q
    → Tries p q K r1 K1 n1 → Tries p q K r2 K2 n2 → Agree r1 r2 K1 K2 n1 n2
tries_once p q K K1 K2 r1 r2 n1 n2 hp hq (passed s a h) (passed s' a' h') =
    let o = hp K K1 K2 s s' n1 n2 a a' in
    record { answer = passes_agree (subst (λ v. Passes v r1) o.answer h) h'; known = o.known; steps = o.steps }
tries_once p q K K1 K2 r1 r2 n1 n2 hp hq (passed s a h) (tried e b i j a' c sum) =
    absurd (no_fault (subst (λ v. Passes v r1) (hp K K1 b s (Fails e) n1 i a a').answer h))
tries_once p q K K1 K2 r1 r2 n1 n2 hp hq (tried e b i j a c sum) (passed s a' h) =
    absurd (no_fault (subst (λ v. Passes v r2) (sym (hp K b K2 (Fails e) s i n2 a a').answer) h))
tries_once p q K K1 K2 r1 r2 n1 n2 hp hq (tried e b i j a c sum) (tried e' b' i' j' a' c' sum') =
    let s = hp K b b' (Fails e) (Fails e') i i' a a' in
    let t = hq b' K1 K2 r1 r2 j j' (subst (λ k. q k r1 K1 j) s.known c) c' in
    record { answer = t.answer; known = t.known; steps = sum ∙ ap (λ k. k + j) s.steps ∙ ap (λ k. i' + k) t.steps ∙ sym sum' }

pub or_else_once : {E F X : Type 0} (p : Task E X) (q : Task F X) → AnswersOnce p → AnswersOnce q → AnswersOnce (or_else p q)
or_else_once p q hp hq K K1 K2 r1 r2 n1 n2 a b = tries_once p q K K1 K2 r1 r2 n1 n2 hp hq (tries p q K r1 K1 n1 a) (tries p q K r2 K2 n2 b)
