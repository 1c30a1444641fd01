-- What is said of a task: from convertible pairs it leaves convertible pairs, and of its value or its fault something holds.
-- How this comes from what is said of the task's parts.
use Rattle.std.proofs.Common.{◌≡◌, ℕ, refl, sym, subst}
use Rattle.std.specs.Prelude.{⊤}
use Rattle.ld_terms.specs.Tree.{Tree}
use Rattle.ld_terms.specs.Entry.{Env}
use Rattle.ld_reduce.specs.Task.{Pairs, Answer, Gives, Fails, High, Nested, Task, gives, fails, formed, Ends, fault, high, nesting, ◌>>=◌, goes_on, ends, with_fault, faults_by}
use Rattle.ld_reduce.specs.Heads.{Reached, At, TooHigh, Way, answer, reaches}
use Rattle.ld_convert.specs.Known.{or_else}
use Rattle.ld_convert.specs.Sameness.{AreConvertible}

abbrev pub Says : {E X : Type 0} → (X → Type 0) → (E → Type 0) → Answer E X → Type 0
Says of_value of_fault (Gives x) = of_value x
Says of_value of_fault (Fails e) = of_fault e
Says of_value of_fault High = ⊤
Says of_value of_fault Nested = ⊤

pub record Right {E X : Type 0} (env : Env) (of_value : X → Type 0) (of_fault : E → Type 0) (K : Pairs) (r : Answer E X) : Type 0 where
  pub known : AreConvertible env K
  pub says : Says of_value of_fault r

abbrev pub Means : {E X : Type 0} → Env → Task E X → (X → Type 0) → (E → Type 0) → Type 0
Means {E} {X} env p of_value of_fault = (K L : Pairs) (r : Answer E X) (n : ℕ) → p K r L n → AreConvertible env K → Right env of_value of_fault L r

pub at_once_means : {E X : Type 0} {env : Env} {G : X → Type 0} {F : E → Type 0} (v : Answer E X) (k : ℕ) → Says G F v →
    (K L : Pairs) (r : Answer E X) (n : ℕ) → (r ≡ v) × (L ≡ K) × (n ≡ k) → AreConvertible env K → Right env G F L r
at_once_means {env = env} {G = G} {F = F} v k g K L r n h known = record { known = subst (AreConvertible env) (sym h.1) known; says = subst (Says G F) (sym h.0) g }

pub gives_means : {E X : Type 0} {env : Env} {G : X → Type 0} {F : E → Type 0} (x : X) → G x → Means env (gives x) G F
gives_means x g = at_once_means (Gives x) 0 g

pub fails_means : {E X : Type 0} {env : Env} {G : X → Type 0} {F : E → Type 0} (e : E) → F e → Means env (fails e) G F
fails_means e f = at_once_means (Fails e) 0 f

pub ends_says : {E X Y : Type 0} (G : X → Type 0) (H : Y → Type 0) (F : E → Type 0) {s : Answer E X} {r : Answer E Y} → Ends s r → Says G F s → Says H F r
ends_says G H F fault h = h
ends_says G H F high h = tt
ends_says G H F nesting h = tt

-- a task, and then another with the value of the first
pub bind_means : {E X Y : Type 0} {env : Env} {p : Task E X} {f : X → Task E Y} (G : X → Type 0) {H : Y → Type 0} {F : E → Type 0} →
    Means env p G F → ((x : X) → G x → Means env (f x) H F) → Means env (p >>= f) H F
bind_means G hp hf K L r n (goes_on x b i j px fx e) known = let a = hp K b (Gives x) i px known in hf x a.says b L r j fx a.known
bind_means G {H = H} {F = F} hp hf K L r n (ends s ps h) known =
    let a = hp K L s n ps known in record { known = a.known; says = ends_says G H F h a.says }

-- faults that are told anew
fault_says : {E F X : Type 0} (g : E → F) (G : X → Type 0) (P : E → Type 0) (Q : F → Type 0) → ((e : E) → P e → Q (g e)) → (s : Answer E X) → Says G P s → Says G Q (with_fault g s)
fault_says g G P Q h (Gives x) a = a
fault_says g G P Q h (Fails e) a = h e a
fault_says g G P Q h High a = tt
fault_says g G P Q h Nested a = tt

pub faults_means : {E F X : Type 0} {env : Env} (g : E → F) {p : Task E X} {G : X → Type 0} (P : E → Type 0) {Q : F → Type 0} →
    ((e : E) → P e → Q (g e)) → Means env p G P → Means env (faults_by g p) G Q
faults_means g {G = G} P {Q = Q} h hp K L r n (s, ps, e) known =
    let a = hp K L s n ps known in record { known = a.known; says = subst (Says G Q) (sym e) (fault_says g G P Q h s a.says) }

-- what follows from what is said
says_more : {E X : Type 0} (G H : X → Type 0) (F P : E → Type 0) → ((x : X) → G x → H x) → ((e : E) → F e → P e) → (r : Answer E X) → Says G F r → Says H P r
says_more G H F P g f (Gives x) h = g x h
says_more G H F P g f (Fails e) h = f e h
says_more G H F P g f High h = tt
says_more G H F P g f Nested h = tt

pub means_more : {E X : Type 0} {env : Env} {p : Task E X} (G : X → Type 0) {H : X → Type 0} (F : E → Type 0) {P : E → Type 0} →
    ((x : X) → G x → H x) → ((e : E) → F e → P e) → Means env p G F → Means env p H P
means_more G {H = H} F {P = P} g f hp K L r n h known =
    let a = hp K L r n h known in record { known = a.known; says = says_more G H F P g f r a.says }

-- a tree that is formed, and one that is reached
pub formed_means : {E : Type 0} {env : Env} {G : Tree → Type 0} {F : E → Type 0} (t : Tree) → G t → Means env (formed {E = E} t) G F
formed_means {env = env} {G = G} {F = F} t g K L r n (formed.small s e k m) known = record { known = subst (AreConvertible env) (sym k) known; says = subst (Says G F) (sym e) g }
formed_means {env = env} {G = G} {F = F} t g K L r n (formed.high s e k m) known = record { known = subst (AreConvertible env) (sym k) known; says = subst (Says G F) (sym e) tt }

reached_says : {E : Type 0} (G : Tree → Type 0) (F : E → Type 0) (h : Reached) → ((u : Tree) → h ≡ At u → G u) → Says G F (answer h)
reached_says G F (At u) g = g u refl
reached_says G F TooHigh g = tt

pub reaches_means : {E : Type 0} {env : Env} {G : Tree → Type 0} {F : E → Type 0} (way : Way) →
    ((h : Reached) (n : ℕ) → way h n → (u : Tree) → h ≡ At u → G u) → Means env (reaches way) G F
reaches_means {env = env} {G = G} {F = F} way g K L r n (h, w, e, k) known =
    record { known = subst (AreConvertible env) (sym k) known; says = subst (Says G F) (sym e) (reached_says G F h (g h n w)) }

-- a task, and another after its fault
pub or_else_means : {E F X : Type 0} {env : Env} {p : Task E X} {q : Task F X} {G : X → Type 0} (P : E → Type 0) {Q : F → Type 0} →
    Means env p G P → Means env q G Q → Means env (or_else p q) G Q
or_else_means {G = G} P {Q = Q} hp hq K L r n (or_else.first x a e) known = let s = hp K L (Gives x) n a known in record { known = s.known; says = subst (Says G Q) (sym e) s.says }
or_else_means {G = G} P {Q = Q} hp hq K L r n (or_else.high a e) known = let s = hp K L High n a known in record { known = s.known; says = subst (Says G Q) (sym e) tt }
or_else_means {G = G} P {Q = Q} hp hq K L r n (or_else.nesting a e) known = let s = hp K L Nested n a known in record { known = s.known; says = subst (Says G Q) (sym e) tt }
or_else_means P hp hq K L r n (or_else.second f b i j a c e) known = let s = hp K b (Fails f) i a known in hq b L r j c s.known
