-- A comparison finds two trees the same only where they are convertible: known pairs are so, and every turn leads to trees that
-- convert. The environment needn't be scoped.
use Rattle.std.proofs.Common.{◌≡◌, ◌-◌, ℕ, zero, suc, Bool, true, false, List, [], ◌∷◌, ◌++◌, Option, None, Some, refl, ap, sym, subst, ◌&&◌, ◌||◌, inl, inr}
use Rattle.std.specs.Prelude.{⊤, ◌⊎◌}
use Rattle.std.proofs.Math.Decide.{ℕ_discrete}
use mathlib.Core.Path.{subst₂}
use Rattle.ld_terms.specs.Tree.{Tree, Tree-discrete}
use Rattle.ld_terms.specs.Entry.{Env}
use Rattle.ld_terms.specs.Step.{Converts}
use Rattle.ld_terms.specs.Tests.{is_yes, equals}
use Rattle.ld_reduce.specs.Task.{Pairs, Answer, Gives, Fails, High, Nested, Task}
use Rattle.ld_reduce.specs.Heads.{BetaHead, Unfold, answer, reaches}
use Rattle.ld_convert.specs.Apart.{Apart, apart, below, Part, parts_of}
use Rattle.ld_convert.specs.Known.{is_known, with_pair}
use Rattle.ld_convert.specs.Compares as c
use Rattle.ld_convert.specs.Compares.{Turns, turn, remember, comparison, compare_within}
use Rattle.ld_convert.specs.Sameness.{AreConvertible, ComparesSame}
use Rattle.ld_convert.proofs.HeadSteps.{beta_head_converts, unfolding_converts}
use Rattle.ld_convert.proofs.AlikeParts.{AllConvert}
use Rattle.ld_convert.proofs.PartsConvert.{parts_convert}
use Rattle.ld_convert.proofs.Means.{Says, Right, Means, at_once_means, gives_means, fails_means, ends_says, bind_means, faults_means, means_more, reaches_means, or_else_means}

-- equality of trees by its test
pub equals_are : (a b : Tree) → equals a b ≡ true → a ≡ b
equals_are a b h = by_decision (Tree-discrete ℕ_discrete a b) h
  where
    by_decision : (d : Dec (a ≡ b)) → is_yes d ≡ true → a ≡ b
    by_decision (yes p) h = p
    by_decision (no n) h = absurd (cc)

equals_convert : (env : Env) (a b : Tree) → equals a b ≡ true → Converts env a b
equals_convert env a b h = subst (Converts env a) (equals_are a b h) Converts.same

-- known pairs
both_true : (x y : Bool) → (x && y) ≡ true → (x ≡ true) × (y ≡ true)
both_true true y h = (refl, h)
both_true false y h = absurd (cc)

one_true : (x y : Bool) → (x || y) ≡ true → (x ≡ true) ⊎ (y ≡ true)
one_true true y h = inl refl
one_true false y h = inr h

known_convert : (env : Env) (K : Pairs) (a b : Tree) → is_known K a b ≡ true → AreConvertible env K → Converts env a b
known_convert env [] a b h known = absurd (cc)
known_convert env (p ∷ ps) a b h known =
    elim (one_true (equals p.0 a && equals p.1 b) (is_known ps a b) h) [
      | inl q ↦ let e = both_true (equals p.0 a) (equals p.1 b) q in subst₂ (Converts env) (equals_are p.0 a e.0) (equals_are p.1 b e.1) known.0
      | inr q ↦ known_convert env ps a b q known.1
    ]

at_once_convert : (env : Env) (K : Pairs) (a b : Tree) → (equals a b || is_known K a b) ≡ true → AreConvertible env K → Converts env a b
at_once_convert env K a b h known =
    elim (one_true (equals a b) (is_known K a b) h) [ inl q ↦ equals_convert env a b q | inr q ↦ known_convert env K a b q known ]

one_more : (env : Env) (K : Pairs) (a b : Tree) → AreConvertible env K → Converts env a b → AreConvertible env (K ++ (a, b) ∷ [])
one_more env [] a b known h = (h, tt)
one_more env (p ∷ ps) a b known h = (known.0, one_more env ps a b known.1 h)

pair_known : (env : Env) (is : Bool) (K : Pairs) (a b : Tree) → AreConvertible env K → Converts env a b → AreConvertible env (with_pair is K a b)
pair_known env true K a b known h = known
pair_known env false K a b known h = one_more env K a b known h

-- of a fault nothing is said here
abbrev Anything : Apart → Type 0
Anything f = ⊤

remembered : (env : Env) (at_once : Bool) (r : Answer Apart (Unit {0})) (a b : Tree) (K : Pairs) → AreConvertible env K → Says (λ _. Converts env a b) Anything r
    → AreConvertible env (remember at_once r a b K)
remembered env true r a b K known h = known
remembered env false (Gives x) a b K known h = pair_known env (is_known K a b) K a b known h
remembered env false (Fails e) a b K known h = known
remembered env false High a b K known h = known
remembered env false Nested a b K known h = known

-- what a turn leaves to be compared
abbrev Leaves : Env → (a b : Tree) → Option (Tree × Tree) → Type 0
Leaves env a b None = Converts env a b
Leaves env a b (Some p) = Converts env a p.0 × Converts env b p.1

leaves_back : (env : Env) (a b x y : Tree) → Converts env a x → Converts env b y → (o : Option (Tree × Tree)) → Leaves env x y o → Leaves env a b o
leaves_back env a b x y p q None h = Converts.chain p (Converts.chain h (Converts.back q))
leaves_back env a b x y p q (Some pair) h = (Converts.chain p h.0, Converts.chain q h.1)

says_back : (env : Env) (a b x y : Tree) → Converts env a x → Converts env b y → (r : Answer Apart (Unit {0})) → Says (λ _. Converts env x y) Anything r → Says (λ _. Converts env a b) Anything r
says_back env a b x y p q (Gives u) h = Converts.chain p (Converts.chain h (Converts.back q))
says_back env a b x y p q (Fails e) h = tt
says_back env a b x y p q High h = tt
says_back env a b x y p q Nested h = tt

unfold_means : (env : Env) (t : Tree) → Means {E = Apart} env (reaches (Unfold env t)) (Converts env t) Anything
unfold_means env t = reaches_means (Unfold env t) (λ h n w u e. unfolding_converts env t u [] [] n (h, w, sym (ap answer e), refl))

head_means : (env : Env) (t : Tree) → Means {E = Apart} env (reaches (BetaHead t)) (Converts env t) Anything
head_means env t = reaches_means (BetaHead t) (λ h n w u e. (beta_head_converts env t u [] [] n (h, w, sym (ap answer e), refl)).0)

unfolded_means : (env : Env) (ss : List c.Side) (a b : Tree) → Means env (c.unfolded env ss a b) (λ p. Converts env a p.0 × Converts env b p.1) Anything
unfolded_means env [] a b = gives_means (a, b) (Converts.same, Converts.same)
unfolded_means env (c.Left ∷ ss) a b =
    bind_means (Converts env a) (unfold_means env a)
    (λ x h. means_more (λ p. Converts env x p.0 × Converts env b p.1) Anything (λ p q. (Converts.chain h q.0, q.1)) (λ e f. f) (unfolded_means env ss x b))
unfolded_means env (c.Right ∷ ss) a b =
    bind_means (Converts env b) (unfold_means env b)
    (λ x h. means_more (λ p. Converts env a p.0 × Converts env x p.1) Anything (λ p q. (q.0, Converts.chain h q.1)) (λ e f. f) (unfolded_means env ss a x))

unfolding_means : (env : Env) (compare : Tree → Tree → Task Apart (Unit {0})) (ss : List c.Side) (a b : Tree) → Means env (c.by_unfolding env compare ss a b) (Leaves env a b) Anything
unfolding_means env compare ss a b =
    bind_means (λ p. Converts env a p.0 × Converts env b p.1) (unfolded_means env ss a b) (λ p h. gives_means (Some p) h)

module _ (env : Env) (compare : Tree → Tree → Task Apart (Unit {0})) (hc : (a b : Tree) → Means env (compare a b) (λ _. Converts env a b) Anything) where
  all_same_means : (ps : List Part) → Means env (c.all_same env compare ps) (λ _. AllConvert env ps) Anything
  all_same_means [] = gives_means tt tt
  all_same_means (p ∷ ps) =
      bind_means (λ _. Converts env p.left p.right)
      (faults_means (below p.under) Anything (λ e d. tt) (hc p.left p.right))
      (λ _ h. means_more (λ _. AllConvert env ps) Anything (λ _ all. (h, all)) (λ e d. tt) (all_same_means ps))

  parts_mean : (a b : Tree) (ps : List Part) → Some ps ≡ parts_of a b → Means env (c.by_parts env compare ps) (Leaves env a b) Anything
  parts_mean a b ps e =
      bind_means (λ _. AllConvert env ps) (all_same_means ps) (λ _ all. gives_means None (parts_convert env a b ps (sym e) all))

  heads_mean : (equal : Bool) (ss : List c.Side) (ps : Option (List Part)) (a b : Tree) → equals a b ≡ equal → ps ≡ parts_of a b →
      Means env (c.by_heads env compare equal ss ps a b) (Leaves env a b) Anything
  heads_mean true ss ps a b equal parts = gives_means None (equals_convert env a b equal)
  heads_mean false [] None a b equal parts = fails_means (apart a b 0) tt
  heads_mean false [] (Some ps) a b equal parts = parts_mean a b ps parts
  heads_mean false (s ∷ ss) None a b equal parts = unfolding_means env compare (s ∷ ss) a b
  heads_mean false (s ∷ ss) (Some ps) a b equal parts = or_else_means Anything (parts_mean a b ps parts) (unfolding_means env compare (s ∷ ss) a b)

  turn_means : (a b : Tree) → Means env (turn env compare a b) (Leaves env a b) Anything
  turn_means a b =
      bind_means (Converts env a) (head_means env a) (λ x p. bind_means (Converts env b) (head_means env b) (λ y q.
      means_more (Leaves env x y) Anything (leaves_back env a b x y p q) (λ e f. f) (heads_mean (equals x y) (c.sides env x y) (parts_of x y) x y refl refl)))

  turns_mean : {a b : Tree} {K L : Pairs} {r : Answer Apart (Unit {0})} {n : ℕ} → Turns env compare a b K r L n → AreConvertible env K → Right env (λ _. Converts env a b) Anything L r
  turns_mean (Turns.same {a = a} {b = b} {K = K} e) known = record { known = known; says = at_once_convert env K a b e known }
  turns_mean (Turns.last {a = a} {b = b} {K = K} {K' = L} {n = n} e t) known = let s = turn_means a b K L (Gives None) n t known in record { known = s.known; says = s.says }
  turns_mean (Turns.stop {a = a} {b = b} {K = K} {K' = L} {n = n} s e t h) known =
      let p = turn_means a b K L s n t known in record { known = p.known; says = ends_says (Leaves env a b) (λ _. Converts env a b) Anything h p.says }
  turns_mean (Turns.again {a = a} {b = b} {K = K} {r = r} pair m i j e t w q) known =
      let p = turn_means a b K m (Gives (Some pair)) i t known in
      let s = turns_mean w p.known in
      record { known = s.known; says = says_back env a b pair.0 pair.1 p.says.0 p.says.1 r s.says }

  comparison_means : (a b : Tree) → Means env (comparison env compare a b) (λ _. Converts env a b) Anything
  comparison_means a b K L r n h known =
      let s = turns_mean h.turns known in
      record { known = subst (AreConvertible env) (sym h.remembers) (remembered env (equals a b || is_known K a b) r a b h.found s.known s.says); says = s.says }

pub within_means : (env : Env) (left : ℕ) (a b : Tree) → Means env (compare_within left env a b) (λ _. Converts env a b) Anything
within_means env zero a b = at_once_means Nested 0 tt
within_means env (suc left) a b = comparison_means env (compare_within left env) (within_means env left) a b

pub compares_same : ComparesSame
compares_same = record {
  are_same = λ env nesting a b K L n known h. (within_means env (1001 - nesting) a b K L (Gives tt) n h known).says;
  pairs = λ env nesting a b K L r n known h. (within_means env (1001 - nesting) a b K L r n h known).known;
}
