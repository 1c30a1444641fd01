-- What was found in one standing, told of another.
use Rattle.std.proofs.Common.{◌≡◌, subst}
use Rattle.ld_terms.specs.Tree.{Tree}
use Rattle.ld_terms.specs.Known.{Judgement}
use Rattle.ld_record.specs.declared.record.JudgeId.{JudgeId}
use Rattle.ld_record.specs.Growth.{Knows}
use Rattle.ld_infer.specs.Standing.{Standing, known, Continues, here}
use Rattle.ld_infer.proofs.Going.{here_stays}

-- the judgement of a number, told of an earlier context and of trees that are the same
pub known_here : (a b c : Standing) (j : JudgeId) (t t' type type' : Tree) → Continues a b → t ≡ t' → type ≡ type' → Knows (known c) j (here b t type) → Knows (known c) j (here a t' type')
known_here a b c j t t' type type' h same is k =
    let P : Judgement → Type 0 = λ s. Knows (known c) j s in
    let Q : Tree → Type 0 = λ x. Knows (known c) j (here a x type) in
    let R : Tree → Type 0 = λ x. Knows (known c) j (here a t' x) in
    subst R is (subst Q same (subst P (here_stays a b t type h) k))

-- a fact that holds at some values holds at the same ones
pub at_same : {A B C : Type 0} (P : A → B → C → Type 0) {a a' : A} {b b' : B} {c c' : C} → a ≡ a' → b ≡ b' → c ≡ c' → P a b c → P a' b' c'
at_same P {a' = a'} {b = b} {b' = b'} {c = c} p q r h = subst (λ z. P a' b' z) r (subst (λ y. P a' y c) q (subst (λ x. P x b c) p h))

pub at_both : {A B : Type 0} (P : A → B → Type 0) {a a' : A} {b b' : B} → a ≡ a' → b ≡ b' → P a b → P a' b'
at_both P {a' = a'} {b = b} p q h = subst (λ y. P a' y) q (subst (λ x. P x b) p h)
