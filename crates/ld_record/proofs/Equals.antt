-- A kept equality stands by the rule table: it follows by its rule, and what it names is there. What a caller that gathers
-- the equalities of arguments needs.
use Rattle.std.proofs.Common.{◌≡◌, ◌+◌, ◌∙◌, ℕ, List, [], ◌∷◌, ◌++◌, length, map, refl, ap, sym, subst, arith}
use Rattle.std.specs.List.{AllByRecursion}
use Rattle.std.proofs.lemmas.List.{map-append}
use mathlib.Core.Path.{ap₂, subst₂}
use Rattle.ld_terms.specs.Tree.{Tree, Trees, Nil, ◌▸◌, count}
use Rattle.ld_terms.specs.Entry.{Body, UnfoldsTo, unfolds}
use Rattle.ld_terms.specs.Rule.{EqRule}
use Rattle.ld_terms.specs.Known.{Known, Equality, equality_at, extended, trees, IsEquality, EquateAll, IsEqualBy}
use Rattle.ld_terms.specs.Record.{State, EqRuleIsThere}
use Rattle.ld_record.specs.declared.record.EqId.{EqId}
use Rattle.ld_record.specs.declared.record.EqStep.{EqStep}
use Rattle.ld_record.specs.declared.record.EqStep.TheVariants as step
use Rattle.ld_record.specs.Equal.{eq_numbers_of, eq_rule_of, FollowsEqual}
use Rattle.ld_record.specs.Growth.{KnowsEquality, Adds}
use Rattle.ld_record.proofs.Lists.{extended_last}
use Rattle.ld_record.proofs.Judged.{all_more}
use Rattle.ld_record.proofs.Rules.{entry_there}

module _ (known : Known) where
  -- What follows as a kept equality follows by its rule.
  pub equal_by : (l r : Tree) (by : EqStep) → FollowsEqual known l r by → IsEqualBy known l r (eq_rule_of by)
  equal_by l r step.Refl h = let P : Tree → Type 0 = λ x. IsEqualBy known l x EqRule.Refl in subst P h.same IsEqualBy.refl
  equal_by l r (step.Sym e) h = IsEqualBy.sym (h.premise.left, h.premise.right)
  equal_by l r (step.Trans e f) h = IsEqualBy.trans h.between (h.first.left, h.first.right) (h.second.left, h.second.right)
  equal_by l r step.Beta h = subst₂ (λ x y. IsEqualBy known x y EqRule.Beta) (sym h.left) (sym h.right) IsEqualBy.beta
  equal_by l r step.Delta h =
      let U : Body → Type 0 = λ b. UnfoldsTo b h.body in
      subst₂ (λ x y. IsEqualBy known x y EqRule.Delta) (sym h.left) (sym h.right)
      (IsEqualBy.delta (entry_there known.env h.number h.there) (subst U (sym h.unfolds) unfolds) h.as_many)
  equal_by l r (step.App e f) h = subst₂ (λ x y. IsEqualBy known x y (EqRule.App e.0 f.0)) (sym h.left) (sym h.right) (IsEqualBy.app (refl, refl) (refl, refl))
  equal_by l r (step.Lam e f) h = subst₂ (λ x y. IsEqualBy known x y (EqRule.Lam e.0 f.0)) (sym h.left) (sym h.right) (IsEqualBy.lam (refl, refl) (refl, refl))
  equal_by l r (step.Pi e f) h = subst₂ (λ x y. IsEqualBy known x y (EqRule.Pi e.0 f.0)) (sym h.left) (sym h.right) (IsEqualBy.pi (refl, refl) (refl, refl))
  equal_by l r (step.Const es) h = subst₂ (λ x y. IsEqualBy known x y (EqRule.Const (eq_numbers_of es))) (sym h.left) (sym h.right) (IsEqualBy.const h.equated)

-- the equalities that the rule names are there
pub equalities_there : (state : State) (l r : Tree) (by : EqStep) → FollowsEqual state.known l r by → EqRuleIsThere state (eq_rule_of by)
equalities_there state l r step.Refl h = tt
equalities_there state l r (step.Sym e) h = h.premise.live
equalities_there state l r (step.Trans e f) h = (h.first.live, h.second.live)
equalities_there state l r step.Beta h = tt
equalities_there state l r step.Delta h = tt
equalities_there state l r (step.App e f) h = (h.first, h.second)
equalities_there state l r (step.Lam e f) h = (h.first, h.second)
equalities_there state l r (step.Pi e f) h = (h.first, h.second)
equalities_there state l r (step.Const es) h = h.live

-- as many trees as numbers
pub count-extended : (us : Trees) (g : ℕ → Tree) (ns : List ℕ) → count (extended us (map g ns)) ≡ count us + length ns
count-extended us g [] = omega arith
count-extended us g (n ∷ ns) = omega (arith, count-extended (us ▸ g n) g ns)

-- the sides of equalities are as many
pub sides_as_many : (known : Known) (es : List ℕ) (us vs : Trees) → EquateAll known es us vs → count vs ≡ count us
sides_as_many known es us vs h =
    let left = count-extended Nil (λ e. (equality_at known e).left) es in
    let right = count-extended Nil (λ e. (equality_at known e).right) es in
    omega (arith, left, right, ap count h.0, ap count h.1)

-- no arguments are equal to none
pub equate_none : (known : Known) → EquateAll known [] Nil Nil
equate_none known = (refl, refl)

-- one argument more
side_last : (g : ℕ → Tree) (es : List ℕ) (e : ℕ) → trees (map g (es ++ e ∷ [])) ≡ trees (map g es) ▸ g e
side_last g es e = ap trees (map-append g es (e ∷ [])) ∙ extended_last Nil (map g es) (g e)

pub equate_more : (known : Known) (es : List ℕ) (e : ℕ) (us vs : Trees) (u v : Tree) → EquateAll known es us vs
    → (equality_at known e).left ≡ u → (equality_at known e).right ≡ v → EquateAll known (es ++ e ∷ []) (us ▸ u) (vs ▸ v)
equate_more known es e us vs u v h l r = (
  side_last (λ k. (equality_at known k).left) es e ∙ ap₂ ◌▸◌ h.0 l,
  side_last (λ k. (equality_at known k).right) es e ∙ ap₂ ◌▸◌ h.1 r,
)

pub eq_numbers_of-last : (es : List EqId) (e : EqId) → eq_numbers_of (es ++ e ∷ []) ≡ eq_numbers_of es ++ e.0 ∷ []
eq_numbers_of-last es e = map-append (λ k. k.0) es (e ∷ [])

-- the same of the numbers of a list that is extended at its end
pub equal_live_more : (known : Known) (es : List EqId) (e : EqId) (q : Equality) → AllByRecursion (IsEquality known) (eq_numbers_of es) → KnowsEquality known e q
    → AllByRecursion (IsEquality known) (eq_numbers_of (es ++ e ∷ []))
equal_live_more known es e q h knows =
    let P : List ℕ → Type 0 = λ ns. AllByRecursion (IsEquality known) ns in
    subst P (sym (eq_numbers_of-last es e)) (all_more (IsEquality known) (eq_numbers_of es) e.0 h knows.live)

pub equates_more : (known : Known) (es : List EqId) (e : EqId) (us vs : Trees) (q : Equality) → EquateAll known (eq_numbers_of es) us vs → KnowsEquality known e q
    → EquateAll known (eq_numbers_of (es ++ e ∷ [])) (us ▸ q.left) (vs ▸ q.right)
equates_more known es e us vs q h knows =
    let P : List ℕ → Type 0 = λ ns. EquateAll known ns (us ▸ q.left) (vs ▸ q.right) in
    subst P (sym (eq_numbers_of-last es e))
    (equate_more known (eq_numbers_of es) e.0 us vs q.left q.right h (ap (λ (x : Equality). x.left) knows.is) (ap (λ (x : Equality). x.right) knows.is))

-- as more is known, the equalities are there and say the same
pub equal_live_later : (old new : Known) (es : List ℕ) → Adds old new → AllByRecursion (IsEquality old) es → AllByRecursion (IsEquality new) es
equal_live_later old new [] adds h = tt
equal_live_later old new (e ∷ es) adds h = (omega (arith, adds.equalities, h.0), equal_live_later old new es adds h.1)

same_sides : (old new : Known) (f : Equality → Tree) (es : List ℕ) → Adds old new → AllByRecursion (IsEquality old) es
    → map (λ e. f (equality_at new e)) es ≡ map (λ e. f (equality_at old e)) es
same_sides old new f [] adds live = refl
same_sides old new f (e ∷ es) adds live = ap₂ ◌∷◌ (ap f (adds.equality e live.0)) (same_sides old new f es adds live.1)

pub equates_later : (old new : Known) (es : List ℕ) (us vs : Trees) → Adds old new → AllByRecursion (IsEquality old) es → EquateAll old es us vs → EquateAll new es us vs
equates_later old new es us vs adds live h = (
  ap trees (same_sides old new (λ q. q.left) es adds live) ∙ h.0,
  ap trees (same_sides old new (λ q. q.right) es adds live) ∙ h.1,
)
