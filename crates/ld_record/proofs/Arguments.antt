-- The arguments that judgements give to an entry are derivable, one after another: by induction on the last judgement.
use Rattle.std.proofs.Common.{◌≡◌, ◌∙◌, ℕ, List, [], ◌∷◌, ◌++◌, take, map, ap, sym, arith}
use Rattle.std.specs.List.{AllByRecursion}
use Rattle.std.proofs.lemmas.Simd.{map-map}
use mathlib.Core.Path.{subst₂}
use Rattle.ld_terms.specs.Tree.{Tree, Trees, Nil, ◌▸◌, count}
use Rattle.ld_terms.specs.Derivable as d
use Rattle.ld_terms.specs.Derivable.{◌⨾◌⊢◌∶◌, ◌⨾◌⊢◌∶∶◌}
use Rattle.ld_terms.specs.Known.{Known, judgement_at, trees, wanted, JudgeArguments}
use Rattle.ld_record.proofs.Lists.{by_last, all_last, trees_last}
use Rattle.ld_record.proofs.Holding.{AllHold}

snoc_left : {us vs : Trees} {u v : Tree} → us ▸ u ≡ vs ▸ v → us ≡ vs
snoc_left h = cc

snoc_right : {us vs : Trees} {u v : Tree} → us ▸ u ≡ vs ▸ v → u ≡ v
snoc_right h = cc

snoc_nil : {us : Trees} {u : Tree} → us ▸ u ≡ Nil → ⊥
snoc_nil h = cc

module _ (known : Known) (hold : AllHold known) (m : ℕ) (ctx : Trees) where
  abbrev IsOver : ℕ → Type 0
  IsOver n = ((judgement_at known n).entries ≡ m) × ((judgement_at known n).context ≡ ctx)

  abbrev term : ℕ → Tree
  term n = (judgement_at known n).term

  abbrev type : ℕ → Tree
  type n = (judgement_at known n).type

  derived : (n : ℕ) → IsOver n → take m known.env ⨾ ctx ⊢ term n ∶ type n
  derived n h = subst₂ (λ k c. take k known.env ⨾ c ⊢ term n ∶ type n) h.0 h.1 (hold.nodes n).derivable

  abbrev Arguments : List ℕ → Type 0
  Arguments ns = (params us : Trees) → AllByRecursion IsOver ns → trees (map term ns) ≡ us → trees (map type ns) ≡ wanted params us → count us ≡ count params → take m known.env ⨾ ctx ⊢ us ∶∶ params

  arguments_none : Arguments []
  arguments_none Nil Nil over e w c = d.none
  arguments_none (ps ▸ p) Nil over e w c = absurd (omega arith)
  arguments_none params (us ▸ u) over e w c = absurd (snoc_nil (sym e))

  arguments_more : (ns : List ℕ) (n : ℕ) → Arguments ns → Arguments (ns ++ n ∷ [])
  arguments_more ns n ih params Nil over e w c = absurd (snoc_nil (sym (trees_last term ns n) ∙ e))
  arguments_more ns n ih Nil (us ▸ u) over e w c = absurd (omega arith)
  arguments_more ns n ih (ps ▸ p) (us ▸ u) over e w c =
      let o = all_last IsOver ns n over in
      let t = sym (trees_last term ns n) ∙ e in
      let y = sym (trees_last type ns n) ∙ w in
      d.more (ih ps us o.0 (snoc_left t) (snoc_left y) (omega arith))
      (subst₂ (λ a b. take m known.env ⨾ ctx ⊢ a ∶ b) (snoc_right t) (snoc_right y) (derived n o.1))

  pub arguments_derived : (ns : List ℕ) (params us : Trees) → JudgeArguments known ns m ctx params us → take m known.env ⨾ ctx ⊢ us ∶∶ params
  arguments_derived ns params us h =
      by_last Arguments arguments_none arguments_more ns params us h.over
      (ap trees (sym (map-map (λ j. j.term) (judgement_at known) ns)) ∙ h.terms) (ap trees (sym (map-map (λ j. j.type) (judgement_at known) ns)) ∙ h.types) h.as_many
