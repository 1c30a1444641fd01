-- Judgements that are gathered one after another, each of an argument of an instance: what is said of them as one more is
-- gathered, and as more is known.
use Rattle.std.proofs.Common.{◌≡◌, ◌∙◌, ℕ, List, [], ◌∷◌, ◌++◌, map, refl, ap, sym, subst, arith}
use Rattle.std.specs.List.{AllByRecursion}
use Rattle.std.proofs.lemmas.List.{map-append}
use mathlib.Core.Path.{ap₂}
use Rattle.ld_terms.specs.Tree.{Tree, Trees, Nil, ◌▸◌}
use Rattle.ld_terms.specs.Put.{put}
use Rattle.ld_terms.specs.Known.{Known, Judgement, judgement_at, trees, terms_of, types_of, IsNode, JudgeArguments}
use Rattle.ld_record.specs.declared.record.JudgeId.{JudgeId}
use Rattle.ld_record.specs.Follows.{numbers_of}
use Rattle.ld_record.specs.Growth.{Knows, Adds}
use Rattle.ld_record.proofs.Lists.{extended_last}

pub all_more : (P : ℕ → Type 0) (ns : List ℕ) (n : ℕ) → AllByRecursion P ns → P n → AllByRecursion P (ns ++ n ∷ [])
all_more P [] n h last = (last, tt)
all_more P (k ∷ ns) n h last = (h.0, all_more P ns n h.1 last)

-- what is made of the last judgement stands at the end
made_last : (known : Known) (f : Judgement → Tree) (ns : List ℕ) (n : ℕ)
    → trees (map f (map (judgement_at known) (ns ++ n ∷ []))) ≡ trees (map f (map (judgement_at known) ns)) ▸ f (judgement_at known n)
made_last known f ns n =
    let js = map (judgement_at known) ns in
    ap (λ qs. trees (map f qs)) (map-append (judgement_at known) ns (n ∷ []))
    ∙ ap trees (map-append f js (judgement_at known n ∷ []))
    ∙ extended_last Nil (map f js) (f (judgement_at known n))

-- no arguments for no parameters
pub judge_none : (known : Known) (m : ℕ) (ctx : Trees) → JudgeArguments known [] m ctx Nil Nil
judge_none known m ctx = record { over = tt; terms = refl; types = refl; as_many = refl }

-- one argument more, whose judgement gives it the next parameter's type
pub judge_more : (known : Known) (ns : List ℕ) (n m : ℕ) (ctx ps us : Trees) (p u : Tree) → JudgeArguments known ns m ctx ps us
    → judgement_at known n ≡ record { entries = m; context = ctx; term = u; type = put p us } → JudgeArguments known (ns ++ n ∷ []) m ctx (ps ▸ p) (us ▸ u)
judge_more known ns n m ctx ps us p u h is = record {
  over = all_more (λ k. ((judgement_at known k).entries ≡ m) × ((judgement_at known k).context ≡ ctx)) ns n h.over
      (ap (λ (q : Judgement). q.entries) is, ap (λ (q : Judgement). q.context) is);
  terms = made_last known (λ j. j.term) ns n ∙ ap₂ ◌▸◌ h.terms (ap (λ (q : Judgement). q.term) is);
  types = made_last known (λ j. j.type) ns n ∙ ap₂ ◌▸◌ h.types (ap (λ (q : Judgement). q.type) is);
  as_many = omega (arith, h.as_many);
}

pub numbers_of-last : (js : List JudgeId) (j : JudgeId) → numbers_of (js ++ j ∷ []) ≡ numbers_of js ++ j.0 ∷ []
numbers_of-last js j = map-append (λ k. k.0) js (j ∷ [])

-- the same of the numbers of a list that is extended at its end
pub live_more : (known : Known) (js : List JudgeId) (j : JudgeId) (s : Judgement) → AllByRecursion (IsNode known) (numbers_of js) → Knows known j s
    → AllByRecursion (IsNode known) (numbers_of (js ++ j ∷ []))
live_more known js j s h knows =
    let P : List ℕ → Type 0 = λ ns. AllByRecursion (IsNode known) ns in
    subst P (sym (numbers_of-last js j)) (all_more (IsNode known) (numbers_of js) j.0 h knows.live)

pub judges_more : (known : Known) (js : List JudgeId) (j : JudgeId) (m : ℕ) (ctx ps us : Trees) (p u : Tree) → JudgeArguments known (numbers_of js) m ctx ps us
    → Knows known j (record { entries = m; context = ctx; term = u; type = put p us }) → JudgeArguments known (numbers_of (js ++ j ∷ [])) m ctx (ps ▸ p) (us ▸ u)
judges_more known js j m ctx ps us p u h knows =
    let P : List ℕ → Type 0 = λ ns. JudgeArguments known ns m ctx (ps ▸ p) (us ▸ u) in
    subst P (sym (numbers_of-last js j)) (judge_more known (numbers_of js) j.0 m ctx ps us p u h knows.is)

-- as more is known, the judgements are there and say the same
pub live_later : (old new : Known) (ns : List ℕ) → Adds old new → AllByRecursion (IsNode old) ns → AllByRecursion (IsNode new) ns
live_later old new [] adds h = tt
live_later old new (n ∷ ns) adds h = (omega (arith, adds.nodes, h.0), live_later old new ns adds h.1)

same_judgements : (old new : Known) (ns : List ℕ) → Adds old new → AllByRecursion (IsNode old) ns → map (judgement_at new) ns ≡ map (judgement_at old) ns
same_judgements old new [] adds live = refl
same_judgements old new (n ∷ ns) adds live = ap₂ ◌∷◌ (adds.node n live.0) (same_judgements old new ns adds live.1)

abbrev IsOver : Known → ℕ → Trees → ℕ → Type 0
IsOver known m ctx n = ((judgement_at known n).entries ≡ m) × ((judgement_at known n).context ≡ ctx)

over_later : (old new : Known) (ns : List ℕ) (m : ℕ) (ctx : Trees) → Adds old new → AllByRecursion (IsNode old) ns → AllByRecursion (IsOver old m ctx) ns
    → AllByRecursion (IsOver new m ctx) ns
over_later old new [] m ctx adds live h = tt
over_later old new (n ∷ ns) m ctx adds live h =
    let same = adds.node n live.0 in
    ((ap (λ (q : Judgement). q.entries) same ∙ h.0.0, ap (λ (q : Judgement). q.context) same ∙ h.0.1), over_later old new ns m ctx adds live.1 h.1)

pub judges_later : (old new : Known) (ns : List ℕ) (m : ℕ) (ctx ps us : Trees) → Adds old new → AllByRecursion (IsNode old) ns → JudgeArguments old ns m ctx ps us
    → JudgeArguments new ns m ctx ps us
judges_later old new ns m ctx ps us adds live h =
    let same = same_judgements old new ns adds live in
    record {
      over = over_later old new ns m ctx adds live h.over;
      terms = ap terms_of same ∙ h.terms;
      types = ap types_of same ∙ h.types;
      as_many = h.as_many;
    }
