-- Reduction in any number of steps, and confluence.
use Rattle.ld_terms.specs.Tree.{Tree}
use Rattle.ld_terms.specs.Entry.{Env, IsScopedEnv}
use Rattle.ld_terms.specs.Step.{Step, Converts}

-- the first tree goes to the second in some number of steps, perhaps none
pub data Steps (Δ : Env) : Tree → Tree → Type 0 where
  end : {t : Tree} → Steps Δ t t
  then_on : {t u v : Tree} → Step Δ t u → Steps Δ u v → Steps Δ t v

-- confluence: convertible trees go, in some number of steps, to one tree
abbrev pub Confluence : Type 0
Confluence = (Δ : Env) → IsScopedEnv Δ → (t u : Tree) → Converts Δ t u → (v : Tree) × Steps Δ t v × Steps Δ u v
