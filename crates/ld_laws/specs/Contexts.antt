-- Judgements in other contexts: thinning and substitution.
--
-- A telescope is a list of types, each over the variables before it. Here it stands over a context, as the types of the
-- context's last variables do.
use Rattle.std.specs.Prelude.{ℕ, ◌++◌}
use Rattle.ld_terms.specs.Tree.{Tree, Trees, Nil, ◌▸◌, count}
use Rattle.ld_terms.specs.Put.{lift, put, put_below}
use Rattle.ld_terms.specs.Entry.{Env}
use Rattle.ld_terms.specs.Derivable.{◌⨾◌⊢◌∶◌, ◌⨾◌⊢◌∶∶◌, IsLegalContext}

-- a context with a telescope's variables at its end
abbrev pub joined : Trees → Trees → Trees
joined Γ Nil = Γ
joined Γ (ps ▸ A) = joined Γ ps ▸ A

-- a telescope, moved over so many variables that come in before it
abbrev pub lifted : Trees → (by : ℕ) → Trees
lifted Nil by = Nil
lifted (ps ▸ A) by = lifted ps by ▸ lift A by (count ps)

-- a telescope, with a list put in for the variables just before it
abbrev pub replaced : Trees → Trees → Trees
replaced Nil us = Nil
replaced (ps ▸ A) us = replaced ps us ▸ put_below A us (count ps)

-- thinning: a judgement stays derivable, lifted, where the context and the environment get more at their ends
abbrev pub ThinningAtEnd : Type 0
ThinningAtEnd = (Δ more : Env) (Γ new : Trees) (M N : Tree) → Δ ⨾ Γ ⊢ M ∶ N → IsLegalContext (Δ ++ more) (joined Γ new) →
    Δ ++ more ⨾ joined Γ new ⊢ lift M (count new) 0 ∶ lift N (count new) 0

-- the same where the new variables come in before later ones
abbrev pub ThinningWithin : Type 0
ThinningWithin = (Δ more : Env) (Γ new later : Trees) (M N : Tree) → Δ ⨾ joined Γ later ⊢ M ∶ N →
    IsLegalContext (Δ ++ more) (joined (joined Γ new) (lifted later (count new))) →
    Δ ++ more ⨾ joined (joined Γ new) (lifted later (count new)) ⊢ lift M (count new) (count later) ∶ lift N (count new) (count later)

-- substitution: parameters put in for the last variables, which have their types, keep a judgement
abbrev pub SubstitutionAtEnd : Type 0
SubstitutionAtEnd = (Δ : Env) (Γ ps us : Trees) (M N : Tree) → Δ ⨾ joined Γ ps ⊢ M ∶ N → Δ ⨾ Γ ⊢ us ∶∶ ps → Δ ⨾ Γ ⊢ put M us ∶ put N us

-- the same for variables that stand before later ones
abbrev pub SubstitutionWithin : Type 0
SubstitutionWithin = (Δ : Env) (Γ ps us later : Trees) (M N : Tree) → Δ ⨾ joined (joined Γ ps) later ⊢ M ∶ N → Δ ⨾ Γ ⊢ us ∶∶ ps →
    Δ ⨾ joined Γ (replaced later us) ⊢ put_below M us (count later) ∶ put_below N us (count later)

-- the same for an entry's parameters, which are the whole context
abbrev pub SubstitutionOfAll : Type 0
SubstitutionOfAll = (Δ : Env) (Γ ps us : Trees) (M N : Tree) → Δ ⨾ ps ⊢ M ∶ N → IsLegalContext Δ Γ → Δ ⨾ Γ ⊢ us ∶∶ ps → Δ ⨾ Γ ⊢ put M us ∶ put N us
