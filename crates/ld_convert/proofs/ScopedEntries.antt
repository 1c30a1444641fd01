-- The environment of kept records is scoped: each entry is that of a judgement, and judgements are derivable.
use Rattle.std.proofs.Common.{◌<◌, ℕ, Bool, true, false, List, [], ◌∷◌, ◌++◌, length, subst, arith, inl, inr}
use Rattle.ld_terms.specs.Tree.{Tree, count}
use Rattle.ld_terms.specs.Item.{Item}
use Rattle.ld_terms.specs.Entry as named
use Rattle.ld_terms.specs.Entry.{Primitive, Defined, Env, EntryAt, HasBody, defined, IsScoped, IsTelescope, IsScopedEntry, IsScopedEnv}
use Rattle.ld_terms.specs.Known.{Known, Judgement, nothing, judgement_at}
use Rattle.ld_laws.proofs.Scoping.{scopes, entry_of_more}
use Rattle.ld_record.specs.declared.record.Kept.{Kept}
use Rattle.ld_record.specs.declared.record.Kept.TheVariants as kept
use Rattle.ld_record.specs.Kept.{entry_by, with_kept, known_after, known_of, AreSound, IsSound}
use Rattle.ld_record.specs.Laws.{IsDerivableIn}
use Rattle.ld_record.proofs.Derived.{kept_nodes_are_derivable}
use Rattle.ld_record.proofs.Growing.{grows_after}

record IsScopedJudgement (j : Judgement) : Type 0 where
  of_context : IsTelescope j.context
  of_term : IsScoped j.term (count j.context)
  of_type : IsScoped j.type (count j.context)

judgement_scoped : (env : Env) (j : Judgement) → IsDerivableIn env j → IsScopedJudgement j
judgement_scoped env j h = let s = scopes h.derivable in record { of_context = s.of_ctx; of_term = s.of_term; of_type = s.of_type }

only_body : {t : Tree} (n : ℕ) → IsScoped t n → (u : Tree) → HasBody (Defined t) u → IsScoped u n
only_body n h u defined = h

no_body : (u : Tree) → HasBody Primitive u → ⊥
no_body u h = elim h [ ]

entry_scoped : (prim : Bool) (name : List ℕ) (j : Judgement) → IsScopedJudgement j → IsScopedEntry (entry_by prim name j)
entry_scoped true name j h = record { params = h.of_context; body = λ u b. absurd (no_body u b); type = h.of_term }
entry_scoped false name j h = record { params = h.of_context; body = only_body (count j.context) h.of_term; type = h.of_type }

env_more : (env : Env) (e : named.Entry) → IsScopedEnv env → IsScopedEntry e → IsScopedEnv (env ++ e ∷ [])
env_more env e all last k x at = elim (entry_of_more env e k x at) [ inl there ↦ all k x there | inr is ↦ subst IsScopedEntry is.1 last ]

-- where the judgements that are known in the end are scoped
abbrev AllScoped : Known → Type 0
AllScoped known = (n : ℕ) → n < length known.nodes → IsScopedJudgement (judgement_at known n)

entries_scoped : (items : List Item) (known : Known) (ks : List Kept) → AreSound items known ks → AllScoped (known_after items known ks) → IsScopedEnv known.env
    → IsScopedEnv (known_after items known ks).env
entries_scoped items known [] h nodes env = env
entries_scoped items known (kept.Context c t ∷ ks) h nodes env = entries_scoped items (with_kept items known (kept.Context c t)) ks h.1 nodes env
entries_scoped items known (kept.Equal left right step ∷ ks) h nodes env = entries_scoped items (with_kept items known (kept.Equal left right step)) ks h.1 nodes env
entries_scoped items known (kept.Node judge step ∷ ks) h nodes env = entries_scoped items (with_kept items known (kept.Node judge step)) ks h.1 nodes env
entries_scoped items known (kept.Flag j ∷ ks) h nodes env = entries_scoped items (with_kept items known (kept.Flag j)) ks h.1 nodes env
entries_scoped items known (kept.Entry name j prim ∷ ks) h nodes env =
    let grows = grows_after items known (kept.Entry name j prim ∷ ks) in
    let judged = subst IsScopedJudgement (grows.node j.0 h.0.live) (nodes j.0 (omega (arith, grows.nodes, h.0.live))) in
    entries_scoped items (with_kept items known (kept.Entry name j prim)) ks h.1 nodes
    (env_more known.env (entry_by prim name (judgement_at known j.0)) env (entry_scoped prim name (judgement_at known j.0) judged))

pub env_scoped : (items : List Item) (ks : List Kept) → IsSound items ks → IsScopedEnv (known_of items ks).env
env_scoped items ks sound =
    entries_scoped items nothing ks sound.all
    (λ n live. judgement_scoped (known_of items ks).env (judgement_at (known_of items ks) n) (kept_nodes_are_derivable items ks sound n live)) (λ k e at. absurd (cc))
