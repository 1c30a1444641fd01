-- The lines of the tests, and what holds over them.
use Rattle.std.proofs.Common.{◌≡◌, ◌++◌, ◌∷◌, [], All, Some, List, refl, ap, sym, ◌∙◌, subst}
use Rattle.std.proofs.lemmas.List.Elements.{All-nil, All-cons}
use Rattle.ld_terms.specs.Tree.{Tree, Star, Var, Nil, ◌▸◌}
use Rattle.ld_terms.specs.Item.{Item, tree}
use Rattle.ld_terms.specs.Bank.{StandsFor, IsTermAt, Extends, tree_at, listed}
use Rattle.ld_terms.specs.declared.bank.TermId.{TermId}
use Rattle.ld_terms.specs.Known.{Known, Judgement, line_entry}
use Rattle.ld_terms.specs.Entry.{Env}
use Rattle.ld_terms.specs.Named.{IsNamed}
use Rattle.ld_env.specs.declared.env.Entry.{Entry}
use Rattle.ld_record.specs.declared.record.JudgeId.{JudgeId}
use Rattle.ld_record.specs.declared.record.Kept.{Kept}
use Rattle.ld_record.specs.Kept.{known_of}
use Rattle.ld_record.specs.Growth.{Knows}
use Rattle.ld_samples.specs.Samples.{outer_variable, product, identity, IsOf}
use Rattle.ld_samples.proofs.Sampled.{is_of}
use Rattle.ld_reduce.proofs.Going.{term_of}
use Rattle.ld_reduce.specs.Samples.{lines}

-- the entry is that of the judgement, where its parts stand for the judgement's
pub is_of_closed : (items : List Item) (known : Known) (entry : Entry) (body of : TermId) (j : JudgeId) (s : Judgement) → Knows known j s → s.entries ≡ 0 → s.context ≡ Nil
    → entry.params ≡ [] → entry.body ≡ Some body → entry.of ≡ of → StandsFor items body s.term → StandsFor items of s.type → IsOf items known entry j
is_of_closed items known entry body of j s knows none closed params body_is of_is term type =
    is_of items known entry body of j s knows none (subst (λ ts. All (IsTermAt items) ts) (sym params) (All-nil (IsTermAt items)))
    (ap (listed items Nil) params ∙ sym closed) body_is of_is term type

pub is_of_binary : (items : List Item) (known : Known) (entry : Entry) (body of : TermId) (j : JudgeId) → Knows known j outer_variable → entry.params ≡ of ∷ of ∷ []
    → entry.body ≡ Some body → entry.of ≡ of → StandsFor items body (Var 1) → StandsFor items of Star → IsOf items known entry j
is_of_binary items known entry body of j knows params body_is of_is term type =
    let there = term_of items of Star type in
    let each : All (IsTermAt items) (of ∷ of ∷ []) = All-cons (IsTermAt items) of (of ∷ []) there (All-cons (IsTermAt items) of [] there (All-nil (IsTermAt items))) in
    is_of items known entry body of j outer_variable knows refl (subst (λ ts. All (IsTermAt items) ts) (sym params) each)
    (ap (listed items Nil) params ∙ ap (λ i. Nil ▸ tree i ▸ tree i) type.item) body_is of_is term type

-- the entries, one after the other
pub lines_are : (e0 e1 e2 e3 : Env) (j1 j2 j3 : Judgement) → e0 ≡ [] → e1 ≡ e0 ++ line_entry (113 ∷ []) j1 ∷ [] → e2 ≡ e1 ++ line_entry (102 ∷ []) j2 ∷ []
    → e3 ≡ e2 ++ line_entry (107 ∷ []) j3 ∷ [] → j1 ≡ product → j2 ≡ identity → j3 ≡ outer_variable → e3 ≡ lines
lines_are e0 e1 e2 e3 j1 j2 j3 none first second third of1 of2 of3 =
    third
    ∙ ap (λ e. e ++ line_entry (107 ∷ []) j3 ∷ []) (second ∙ ap (λ e. e ++ line_entry (102 ∷ []) j2 ∷ []) (first ∙ ap (λ e. e ++ line_entry (113 ∷ []) j1 ∷ []) none))
    ∙ (λ i. line_entry (113 ∷ []) (of1 i) ∷ line_entry (102 ∷ []) (of2 i) ∷ line_entry (107 ∷ []) (of3 i) ∷ [])

-- what holds over the lines of a tree holds of its number, over an environment that is theirs
pub over_lines : (P : Env → Tree → Type 0) (old new : List Item) (env : Env) (t : TermId) (u : Tree) → Extends old new → StandsFor old t u → env ≡ lines → P lines u → P env (tree_at new t)
over_lines P old new env t u kept stands is h = subst (λ e. P e (tree_at new t)) (sym is) (subst (λ x. P lines x) (sym (ap tree (kept.kept t stands.live ∙ stands.item))) h)

-- over no records
pub none_named : (items : List Item) (kept : List Kept) (t : TermId) → kept ≡ [] → IsNamed [] (tree_at items t) → IsNamed (known_of items kept).env (tree_at items t)
none_named items kept t none h =
    let P : List Kept → Type 0 = λ ks. IsNamed (known_of items ks).env (tree_at items t) in
    subst P (sym none) h

pub named_by : (items : List Item) (kept : List Kept) (t : TermId) (u : Tree) → kept ≡ [] → StandsFor items t u → IsNamed [] u → IsNamed (known_of items kept).env (tree_at items t)
named_by items kept t u none stands h =
    let P : Item → Type 0 = λ x. IsNamed [] (tree x) in
    none_named items kept t none (subst P (sym stands.item) h)
