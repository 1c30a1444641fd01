-- The lines that the judgements of the tests make.
use Rattle.std.proofs.Common.{◌≡◌, ◌<◌, ◌++◌, ◌∷◌, [], All, Some, None, ℕ, zero, suc, List, refl, ap, sym, ◌∙◌, subst, arith}
use Rattle.std.proofs.lemmas.List.Elements.{All-nil, All-cons}
use Rattle.ld_terms.specs.Tree.{Tree, Trees, Star, Const, Nil, ◌▸◌}
use Rattle.ld_terms.specs.Record.{params_at}
use Rattle.ld_terms.specs.Named.{IsNamed}
use Rattle.ld_terms.specs.Derivable.{IsSort}
use Rattle.ld_terms.specs.Item.{Item, tree}
use Rattle.ld_terms.specs.Bank.{StandsFor, IsTermAt, Extends, tree_at, listed}
use Rattle.ld_terms.specs.declared.bank.TermId.{TermId}
use Rattle.ld_terms.specs.Known.{Known, Judgement, line_entry, primitive_entry}
use Rattle.ld_terms.specs.Entry.{Env}
use Rattle.ld_env.specs.declared.env.Entry.{Entry}
use Rattle.ld_record.specs.declared.record.JudgeId.{JudgeId}
use Rattle.ld_record.specs.Growth.{Knows}
use Rattle.ld_samples.specs.Samples.{inner_sort, variable, IsOf, IsPrimitiveOf}
use Rattle.ld_samples.proofs.Sampled.{term_of, is_of, is_primitive_of}
use Rattle.ld_convert.specs.Samples.{lines}

-- the one parameter of an entry
params_live : (items : List Item) (entry : Entry) (star : TermId) → entry.params ≡ star ∷ [] → StandsFor items star Star → All (IsTermAt items) entry.params
params_live items entry star params is = subst (λ ts. All (IsTermAt items) ts) (sym params) (All-cons (IsTermAt items) star [] (term_of items star Star is) (All-nil (IsTermAt items)))

params_are : (items : List Item) (entry : Entry) (star : TermId) → entry.params ≡ star ∷ [] → StandsFor items star Star → listed items Nil entry.params ≡ Nil ▸ Star
params_are items entry star params is = ap (listed items Nil) params ∙ ap (λ i. Nil ▸ tree i) is.item

-- the entry is that of the judgement, where its parts stand for the judgement's
pub is_of_unary : (items : List Item) (known : Known) (entry : Entry) (body of star : TermId) (j : JudgeId) (s : Judgement) → Knows known j s → s.entries ≡ 0 → s.context ≡ Nil ▸ Star
    → entry.params ≡ star ∷ [] → entry.body ≡ Some body → entry.of ≡ of → StandsFor items star Star → StandsFor items body s.term → StandsFor items of s.type → IsOf items known entry j
is_of_unary items known entry body of star j s knows none context params body_is of_is star_is term type =
    is_of items known entry body of j s knows none (params_live items entry star params star_is) (params_are items entry star params star_is ∙ sym context) body_is of_is term type

pub is_primitive_of_unary : (items : List Item) (known : Known) (entry : Entry) (of star : TermId) (j : JudgeId) (s : Judgement) → Knows known j s → s.entries ≡ 0 → s.context ≡ Nil ▸ Star → IsSort s.type
    → entry.params ≡ star ∷ [] → entry.body ≡ None → entry.of ≡ of → StandsFor items star Star → StandsFor items of s.term → IsPrimitiveOf items known entry j
is_primitive_of_unary items known entry of star j s knows none context kind params body_is of_is star_is term =
    is_primitive_of items known entry of j s knows none kind (params_live items entry star params star_is) (params_are items entry star params star_is ∙ sym context) body_is of_is term

-- the entries, one after the other
pub lines_are : (e0 e1 e2 e3 : Env) (j1 j2 j3 : Judgement) → e0 ≡ [] → e1 ≡ e0 ++ primitive_entry (112 ∷ []) j1 ∷ [] → e2 ≡ e1 ++ line_entry (99 ∷ []) j2 ∷ []
    → e3 ≡ e2 ++ line_entry (107 ∷ []) j3 ∷ [] → j1 ≡ inner_sort → j2 ≡ inner_sort → j3 ≡ variable → e3 ≡ lines
lines_are e0 e1 e2 e3 j1 j2 j3 none first second third of1 of2 of3 =
    third
    ∙ ap (λ e. e ++ line_entry (107 ∷ []) j3 ∷ []) (second ∙ ap (λ e. e ++ line_entry (99 ∷ []) j2 ∷ []) (first ∙ ap (λ e. e ++ primitive_entry (112 ∷ []) j1 ∷ []) none))
    ∙ (λ i. primitive_entry (112 ∷ []) (of1 i) ∷ line_entry (99 ∷ []) (of2 i) ∷ line_entry (107 ∷ []) (of3 i) ∷ [])

-- each line has one parameter
one_parameter : (k : ℕ) → k < 3 → params_at lines k ≡ 1
one_parameter zero l = refl
one_parameter (suc zero) l = refl
one_parameter (suc (suc zero)) l = refl
one_parameter (suc (suc (suc k))) l = absurd (omega (arith, l))

-- an instance of a line for one argument
pub instance_named : (k : ℕ) (us : Trees) (u : Tree) → k < 3 → us ≡ Nil ▸ u → IsNamed lines u → IsNamed lines (Const k us)
instance_named k us u l is h = subst (λ x. IsNamed lines (Const k x)) (sym is) (l, sym (one_parameter k l), (tt, h))

-- a term over the lines names what is there, over an environment that is theirs
pub named_over : (old new : List Item) (env : Env) (t : TermId) → Extends old new → IsTermAt old t → env ≡ lines → IsNamed lines (tree_at old t) → IsNamed env (tree_at new t)
named_over old new env t kept there is h = subst (λ e. IsNamed e (tree_at new t)) (sym is) (subst (λ x. IsNamed lines x) (sym (ap tree (kept.kept t there.live))) h)
