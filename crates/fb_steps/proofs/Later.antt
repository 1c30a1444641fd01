-- Judgements over more entries; what names the first entries alone unfolds to itself; and a tree that unfolds to a term has the
-- term's type where it has any.
use Rattle.std.proofs.Common.{length, ℕ, ◌<◌}
use mathlib.Core.Path.{subst₂}
use Rattle.ld_terms.specs.Derivable.{Derivable, IsLegal, IsLegalContext, weak, ◌⨾◌⊢◌∶◌}
use Rattle.ld_terms.specs.Entry.{Env}
use Rattle.ld_terms.specs.Tree.{App, Box, Const, Lam, Nil, Pi, Star, Tree, Trees, Var, ◌▸◌}
use Rattle.ld_laws.specs.Entries.{AllNameOnly, NamesOnly}
use Rattle.ld_laws.specs.Typing.{HasSort}
use Rattle.ld_laws.specs.Unfolding.{Unfolded, UnfoldedEach, abstraction, application, box, kept, more, none, product, star, variable}
use Rattle.ld_laws.proofs.PlainTrees.{plain_names}
use Rattle.ld_laws.proofs.Converting.{Extends}
use Rattle.ld_laws.proofs.Moving.{moved}
use Rattle.ld_laws.proofs.LegalContexts.{last_of, legal_of, sub_var, suits_same}
use Rattle.ld_laws.proofs.BoxFree.{plain}
use Rattle.ld_laws.proofs.Correctness.{IsCorrect, correct, is_box, sorted}
use Rattle.ld_laws.proofs.Preservation.{recast}
use Rattle.ld_laws.proofs.UniqueTypes.{uniqueness}
use Rattle.ld_laws.proofs.FullUnfolding.{unfolding_typed}
use mathlib.Core.Logic.{inl}

pub later : {Δ Δ' : Env} {Γ : Trees} {m n : Tree} → Extends Δ Δ' → IsLegalContext Δ' Γ → Δ ⨾ Γ ⊢ m ∶ n → Δ' ⨾ Γ ⊢ m ∶ n
later {Δ' = Δ'} {Γ = Γ} {m = m} {n = n} x l d = subst₂ (Derivable Δ' Γ) (sub_var m) (sub_var n) (moved d Δ' Γ Var x (suits_same l))

pub sort_later : {Δ Δ' : Env} {Γ : Trees} {a : Tree} → Extends Δ Δ' → IsLegalContext Δ' Γ → HasSort Δ Γ a → HasSort Δ' Γ a
sort_later x l h = record { of = h.of; is_sort = h.is_sort; typed = later x l h.typed }

pub legal_later : {Δ Δ' : Env} → Extends Δ Δ' → IsLegal Δ' → (Γ : Trees) → IsLegalContext Δ Γ → IsLegalContext Δ' Γ
legal_later x l Nil d = l
legal_later x l (Γ ▸ a) d =
    let h = last_of d in
    let k = legal_later x l Γ (legal_of h.typed) in
    weak h.is_sort k (later x k h.typed)

mutual
  pub unfolds_itself : (Δ : Env) (first : ℕ) (t : Tree) → NamesOnly (λ k. k < first) t → Unfolded Δ first t t
  unfolds_itself Δ first Star h = star
  unfolds_itself Δ first Box h = box
  unfolds_itself Δ first (Var i) h = variable
  unfolds_itself Δ first (App f u) h = application (unfolds_itself Δ first f h.0) (unfolds_itself Δ first u h.1)
  unfolds_itself Δ first (Lam a m) h = abstraction (unfolds_itself Δ first a h.0) (unfolds_itself Δ first m h.1)
  unfolds_itself Δ first (Pi a b) h = product (unfolds_itself Δ first a h.0) (unfolds_itself Δ first b h.1)
  unfolds_itself Δ first (Const k us) h = kept (inl h.0) (unfold_themselves Δ first us h.1)

  unfold_themselves : (Δ : Env) (first : ℕ) (us : Trees) → AllNameOnly (λ k. k < first) us → UnfoldedEach Δ first us us
  unfold_themselves Δ first Nil h = none
  unfold_themselves Δ first (us ▸ u) h = more (unfold_themselves Δ first us h.0) (unfolds_itself Δ first u h.1)

pub term_names : {Δ : Env} {Γ : Trees} {m n : Tree} → Δ ⨾ Γ ⊢ m ∶ n → NamesOnly (λ k. k < length Δ) m
term_names {Δ} {m = m} d = plain_names m (length Δ) (plain d).of_term

correct_names : {Δ : Env} {Γ : Trees} {n : Tree} → IsCorrect Δ Γ n → NamesOnly (λ k. k < length Δ) n
correct_names is_box = tt
correct_names (sorted h) = term_names h.typed

pub type_names : {Δ : Env} {Γ : Trees} {m n : Tree} → Δ ⨾ Γ ⊢ m ∶ n → NamesOnly (λ k. k < length Δ) n
type_names d = correct_names (correct d)

-- by uniqueness of types after subject reduction
pub as_typed : {Δ : Env} {Γ : Trees} {m p x n : Tree} (first : ℕ) → Unfolded Δ first m p → Δ ⨾ Γ ⊢ m ∶ x → Δ ⨾ Γ ⊢ p ∶ n → Δ ⨾ Γ ⊢ m ∶ n
as_typed {Δ} {Γ} {m} {p} {x} {n} first u d e = recast d e (uniqueness Δ Γ p x n (unfolding_typed Δ first Γ m p x d u) e)
