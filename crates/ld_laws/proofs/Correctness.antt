-- Type correctness, by induction on the derivation, for the judgement and for the types of all entries at once.
use Rattle.std.proofs.Common.{refl, subst, sym, take, ℕ, ◌≡◌}
use Rattle.std.specs.Prelude.{◌⊎◌}
use mathlib.Core.Logic.{inl, inr}
use Rattle.ld_terms.specs.Derivable.{IsLegalContext, IsSort, abst, appl, box, conv, def, def_prim, form, inst, inst_prim, sort, star, var, weak, ◌⨾◌⊢◌∶◌, ◌⨾◌⊢◌∶∶◌}
use Rattle.ld_terms.specs.Entry.{Entry, Env}
use Rattle.ld_terms.specs.Put.{in_place, lift, put}
use Rattle.ld_terms.specs.Tree.{Box, Nil, Pi, Tree, Trees, ◌▸◌}
use Rattle.ld_laws.specs.Typing.{HasSort, TypeCorrectness}
use Rattle.ld_laws.proofs.Putting.{put_as_sub}
use Rattle.ld_laws.proofs.LegalContexts.{legal_of, suits_arguments, suits_one, weak_sort}
use Rattle.ld_laws.proofs.Inversion.{generation, has_sort_moved}
use Rattle.ld_laws.proofs.Entries.{HoldsOfEach, holds_more, holds_none, take_extends}

-- `box`, or a tree that has a sort
pub data IsCorrect (Δ : Env) (Γ : Trees) : Tree → Type 0 where
  is_box : IsCorrect Δ Γ Box
  sorted : {n : Tree} → HasSort Δ Γ n → IsCorrect Δ Γ n

IsCorrectEntry : Env → Entry → Type 0
IsCorrectEntry Δ e = IsCorrect Δ e.params e.type

-- one lemma for each rule
correct_var : {Δ : Env} {Γ : Trees} {a s : Tree} → IsSort s → Δ ⨾ Γ ⊢ a ∶ s → IsCorrect Δ (Γ ▸ a) (lift a 1 0)
correct_var h d = sorted (record { of = _; is_sort = h; typed = weak_sort h d h d })

correct_weak : {Δ : Env} {Γ : Trees} {b c s : Tree} → IsSort s → Δ ⨾ Γ ⊢ c ∶ s → IsCorrect Δ Γ b → IsCorrect Δ (Γ ▸ c) (lift b 1 0)
correct_weak h e is_box = is_box
correct_weak h e (sorted g) = sorted (record { of = _; is_sort = g.is_sort; typed = weak_sort g.is_sort g.typed h e })

correct_sort : {Δ : Env} {Γ : Trees} {s : Tree} → IsSort s → IsLegalContext Δ Γ → IsCorrect Δ Γ s
correct_sort star l = sorted (record { of = Box; is_sort = box; typed = l })
correct_sort box l = is_box

of_sort : {Δ : Env} {Γ : Trees} {a s : Tree} → IsSort s → Δ ⨾ Γ ⊢ a ∶ s → IsCorrect Δ Γ a
of_sort h d = sorted (record { of = _; is_sort = h; typed = d })

correct_appl : {Δ : Env} {Γ : Trees} {a b n : Tree} → Δ ⨾ Γ ⊢ n ∶ a → IsCorrect Δ Γ (Pi a b) → IsCorrect Δ Γ (put b (Nil ▸ n))
correct_appl {Δ} {Γ} {a} {b} {n} d (sorted h) =
    sorted (subst (HasSort Δ Γ) (sym (put_as_sub b (Nil ▸ n))) (has_sort_moved (in_place (Nil ▸ n)) (λ k e at. at) (suits_one d) (generation Δ Γ (Pi a b) h.of h.typed).range))

correct_over : {Δ Δ' : Env} {Γ : Trees} {n : Tree} → ((m n : Tree) → Δ ⨾ Γ ⊢ m ∶ n → Δ' ⨾ Γ ⊢ m ∶ n) → IsCorrect Δ Γ n → IsCorrect Δ' Γ n
correct_over f is_box = is_box
correct_over f (sorted h) = sorted (record { of = h.of; is_sort = h.is_sort; typed = f _ _ h.typed })

correct_inst : {Δ : Env} {Γ ps us : Trees} {n : Tree} (k : ℕ) → IsLegalContext Δ Γ → Δ ⨾ Γ ⊢ us ∶∶ ps → IsCorrect (take k Δ) ps n → IsCorrect Δ Γ (put n us)
correct_inst k d args is_box = is_box
correct_inst {Δ} {Γ} {ps} {us} {n} k d args (sorted h) =
    sorted (subst (HasSort Δ Γ) (sym (put_as_sub n us)) (has_sort_moved (in_place us) (take_extends Δ k) (suits_arguments d args) h))

mutual
  unfolding IsCorrectEntry

  pub correct : {Δ : Env} {Γ : Trees} {m n : Tree} → Δ ⨾ Γ ⊢ m ∶ n → IsCorrect Δ Γ n
  correct sort = correct_sort box sort
  correct (var h d) = correct_var h d
  correct (weak h d e) = correct_weak h e (correct d)
  correct (form h g d e) = correct_sort g (legal_of d)
  correct (appl d e) = correct_appl e (correct d)
  correct (abst h d e) = of_sort h e
  correct (conv h c d e) = of_sort h e
  correct (def h f d e) = correct_over (λ m n g. def h f g e) (correct d)
  correct (def_prim h p f d e) = correct_over (λ m n g. def_prim h p f g e) (correct d)
  correct (inst {k = k} at b d args) = correct_inst k d args (correct_entries d k _ at)
  correct (inst_prim {k = k} at b d args) = correct_inst k d args (correct_entries d k _ at)

  correct_entries : {Δ : Env} {Γ : Trees} {m n : Tree} → Δ ⨾ Γ ⊢ m ∶ n → HoldsOfEach IsCorrectEntry Δ
  correct_entries sort = holds_none IsCorrectEntry
  correct_entries (var h d) = correct_entries d
  correct_entries (weak h d e) = correct_entries d
  correct_entries (form h g d e) = correct_entries d
  correct_entries (appl d e) = correct_entries d
  correct_entries (abst h d e) = correct_entries e
  correct_entries (conv h c d e) = correct_entries d
  correct_entries (def h f d e) = holds_more IsCorrectEntry _ _ (correct_entries d) (correct e)
  correct_entries (def_prim h p f d e) = holds_more IsCorrectEntry _ _ (correct_entries d) (of_sort h e)
  correct_entries (inst at b d args) = correct_entries d
  correct_entries (inst_prim at b d args) = correct_entries d

box_or_sort : {Δ : Env} {Γ : Trees} {n : Tree} → IsCorrect Δ Γ n → (n ≡ Box) ⊎ HasSort Δ Γ n
box_or_sort is_box = inl refl
box_or_sort (sorted h) = inr h

pub type_correctness : TypeCorrectness
type_correctness Δ Γ m n d = box_or_sort (correct d)
