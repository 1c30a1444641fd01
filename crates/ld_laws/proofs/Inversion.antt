-- Generation. The rules that leave the term as it is are passed over, those that extend the context with a renaming.
use Rattle.std.proofs.Common.{refl, subst, suc, sym, ℕ, ◌≡◌}
use mathlib.Core.Path.{subst₂}
use Rattle.ld_terms.specs.Derivable.{IsSort, abst, appl, box, conv, def, def_prim, form, inst, inst_prim, sort, star, var, weak, ◌⨾◌⊢◌∶◌}
use Rattle.ld_terms.specs.Entry.{Env, IsScoped}
use Rattle.ld_terms.specs.Put.{lift}
use Rattle.ld_terms.specs.Step.{Converts, chain, same}
use Rattle.ld_terms.specs.Tree.{App, Box, Const, Lam, Pi, Star, Tree, Trees, Var}
use Rattle.ld_laws.specs.Typing.{At, Generated, Generation, HasSort, here, there}
use Rattle.ld_laws.proofs.Renaming.{sub, up}
use Rattle.ld_laws.proofs.Putting.{sub_put_all, sub_put_one}
use Rattle.ld_laws.proofs.Scoping.{arguments_scope, entry_before, scopes}
use Rattle.ld_laws.proofs.Converting.{Extends, converts_extends, converts_sub}
use Rattle.ld_laws.proofs.Moving.{Suits, arguments_move, into_sort, last_moves, moved, sub_of_lift, suits_back, suits_up}
use Rattle.ld_laws.proofs.LegalContexts.{legal_of, sub_var, suits_same}
use Rattle.ld_laws.proofs.BoxFree.{box_apart}

-- a tree with a sort, moved
pub has_sort_moved : {Δ Δ' : Env} {Γ Γ' : Trees} {a : Tree} (s : ℕ → Tree) → Extends Δ Δ' → Suits Δ' Γ' s Γ → HasSort Δ Γ a → HasSort Δ' Γ' (sub s a)
has_sort_moved {Δ' = Δ'} {Γ' = Γ'} s x f h = record { of = h.of; is_sort = h.is_sort; typed = into_sort s h.is_sort (moved h.typed Δ' Γ' s x f) }

-- another type of the same term
retyped : {Δ : Env} {Γ : Trees} (m : Tree) {n n' s : Tree} → IsSort s → Δ ⨾ Γ ⊢ n' ∶ s → Converts Δ n n' → Generated Δ Γ m n → Generated Δ Γ m n'
retyped {Δ} Star {n' = n'} h d c g = absurd (box_apart d (subst (λ x. Converts Δ x n') g c))
retyped Box h d c g = g
retyped (Var i) h d c g = record { type = g.type; at = g.at; converts = chain g.converts c }
retyped (App f u) h d c g = record { domain = g.domain; range = g.range; function = g.function; argument = g.argument; converts = chain g.converts c }
retyped (Lam a m) h d c g = record { range = g.range; body = g.body; product = g.product; converts = chain g.converts c }
retyped (Pi a b) h d c g = record { domain = g.domain; range = g.range; converts = chain g.converts c }
retyped (Const k us) h d c g = record { entry = g.entry; at = g.at; arguments = g.arguments; converts = chain g.converts c }

-- a renaming, as a substitution
abbrev names : (ℕ → ℕ) → ℕ → Tree
names r i = Var (r i)

-- a substitution leaves a sort as it is
sort_stays : (Δ : Env) {t : Tree} (p : ℕ → Tree) → IsSort t → Converts Δ t (sub p t)
sort_stays Δ p star = same
sort_stays Δ p box = same

-- equal trees convert
pub converts_by : {Δ : Env} {t u : Tree} → t ≡ u → Converts Δ t u
converts_by {Δ} {t} e = subst (Converts Δ t) e same

-- what a derivation comes from, its context renamed into another and its environment extended
made : {Δ : Env} {Γ : Trees} {m n : Tree} → Δ ⨾ Γ ⊢ m ∶ n → (Δ' : Env) (Γ' : Trees) (r : ℕ → ℕ) → Extends Δ Δ' → Suits Δ' Γ' (names r) Γ →
    ((i : ℕ) (t : Tree) → At Γ i t → At Γ' (r i) (sub (names r) t)) → Generated Δ' Γ' (sub (names r) m) (sub (names r) n)
made sort Δ' Γ' r x f g = refl
made (var {A = a} h d) Δ' Γ' r x f g = record { type = _; at = g 0 (lift a 1 0) here; converts = same }
made (weak {A = a} {B = b} h d e) Δ' Γ' r x f g =
    subst₂ (Generated Δ' Γ') (sub_of_lift a (names r)) (sub_of_lift b (names r))
    (made d Δ' Γ' (λ i. r (suc i)) x (suits_back f) (λ i t at. subst (At Γ' (r (suc i))) (sym (sub_of_lift t (names r))) (g (suc i) (lift t 1 0) (there at))))
made (form {s1 = s1} {s2 = s2} h k d e) Δ' Γ' r x f g =
    let p = into_sort (names r) h (moved d Δ' Γ' (names r) x f) in
    record {
      domain = record { of = s1; is_sort = h; typed = p };
      range = record { of = s2; is_sort = k; typed = into_sort (up (names r)) k (moved e Δ' _ (up (names r)) x (suits_up h f p)) };
      converts = sort_stays Δ' (names r) k;
    }
made (appl {B = b} {N = n} d e) Δ' Γ' r x f g =
    record { domain = _; range = _; function = moved d Δ' Γ' (names r) x f; argument = moved e Δ' Γ' (names r) x f; converts = converts_by (sym (sub_put_one b n (names r))) }
made (abst {s = s} h d e) Δ' Γ' r x f g =
    let p = last_moves d Δ' Γ' (names r) x f in
    record {
      range = _;
      body = moved d Δ' _ (up (names r)) x (suits_up p.1 f p.2);
      product = record { of = s; is_sort = h; typed = into_sort (names r) h (moved e Δ' Γ' (names r) x f) };
      converts = same;
    }
made (conv h c d e) Δ' Γ' r x f g =
    retyped _ h (into_sort (names r) h (moved e Δ' Γ' (names r) x f)) (converts_sub (scopes f.legal).of_env (names r) (converts_extends x c)) (made d Δ' Γ' r x f g)
made (def {Δ = Δ} h k d e) Δ' Γ' r x f g = made d Δ' Γ' r (λ k b at. x k b (entry_before Δ _ k b at)) f g
made (def_prim {Δ = Δ} h p k d e) Δ' Γ' r x f g = made d Δ' Γ' r (λ k b at. x k b (entry_before Δ _ k b at)) f g
made (inst {us = us} {e = e} at b d args) Δ' Γ' r x f g =
    let c = (scopes d).of_env _ _ at in
    let q = sub_put_all e.type us (names r) (subst (IsScoped e.type) (sym (arguments_scope args).1) c.type) in
    record { entry = e; at = x _ _ at; arguments = arguments_move args c.params Δ' Γ' (names r) x f; converts = converts_by (sym q) }
made (inst_prim {us = us} {e = e} at b d args) Δ' Γ' r x f g =
    let c = (scopes d).of_env _ _ at in
    let q = sub_put_all e.type us (names r) (subst (IsScoped e.type) (sym (arguments_scope args).1) c.type) in
    record { entry = e; at = x _ _ at; arguments = arguments_move args c.params Δ' Γ' (names r) x f; converts = converts_by (sym q) }

pub generation : Generation
generation Δ Γ m n d =
    let l = legal_of d in
    subst₂ (Generated Δ Γ) (sub_var m) (sub_var n) (made d Δ Γ (λ i. i) (λ k e at. at) (suits_same l) (λ i t at. subst (At Γ i) (sym (sub_var t)) at))
