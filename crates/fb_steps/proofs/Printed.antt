-- The laws, from the walk.
use Rattle.std.proofs.Common.{◌≡◌, ◌≢◌, ◌+◌, ◌<◌, ℕ, suc, List, [], ◌∷◌, ◌++◌, length, ap, append_assoc, arith, refl, sym, subst, ◌∙◌}
use Rattle.std.proofs.lemmas.List.{length-map, length-replicate}
use Rattle.std.proofs.lemmas.List.Elements.{All-cons, All-nil}
use Rattle.std.specs.Prelude.{map, replicate}
use Rattle.ld_terms.specs.Tree.{Tree, Trees, Nil, ◌▸◌, count}
use Rattle.ld_terms.specs.Entry.{Env, IsFresh}
use Rattle.ld_terms.specs.Derivable.{Derivable, IsLegal, IsLegalContext}
use Rattle.ld_laws.proofs.Converting.{Extends}
use Rattle.ld_laws.proofs.LegalContexts.{last_of, legal_of}
use Rattle.ld_reduce.specs.Task.{Pairs}
use Rattle.ld_convert.specs.Sameness.{AreConvertible}
use Rattle.fb_steps.specs.Items.{Item}
use Rattle.fb_steps.specs.Work.{Ending, Done, Refused}
use Rattle.fb_steps.specs.Places.{OpenFlag, Place, context_of, closed_to, line_entry}
use Rattle.fb_steps.specs.Spells.{Spells}
use Rattle.fb_steps.specs.Spells as spelled
use Rattle.fb_steps.specs.Unfolded.{IsLine}
use Rattle.fb_steps.specs.Laws.{Begins, LastLine, IsReady, IsPrinted, ItemsUnfold, AreDerived, ItemsDerivable, ItemsShown, NeverRefused}
use Rattle.fb_steps.proofs.Lists.{EndsWith, here, ends_closed, ends_drop}
use Rattle.fb_steps.proofs.Invariant.{IsPlace, StandsFor}
use Rattle.fb_steps.proofs.Spelling.{derived_spelled}
use Rattle.fb_steps.proofs.Working.{Worked}
use Rattle.fb_steps.proofs.Lines.{is_line}
use Rattle.fb_steps.proofs.Walk.{steps_work}
use Rattle.fb_steps.proofs.Entries.{entry_work, printed_typed}
use Rattle.fb_steps.proofs.Rooms.{entry_room, steps_room}
use Rattle.fb_steps.proofs.LastLines.{entry_ends, steps_end}

-- where the items of a text begin
pub begins : {Δ : Env} {name : ℕ → List ℕ} {fs : List OpenFlag} {p : Place} {K : Pairs} → IsReady Δ name fs p K → IsLegalContext Δ (context_of fs) → IsPlace Δ name fs 0 p
begins {Δ} {name} {fs} {p} ready legal = record {
  extends = subst (λ env. Extends Δ env) back (λ k e at. at);
  entries = let e = ap length b.env_is in omega (arith, e);
  marked = b.marked ∙ sym (ap length b.env_is);
  flags = subst (λ gs. EndsWith gs p.flags) b.flags_are (ends_drop _ p.flags);
  legal = subst (λ env. IsLegalContext env (context_of fs)) back legal;
  fresh = λ i le. subst (λ env. IsFresh (name (suc i)) env) back (ready.names.fresh (suc i));
}
  where
    b : Begins Δ fs p
    b = ready.begins

    back : Δ ≡ p.env
    back = sym b.env_is

-- items add entries at the end
record Longer (p q : Place) : Type 0 where
  lines : Env
  more : q.env ≡ p.env ++ lines

append_none : (Δ : Env) → Δ ≡ Δ ++ []
append_none [] = refl
append_none (e ∷ Δ) = ap (λ l. e ∷ l) (append_none Δ)

longer : {first : ℕ} {name : ℕ → List ℕ} {p q : Place} {items : List Item} → Spells first name p items q → Longer p q
longer {p = p} spelled.Spells.none = record { lines = []; more = append_none p.env }
longer (spelled.Spells.flag le h) = let l = longer h in record { lines = l.lines; more = l.more }
longer {name = name} {p = p} (spelled.Spells.line {depth = depth} {j = j} {type = type} t le m b h) =
    let l = longer h in
    let e = line_entry (name (suc j)) (closed_to depth p.flags) t type in
    record { lines = e ∷ l.lines; more = l.more ∙ append_assoc p.env (e ∷ []) l.lines }

printed : {Δ : Env} {name : ℕ → List ℕ} {fs gs : List OpenFlag} {p : Place} {items : List Item} {L : Pairs} {i number : ℕ} {t type : Tree} {params : Trees} {G : ℕ → Place → ℕ → Type 0} →
    (u : Worked Δ name fs G p (Done number) items L i) → StandsFor Δ gs u.after number t type → context_of gs ≡ params → Derivable Δ params t type →
    LastLine items (count params) number type t → IsPrinted (length Δ) name p items number params t type
printed {Δ} {name} {gs = gs} {p = p} {number = number} {t = t} {type = type} u stands e d last =
    let spells = derived_spelled u.derives in
    let l = longer spells in
    record {
      after = u.after;
      spells = spells;
      lines = l.lines;
      more = l.more;
      each = u.unfolded u.after.env (λ k c at. at);
      last = last;
      last_is = subst (λ ps. IsLine (length Δ) u.after.env number ps type t) e
          (is_line stands (subst (λ ps. Derivable Δ ps t type) (sym e) d) u.after.env (λ k c at. at));
    }

pub items_unfold : ItemsUnfold
items_unfold = record {
  of_term = λ Δ name fs t type p K L left n lines number items ready d h.
      let u = steps_work Δ name ready.names.differ t type fs p 0 (begins ready (legal_of d)) d K left (Done number) items L n lines h ready.known in
      printed u u.ends refl d (steps_end Δ (context_of fs) t type K L left 0 n lines number items h);
  of_entry = λ Δ name k e p K L left n lines number items ready legal at h.
      let u = entry_work Δ name ready.names.differ k e p 0 legal at (begins ready legal) K left (Done number) items L n lines h ready.known in
      printed u u.ends.stands u.ends.types_are (printed_typed k legal at) (entry_ends Δ k e K L left 0 n lines number items h);
}

empty_legal : {Δ : Env} (Γ : Trees) → IsLegalContext Δ Γ → IsLegal Δ
empty_legal Nil l = l
empty_legal (Γ ▸ a) l = empty_legal Γ (legal_of (last_of l).typed)

derived : {Δ : Env} {name : ℕ → List ℕ} {fs : List OpenFlag} {p : Place} {items : List Item} {L : Pairs} {i : ℕ} {r : Ending ℕ} {G : ℕ → Place → ℕ → Type 0} →
    Worked Δ name fs G p r items L i → AreDerived (length Δ) name p items
derived {fs = fs} u = record { after = u.after; derives = u.derives; legal = empty_legal (context_of fs) u.is.legal }

pub items_derivable : ItemsDerivable
items_derivable = record {
  of_term = λ Δ name fs t type p K L left n lines r items ready d h.
      derived (steps_work Δ name ready.names.differ t type fs p 0 (begins ready (legal_of d)) d K left r items L n lines h ready.known);
  of_entry = λ Δ name k e p K L left n lines r items ready legal at h.
      derived (entry_work Δ name ready.names.differ k e p 0 legal at (begins ready legal) K left r items L n lines h ready.known);
}

-- For that no reading is refused, any names serve: here names longer than each entry's.
total : Env → ℕ
total [] = 0
total (e ∷ Δ) = length e.name + total Δ

zeros : (n : ℕ) → List ℕ
zeros n = replicate n 0

longer_fresh : (Δ : Env) (n : ℕ) → total Δ < n → IsFresh (zeros n) Δ
unfolding total zeros
longer_fresh [] n lt = All-nil (λ e. e.name ≢ zeros n)
longer_fresh (e ∷ Δ) n lt =
    All-cons (λ d. d.name ≢ zeros n) e Δ (λ q. let l = ap length q in let m = length-replicate {A = ℕ} n 0 in omega (arith, lt, l, m)) (longer_fresh Δ n (omega (arith, lt)))

long_name : Env → ℕ → List ℕ
unfolding zeros
long_name Δ j = zeros (suc (total Δ + j))

ready_for : (Δ : Env) (fs : List OpenFlag) (K : Pairs) → AreConvertible Δ K → IsReady Δ (long_name Δ) fs (record { env = Δ; marks = map (λ _. []) Δ; flags = fs; opened = 0 }) K
unfolding long_name zeros
ready_for Δ fs K known = record {
  names = record {
    fresh = λ j. longer_fresh Δ (suc (total Δ + j)) (omega arith);
    differ = λ i j e. let l = ap length e in let m = length-replicate {A = ℕ} (suc (total Δ + i)) 0 in let n = length-replicate {A = ℕ} (suc (total Δ + j)) 0 in omega (arith, l, m, n);
  };
  begins = record { env_is = refl; marked = length-map Δ (λ _. []); flags_are = ends_closed here };
  known = known;
}

pub never_refused : NeverRefused
never_refused = record {
  of_term = λ Δ fs t type K L left n lines f items known d h.
      let ready = ready_for Δ fs K known in
      (steps_work Δ (long_name Δ) ready.names.differ t type fs _ 0 (begins ready (legal_of d)) d K left (Refused f) items L n lines h known).ends;
  of_entry = λ Δ k e K L left n lines f items known legal at h.
      let ready = ready_for Δ [] K known in
      (entry_work Δ (long_name Δ) ready.names.differ k e _ 0 legal at (begins ready legal) K left (Refused f) items L n lines h known).ends;
}

pub items_shown : ItemsShown
items_shown = record {
  of_term = λ Δ fs t type K L left n lines r items known d h.
      let ready = ready_for Δ fs K known in
      (steps_work Δ (long_name Δ) ready.names.differ t type fs _ 0 (begins ready (legal_of d)) d K left r items L n lines h known).shown;
  of_entry = λ Δ k e K L left n lines r items known legal at h.
      let ready = ready_for Δ [] K known in
      (entry_work Δ (long_name Δ) ready.names.differ k e _ 0 legal at (begins ready legal) K left r items L n lines h known).shown;
  room_for_term = λ Δ Γ t type K L left n i lines r items h. steps_room Δ Γ t type K L left i n lines r items h;
  room_for_entry = λ Δ k e K L left n i lines r items le h. entry_room Δ k e le K L left i n lines r items h;
}
