-- An earlier line's instance takes the place of its part; and what a flag and a line come to at a place.
use Rattle.std.proofs.Common.{◌≡◌, ◌≢◌, ◌≤◌, ◌+◌, ℕ, suc, List, [], ◌∷◌, ◌++◌, length, ap, arith, refl, sym, subst, ◌∙◌}
use mathlib.Core.Path.{subst₂}
use Rattle.std.proofs.lemmas.List.Elements.{All-nil, All-cons, All-push}
use Rattle.ld_terms.specs.Tree.{Tree, count}
use Rattle.ld_terms.specs.Item.{IsSmall, One}
use Rattle.ld_terms.specs.Put.{put}
use Rattle.ld_terms.specs.Entry.{Entry, Env, IsFresh, IsScoped, IsScopedEntry, defined, unfolds}
use Rattle.ld_terms.specs.Derivable.{Derivable, IsLegalContext, def, weak, ◌⨾◌⊢◌∶◌, ◌⨾◌⊢◌∶∶◌}
use Rattle.ld_laws.specs.Typing.{HasSort}
use Rattle.ld_laws.specs.Unfolding.{Unfolded, opened}
use Rattle.ld_laws.proofs.Decisions.{unfolds_body}
use Rattle.ld_laws.proofs.Scoping.{scopes}
use Rattle.ld_laws.proofs.Converting.{Extends, extends_more}
use Rattle.ld_laws.proofs.Entries.{made_over}
use Rattle.ld_laws.proofs.Preservation.{instance_by}
use Rattle.ld_convert.specs.Sameness.{AreConvertible}
use Rattle.fb_scope.specs.Names.{implied}
use Rattle.fb_steps.specs.Items.{Flag, Line, LineBody}
use Rattle.fb_steps.specs.Work.{flag, line}
use Rattle.fb_steps.specs.Places.{OpenFlag, Place, context_of, own_instance, numbers, closed_to, closed, with_flag, with_line, line_entry}
use Rattle.fb_steps.specs.Spells.{BodyIs, Derives}
use Rattle.fb_steps.specs.Spells as spelled
use Rattle.fb_steps.specs.Shown.{AreShown, IsShown, IsShownBody}
use Rattle.fb_steps.specs.Unfolded.{AreUnfolded, IsLine, IsUnfolded}
use Rattle.fb_steps.proofs.OwnFlags.{own_typed, own_unfold, put_own, implied_count}
use Rattle.fb_steps.proofs.NamedTerms.{type_well_formed, well_formed}
use Rattle.fb_steps.proofs.Later.{as_typed, later, sort_later, type_names}
use Rattle.fb_steps.proofs.Lists.{EndsWith, here, there, at_before, at_end, count_flags, ends_closed, ends_length, one_longer}
use Rattle.fb_steps.proofs.Invariant.{Differ, IsPlace, Grows, UnfoldsIn, StandsFor, Replaces}
use Rattle.fb_steps.proofs.Working.{EndsWell, Works}

pub instance_replaces : {Δ : Env} {name : ℕ → List ℕ} {fs : List OpenFlag} {j : ℕ} {p : Place} {number : ℕ} {part type : Tree} →
    IsPlace Δ name fs j p → (h : StandsFor Δ fs p number part type) → Replaces Δ fs p (own_instance (length Δ + h.before) (length fs)) part
instance_replaces {Δ} {fs = fs} {p = p} {part = part} {type = type} s h = record {
  typed = λ n d. as_typed (length Δ) (unfolded p.env (λ k e at. at)) typed (later s.extends s.legal d);
  unfolds = unfolded;
}
  where
    many : count h.entry.params ≡ length fs
    many = ap count h.params_are ∙ count_flags fs

    scoped : IsScopedEntry h.entry
    scoped = (scopes s.legal).of_env _ _ h.at

    own : p.env ⨾ context_of fs ⊢ implied (length fs) (length fs) ∶∶ h.entry.params
    own = subst₂ (λ n ps. p.env ⨾ context_of fs ⊢ implied n n ∶∶ ps) (count_flags fs) (sym h.params_are) (own_typed (context_of fs) s.legal)

    same_type : put h.entry.type (implied (length fs) (length fs)) ≡ type
    same_type = put_own h.entry.type (length fs) (subst (IsScoped h.entry.type) many scoped.type) ∙ h.type_is

    same_body : h.body ≡ put h.body (implied (length fs) (length fs))
    same_body = sym (put_own h.body (length fs) (subst (IsScoped h.body) many (scoped.body h.body (unfolds_body h.has_body))))

    typed : p.env ⨾ context_of fs ⊢ own_instance (length Δ + h.before) (length fs) ∶ type
    typed = subst (Derivable p.env (context_of fs) _) same_type (instance_by s.legal (made_over s.legal _ _ h.at) h.at own)

    unfolded : UnfoldsIn Δ p (own_instance (length Δ + h.before) (length fs)) part
    unfolded Δ' x =
        opened (omega arith) (x _ _ h.at) h.has_body (implied_count (length fs) (length fs) ∙ sym many) (own_unfold Δ' (length Δ) (length fs) (length fs))
        (subst (λ t. Unfolded Δ' (length Δ) t part) same_body (h.unfolds Δ' x))

-- a line that stands for a part of a type over the first entries
pub is_line : {Δ : Env} {fs : List OpenFlag} {p : Place} {number : ℕ} {part type : Tree} → StandsFor Δ fs p number part type → Derivable Δ (context_of fs) part type →
    (Δ' : Env) → Extends p.env Δ' → IsLine (length Δ) Δ' number (context_of fs) type part
is_line h d Δ' x = record {
  before = h.before;
  number_is = h.number_is;
  entry = h.entry;
  at = x _ _ h.at;
  params_are = h.params_are;
  type_is = h.type_is;
  names = type_names d;
  body = h.body;
  has_body = unfolds_body h.has_body;
  unfolds = h.unfolds Δ' x;
  small = h.small;
}

module _ (Δ : Env) (name : ℕ → List ℕ) where
  -- the flags that are left open at the depth of a context
  left_open : {fs : List OpenFlag} {j : ℕ} {p : Place} → IsPlace Δ name fs j p → closed_to (count (context_of fs)) p.flags ≡ fs
  left_open {fs} {p = p} s = ap (λ k. closed_to k p.flags) (count_flags fs) ∙ ends_closed s.flags

  depth_within : {fs : List OpenFlag} {j : ℕ} {p : Place} → IsPlace Δ name fs j p → count (context_of fs) ≤ length p.flags
  depth_within {fs} s = let e = count_flags fs in let le = ends_length s.flags in omega (arith, e, le)

  -- a place with other flags
  with_flags : {fs : List OpenFlag} {j : ℕ} {p : Place} (gs hs : List OpenFlag) (n : ℕ) → IsPlace Δ name fs j p → EndsWith hs gs → IsLegalContext p.env (context_of hs) →
      IsPlace Δ name hs j (record { env = p.env; marks = p.marks; flags = gs; opened = n })
  with_flags gs hs n s e l = record { extends = s.extends; entries = s.entries; marked = s.marked; flags = e; legal = l; fresh = s.fresh }

  pub flag_works : {fs : List OpenFlag} {p : Place} {j : ℕ} (a : Tree) → IsPlace Δ name fs j p → HasSort Δ (context_of fs) a →
      Works Δ name fs p j (flag (count (context_of fs)) a) (λ _ q k. (number : ℕ) × IsPlace Δ name (record { number = number; type = a } ∷ fs) k q)
  flag_works {fs} {p} {j} a s h K left r items L n i w known =
      let depth = count (context_of fs) in
      let open_flags = left_open s in
      let sorted = sort_later s.extends s.legal h in
      let f : OpenFlag = record { number = p.opened; type = a } in
      let after = with_flag a (closed depth p) in
      let is = subst (λ gs. IsPlace Δ name fs j (record { env = p.env; marks = p.marks; flags = f ∷ gs; opened = suc p.opened })) (sym open_flags)
      (with_flags (f ∷ fs) fs (suc p.opened) s (there here) s.legal) in
      let is_open = subst (λ gs. IsPlace Δ name (f ∷ fs) j (record { env = p.env; marks = p.marks; flags = f ∷ gs; opened = suc p.opened })) (sym open_flags)
      (with_flags (f ∷ fs) (f ∷ fs) (suc p.opened) s here (weak sorted.is_sort s.legal sorted.typed)) in
      record {
        known = subst (AreConvertible Δ) (sym w.2) known;
        after = after;
        derives = subst (λ is. Derives (length Δ) name p is after) (sym w.1)
            (spelled.Derives.flag (depth_within s) (subst (λ gs. HasSort p.env (context_of gs) a) (sym open_flags) sorted) spelled.Derives.none);
        grows = record { entries = λ k e at. at; marks = λ k m at. at };
        is = subst (λ k. IsPlace Δ name fs k after) (sym w.4) is;
        unfolded = λ Δ' x. subst (AreUnfolded (length Δ) Δ') (sym w.1) (All-cons (IsUnfolded (length Δ) Δ') (Flag depth a) [] tt (All-nil (IsUnfolded (length Δ) Δ')));
        shown = subst (AreShown Δ) (sym w.1) (All-cons (IsShown Δ) (Flag depth a) [] (well_formed h.typed) (All-nil (IsShown Δ)));
        ends = subst (EndsWell (λ _. (number : ℕ) × IsPlace Δ name (record { number = number; type = a } ∷ fs) i after)) (sym w.0)
            (p.opened, subst (λ k. IsPlace Δ name (f ∷ fs) k after) (sym w.4) is_open);
      }

  -- what a line comes to, where these flags are open
  abbrev with_line_under : Place → List OpenFlag → (number : ℕ) → (t type : Tree) → Place
  with_line_under p gs number t type = with_line (name number) t type (record { env = p.env; marks = p.marks; flags = gs; opened = p.opened })

  record Made (fs : List OpenFlag) (p : Place) (j : ℕ) (body : LineBody) (t part type : Tree) (gs : List OpenFlag) : Type 0 where
    body_is : BodyIs (length Δ) p.marks gs p.env body t
    typed : Derivable p.env (context_of gs) t type
    is : IsPlace Δ name fs (suc j) (with_line_under p gs (suc j) t type)
    grows : Grows p (with_line_under p gs (suc j) t type)
    stands : StandsFor Δ fs (with_line_under p gs (suc j) t type) (suc j) part type

  made : Differ name → {fs : List OpenFlag} {p : Place} {j : ℕ} (body : LineBody) (t part type : Tree) → IsPlace Δ name fs j p →
      BodyIs (length Δ) p.marks fs p.env body t → Derivable Δ (context_of fs) part type → Replaces Δ fs p t part →
      (IsSmall (One part) → count (context_of fs) ≤ 64 → IsSmall (One t)) → Made fs p j body t part type fs
  made differ {fs} {p} {j} body t part type s b d h small = record { body_is = b; typed = typed; is = is; grows = grows; stands = stands }
    where
      e : Entry
      e = line_entry (name (suc j)) fs t type

      typed : Derivable p.env (context_of fs) t type
      typed = h.typed type d

      grows : Grows p (with_line_under p fs (suc j) t type)
      grows = record { entries = extends_more p.env (e ∷ []); marks = λ k m at. at_before p.marks (numbers fs ∷ []) k m at }

      fresh : (i : ℕ) → suc j ≤ i → IsFresh (name (suc i)) (p.env ++ e ∷ [])
      fresh i le = All-push (λ d. d.name ≢ name (suc i)) p.env e (s.fresh i (omega (arith, le))) (λ q. let same = differ (suc j) (suc i) q in omega (arith, le, same))

      is : IsPlace Δ name fs (suc j) (with_line_under p fs (suc j) t type)
      is = record {
        extends = λ k c at. extends_more p.env (e ∷ []) k c (s.extends k c at);
        entries = let n = s.entries in let m = one_longer p.env e in omega (arith, n, m);
        marked = let n = s.marked in let m = one_longer p.env e in let l = one_longer p.marks (numbers fs) in omega (arith, n, m, l);
        flags = here;
        legal = def defined (s.fresh j (omega arith)) s.legal typed;
        fresh = fresh;
      }

      stands : StandsFor Δ fs (with_line_under p fs (suc j) t type) (suc j) part type
      stands = record {
        before = j;
        number_is = refl;
        entry = e;
        at = at_end p.env e (length Δ + j) (sym s.entries);
        params_are = refl;
        type_is = refl;
        body = t;
        has_body = unfolds;
        mark = at_end p.marks (numbers fs) (length Δ + j) (sym (s.marked ∙ s.entries));
        unfolds = λ Δ' x. h.unfolds Δ' (λ k c at. x k c (extends_more p.env (e ∷ []) k c at));
        small = small;
      }

  pub line_works : Differ name → {fs : List OpenFlag} {p : Place} {j : ℕ} (body : LineBody) (t part type : Tree) → IsPlace Δ name fs j p →
      BodyIs (length Δ) p.marks fs p.env body t → IsShownBody Δ (count (context_of fs)) body → Derivable Δ (context_of fs) part type → Replaces Δ fs p t part →
      (IsSmall (One part) → count (context_of fs) ≤ 64 → IsSmall (One t)) → Works Δ name fs p j (line (count (context_of fs)) body type part) (λ number q _. StandsFor Δ fs q number part type)
  line_works differ {fs} {p} {j} body t part type s b shown d h small K left r items L n i w known =
      let depth = count (context_of fs) in
      let m = subst (Made fs p j body t part type) (sym (left_open s)) (made differ body t part type s b d h small) in
      let after = with_line (name (suc j)) t type (closed depth p) in
      record {
        known = subst (AreConvertible Δ) (sym w.2) known;
        after = after;
        derives = subst (λ is. Derives (length Δ) name p is after) (sym w.1)
            (spelled.Derives.line t (depth_within s) s.entries m.body_is (s.fresh j (omega arith)) m.typed spelled.Derives.none);
        grows = m.grows;
        is = subst (λ k. IsPlace Δ name fs k after) (sym w.4) m.is;
        unfolded = λ Δ' x. subst (AreUnfolded (length Δ) Δ') (sym w.1)
            (All-cons (IsUnfolded (length Δ) Δ') (Line depth (suc j) body type part) [] (record { params = context_of fs; depth_is = refl; is = is_line m.stands d Δ' x }) (All-nil (IsUnfolded (length Δ) Δ')));
        shown = subst (AreShown Δ) (sym w.1) (All-cons (IsShown Δ) (Line depth (suc j) body type part) [] (shown, type_well_formed d) (All-nil (IsShown Δ)));
        ends = subst (EndsWell (λ number. StandsFor Δ fs after number part type)) (sym w.0) m.stands;
      }
