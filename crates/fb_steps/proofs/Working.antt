-- What is said of work that prints items: from a place, whatever it ends with, its items have derivations and lead to a place; each
-- line unfolds to its part; and no reading is refused. How this comes from what is said of the work's parts.
use Rattle.std.proofs.Common.{◌≡◌, ◌-◌, ℕ, List, [], length, sym, subst}
use Rattle.std.proofs.lemmas.List.Elements.{All-nil, All-append}
use Rattle.std.specs.Prelude.{⊤}
use Rattle.ld_terms.specs.Entry.{Env}
use Rattle.ld_laws.proofs.Converting.{Extends}
use Rattle.ld_reduce.specs.Task as task
use Rattle.ld_reduce.specs.Task.{Pairs, Answer, Task}
use Rattle.ld_convert.specs.Sameness.{AreConvertible}
use Rattle.ld_convert.proofs.Means.{Says, Means}
use Rattle.ld_infer.specs.Reading.{Refusal}
use Rattle.fb_steps.specs.Items.{Item}
use Rattle.fb_steps.specs.Work as work
use Rattle.fb_steps.specs.Work.{Ending, Done, Spent, High, Nested, Refused, Work, Ends, ending, done, reads, ◌>>=◌}
use Rattle.fb_steps.specs.Places.{OpenFlag, Place}
use Rattle.fb_steps.specs.Spells.{Derives}
use Rattle.fb_steps.specs.Spells as spelled
use Rattle.fb_steps.specs.Shown.{AreShown, IsShown}
use Rattle.fb_steps.specs.Unfolded.{AreUnfolded, IsUnfolded}
use Rattle.fb_steps.proofs.Invariant.{IsPlace, Grows}
use Rattle.fb_steps.proofs.Growing.{grows_same, grows_on}
use Rattle.fb_steps.proofs.Spelling.{derives_on}

-- it ends with a value of which this holds, or stops for the budget, a height or the nesting
abbrev pub EndsWell : {X : Type 0} → (X → Type 0) → Ending X → Type 0
EndsWell G (Done x) = G x
EndsWell G Spent = ⊤
EndsWell G High = ⊤
EndsWell G Nested = ⊤
EndsWell G (Refused f) = ⊥

module _ (Δ : Env) (name : ℕ → List ℕ) where
  pub record Worked {X : Type 0} (fs : List OpenFlag) (G : X → Place → ℕ → Type 0) (p : Place) (r : Ending X) (items : List Item) (L : Pairs) (i : ℕ) : Type 0 where
    pub known : AreConvertible Δ L
    pub after : Place
    pub derives : Derives (length Δ) name p items after
    pub grows : Grows p after
    pub is : IsPlace Δ name fs i after
    pub unfolded : (Δ' : Env) → Extends after.env Δ' → AreUnfolded (length Δ) Δ' items
    pub shown : AreShown Δ items
    pub ends : EndsWell (λ x. G x after i) r

  -- work from a place with so many lines
  abbrev pub Works : {X : Type 0} → (fs : List OpenFlag) (p : Place) (j : ℕ) → Work X → (G : X → Place → ℕ → Type 0) → Type 0
  Works {X} fs p j w G = (K : Pairs) (left : ℕ) (r : Ending X) (items : List Item) (L : Pairs) (n i : ℕ) → w K left j r items L n i → AreConvertible Δ K → Worked fs G p r items L i

  -- work with no item that ends so
  at_once : {X : Type 0} {fs : List OpenFlag} {G : X → Place → ℕ → Type 0} {p : Place} {j : ℕ} (v r : Ending X) (items : List Item) (K L : Pairs) (i : ℕ) →
      IsPlace Δ name fs j p → EndsWell (λ x. G x p j) v → r ≡ v → items ≡ [] → i ≡ j → AreConvertible Δ L → Worked fs G p r items L i
  at_once {fs = fs} {G = G} {p = p} v r items K L i s g e h m known = record {
    known = known;
    after = p;
    derives = subst (λ is. Derives (length Δ) name p is p) (sym h) spelled.Derives.none;
    grows = grows_same p;
    is = subst (λ k. IsPlace Δ name fs k p) (sym m) s;
    unfolded = λ Δ' x. subst (AreUnfolded (length Δ) Δ') (sym h) (All-nil (IsUnfolded (length Δ) Δ'));
    shown = subst (AreShown Δ) (sym h) (All-nil (IsShown Δ));
    ends = subst (λ k. EndsWell (λ x. G x p k) r) (sym m) (subst (EndsWell (λ x. G x p _)) (sym e) g);
  }

  pub done_works : {X : Type 0} {fs : List OpenFlag} {G : X → Place → ℕ → Type 0} {p : Place} {j : ℕ} (x : X) → IsPlace Δ name fs j p → G x p j → Works fs p j (done x) G
  done_works x s g K left r items L n i h known = at_once (Done x) r items K L i s g h.0 h.1 h.4 (subst (AreConvertible Δ) (sym h.2) known)

  answer_ends : {X : Type 0} (G : X → Type 0) (a : Answer Refusal X) → Says G (λ _. ⊥) a → EndsWell G (ending a)
  answer_ends G (task.Gives x) h = h
  answer_ends G (task.Fails f) h = h
  answer_ends G task.High h = tt
  answer_ends G task.Nested h = tt

  -- a reading that is never refused
  pub reads_works : {X : Type 0} {fs : List OpenFlag} {t : Task Refusal X} (G : X → Type 0) {p : Place} {j : ℕ} → IsPlace Δ name fs j p → Means Δ t G (λ _. ⊥) → Works fs p j (reads t) (λ x _ _. G x)
  reads_works G s means K left r items L n i (work.reads.answered a h le e is m) known =
      let u = means K L a n h known in at_once (ending a) r items K L i s (answer_ends G a u.says) e is m u.known
  reads_works G s means K left r items L n i (work.reads.none h e is k l m) known = at_once Spent r items K L i s tt e is m (subst (AreConvertible Δ) (sym k) known)

  ends_well : {X Y : Type 0} (G : X → Type 0) (H : Y → Type 0) {stop : Ending X} {r : Ending Y} → Ends stop r → EndsWell G stop → EndsWell H r
  ends_well G H work.Ends.spent h = tt
  ends_well G H work.Ends.high h = tt
  ends_well G H work.Ends.nesting h = tt
  ends_well G H work.Ends.refused h = h

  -- work, and then more with its value
  pub bind_works : {X Y : Type 0} {fs : List OpenFlag} {p : Place} {j : ℕ} {w : Work X} {f : X → Work Y} (G : X → Place → ℕ → Type 0) {H : Y → Place → ℕ → Type 0} →
      Works fs p j w G → ((x : X) (q : Place) (k : ℕ) → IsPlace Δ name fs k q → Grows p q → G x q k → Works fs q k (f x) H) → Works fs p j (w >>= f) H
  bind_works {p = p} G hw hf K left r items L n i (work.◌>>=◌.goes_on x between first second n1 n2 j1 a b e q) known =
      let u = hw K left (Done x) first between n1 j1 a known in
      let v = hf x u.after j1 u.is u.grows u.ends between (left - n1) r second L n2 i b u.known in
      record {
        known = v.known;
        after = v.after;
        derives = subst (λ is. Derives (length Δ) name p is v.after) (sym e) (derives_on u.derives v.derives);
        grows = grows_on u.grows v.grows;
        is = v.is;
        unfolded = λ Δ' x. subst (AreUnfolded (length Δ) Δ') (sym e)
            (All-append (IsUnfolded (length Δ) Δ') first second (u.unfolded Δ' (λ k d at. x k d (v.grows.entries k d at))) (v.unfolded Δ' x));
        shown = subst (AreShown Δ) (sym e) (All-append (IsShown Δ) first second u.shown v.shown);
        ends = v.ends;
      }
  bind_works G {H = H} hw hf K left r items L n i (work.◌>>=◌.ends stop a e) known =
      let u = hw K left stop items L n i a known in
      record { known = u.known; after = u.after; derives = u.derives; grows = u.grows; is = u.is; unfolded = u.unfolded; shown = u.shown; ends = ends_well (λ x. G x u.after i) (λ y. H y u.after i) e u.ends }

  -- work under more flags
  with_place : {X : Type 0} (G : X → Type 0) (P : Type 0) (r : Ending X) → P → EndsWell G r → EndsWell (λ x. G x × P) r
  with_place G P (Done x) s g = (g, s)
  with_place G P Spent s g = tt
  with_place G P High s g = tt
  with_place G P Nested s g = tt
  with_place G P (Refused f) s g = g

  pub under_flags : {X : Type 0} {fs gs : List OpenFlag} {p : Place} {j : ℕ} (w : Work X) (G : X → Place → ℕ → Type 0) →
      ((k : ℕ) (q : Place) → IsPlace Δ name gs k q → IsPlace Δ name fs k q) → Works gs p j w G → Works fs p j w (λ x q k. G x q k × IsPlace Δ name gs k q)
  under_flags {gs = gs} w G leave hw K left r items L n i a known =
      let u = hw K left r items L n i a known in
      record {
        known = u.known;
        after = u.after;
        derives = u.derives;
        grows = u.grows;
        is = leave i u.after u.is;
        unfolded = u.unfolded;
        shown = u.shown;
        ends = with_place (λ x. G x u.after i) (IsPlace Δ name gs i u.after) r u.is u.ends;
      }

  -- what follows from what is said
  ends_more : {X : Type 0} (G H : X → Type 0) (r : Ending X) → ((x : X) → G x → H x) → EndsWell G r → EndsWell H r
  ends_more G H (Done x) h g = h x g
  ends_more G H Spent h g = tt
  ends_more G H High h g = tt
  ends_more G H Nested h g = tt
  ends_more G H (Refused f) h g = g

  pub works_more : {X : Type 0} {fs : List OpenFlag} {p : Place} {j : ℕ} (w : Work X) (G : X → Place → ℕ → Type 0) {H : X → Place → ℕ → Type 0} →
      ((x : X) (q : Place) (k : ℕ) → G x q k → H x q k) → Works fs p j w G → Works fs p j w H
  works_more w G {H = H} h hw K left r items L n i a known =
      let u = hw K left r items L n i a known in
      record {
        known = u.known;
        after = u.after;
        derives = u.derives;
        grows = u.grows;
        is = u.is;
        unfolded = u.unfolded;
        shown = u.shown;
        ends = ends_more (λ x. G x u.after i) (λ x. H x u.after i) r (λ x. h x u.after i) u.ends;
      }
