-- How a check ends that doesn't go on: what is answered, and what stands in the file.
use Rattle.std.proofs.Common.{◌≡◌, ◌≢◌, ◌<◌, ◌+◌, ℕ, zero, suc, Bool, IsTrue, List, [], ◌∷◌, ◌++◌, length, take, get_or, Option, Some, unwrap_or, Err, inl, inr, ◌⊎◌, refl, ap, sym, ◌∙◌, subst, arith}
use Rattle.std.proofs.lemmas.List.{take_all, length-take, append-nil}
use Rattle.fb_base.specs.Desk.{Seen, content_of}
use Rattle.fb_base.specs.declared.desk.DeskFault.{DeskFault}
use Rattle.fb_base.specs.declared.desk.DeskFault.TheVariants as desk
use Rattle.fb_parse.specs.declared.tree.Item.{Item}
use Rattle.fb_parse.specs.Items.{SurfaceItem}
use Rattle.fb_parse.specs.ItemView.{item_view, items_view}
use Rattle.fb_scope.specs.State.{State}
use Rattle.ld_terms.specs.Item as terms
use Rattle.ld_terms.specs.Known.{Note}
use Rattle.ld_infer.specs.Standing.{Standing, known, env}
use Rattle.dr_text.specs.declared.writer.Writer.{Writer}
use Rattle.dr_text.specs.Written.{IsWritten}
use Rattle.dr_text.specs.Spelling.{header}
use Rattle.dr_text.specs.Derives.{Derives}
use Rattle.book_top.specs.declared.check.Stop.{Stop}
use Rattle.book_top.specs.declared.check.Stop.TheVariants as stop
use Rattle.book_top.specs.declared.item.ItemStop.{ItemStop}
use Rattle.book_top.specs.declared.item.ItemStop.TheVariants as item
use Rattle.book_top.specs.declared.status.Want.TheVariants as want
use Rattle.book_top.specs.Book.{Book, book_of, empty}
use Rattle.book_top.specs.Verdict.{Outcome, Answers, Accepted}
use Rattle.book_top.specs.Spells.{none, more, item_book, item_note}
use Rattle.book_top.specs.Judged.{JudgesItem, outcome_of}
use Rattle.book_top.specs.Chunks.{stop_by}
use Rattle.book_top.specs.Left.{IsFront, IsMidway, IsKept, BeginsFile, between, begun, within}
use Rattle.book_top.specs.Left as left
use Rattle.book_top.specs.Checked.{IsOutcome, stop_at, StopsItem, StopsEnd, IsChecked}
use Rattle.book_top.proofs.Sessions.{front_of, never_empty}
use Rattle.book_top.proofs.Checks.{Checks, length_view}

-- an item that is refused is stopped at
pub refused_stops : (budget : ℕ) (a b : Standing) (scope later : State) (w : Writer) (desk : Seen) (i : SurfaceItem) (number : ℕ) (s : ItemStop)
    → JudgesItem budget a b scope later i (Err s) → StopsItem budget a b scope later w w desk desk i number (stop_at number i.span s)
refused_stops budget a b scope later w desk i number (item.Text f) h =
    (refl, refl, record { outcome_is = _; has = h; same = record { items = b.items; is = refl; no_memory = λ e. cc } }, refl)
refused_stops budget a b scope later w desk i number item.ManyFlags h =
    (refl, refl, record { outcome_is = _; has = h; same = record { items = b.items; is = refl; no_memory = λ e. cc } }, refl)
refused_stops budget a b scope later w desk i number item.High h =
    (refl, refl, record { outcome_is = _; has = h; same = record { items = b.items; is = refl; no_memory = λ e. cc } }, refl)
refused_stops budget a b scope later w desk i number (item.Refused f) h =
    (refl, refl, record { outcome_is = _; has = h; same = record { items = b.items; is = refl; no_memory = λ e. cc } }, refl)
refused_stops budget a b scope later w desk i number (item.Budget wanted) h =
    (refl, refl, record { outcome_is = _; has = h; same = record { items = b.items; is = refl; no_memory = λ e. cc } }, refl)
refused_stops budget a b scope later w desk i number item.Memory h = refl

never_accepted : (items : List terms.Item) (s : ItemStop) → s ≢ item.Memory → outcome_of items s ≢ Answers Accepted
never_accepted items (item.Text f) no_memory e = cc
never_accepted items item.ManyFlags no_memory e = cc
never_accepted items item.High no_memory e = cc
never_accepted items (item.Refused f) no_memory e = cc
never_accepted items (item.Budget want.Steps) no_memory e = cc
never_accepted items (item.Budget want.Height) no_memory e = cc
never_accepted items (item.Budget want.Nesting) no_memory e = cc
never_accepted items item.Memory no_memory e = no_memory refl

not_accepted : (s : ItemStop) (o : Outcome) → IsOutcome s o → o ≢ Answers Accepted
not_accepted s o h e = never_accepted h.items s h.no_memory (sym h.is ∙ e)

-- the items before one, and those behind it
view_split : (text : List ℕ) (items : List Item) (index : ℕ) (i : Item) → index < length items → i ≡ get_or items index i
    → (rest : List SurfaceItem) × (items_view text items ≡ take index (items_view text items) ++ item_view text i ∷ rest)
view_split text [] index i l e = absurd (omega arith)
view_split text (x ∷ xs) zero i l e = (items_view text xs, ap (λ (y : Item). item_view text y ∷ items_view text xs) (sym e))
view_split text (x ∷ xs) (suc index) i l e =
    let r = view_split text xs index i (omega arith) e in
    (r.0, ap (λ is. item_view text x ∷ is) r.1)

module _ (budget : ℕ) (before now : Seen) (out : List ℕ) (all : List SurfaceItem) (index : ℕ) (theory : Standing) (scope : State) (writer : Writer) (steps : ℕ)
    (h : Checks budget before now out all index theory scope writer steps) where
  pub midway : (rest : List SurfaceItem) → all ≡ take index all ++ rest → IsTrue before.tells_files
      → IsMidway budget all rest (content_of now out) (book_of theory scope) (known theory).notes
  midway rest split t = record { some = take index all; cost = steps; split = split; accepted = h.accepted; front = h.front t }

  -- what stood in the file is there still
  still : (rest : List SurfaceItem) (after : Seen) → all ≡ take index all ++ rest → after ≡ now → IsTrue before.tells_files → IsKept budget all (after.files out)
  still rest after split same t =
      let P : Seen → Type 0 = λ seen. IsKept budget all (seen.files out) in
      subst P (sym same) (between (midway rest split t))

pub item_stops : (budget : ℕ) (before now after : Seen) (out text : List ℕ) (items : List Item) (index : ℕ) (i : Item) (theory next : Standing) (scope later : State)
    (writer follow : Writer) (steps : ℕ) (s : Stop)
    → Checks budget before now out (items_view text items) index theory scope writer steps → index < length items → i ≡ get_or items index i
    → StopsItem budget theory next scope later writer follow now after (item_view text i) (index + 1) s → IsTrue before.tells_files
    → IsChecked budget (before.files out) (after.files out) (items_view text items) (Err s)
item_stops budget before now after out text items index i theory next scope later writer follow steps (stop.Item n at s) h below is stops t =
    let all = items_view text items in
    let split = view_split text items index i below is in
    let P : Seen → Type 0 = λ seen. IsFront (content_of seen out) (env theory) (known theory).notes in
    record {
      before = index;
      item = item_view text i;
      outcome_is = stops.2.outcome_is;
      first = record {
        before = take index all;
        after = split.0;
        notes = (known theory).notes;
        book = book_of theory scope;
        cost = steps;
        split = split.1;
        count = omega (arith, length-take index all, length_view text items);
        accepted = h.accepted;
        answer = stops.2.has;
        refused = not_accepted s stops.2.outcome_is stops.2.same;
      };
      same = stops.2.same;
      number_is = stops.0;
      at_is = stops.1;
      left = subst P (sym stops.3) (h.front t);
    }
item_stops budget before now after out text items index i theory next scope later writer follow steps stop.Memory h below is stops t =
    let split = view_split text items index i below is in
    inr (still budget before now out (items_view text items) index theory scope writer steps h (item_view text i ∷ split.0) after split.1 stops t)
item_stops budget before now after out text items index i theory next scope later writer follow steps stop.Desk h below is stops t =
    let all = items_view text items in
    let it = item_view text i in
    let old = book_of theory scope in
    let split = view_split text items index i below is in
    let T : Bool → Type 0 = λ b. IsTrue b in
    let W : List ℕ → Type 0 = λ name. IsWritten theory.items theory.kept writer (content_of now name) in
    let p = stops (subst T (sym h.told) t) h.sound (subst W (sym (h.target t)) (h.written t)) in
    let r = p.accepted.reading in
    let F : List ℕ → Type 0 = λ name. after.files name ≡ Some (content_of now name ++ take p.partly.n p.partly.next) in
    let V : List ℕ → Type 0 = λ name. IsWritten next.items next.kept follow (content_of now name ++ p.partly.next) in
    let whole = front_of next.items next.kept follow (content_of now out ++ p.partly.next) p.all (subst V (h.target t) p.partly.whole) (λ e. absurd (never_empty _ _ (sym p.accepted.notes ∙ e))) in
    let B : Book → Type 0 = λ b. IsFront (content_of now out ++ p.partly.next) b.env (known next).notes in
    let N : List Note → Type 0 = λ ns. IsFront (content_of now out ++ p.partly.next) (item_book it r old).env ns in
    inr (within (content_of now out) p.partly.n p.partly.next
    (midway budget before now out all index theory scope writer steps h (it ∷ split.0) split.1 t)
    (left.item it split.0 (item_book it r old) (item_note it r old ∷ []) (p.cost + 0) refl
    (more r p.accepted.read p.accepted.verdict_is p.accepted.within none) (subst N p.accepted.notes (subst B p.accepted.becomes whole)))
    (subst F (h.target t) p.partly.file))

pub end_stops : (budget : ℕ) (before now after : Seen) (out text : List ℕ) (items : List Item) (index : ℕ) (theory : Standing) (scope : State) (writer : Writer) (steps : ℕ) (s : Stop)
    → Checks budget before now out (items_view text items) index theory scope writer steps → index ≡ length items → StopsEnd theory writer now after s → IsTrue before.tells_files
    → IsChecked budget (before.files out) (after.files out) (items_view text items) (Err s)
end_stops budget before now after out text items index theory scope writer steps s h is stops t =
    let all = items_view text items in
    let split : all ≡ take index all ++ [] = sym (append-nil (take index all) ∙ take_all index all (omega (arith, length_view text items))) in
    ends s split stops
  where
    ends : (s : Stop) → items_view text items ≡ take index (items_view text items) ++ [] → StopsEnd theory writer now after s
        → IsChecked budget (before.files out) (after.files out) (items_view text items) (Err s)
    ends (stop.Item n at s) split stops = absurd stops
    ends stop.Memory split stops = inr (still budget before now out (items_view text items) index theory scope writer steps h [] after split stops t)
    ends stop.Desk split stops =
        let T : Bool → Type 0 = λ b. IsTrue b in
        let W : List ℕ → Type 0 = λ name. IsWritten theory.items theory.kept writer (content_of now name) in
        let p = stops (subst T (sym h.told) t) h.sound (subst W (sym (h.target t)) (h.written t)) in
        let F : List ℕ → Type 0 = λ name. after.files name ≡ Some (content_of now name ++ take p.n p.next) in
        let D : List ℕ → Type 0 = λ name. Derives (content_of now name ++ p.next) (env theory) (known theory).notes in
        inr (within (content_of now out) p.n p.next (midway budget before now out (items_view text items) index theory scope writer steps h [] split t)
        (left.end refl (subst D (h.target t) p.whole)) (subst F (h.target t) p.file))

-- the header isn't written
pub begin_stops : (budget : ℕ) (before after : Option (List ℕ)) (items : List SurfaceItem) (fault : DeskFault) → BeginsFile before after fault
    → IsChecked budget before after items (Err (stop_by fault))
begin_stops budget before after items desk.Failed (inl e) = inl e
begin_stops budget before after items desk.Failed (inr h) = inr (begun h.0 h.1)
begin_stops budget before after items desk.Memory (inl e) = inl e
begin_stops budget before after items desk.Memory (inr e) = inr (left.nothing e)

-- nothing is written behind the header
pub header_left : (budget : ℕ) (before after : Option (List ℕ)) (items : List SurfaceItem) → after ≡ Some header → (after ≡ before) ⊎ IsKept budget items after
header_left budget before after items e =
    let P : List ℕ → Type 0 = λ bytes. IsMidway budget items items bytes empty [] in
    inr (between (subst P (sym (ap (λ (o : Option (List ℕ)). unwrap_or o []) e))
    (record { some = []; cost = 0; split = refl; accepted = none; front = record { records = []; spelled = refl; stand = tt; env_is = refl; notes_are = refl; none = λ e. refl } })))
