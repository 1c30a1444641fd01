-- How far a check has come.
use Rattle.std.proofs.Common.{◌≡◌, ◌<◌, ◌≤◌, ◌+◌, ◌*◌, ℕ, zero, suc, Bool, true, IsTrue, List, [], ◌∷◌, ◌++◌, length, take, get_or, Option, Some, unwrap_or, Ok, refl, ap, sym, ◌∙◌, subst, arith, add-one}
use Rattle.std.proofs.lemmas.List.{length_push, take_all, length-map}
use Rattle.fb_base.specs.Desk.{Seen, content_of, OthersStay}
use Rattle.fb_parse.specs.declared.tree.Item.{Item}
use Rattle.fb_parse.specs.Items.{SurfaceItem}
use Rattle.fb_parse.specs.ItemView.{item_view, items_view}
use Rattle.fb_scope.specs.State.{State, start}
use Rattle.ld_terms.specs.Tree.{Trees, Nil, count}
use Rattle.ld_terms.specs.Entry.{Env}
use Rattle.ld_terms.specs.Known.{Note, nothing}
use Rattle.ld_record.specs.Growth.{Adds}
use Rattle.ld_record.specs.Kept.{IsSound}
use Rattle.dr_text.specs.declared.writer.Writer.{Writer}
use Rattle.dr_text.specs.Written.{IsWritten}
use Rattle.dr_text.specs.Spelling.{header}
use Rattle.dr_text.specs.Derives.{Derives}
use Rattle.dr_text.proofs.CallerLemmas.{written_more}
use Rattle.ld_env.specs.Named.{Named}
use Rattle.ld_env.specs.Entries.{entry_of, env_of}
use Rattle.ld_infer.specs.Standing.{Standing, known, env}
use Rattle.ld_terms.specs.Item as item
use Rattle.ld_defrules.specs.Judged.{primitive_of, line_of}
use Rattle.book_top.specs.declared.status.Summary.{Summary}
use Rattle.book_top.specs.Book.{Book, closed, Reading, Flag, Prim, Line, book_of, empty}
use Rattle.book_top.specs.Verdict.{read_item, HasVerdict}
use Rattle.book_top.specs.Verdict as verdict
use Rattle.book_top.specs.Spells.{Accepts, none, more, item_book, item_note}
use Rattle.book_top.specs.Desk.{OnlyTarget}
use Rattle.book_top.specs.Chunks.{IsCheckDone}
use Rattle.book_top.specs.Judged.{IsAccepted, IsInStep}
use Rattle.book_top.specs.Left.{IsFront}
use Rattle.book_top.proofs.Sessions.{front_of, never_empty}

-- The first items, so many, are accepted, and their records written; no book has more entries than items, nor more flags opened.
pub record Checks (budget : ℕ) (before now : Seen) (out : List ℕ) (all : List SurfaceItem) (index : ℕ) (theory : Standing) (scope : State) (writer : Writer) (steps : ℕ) : Type 0 where
  pub told : now.tells_files ≡ before.tells_files
  pub tells_said : now.tells_said ≡ before.tells_said
  pub said : now.said ≡ before.said
  pub started : now.started ≡ true
  pub target : IsTrue before.tells_files → now.target ≡ out
  pub written : IsTrue before.tells_files → IsWritten theory.items theory.kept writer (content_of now out)
  pub front : IsTrue before.tells_files → IsFront (content_of now out) (env theory) (known theory).notes
  pub count : writer.written ≤ length theory.kept
  pub sound : IsSound theory.items theory.kept
  pub step : IsInStep theory scope
  pub accepted : Accepts budget empty (take index all) (known theory).notes (book_of theory scope) steps
  pub entries : length (env theory) ≤ index
  pub opened : scope.opened ≤ index
  pub steps_few : steps ≤ index * 1000000000
  pub others : IsTrue before.tells_files → OthersStay before now out
  pub never_falls : before.faults ≤ now.faults
  pub sound_stays : now.sound ≡ before.sound

accepts_more : {budget : ℕ} {start before : Book} {is : List SurfaceItem} {notes : List Note} {cost : ℕ} (i : SurfaceItem) (r : Reading) (n : ℕ)
    → Accepts budget start is notes before cost → read_item before i ≡ Ok r → HasVerdict before i verdict.Accepted n → n ≤ budget
    → Accepts budget start (is ++ i ∷ []) (notes ++ item_note i r before ∷ []) (item_book i r before) (cost + n)
accepts_more {budget} {start} i r n none e v few =
    let P : ℕ → Type 0 = λ c. Accepts budget start (i ∷ []) (item_note i r start ∷ []) (item_book i r start) c in
    subst P (omega arith) (more r e v few none)
accepts_more {budget} {start} {before} i r n (more {i = j} {is = js} {notes = ns} {n = m} {cost = c} q f w few rest) e v within =
    let P : ℕ → Type 0 = λ c. Accepts budget start (j ∷ (js ++ i ∷ [])) (item_note j q start ∷ (ns ++ item_note i r before ∷ [])) (item_book i r before) c in
    subst P (omega arith) (more q f w few (accepts_more i r n rest e v within))

view_more : (text : List ℕ) (items : List Item) (index : ℕ) (i : Item) → index < length items → i ≡ get_or items index i
    → take (suc index) (items_view text items) ≡ take index (items_view text items) ++ item_view text i ∷ []
view_more text [] index i l e = absurd (omega arith)
view_more text (x ∷ xs) zero i l e = ap (λ (y : Item). item_view text y ∷ []) (sym e)
view_more text (x ∷ xs) (suc index) i l e = ap (λ is. item_view text x ∷ is) (view_more text xs index i (omega arith) e)

pub length_view : (text : List ℕ) (items : List Item) → length (items_view text items) ≡ length items
length_view text [] = refl
length_view text (x ∷ xs) = ap suc (length_view text xs)

-- an item adds one entry at most, and opens one flag at most
entries_after : (i : SurfaceItem) (r : Reading) (b : Book) → length (item_book i r b).env ≤ length b.env + 1
entries_after i (Flag type) b = omega arith
entries_after i (Prim type) b = omega (arith, length_push b.env (primitive_of i.name (closed i.bars b).context type))
entries_after i (Line body type) b = omega (arith, length_push b.env (line_of i.name (closed i.bars b).context body type))

opened_after : (i : SurfaceItem) (r : Reading) (b : Book) → (item_book i r b).scope.opened ≤ b.scope.opened + 1
opened_after i (Flag type) b = omega arith
opened_after i (Prim type) b = omega arith
opened_after i (Line body type) b = omega arith

-- nothing is open where a book begins
in_step : (theory : Standing) (scope : State) → env theory ≡ [] → theory.context ≡ Nil → scope ≡ start → IsInStep theory scope
in_step theory scope no_entry flat at_start =
    let P : State → Type 0 = λ s. IsInStep theory s in
    subst P (sym at_start)
    (record {
      binders = refl;
      flags = sym (ap count flat);
      few = omega arith;
      marks = sym (ap length no_entry);
      each = λ k below. absurd (omega (arith, below, ap length no_entry));
      short = λ k below. absurd (omega (arith, below, ap length no_entry));
    })

-- nothing but the header is written
pub checks_none : (budget : ℕ) (before now : Seen) (out : List ℕ) (all : List SurfaceItem) (theory : Standing) (scope : State) (writer : Writer)
    → now.tells_files ≡ before.tells_files → now.tells_said ≡ before.tells_said → now.said ≡ before.said → now.started ≡ true → (IsTrue before.tells_files → now.target ≡ out)
    → (IsTrue before.tells_files → now.files out ≡ Some header) → (IsTrue before.tells_files → OthersStay before now out) → before.faults ≤ now.faults → now.sound ≡ before.sound
    → Adds nothing (known theory) → IsSound theory.items theory.kept → theory.context ≡ Nil → scope ≡ start → ((items : List item.Item) → IsWritten items [] writer header)
    → Checks budget before now out all 0 theory scope writer 0
checks_none budget before now out all theory scope writer told tells_said said started target file others never_falls sound_stays adds sound flat at_start fresh =
    let is : IsTrue before.tells_files → content_of now out ≡ header = λ t. ap (λ (o : Option (List ℕ)). unwrap_or o []) (file t) in
    let first : IsWritten theory.items theory.kept writer header = written_more theory.items [] theory.kept writer header (record { front = refl }) (fresh theory.items) in
    let W : List ℕ → Type 0 = λ bs. IsWritten theory.items theory.kept writer bs in
    let front : IsFront header [] [] = front_of theory.items [] writer header (omega (arith, (fresh theory.items).within)) (fresh theory.items) (λ e. refl) in
    let FE : Env → Type 0 = λ e. IsFront header e [] in
    let FN : List Note → Type 0 = λ ns. IsFront header (env theory) ns in
    let F : List ℕ → Type 0 = λ bs. IsFront bs (env theory) (known theory).notes in
    let E : Env → Type 0 = λ e. Accepts budget empty [] [] (record { env = e; context = Nil; scope = start }) 0 in
    let C : Trees → Type 0 = λ c. Accepts budget empty [] [] (record { env = env theory; context = c; scope = start }) 0 in
    let S : State → Type 0 = λ s. Accepts budget empty [] [] (book_of theory s) 0 in
    let N : List Note → Type 0 = λ ns. Accepts budget empty [] ns (book_of theory scope) 0 in
    record {
      told = told;
      tells_said = tells_said;
      said = said;
      started = started;
      target = target;
      written = λ t. subst W (sym (is t)) first;
      front = λ t. subst F (sym (is t)) (subst FN (sym adds.notes) (subst FE (sym adds.env) front));
      count = first.within;
      sound = sound;
      step = in_step theory scope adds.env flat at_start;
      accepted = subst N (sym adds.notes) (subst S (sym at_start) (subst C (sym flat) (subst E (sym adds.env) none)));
      entries = omega (arith, ap length adds.env);
      opened = omega (arith, ap (λ (s : State). s.opened) at_start);
      steps_few = omega arith;
      others = others;
      never_falls = never_falls;
      sound_stays = sound_stays;
    }

-- no other file has changed, where only the target changes behind what is checked
pub others_left : {budget : ℕ} {before now after : Seen} {out : List ℕ} {all : List SurfaceItem} {index : ℕ} {theory : Standing} {scope : State} {writer : Writer} {steps : ℕ}
    → Checks budget before now out all index theory scope writer steps → OnlyTarget now after → IsTrue before.tells_files → OthersStay before after out
others_left {before = before} {now} {after} h stays t name other =
    let T : Bool → Type 0 = λ b. IsTrue b in
    let Q : List ℕ → Type 0 = λ target. OthersStay now after target in
    subst Q (h.target t) (stays.others (subst T (sym h.told) t)) name other ∙ h.others t name other

pub checks_more : (budget : ℕ) (before now after : Seen) (out text : List ℕ) (items : List Item) (index : ℕ) (i : Item) (theory next : Standing) (scope later : State)
    (writer follow : Writer) (steps n : ℕ) → budget ≤ 1000000000
    → Checks budget before now out (items_view text items) index theory scope writer steps → index < length items → i ≡ get_or items index i
    → (IsSound theory.items theory.kept → IsTrue now.tells_files → IsWritten theory.items theory.kept writer (content_of now now.target)
    → IsWritten next.items next.kept follow (content_of after now.target))
    → follow.written ≡ length next.kept → IsSound next.items next.kept → IsAccepted budget theory next scope later (item_view text i) n → IsInStep next later → OnlyTarget now after
    → Checks budget before after out (items_view text items) (index + 1) next later follow (steps + n)
checks_more budget before now after out text items index i theory next scope later writer follow steps n most h below is step count sound accepted in_step stays =
    let T : Bool → Type 0 = λ b. IsTrue b in
    let all = items_view text items in
    let old = book_of theory scope in
    let it = item_view text i in
    let r = accepted.reading in
    let written : IsTrue before.tells_files → IsWritten next.items next.kept follow (content_of after out) = λ t.
    let P : List ℕ → Type 0 = λ name. IsWritten theory.items theory.kept writer (content_of now name) → IsWritten next.items next.kept follow (content_of after name) in
    subst P (h.target t) (step h.sound (subst T (sym h.told) t)) (h.written t) in
    let front : take (index + 1) all ≡ take index all ++ it ∷ [] = ap (λ n. take n all) (add-one index) ∙ view_more text items index i below is in
    let B : Book → Type 0 = λ b. Accepts budget empty (take (index + 1) all) (known next).notes b (steps + n) in
    let N : List Note → Type 0 = λ ns. Accepts budget empty (take (index + 1) all) ns (item_book it r old) (steps + n) in
    let I : List SurfaceItem → Type 0 = λ is. Accepts budget empty is ((known theory).notes ++ item_note it r old ∷ []) (item_book it r old) (steps + n) in
    record {
      told = stays.tells_files ∙ h.told;
      tells_said = stays.tells_said ∙ h.tells_said;
      said = stays.said ∙ h.said;
      started = stays.started ∙ h.started;
      target = λ t. stays.target ∙ h.target t;
      written = written;
      front = λ t. front_of next.items next.kept follow (content_of after out) count (written t) (λ e. absurd (never_empty _ _ (sym accepted.notes ∙ e)));
      count = omega arith;
      sound = sound;
      step = in_step;
      accepted = subst B (sym accepted.becomes) (subst N (sym accepted.notes)
          (subst I (sym front) (accepts_more it r n h.accepted accepted.read accepted.verdict_is accepted.within)));
      entries = omega (arith, ap (λ (b : Book). length b.env) accepted.becomes, entries_after it r old, h.entries);
      opened = omega (arith, ap (λ (b : Book). b.scope.opened) accepted.becomes, opened_after it r old, h.opened);
      steps_few = omega (arith, h.steps_few, accepted.within, most);
      others = others_left h stays;
      never_falls = omega (arith, h.never_falls, stays.never_falls);
      sound_stays = stays.sound ∙ h.sound_stays;
    }

-- how many entries there are
pub entries_kept : (s : Standing) (e : Env) (entries : List Named) (n : ℕ) → n ≡ length entries → entries ≡ s.entries → env_of s.items s.entries ≡ env s → env s ≡ e → n ≡ length e
entries_kept s e entries n counted same trees kept =
    counted ∙ ap length same ∙ sym (length-map s.entries (entry_of s.items)) ∙ ap length trees ∙ ap length kept

-- all items are checked and the end is written
pub checks_done : (budget : ℕ) (before now after : Seen) (out text : List ℕ) (items : List Item) (index : ℕ) (theory : Standing) (scope : State) (writer : Writer) (steps : ℕ) (s : Summary)
    → Checks budget before now out (items_view text items) index theory scope writer steps → index ≡ length items → s.items ≡ length items → s.entries ≡ length (env theory) → s.steps ≡ steps
    → (IsSound theory.items theory.kept → IsTrue now.tells_files → IsWritten theory.items theory.kept writer (content_of now now.target)
    → Derives (content_of after now.target) (env theory) (known theory).notes)
    → IsTrue before.tells_files → IsCheckDone budget (content_of after out) (items_view text items) s
checks_done budget before now after out text items index theory scope writer steps s h is counted kept stepped end t =
    let T : Bool → Type 0 = λ b. IsTrue b in
    let P : List ℕ → Type 0 = λ name. IsWritten theory.items theory.kept writer (content_of now name) → Derives (content_of after name) (env theory) (known theory).notes in
    let I : List SurfaceItem → Type 0 = λ is. Accepts budget empty is (known theory).notes (book_of theory scope) steps in
    record {
      notes = (known theory).notes;
      book = book_of theory scope;
      cost = steps;
      accepted = subst I (take_all index (items_view text items) (omega (arith, length_view text items))) h.accepted;
      derives = subst P (h.target t) (end h.sound (subst T (sym h.told) t)) (h.written t);
      items_are = counted ∙ sym (length_view text items);
      entries_are = kept;
      steps_are = stepped;
    }
