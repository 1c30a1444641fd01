-- What an item adds, and what its judging costs.
use Rattle.std.proofs.Common.{◌≡◌, ◌<◌, ◌≤◌, ◌+◌, ℕ, List, [], ◌∷◌, ◌++◌, length, map, Result, Ok, Err, IsErrAnd, OnOk, sym, ap, subst, ◌∙◌, arith, ⊎_elim}
use Rattle.std.proofs.lemmas.Bool.{cases_lt}
use Rattle.std.proofs.lemmas.List.{get_or_append_left, length_push, length-map, length-reverse}
use Rattle.std.proofs.Math.Seq.{get_or-append_seam}
use Rattle.ld_terms.specs.Tree.{Tree, Trees, ◌▸◌, count}
use Rattle.ld_terms.specs.Item.{Item, One, IsSmall}
use Rattle.ld_terms.specs.Entry.{Env, Entry}
use Rattle.ld_terms.specs.Known.{FlagNote, EntryNote, primitive_entry, no_judgement}
use Rattle.ld_record.specs.Follows.{entry_at}
use Rattle.ld_reduce.specs.Task.{Task, Answer, Gives, Answers}
use Rattle.ld_reduce.specs.Work.{work}
use Rattle.ld_infer.specs.Account.{Account, account_by, Comes}
use Rattle.ld_infer.specs.Reading.{Refusal}
use Rattle.ld_infer.specs.Standing.{Standing, known, env, Continues, AddsEntry, AddsFlag}
use Rattle.ld_reduce.specs.declared.stop.Stop.TheVariants as check
use Rattle.ld_defrules.specs.declared.ItemFault.{ItemFault}
use Rattle.ld_defrules.specs.declared.ItemFault.TheVariants as fault
use Rattle.ld_defrules.specs.Judged.{Judges, flag_judged}
use Rattle.fb_base.specs.declared.places.Span.{Span}
use Rattle.fb_scope.specs.State.{State, numbers, entered, noted}
use Rattle.fb_scope.specs.Resolve.{made_under}
use Rattle.book_top.specs.Book.{Book, Reading, Flag, book_of, with_entry}
use Rattle.ld_terms.specs.declared.bank.TermId.{TermId}
use Rattle.ld_terms.specs.declared.bank.TermFault.{TermFault}
use Rattle.ld_terms.specs.declared.bank.TermFault.TheVariants as term
use Rattle.fb_parse.specs.Grammar.{Surface}
use Rattle.book_top.specs.Book.{names_of}
use Rattle.book_top.specs.Names.{tree_of}
use Rattle.book_top.specs.Built.{read, Builds, BuildsItem}
use Rattle.book_top.proofs.Continuing.{tree_moved}
use Rattle.book_top.specs.Verdict.{IsSmallReading, judging}
use Rattle.book_top.specs.Judged.{IsInStep}
use Rattle.book_top.specs.declared.item.ItemStop.{ItemStop}
use Rattle.book_top.specs.Told.{Costs, StopsReading, IsJudged, JudgesReading, judge_stop, term_stop}

-- what is said of an environment, a context and trees is said of the same
pub same_task : (P : Env → Trees → Tree → Type 0) (e e' : Env) (c c' : Trees) (t t' : Tree) → e ≡ e' → c ≡ c' → t ≡ t' → P e c t → P e' c' t'
same_task P e e' c c' t t' p q r h = subst (λ x. P x c' t') p (subst (λ x. P e x t') q (subst (λ x. P e c x) r h))

-- the account of a job in which no step is made
abbrev pub begins : ℕ → Account
begins budget = account_by (work budget 0) []

pub costs_of : (p : Task Refusal (Unit {0})) (budget : ℕ) (answer : Answer Refusal (Unit {0})) (before after : Account) → before ≡ begins budget → Comes p answer before after → Costs p budget answer after.spent
costs_of p budget answer before after is comes =
    let c = subst (λ x. Comes p answer x after) is comes in
    let n : c.steps ≡ after.spent = omega (arith, c.takes.spent) in
    record {
      known = after.known;
      answers = subst (λ m. Answers p [] answer after.known m) n c.answers;
      within = omega (arith, c.takes.left, n);
    }

-- a fault of the judging of a reading
pub judging_stops : (X Taken Adds : Type 0) (budget : ℕ) (b : Book) (items : List Item) (at : Span) (r : Reading) (before after : Account) (f : ItemFault)
    → IsSmallReading r → before ≡ begins budget → (Taken → ⊥) → Judges items (judging b r) Taken Adds before after {X = X} (Err f) → StopsReading budget b items r (judge_stop at f)
judging_stops X Taken Adds budget b items at r before after fault.NameTaken small is free h = absurd (free h)
judging_stops X Taken Adds budget b items at r before after (fault.Refused f) small is free h = (small, (after.spent, costs_of (judging b r) budget _ before after is h))
judging_stops X Taken Adds budget b items at r before after (fault.Stop check.Spent) small is free h =
    (small, λ answer known n g. let m = h.none answer known n (subst (λ x. judging b r x.known answer known n) (sym is) g) in let l : before.left ≡ budget = ap (λ x. x.left) is in omega (arith, m, l))
judging_stops X Taken Adds budget b items at r before after (fault.Stop check.High) small is free h = (small, (after.spent, costs_of (judging b r) budget _ before after is h))
judging_stops X Taken Adds budget b items at r before after (fault.Stop check.Nested) small is free h = (small, (after.spent, costs_of (judging b r) budget _ before after is h))
judging_stops X Taken Adds budget b items at r before after (fault.Stop check.Memory) small is free h = tt

-- a part of a reading can't be built
pub unbuilt_stops : (budget : ℕ) (old new : Standing) (s after : State) (name : List ℕ) (r : Reading) (part : Item) (f : TermFault) (q : Result ℕ ItemStop)
    → BuildsItem new.items part (Err f) → (IsSmallReading r → IsSmall part) → IsErrAnd q (λ z. z ≡ term_stop f) → JudgesReading budget old new s after name r q
unbuilt_stops budget old new s after name r part f (Ok n) b small h = absurd h
unbuilt_stops budget old new s after name r part f (Err z) b small h =
    let P : ItemStop → Type 0 = λ y. StopsReading budget (book_of old s) new.items r y in
    subst P (sym h) (stops f b)
  where
    stops : (f : TermFault) → BuildsItem new.items part (Err f) → StopsReading budget (book_of old s) new.items r (term_stop f)
    stops term.High b = λ t. b (small t)
    stops term.Memory b = tt

-- nothing is said of what is done where an item is stopped
pub on_no_stop : (A : Type 0) (f : ItemStop) (q : Result ℕ ItemStop) → IsErrAnd q (λ z. z ≡ f) → OnOk q A
on_no_stop A f (Ok n) h = absurd h
on_no_stop A f (Err z) h = tt

abbrev made : Env → Trees → State → Book
made e c s = record { env = e; context = c; scope = s }

book_same : (e e' : Env) (c c' : Trees) (s s' : State) → e ≡ e' → c ≡ c' → s ≡ s' → made e c s ≡ made e' c' s'
book_same e e' c c' s s' p q r = λ i. made (p i) (q i) (r i)

pub flag_judged_so : (budget : ℕ) (old mid new : Standing) (s after : State) (name : List ℕ) (t u : Tree) (job done : Account) (n : ℕ)
    → Continues old mid → u ≡ t → IsSmall (One t) → job ≡ begins budget → n ≡ done.spent → after ≡ entered name s
    → Comes (flag_judged (env mid) mid.context u) (Gives tt) job done × AddsFlag mid new u → IsJudged budget old new s after name (Flag t) n
flag_judged_so budget old mid new s after name t u job done n on is small began spent entering h =
    let comes = same_task (λ e c x. Comes (flag_judged e c x) (Gives tt) job done) (env mid) (env old) mid.context old.context u t on.adds.env on.context is h.0 in
    record {
      small = small;
      costs = subst (λ m. Costs (flag_judged (env old) old.context t) budget (Gives tt) m) (sym spent) (costs_of _ budget (Gives tt) job done began comes);
      becomes = book_same (env new) (env old) new.context (old.context ▸ t) after (entered name s) (h.1.env ∙ on.adds.env) (h.1.context ∙ (λ i. on.context i ▸ is i)) entering;
      notes = h.1.notes ∙ (λ i. on.adds.notes i ++ FlagNote (on.context i) (is i) ∷ []);
    }

pub entry_judged_so : (budget : ℕ) (old mid new : Standing) (s after : State) (name : List ℕ) (r : Reading) (e d : Entry) (done : Account) (n : ℕ) (job : Account)
    → Continues old mid → d ≡ e → IsSmallReading r → job ≡ begins budget → n ≡ done.spent → after ≡ noted s
    → Comes (judging (book_of old s) r) (Gives tt) job done → AddsEntry mid new d
    → (book_of new after ≡ with_entry e (book_of old s)) × ((known new).notes ≡ (known old).notes ++ EntryNote e ∷ []) × Costs (judging (book_of old s) r) budget (Gives tt) n
entry_judged_so budget old mid new s after name r e d done n job on is small began spent noting comes adds = (
  book_same (env new) (env old ++ e ∷ []) new.context old.context after (noted s) (adds.env ∙ (λ i. on.adds.env i ++ is i ∷ [])) (adds.context ∙ on.context) noting,
  adds.notes ∙ (λ i. on.adds.notes i ++ EntryNote (is i) ∷ []),
  subst (λ m. Costs (judging (book_of old s) r) budget (Gives tt) m) (sym spent) (costs_of _ budget (Gives tt) job done began comes),
)

-- a theory and a scope go together behind an entry
noted_each : (old new : Standing) (s : State) (e : Entry) → IsInStep old s → env new ≡ env old ++ e ∷ [] → e.params ≡ old.context
    → (k : ℕ) → k < length (env new) → length (made_under (noted s) k) ≡ count (entry_at (env new) k).params
noted_each old new s e step more params k lt =
    let Q : Env → Type 0 = λ x. length (made_under (noted s) k) ≡ count (entry_at x k).params in
    subst Q (sym more)
    (⊎_elim
    (λ (l : k < length (env old)).
    ap length (get_or_append_left s.marks (numbers s.flags ∷ []) [] k (omega (arith, step.marks, l)))
    ∙ step.each k l
    ∙ ap (λ x. count x.params) (sym (get_or_append_left (env old) (e ∷ []) (primitive_entry [] no_judgement) k l)))
    (λ (l : length (env old) ≤ k).
    let all = length_push (env old) e in
    let here : k ≡ length (env old) = omega (arith, ap length more, all, lt, l) in
    let mark : k ≡ length s.marks = here ∙ sym step.marks in
    ap (λ j. length (made_under (noted s) j)) mark
    ∙ ap length (get_or-append_seam s.marks (numbers s.flags) [] [])
    ∙ length-reverse (map (λ f. f.number) s.flags) ∙ length-map s.flags (λ f. f.number) ∙ step.flags
    ∙ ap count (sym params)
    ∙ ap (λ x. count x.params) (sym (get_or-append_seam (env old) e [] (primitive_entry [] no_judgement)))
    ∙ ap (λ j. count (entry_at (env old ++ e ∷ []) j).params) (sym here))
    (cases_lt k (length (env old))))

-- and each has few parameters
noted_short : (s : State) (k : ℕ) → length s.flags ≤ 64 → ((j : ℕ) → j < length s.marks → length (made_under s j) ≤ 64) → k < length s.marks + 1
    → length (made_under (noted s) k) ≤ 64
noted_short s k few each lt =
    ⊎_elim
    (λ (l : k < length s.marks). subst (λ ns. length ns ≤ 64) (sym (get_or_append_left s.marks (numbers s.flags ∷ []) [] k l)) (each k l))
    (λ (l : length s.marks ≤ k).
    let here : k ≡ length s.marks = omega (arith, lt, l) in
    let flags : length (numbers s.flags) ≡ length s.flags = length-reverse (map (λ f. f.number) s.flags) ∙ length-map s.flags (λ f. f.number) in
    let mark : made_under (noted s) k ≡ numbers s.flags = ap (made_under (noted s)) here ∙ get_or-append_seam s.marks (numbers s.flags) [] [] in
    subst (λ ns. length ns ≤ 64) (sym mark) (omega (arith, flags, few)))
    (cases_lt k (length s.marks))

pub noted_step : (old mid new : Standing) (s s' after : State) (e : Entry) → IsInStep old s → Continues old mid → AddsEntry mid new e → e.params ≡ mid.context → s' ≡ s → after ≡ noted s' → IsInStep new after
noted_step old mid new s s' after e step on adds params same noting =
    let more : env new ≡ env old ++ e ∷ [] = adds.env ∙ (λ i. on.adds.env i ++ e ∷ []) in
    let is : after ≡ noted s = noting ∙ ap noted same in
    let all = length_push (env old) e in
    subst (IsInStep new) (sym is)
    (record {
      binders = step.binders;
      flags = step.flags ∙ ap count (sym (adds.context ∙ on.context));
      few = step.few;
      marks = length_push s.marks (numbers s.flags) ∙ omega (arith, all, ap length more, step.marks);
      each = noted_each old new s e step more (params ∙ on.context);
      short = λ k lt. noted_short s k step.few (λ j l. step.short j (omega (arith, l, step.marks))) (omega (arith, lt, all, ap length more, step.marks));
    })

-- the same of two trees
pub same_line : (P : Env → Trees → Tree → Tree → Type 0) (e e' : Env) (c c' : Trees) (m m' t t' : Tree) → e ≡ e' → c ≡ c' → m ≡ m' → t ≡ t' → P e c m t → P e' c' m' t'
same_line P e e' c c' m m' t t' p q o r h = subst (λ y. P e' c' y t') o (same_task (λ x y z. P x y m z) e e' c c' t t' p q r h)

-- what is built in the same scope and over the same names
pub built_same : (old mid new : Standing) (s s' : State) (x : Surface) (id : TermId) → s' ≡ s → env mid ≡ env old → Builds new.items (read (tree_of s' (names_of (env mid)) x)) (Ok id) → Builds new.items (read (tree_of s (names_of (env old)) x)) (Ok id)
built_same old mid new s s' x id same e h = let P : Tree → Type 0 = λ t. Builds new.items t (Ok id) in subst P (ap read (tree_moved s' s (env mid) (env old) x same e)) h
