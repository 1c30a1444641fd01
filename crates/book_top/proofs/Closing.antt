-- The flags beyond an item's bars are closed.
use Rattle.std.proofs.Common.{◌≡◌, ◌<◌, ◌≤◌, ◌-◌, ℕ, zero, suc, nat_lt, if◌then◌else◌, List, length, Result, Ok, Err, IsErrAnd, sym, ap, subst, ◌∙◌, arith, length-drop}
use Rattle.std.proofs.lemmas.Bool.Decides.{nat_tests}
use Rattle.ld_terms.specs.Tree.{Trees, Nil, ◌▸◌, count}
use Rattle.ld_infer.specs.Standing.{Standing, known, env, without}
use Rattle.fb_parse.specs.Items.{SurfaceItem}
use Rattle.fb_scope.specs.State.{State, left_to}
use Rattle.book_top.specs.declared.item.ItemStop.{ItemStop}
use Rattle.book_top.specs.declared.item.ItemStop.TheVariants as stop
use Rattle.book_top.specs.declared.status.TextFault.{TextFault}
use Rattle.book_top.specs.declared.status.TextWhat.TheVariants as what
use Rattle.book_top.specs.Book.{Book, Reading, names_of, book_of, closed}
use Rattle.book_top.specs.Names.{fault_at, ◌>>=◌}
use Rattle.book_top.specs.Verdict.{Verdict, TextRefused, at_depth, read_item, read_here}
use Rattle.book_top.specs.Judged.{IsInStep, StopsItemBy, JudgesItem}
use Rattle.book_top.specs.Told.{read_by, TellsStop}
use Rattle.book_top.proofs.Verdicts.{here_by, unread_stops}

choose_last : {A : Type 0} (n m : ℕ) (x y : A) → m ≤ n → (if nat_lt n m then x else y) ≡ y
choose_last n m x y le = grind (arith, nat_tests)

choose_first : {A : Type 0} (n m : ℕ) (x y : A) → n < m → (if nat_lt n m then x else y) ≡ x
choose_first n m x y lt = grind (arith, nat_tests)

abbrev too_deep : Book → SurfaceItem → Verdict
too_deep b i = TextRefused (fault_at (what.DepthTooGreat i.bars (length b.scope.flags)) i.span)

pub read_closed : (b : Book) (i : SurfaceItem) → i.bars ≤ length b.scope.flags → read_item b i ≡ read_by (closed i.bars b).scope (names_of b.env) i
read_closed b i le =
    let e : at_depth b i ≡ Ok tt = choose_last (length b.scope.flags) i.bars (Err (too_deep b i)) (Ok tt) le in
    ap (λ d. d >>= (λ deep. read_here (closed i.bars b) i)) e ∙ here_by (closed i.bars b) i

pub read_deep : (b : Book) (i : SurfaceItem) → length b.scope.flags < i.bars → read_item b i ≡ Err (too_deep b i)
read_deep b i lt =
    let e : at_depth b i ≡ Err (too_deep b i) = choose_first (length b.scope.flags) i.bars (Err (too_deep b i)) (Ok tt) lt in
    ap (λ d. d >>= (λ deep. read_here (closed i.bars b) i)) e

count_without : (n : ℕ) (ctx : Trees) → count (without n ctx) ≡ count ctx - n
count_without zero ctx = omega arith
count_without (suc n) Nil = let h = count_without n Nil in omega (arith, h)
count_without (suc n) (ctx ▸ a) = let h = count_without n ctx in omega (arith, h)

abbrev pub with_context : Standing → Trees → Standing
with_context s ctx = record s { context = ctx }

abbrev pub closed_standing : ℕ → Standing → Standing
closed_standing bars s = with_context s (without (count s.context - bars) s.context)

step_left : (s : Standing) (scope : State) (bars : ℕ) → IsInStep s scope → IsInStep (closed_standing bars s) (left_to bars scope)
step_left s scope bars h =
    let l = length-drop (length scope.flags - bars) scope.flags in
    let c = count_without (count s.context - bars) s.context in
    record {
      binders = h.binders;
      flags = omega (arith, l, c, h.flags);
      few = omega (arith, l, h.few);
      marks = h.marks;
      each = h.each;
      short = h.short;
    }

module _ (old mid : Standing) (before left between : State) (bars : ℕ) (theory : mid ≡ closed_standing bars old) (scope : left ≡ left_to bars before) (same : between ≡ left) where
  pub step_closed : IsInStep old before → IsInStep mid between
  step_closed h = subst (λ x. IsInStep mid x) (sym (same ∙ scope)) (subst (λ s. IsInStep s (left_to bars before)) (sym theory) (step_left old before bars h))

  pub book_closed : book_of mid between ≡ closed bars (book_of old before)
  book_closed = λ i. book_of (theory i) ((same ∙ scope) i)

  pub notes_closed : (known mid).notes ≡ (known old).notes
  notes_closed = ap (λ s. (known s).notes) theory

pub deep_stops : (budget : ℕ) (old new : Standing) (before after : State) (i : SurfaceItem) (f : TextFault) (q : Result ℕ ItemStop)
    → length before.flags < i.bars → f ≡ fault_at (what.DepthTooGreat i.bars (length before.flags)) i.span → IsErrAnd q (λ s. s ≡ stop.Text f) → JudgesItem budget old new before after i q
deep_stops budget old new before after i f (Ok n) deep is h = absurd h
deep_stops budget old new before after i f (Err z) deep is h =
    let b = book_of old before in
    let P : ItemStop → Type 0 = λ y. StopsItemBy budget b new.items i y in
    subst P (sym h) (unread_stops b i budget new.items (stop.Text f) (read_deep b i deep ∙ ap (λ g. Err (TextRefused g)) (sym is)))

pub read_left : (old : Standing) (before left : State) (names : List (List ℕ)) (i : SurfaceItem) → left ≡ left_to i.bars before → names ≡ names_of (env old) → i.bars ≤ length before.flags
    → read_item (book_of old before) i ≡ read_by left names i
read_left old before left names i scope same le = read_closed (book_of old before) i le ∙ (λ j. read_by (sym scope j) (sym same j) i)

pub unread_left : (budget : ℕ) (old new : Standing) (before left after : State) (names : List (List ℕ)) (i : SurfaceItem) (z : ItemStop) (q : Result ℕ ItemStop)
    → left ≡ left_to i.bars before → names ≡ names_of (env old) → i.bars ≤ length before.flags → TellsStop (read_by left names i) z → IsErrAnd q (λ s. s ≡ z) → JudgesItem budget old new before after i q
unread_left budget old new before left after names i z (Ok n) scope same le t h = absurd h
unread_left budget old new before left after names i z (Err y) scope same le t h =
    let b = book_of old before in
    let P : ItemStop → Type 0 = λ x. StopsItemBy budget b new.items i x in
    let Q : Result Reading Verdict → Type 0 = λ r. TellsStop r z in
    subst P (sym h) (unread_stops b i budget new.items z (subst Q (sym (read_left old before left names i scope same le)) t))
