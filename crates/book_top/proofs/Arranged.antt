-- Words that `clap` takes are arranged as the definition says. By induction on the words; the option takes two of them.
use Rattle.std.proofs.Common.{◌≡◌, ◌∙◌, ◌≤◌, ◌+◌, ◌||◌, ℕ, Bool, true, false, suc, refl, sym, ap, subst, arith, List, [], ◌∷◌, ◌++◌, length, Option, Some, None, true≢false, codes, IsUtf8}
use Rattle.std.specs.Prelude.{⊤}
use Rattle.std.specs.Str.{bytes_eq}
use Rattle.std.proofs.lemmas.List.Folds.{list_any-append}
use Rattle.clap.specs.Kinds.{Kinds, or_else}
use Rattle.clap.specs.Walk.{Row, Text, idle, option, has_row, used}
use Rattle.clap.specs.Faults.{turn_fault, use_fault, walk_fault}
use Rattle.clap.specs.declared.error.kind.ErrorKind.{ErrorKind}
use Rattle.clap.specs.declared.error.kind.ErrorKind.TheVariants as kind
use Rattle.book_top.specs.Words.{is_option, Arranges}
use Rattle.book_top.specs.Words as arranged
use Rattle.book_top.proofs.LineWalk.{shape, budget_arg, at, waits, entry, appends, no_row, fault, fault_past, passed, none_of, rows_now, fault_now, Place, first, second, third, positional_walked, positional_fault, stray_fault, budget_fault, budget_walked, dashes_fault, dashes_walked, joined_fault, joined_walked, value_fault, value_walked, waits_dashes}
use Rattle.book_top.proofs.WordKinds.{Kind, plain, dashes, budget, joined, refused, kind_of}

pub some : (k : ErrorKind) (ks : Kinds) → k ∷ ks ≡ [] → ⊥
some k ks e = cc

abbrev pub AreUtf8 : List Text → Type 0
AreUtf8 [] = ⊤
AreUtf8 (word ∷ words) = IsUtf8 word × AreUtf8 words

-- a place of a positional, or the one past the last
pub data Stand : ℕ → Type 0 where
  here : {position : ℕ} {id : Text} → Place position id → Stand position
  past : Stand 4

next : (position : ℕ) (id : Text) → Place position id → Stand (suc position)
next _ _ first = here second
next _ _ second = here third
next _ _ third = past

within : (position : ℕ) → Stand position → position ≤ 4
within _ (here first) = omega arith
within _ (here second) = omega arith
within _ (here third) = omega arith
within _ past = omega arith

-- after -- each word is a positional
abbrev pub ArrangesFrom : Bool → (words positionals budgets : List Text) → Type 0
ArrangesFrom false words ps bs = Arranges words ps bs
ArrangesFrom true words ps bs = (ps ≡ words) × (bs ≡ [])

-- a budget was given before
abbrev has_budget : List Row → Bool
has_budget rows = has_row (codes "budget") rows

-- the words from here on are arranged, with no more positionals and budgets than are left
pub record Got (pending : Option (Text × List Text)) (rows : List Row) (position : ℕ) (trailing : Bool) (words : List Text) : Type 0 where
  pub positionals : List Text
  pub budgets : List Text
  pub arranges : ArrangesFrom trailing words positionals budgets
  pub fits : position + length positionals ≤ 4
  pub settles : fault_now pending rows ≡ []
  pub only : has_budget (rows_now pending rows) ≡ true → budgets ≡ []
  pub one : length budgets ≤ 1

-- what is shown of words: those that pass are arranged
abbrev pub Passes : List Text → Type 0
Passes words = (pending : Option (Text × List Text)) (rows : List Row) (position : ℕ) (trailing : Bool) → Stand position
    → fault (at pending rows position trailing) words ≡ [] → Got pending rows position trailing words

nothing_passes : Passes []
unfolding walk_fault
nothing_passes pending rows position trailing stand e =
    record { positionals = []; budgets = []; arranges = go trailing; fits = omega (arith, within position stand); settles = e; only = λ h. refl; one = omega arith }
  where
    go : (t : Bool) → ArrangesFrom t [] [] []
    go true = (refl, refl)
    go false = arranged.none

-- ---- a positional

module _ (rows : List Row) (word : Text) where
  positional_new : (position : ℕ) (id : Text) → Place position id → fault_now (Some (id, word ∷ [])) rows ≡ [] → rows_now (Some (id, word ∷ [])) rows ≡ rows ++ entry id word ∷ []
  positional_new _ _ first e = appends (codes "command") word rows (no_row _ _ e)
  positional_new _ _ second e = appends (codes "file") word rows (no_row _ _ e)
  positional_new _ _ third e = appends (codes "out") word rows (no_row _ _ e)

  budget_new : use_fault false budget_arg (word ∷ []) rows ≡ [] → used budget_arg (word ∷ []) rows ≡ rows ++ entry (codes "budget") word ∷ []
  budget_new e = appends (codes "budget") word rows (no_row _ _ e)

or_true : (a b : Bool) → a ≡ true → (a || b) ≡ true
or_true a b e = rw e refl

or_right : (a : Bool) → (a || true) ≡ true
or_right true = refl
or_right false = refl

kept : (id v : Text) (rows after : List Row) → after ≡ rows ++ entry id v ∷ [] → has_budget rows ≡ true → has_budget after ≡ true
kept id v rows after is e = ap has_budget is ∙ list_any-append (λ r. bytes_eq r.id (codes "budget")) rows (entry id v ∷ []) ∙ or_true _ _ e

gained : (v : Text) (rows after : List Row) → after ≡ rows ++ entry (codes "budget") v ∷ [] → has_budget after ≡ true
gained v rows after is = ap has_budget is ∙ list_any-append (λ r. bytes_eq r.id (codes "budget")) rows (entry (codes "budget") v ∷ []) ∙ or_right _

module _ (word : Text) (words : List Text) (later : Passes words) where
  one_more : (t : Bool) (ps bs : List Text) → (t ≡ false → is_option word ≡ false) → ArrangesFrom t words ps bs → ArrangesFrom t (word ∷ words) (word ∷ ps) bs
  one_more true ps bs w h = (ap (λ xs. word ∷ xs) h.0, h.1)
  one_more false ps bs w h = arranged.positional (w refl) h

  positional_passes : (pending : Option (Text × List Text)) (rows : List Row) (position : ℕ) (trailing : Bool) → Stand position → (trailing ≡ false → is_option word ≡ false)
      → fault (at pending rows position trailing) (word ∷ words) ≡ [] → Got pending rows position trailing (word ∷ words)
  positional_passes pending rows position trailing (here {position = p} {id = id} place) w e =
      let now = rows_now pending rows in
      let settles : fault_now pending rows ≡ [] = sym (positional_fault pending rows word position id trailing place w) ∙ passed _ word words e in
      let g = later (Some (id, word ∷ [])) now (suc position) trailing (next position id place)
      (sym (fault_past _ _ word words (passed _ word words e) (positional_walked pending rows word position id trailing place w)) ∙ e) in
      record {
        positionals = word ∷ g.positionals;
        budgets = g.budgets;
        arranges = one_more trailing g.positionals g.budgets w g.arranges;
        fits = omega (arith, g.fits);
        settles = settles;
        only = λ h. g.only (kept id word now _ (positional_new now word position id place g.settles) h);
        one = g.one;
      }
  positional_passes pending rows _ trailing past w e =
      absurd (some _ _ (sym (stray_fault pending rows word trailing w) ∙ passed _ word words e))

-- ---- options

-- the words after the next
abbrev After : List Text → Type 0
After [] = ⊤
After (text ∷ words) = IsUtf8 text × Passes words

-- an option that never gets its value
never : (words : List Text) (rows : List Row) (position : ℕ) → Stand position → fault (waits rows position true) words ≡ [] → ⊥
unfolding walk_fault
never [] rows position stand e = some kind.InvalidValue [] e
never (x ∷ xs) rows position stand e = go position stand (passed (waits rows position true) x xs e)
  where
    go : (position : ℕ) → Stand position → turn_fault shape [] (waits rows position true) x ≡ [] → ⊥
    go _ (here first) e = some kind.InvalidValue [] e
    go _ (here second) e = some kind.InvalidValue [] e
    go _ (here third) e = some kind.InvalidValue [] e
    go _ past e = some kind.UnknownArgument [] e

or_nil : (k : Kinds) → or_else k [] ≡ [] → k ≡ []
or_nil k e = (none_of k [] e).0

module _ (pending : Option (Text × List Text)) (rows : List Row) (position : ℕ) (stand : Stand position) where
  dashes_pass : (words : List Text) → Passes words → fault (at pending rows position false) (codes "--" ∷ words) ≡ [] → Got pending rows position false (codes "--" ∷ words)
  dashes_pass ws later e =
      let g = later pending rows position true stand (sym (fault_past _ _ _ ws (dashes_fault pending rows position) (dashes_walked pending rows position)) ∙ e) in
      record {
        positionals = ws;
        budgets = [];
        arranges = arranged.rest refl;
        fits = omega (arith, g.fits, ap length g.arranges.0);
        settles = g.settles;
        only = λ h. refl;
        one = omega arith;
      }

  joined_passes : (text : Text) (words : List Text) → Passes words → fault (at pending rows position false) ((codes "--budget=" ++ text) ∷ words) ≡ []
      → Got pending rows position false ((codes "--budget=" ++ text) ∷ words)
  joined_passes text ws later e =
      let now = rows_now pending rows in
      let turn = passed _ (codes "--budget=" ++ text) ws e in
      let both = none_of _ _ (or_nil _ (sym (joined_fault pending rows position text) ∙ turn)) in
      let is = budget_new now text both.1 in
      let g = later None (used budget_arg (text ∷ []) now) position false stand (sym (fault_past _ _ _ ws turn (joined_walked pending rows position text)) ∙ e) in
      let none : g.budgets ≡ [] = g.only (gained text now _ is) in
      record {
        positionals = g.positionals;
        budgets = text ∷ [];
        arranges = subst (λ bs. Arranges ((codes "--budget=" ++ text) ∷ ws) g.positionals (text ∷ bs)) none (arranged.joined refl g.arranges);
        fits = g.fits;
        settles = both.0;
        only = λ h. absurd (true≢false (sym h ∙ no_row _ _ both.1));
        one = omega arith;
      }

  value_passes : (text : Text) (words : List Text) → is_option text ≡ false → Passes words → turn_fault shape [] (at pending rows position false) (codes "--budget") ≡ []
      → fault (waits (rows_now pending rows) position false) (text ∷ words) ≡ [] → Got pending rows position false (codes "--budget" ∷ text ∷ words)
  value_passes text ws w later turn e =
      let now = rows_now pending rows in
      let g = later (Some (codes "budget", text ∷ [])) now position false stand
      (sym (fault_past _ _ text ws (value_fault None now position text w) (value_walked None now position text w)) ∙ e) in
      let none : g.budgets ≡ [] = g.only (gained text now _ (budget_new now text g.settles)) in
      record {
        positionals = g.positionals;
        budgets = text ∷ [];
        arranges = subst (λ bs. Arranges (codes "--budget" ∷ text ∷ ws) g.positionals (text ∷ bs)) none (arranged.budget refl w g.arranges);
        fits = g.fits;
        settles = or_nil _ (sym (budget_fault pending rows position) ∙ turn);
        only = λ h. absurd (true≢false (sym h ∙ no_row _ _ g.settles));
        one = omega arith;
      }

  budget_passes : (words : List Text) → After words → fault (at pending rows position false) (codes "--budget" ∷ words) ≡ [] → Got pending rows position false (codes "--budget" ∷ words)
  unfolding walk_fault
  budget_passes words after e =
      let turn = passed (at pending rows position false) (codes "--budget") words e in
      go words after turn (sym (fault_past (at pending rows position false) (waits now position false) (codes "--budget") words turn (budget_walked pending rows position)) ∙ e)
    where
      now : List Row
      now = rows_now pending rows

      by_kind : (text : Text) (words : List Text) → Passes words → Kind text → turn_fault shape [] (at pending rows position false) (codes "--budget") ≡ []
          → fault (waits now position false) (text ∷ words) ≡ [] → Got pending rows position false (codes "--budget" ∷ text ∷ words)
      by_kind text ws later (plain p) turn e = value_passes text ws p later turn e
      by_kind text ws later (dashes is) turn e =
          let e' : fault (waits now position false) (codes "--" ∷ ws) ≡ [] = subst (λ t. fault (waits now position false) (t ∷ ws) ≡ []) is e in
          absurd (never ws now position stand (sym (fault_past (waits now position false) (waits now position true) (codes "--") ws refl (waits_dashes None now position)) ∙ e'))
      by_kind text ws later (budget is) turn e =
          absurd (some kind.InvalidValue [] (subst (λ t. turn_fault shape [] (waits now position false) t ≡ []) is (passed (waits now position false) text ws e)))
      by_kind text ws later (joined v is) turn e =
          absurd (some kind.InvalidValue [] (subst (λ t. turn_fault shape [] (waits now position false) t ≡ []) is (passed (waits now position false) text ws e)))
      by_kind text ws later (refused n) turn e = absurd (n (Some (codes "budget", [])) now (option (codes "budget")) (none_of _ _ (passed (waits now position false) text ws e)).0)

      go : (words : List Text) → After words → turn_fault shape [] (at pending rows position false) (codes "--budget") ≡ [] → fault (waits now position false) words ≡ []
          → Got pending rows position false (codes "--budget" ∷ words)
      go [] after turn e = absurd (some kind.InvalidValue [] e)
      go (text ∷ ws) after turn e = by_kind text ws after.1 (kind_of text after.0) turn e

step : (word : Text) (words : List Text) → IsUtf8 word → Passes words → After words → Passes (word ∷ words)
step word ws u later after pending rows position true stand e = positional_passes word ws later pending rows position true stand (λ f. absurd (true≢false f)) e
step word ws u later after pending rows position false stand e = go (kind_of word u)
  where
    Wants : Text → Type 0
    Wants w = fault (at pending rows position false) (w ∷ ws) ≡ [] → Got pending rows position false (w ∷ ws)

    go : Kind word → Got pending rows position false (word ∷ ws)
    go (plain p) = positional_passes word ws later pending rows position false stand (λ _. p) e
    go (dashes is) = subst Wants (sym is) (dashes_pass pending rows position stand ws later) e
    go (budget is) = subst Wants (sym is) (budget_passes pending rows position stand ws after) e
    go (joined v is) = subst Wants (sym is) (joined_passes pending rows position stand v ws later) e
    go (refused n) = absurd (n pending rows idle (none_of _ _ (passed (at pending rows position false) word ws e)).0)

pub all_pass : (words : List Text) → AreUtf8 words → Passes words
all_pass [] u = nothing_passes
all_pass (word ∷ []) u = step word [] u.0 (all_pass [] tt) tt
all_pass (word ∷ text ∷ words) u = step word (text ∷ words) u.0 (all_pass (text ∷ words) u.1) (u.1.0, all_pass words u.1.1)
