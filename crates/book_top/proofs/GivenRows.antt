-- Words that are arranged as the definition says are taken by `clap`, which gives the same.
use Rattle.std.proofs.Common.{◌≡◌, ◌∙◌, ◌<◌, ◌≤◌, ◌+◌, ◌||◌, ℕ, Bool, true, false, suc, refl, sym, ap, ap₂, subst, arith, List, [], ◌∷◌, ◌++◌, length, Option, Some, None, true≢false, codes, append-nil, append_assoc, option_map}
use Rattle.std.specs.Prelude.{⊤, slice_get, find, if◌then◌else◌, option_and_then, is_some}
use Rattle.std.specs.Option.{option_or}
use Rattle.std.specs.List.{list_any, fold}
use Rattle.std.specs.Str.{bytes_eq}
use Rattle.std.proofs.lemmas.List.{length-append}
use Rattle.std.proofs.lemmas.List.Folds.{find-append}
use Rattle.clap.specs.Kinds.{Kinds, or_else}
use Rattle.clap.specs.Walk.{Row, Rule, Text, Walk, walked, nothing_held, has_row, used, first_of, with_default}
use Rattle.clap.specs.Simple.{matches_of}
use Rattle.clap.specs.Faults.{turn_fault, walk_fault, use_fault, fault_of, settle_fault, defaults_fault, default_fault}
use Rattle.clap.proofs.FaultLemmas.{past, leaf_fault}
use Rattle.book_top.specs.CommandLine.{line}
use Rattle.book_top.specs.Words.{is_option, Arranges, none, positional, budget, joined, rest}
use Rattle.book_top.proofs.LineWalk.{shape, args, budget_arg, at, waits, entry, appends, no_repeat, fault, fault_past, rows_past, rows_at_end, rows_now, fault_now, Place, first, second, third, positional_walked, positional_fault, budget_fault, budget_walked, dashes_fault, dashes_walked, joined_fault, joined_walked, value_fault, value_walked}

-- the first row of an id
abbrev found : Text → List Row → Option Row
found id rows = find (λ r. bytes_eq r.id id) rows

-- the rows of these positionals and budgets
record Holds (rows : List Row) (ps bs : List Text) : Type 0 where
  command : found (codes "command") rows ≡ option_map (entry (codes "command")) (slice_get ps 0)
  file : found (codes "file") rows ≡ option_map (entry (codes "file")) (slice_get ps 1)
  out : found (codes "out") rows ≡ option_map (entry (codes "out")) (slice_get ps 2)
  budget : found (codes "budget") rows ≡ option_map (entry (codes "budget")) (slice_get bs 0)

absent : (id : Text) (rows : List Row) → found id rows ≡ None → has_row id rows ≡ false
absent id rows e = any_is (λ r. bytes_eq r.id id) rows ∙ ap is_some e
  where
    any_is : (p : Row → Bool) (rs : List Row) → list_any p rs ≡ is_some (find p rs)
    any_is p [] = refl
    any_is p (r ∷ rs) = by (p r) (any_is p rs)
      where
        by : (b : Bool) → list_any p rs ≡ is_some (find p rs) → (b || list_any p rs) ≡ is_some (if b then Some r else find p rs)
        by true e = refl
        by false e = e

grown : (other id v : Text) (rows : List Row) (o : Option Row) → found other rows ≡ o → found other (rows ++ entry id v ∷ []) ≡ option_or o (found other (entry id v ∷ []))
grown other id v rows o e = find-append (λ r. bytes_eq r.id other) rows (entry id v ∷ []) ∙ ap (λ f. option_or f (found other (entry id v ∷ []))) e

or_none : (o : Option Row) → option_or o None ≡ o
or_none None = refl
or_none (Some r) = refl

module _ (v : Text) (rows : List Row) where
  one : (bs : List Text) → Holds rows [] bs → Holds (rows ++ entry (codes "command") v ∷ []) (v ∷ []) bs
  one bs h = record {
    command = grown _ _ v rows _ h.command;
    file = grown _ (codes "command") v rows _ h.file;
    out = grown _ (codes "command") v rows _ h.out;
    budget = grown _ (codes "command") v rows _ h.budget ∙ or_none _;
  }

  two : (a : Text) (bs : List Text) → Holds rows (a ∷ []) bs → Holds (rows ++ entry (codes "file") v ∷ []) (a ∷ v ∷ []) bs
  two a bs h = record {
    command = grown _ (codes "file") v rows _ h.command;
    file = grown _ _ v rows _ h.file;
    out = grown _ (codes "file") v rows _ h.out;
    budget = grown _ (codes "file") v rows _ h.budget ∙ or_none _;
  }

  three : (a b : Text) (bs : List Text) → Holds rows (a ∷ b ∷ []) bs → Holds (rows ++ entry (codes "out") v ∷ []) (a ∷ b ∷ v ∷ []) bs
  three a b bs h = record {
    command = grown _ (codes "out") v rows _ h.command;
    file = grown _ (codes "out") v rows _ h.file;
    out = grown _ _ v rows _ h.out;
    budget = grown _ (codes "out") v rows _ h.budget ∙ or_none _;
  }

  with_budget : (ps : List Text) → Holds rows ps [] → Holds (rows ++ entry (codes "budget") v ∷ []) ps (v ∷ [])
  with_budget ps h = record {
    command = grown _ (codes "budget") v rows _ h.command ∙ or_none _;
    file = grown _ (codes "budget") v rows _ h.file ∙ or_none _;
    out = grown _ (codes "budget") v rows _ h.out ∙ or_none _;
    budget = grown _ _ v rows _ h.budget;
  }

-- the walk over the rest of the words passes, and ends with these positionals and budgets
record Ends (w : Walk) (words ps bs : List Text) : Type 0 where
  passes : fault w words ≡ []
  holds : Holds (rows_at_end w words) ps bs

ends_past : (w after : Walk) (word : Text) (words ps bs : List Text) → turn_fault shape [] w word ≡ [] → walked args [] w word ≡ after → Ends after words ps bs → Ends w (word ∷ words) ps bs
ends_past w after word words ps bs turn next e = record {
  passes = fault_past w after word words turn next ∙ e.passes;
  holds = subst (λ rows. Holds rows ps bs) (sym (rows_past w after word words next)) e.holds;
}

-- the walk between two words, with these positionals and budgets so far
record Stands (pending : Option (Text × List Text)) (rows : List Row) (ps bs : List Text) : Type 0 where
  settles : fault_now pending rows ≡ []
  holds : Holds (rows_now pending rows) ps bs

abbrev Reaches : List Text → Bool → (ps bs all_ps all_bs : List Text) → Type 0
Reaches words t ps bs all_ps all_bs = (pending : Option (Text × List Text)) (rows : List Row) → Stands pending rows ps bs → Ends (at pending rows (suc (length ps)) t) words all_ps all_bs

nothing_more : (t : Bool) (ps bs : List Text) → Reaches [] t ps bs (ps ++ []) (bs ++ [])
unfolding walk_fault
nothing_more t ps bs pending rows s = record {
  passes = s.settles;
  holds = subst (λ xs. Holds (rows_now pending rows) xs (bs ++ [])) (sym (append-nil ps)) (subst (Holds (rows_now pending rows) ps) (sym (append-nil bs)) s.holds);
}

module _ (t : Bool) (word : Text) (words : List Text) (w : t ≡ false → is_option word ≡ false) (bs all_ps all_bs : List Text) where
  onto : (pending : Option (Text × List Text)) (rows : List Row) (position : ℕ) (id : Text) (ps : List Text) → Place position id → fault_now pending rows ≡ []
      → found id (rows_now pending rows) ≡ None
      → Holds (rows_now pending rows ++ entry id word ∷ []) ps bs
      → fault_now (Some (id, word ∷ [])) (rows_now pending rows) ≡ [] → rows_now (Some (id, word ∷ [])) (rows_now pending rows) ≡ rows_now pending rows ++ entry id word ∷ []
      → (Stands (Some (id, word ∷ [])) (rows_now pending rows) ps bs → Ends (at (Some (id, word ∷ [])) (rows_now pending rows) (suc position) t) words all_ps all_bs)
      → Ends (at pending rows position t) (word ∷ words) all_ps all_bs
  onto pending rows position id ps place settles new h settles' is later =
      ends_past _ _ word words all_ps all_bs (positional_fault pending rows word position id t place w ∙ settles) (positional_walked pending rows word position id t place w)
      (later (record { settles = settles'; holds = subst (λ rs. Holds rs ps bs) (sym is) h }))

  positional_reaches : (ps : List Text) → length ps < 3 → Reaches words t (ps ++ word ∷ []) bs all_ps all_bs → Reaches (word ∷ words) t ps bs all_ps all_bs
  positional_reaches [] short later pending rows s =
      let now = rows_now pending rows in
      let new = absent (codes "command") now s.holds.command in
      onto pending rows 1 (codes "command") (word ∷ []) first s.settles s.holds.command (one word now bs s.holds) (no_repeat _ new) (appends _ word now new) (later (Some (codes "command", word ∷ [])) now)
  positional_reaches (a ∷ []) short later pending rows s =
      let now = rows_now pending rows in
      let new = absent (codes "file") now s.holds.file in
      onto pending rows 2 (codes "file") (a ∷ word ∷ []) second s.settles s.holds.file (two word now a bs s.holds) (no_repeat _ new) (appends _ word now new) (later (Some (codes "file", word ∷ [])) now)
  positional_reaches (a ∷ b ∷ []) short later pending rows s =
      let now = rows_now pending rows in
      let new = absent (codes "out") now s.holds.out in
      onto pending rows 3 (codes "out") (a ∷ b ∷ word ∷ []) third s.settles s.holds.out (three word now a b bs s.holds) (no_repeat _ new) (appends _ word now new) (later (Some (codes "out", word ∷ [])) now)
  positional_reaches (a ∷ b ∷ c ∷ ps) short later pending rows s = absurd (omega arith)

trailing_reaches : (words ps bs : List Text) → length ps + length words ≤ 3 → Reaches words true ps bs (ps ++ words) (bs ++ [])
trailing_reaches [] ps bs short = nothing_more true ps bs
trailing_reaches (x ∷ xs) ps bs short =
    positional_reaches true x xs (λ f. absurd (true≢false f)) bs (ps ++ (x ∷ xs)) (bs ++ []) ps (omega arith)
    (subst (λ all. Reaches xs true (ps ++ x ∷ []) bs all (bs ++ [])) (append_assoc ps (x ∷ []) xs)
    (trailing_reaches xs (ps ++ x ∷ []) bs (omega (arith, length-append ps (x ∷ [])))))

module _ (ps : List Text) (all_ps all_bs : List Text) (words : List Text) where
  budget_reaches : (text : Text) → is_option text ≡ false → Reaches words false ps (text ∷ []) all_ps all_bs → Reaches (codes "--budget" ∷ text ∷ words) false ps [] all_ps all_bs
  budget_reaches text w later pending rows s =
      let now = rows_now pending rows in
      let new = absent (codes "budget") now s.holds.budget in
      ends_past (at pending rows (suc (length ps)) false) (waits now (suc (length ps)) false) (codes "--budget") (text ∷ words) all_ps all_bs
      (budget_fault pending rows (suc (length ps)) ∙ ap (λ k. or_else k []) s.settles) (budget_walked pending rows (suc (length ps)))
      (ends_past (waits now (suc (length ps)) false) (at (Some (codes "budget", text ∷ [])) now (suc (length ps)) false) text words all_ps all_bs
      (value_fault None now (suc (length ps)) text w) (value_walked None now (suc (length ps)) text w)
      (later (Some (codes "budget", text ∷ [])) now
      (record { settles = no_repeat _ new; holds = subst (λ rs. Holds rs ps (text ∷ [])) (sym (appends _ text now new)) (with_budget text now ps s.holds) })))

  joined_reaches : (text : Text) → Reaches words false ps (text ∷ []) all_ps all_bs → Reaches ((codes "--budget=" ++ text) ∷ words) false ps [] all_ps all_bs
  joined_reaches text later pending rows s =
      let now = rows_now pending rows in
      let new = absent (codes "budget") now s.holds.budget in
      let used_once : use_fault false budget_arg (text ∷ []) now ≡ [] = no_repeat _ new in
      ends_past (at pending rows (suc (length ps)) false) (at None (used budget_arg (text ∷ []) now) (suc (length ps)) false) (codes "--budget=" ++ text) words all_ps all_bs
      (joined_fault pending rows (suc (length ps)) text ∙ ap₂ (λ j k. or_else (or_else j k) []) s.settles used_once) (joined_walked pending rows (suc (length ps)) text)
      (later None (used budget_arg (text ∷ []) now)
      (record { settles = refl; holds = subst (λ rs. Holds rs ps (text ∷ [])) (sym (appends _ text now new)) (with_budget text now ps s.holds) }))

dashes_reach : (ps bs all_ps all_bs words : List Text) → Reaches words true ps bs all_ps all_bs → Reaches (codes "--" ∷ words) false ps bs all_ps all_bs
dashes_reach ps bs all_ps all_bs words later pending rows s =
    ends_past (at pending rows (suc (length ps)) false) (at pending rows (suc (length ps)) true) (codes "--") words all_ps all_bs
    (dashes_fault pending rows (suc (length ps))) (dashes_walked pending rows (suc (length ps))) (later pending rows s)

reaches : {words ps' bs' : List Text} → Arranges words ps' bs' → (ps bs : List Text) → length ps + length ps' ≤ 3 → length bs + length bs' ≤ 1 → Reaches words false ps bs (ps ++ ps') (bs ++ bs')
reaches none ps bs short few = nothing_more false ps bs
reaches (positional {word = word} {words = words} {positionals = ps'} {budgets = bs'} w h) ps bs short few =
    positional_reaches false word words (λ _. w) bs (ps ++ (word ∷ ps')) (bs ++ bs') ps (omega arith)
    (subst (λ all. Reaches words false (ps ++ word ∷ []) bs all (bs ++ bs')) (append_assoc ps (word ∷ []) ps')
    (reaches h (ps ++ word ∷ []) bs (omega (arith, length-append ps (word ∷ []))) few))
reaches (budget {text = text} {words = words} {positionals = ps'} {budgets = bs'} is w h) ps [] short few =
    subst (λ word. Reaches (word ∷ text ∷ words) false ps [] (ps ++ ps') (text ∷ bs')) (sym is) (budget_reaches ps (ps ++ ps') (text ∷ bs') words text w (reaches h ps (text ∷ []) short (omega arith)))
reaches (budget is w h) ps (b ∷ bs) short few = absurd (omega arith)
reaches (joined {text = text} {words = words} {positionals = ps'} {budgets = bs'} is h) ps [] short few =
    subst (λ word. Reaches (word ∷ words) false ps [] (ps ++ ps') (text ∷ bs')) (sym is) (joined_reaches ps (ps ++ ps') (text ∷ bs') words text (reaches h ps (text ∷ []) short (omega arith)))
reaches (joined is h) ps (b ∷ bs) short few = absurd (omega arith)
reaches (rest {words = words} is) ps bs short few =
    subst (λ word. Reaches (word ∷ words) false ps bs (ps ++ words) (bs ++ [])) (sym is) (dashes_reach ps bs (ps ++ words) (bs ++ []) words (trailing_reaches words ps bs short))

-- ---- the whole line

abbrev start : Walk
start = at None [] 1 false

-- no argument has a default
abbrev HaveNoDefault : List Rule → Type 0
HaveNoDefault [] = ⊤
HaveNoDefault (a ∷ later) = (a.defaults ≡ []) × HaveNoDefault later

or_true : (b : Bool) (k : Kinds) → (if b || true then [] else k) ≡ []
or_true true k = refl
or_true false k = refl

no_fault : (rows : List Row) (rules : List Rule) → HaveNoDefault rules → defaults_fault rows rules ≡ []
unfolding defaults_fault
no_fault rows [] h = refl
no_fault rows (a ∷ later) h =
    let none : default_fault rows a ≡ [] = rw h.0 (or_true (has_row a.id rows) _) in
    past (default_fault rows a) (defaults_fault (with_default rows a) later) none ∙ no_fault (with_default rows a) later h.1

same_rows : (rows : List Row) (rules : List Rule) → HaveNoDefault rules → fold with_default rows rules ≡ rows
same_rows rows [] h = refl
same_rows rows (a ∷ later) h =
    let one : with_default rows a ≡ rows = rw h.0 (go (has_row a.id rows)) in
    ap (λ rs. fold with_default rs later) one ∙ same_rows rows later h.1
  where
    go : (b : Bool) → (if b then rows else rows) ≡ rows
    go true = refl
    go false = refl

none_has : HaveNoDefault args
none_has = (refl, (refl, (refl, (refl, tt))))

or_nil : (k : Kinds) → or_else k [] ≡ k
or_nil [] = refl
or_nil (k ∷ ks) = refl

pub fault_is : (words : List Text) → fault_of line words ≡ fault start words
fault_is words =
    let rows = rows_at_end start words in
    leaf_fault _ nothing_held words refl
    ∙ ap (λ k. or_else (walk_fault shape [] start words) (or_else (settle_fault args false (fold (walked args []) start words).held) (or_else k []))) (no_fault rows args none_has)
    ∙ ap (λ k. or_else (walk_fault shape [] start words) k) (or_nil _)

pub rows_are : (words : List Text) → matches_of line words ≡ rows_at_end start words
rows_are words = same_rows (rows_at_end start words) args none_has

-- the rows of words that are arranged so
pub record GivesRows (words ps bs : List Text) : Type 0 where
  pub passes : fault_of line words ≡ []
  pub command : first_of (codes "command") (matches_of line words) ≡ slice_get ps 0
  pub file : first_of (codes "file") (matches_of line words) ≡ slice_get ps 1
  pub out : first_of (codes "out") (matches_of line words) ≡ slice_get ps 2
  pub budget : first_of (codes "budget") (matches_of line words) ≡ slice_get bs 0

first_is : (id : Text) (rows : List Row) (o : Option Text) → found id rows ≡ option_map (entry id) o → first_of id rows ≡ o
first_is id rows None e = ap (option_and_then (λ (r : Row). slice_get r.values 0)) e
first_is id rows (Some v) e = ap (option_and_then (λ (r : Row). slice_get r.values 0)) e

pub gives_rows : (words ps bs : List Text) → Arranges words ps bs → length ps ≤ 3 → length bs ≤ 1 → GivesRows words ps bs
gives_rows words ps bs h short few =
    let e = reaches h [] [] (omega arith) (omega arith) None [] (record { settles = refl; holds = record { command = refl; file = refl; out = refl; budget = refl } }) in
    let first : (id : Text) (o : Option Text) → found id (rows_at_end start words) ≡ option_map (entry id) o → first_of id (matches_of line words) ≡ o =
    λ id o f. first_is id _ o (ap (found id) (rows_are words) ∙ f) in
    record {
      passes = fault_is words ∙ e.passes;
      command = first _ _ e.holds.command;
      file = first _ _ e.holds.file;
      out = first _ _ e.holds.out;
      budget = first _ _ e.holds.budget;
    }
