-- `clap`'s walk over the words, a word at a time: what it comes to at a positional, at the option and at --. A positional or an option is
-- pending until the next word, and its fault shows only then.
use Rattle.std.proofs.Common.{◌≡◌, ◌∙◌, ◌==◌, ◌&&◌, ◌||◌, ℕ, Bool, true, false, suc, refl, sym, ap, ap₂, List, [], ◌∷◌, ◌++◌, Option, Some, None, true≢false, append-nil, codes}
use Rattle.std.specs.Prelude.{if◌then◌else◌}
use Rattle.std.specs.List.{fold}
use Rattle.std.specs.Str.{bytes_eq}
use Rattle.clap.specs.Lexer.{long_of, short_of}
use Rattle.clap.specs.Kinds.{Kinds, or_else}
use Rattle.clap.specs.Walk.{Held, Row, Rule, Text, Walk, idle, option, value, walked, settled, settled_rows, used, has_row, at_row, word_met, positional_held, after_step, is_pending, takes_several, pushed, with_values, without, more_values}
use Rattle.clap.specs.Simple.{Shape, built}
use Rattle.clap.specs.Faults.{walk_fault, settle_fault, turn_fault, use_fault, word_fault, step_fault}
use Rattle.clap.specs.Simple.{filled, with_index, new_rule}
use Rattle.clap.specs.Values.{reading_of}
use Rattle.clap.specs.declared.builder.value_parser.ValueParser.TheVariants as vp
use Rattle.clap.specs.declared.parser.matches.ValueSource.TheVariants.{CommandLine}
use Rattle.clap.specs.declared.error.kind.ErrorKind.TheVariants as kind
use Rattle.book_top.specs.CommandLine.{budget_rule}
use Rattle.clap.proofs.FaultLemmas.{turn_is}
use Rattle.clap.proofs.WalkLemmas.{walked_is}
use Rattle.book_top.specs.CommandLine.{line}
use Rattle.book_top.specs.Words.{is_option}

-- the command line as `clap` builds it, and its arguments
abbrev pub shape : Shape
shape = (built line).top

abbrev pub args : List Rule
args = shape.rules

-- the kinds of error from here to the end, and the rows at the end
abbrev pub fault : Walk → List Text → Kinds
fault w words = or_else (walk_fault shape [] w words) (settle_fault args false (fold (walked args []) w words).held)

abbrev pub rows_at_end : Walk → List Text → List Row
rows_at_end w words = (settled args (fold (walked args []) w words).held).rows

pub none_of : (a b : Kinds) → or_else a b ≡ [] → (a ≡ []) × (b ≡ [])
none_of [] b e = (refl, e)
none_of (k ∷ ks) b e = cc

-- a word that passes leaves the fault to the words after it
pub fault_past : (w after : Walk) (word : Text) (words : List Text) → turn_fault shape [] w word ≡ [] → walked args [] w word ≡ after → fault w (word ∷ words) ≡ fault after words
unfolding walk_fault
fault_past w after word words passes next =
    ap (λ k. or_else (or_else k (walk_fault shape [] (walked args [] w word) words)) (settle_fault args false (fold (walked args []) (walked args [] w word) words).held)) passes
    ∙ ap (λ v. fault v words) next

pub rows_past : (w after : Walk) (word : Text) (words : List Text) → walked args [] w word ≡ after → rows_at_end w (word ∷ words) ≡ rows_at_end after words
rows_past w after word words next = ap (λ v. rows_at_end v words) next

pub passed : (w : Walk) (word : Text) (words : List Text) → fault w (word ∷ words) ≡ [] → turn_fault shape [] w word ≡ []
unfolding walk_fault
passed w word words e = (none_of _ _ (none_of _ _ e).0).0

-- what is held between two words: the rows that are settled, and what is pending
abbrev pub held : Option (Text × List Text) → List Row → Held
held pending rows = record { rows = rows; pending = pending; skip = 0 }

-- where the walk stands between two words
abbrev pub at : Option (Text × List Text) → List Row → ℕ → Bool → Walk
at pending rows position trailing = record { held = held pending rows; waiting = idle; position = position; is_trailing = trailing; stopped = None }

-- a word that is no option, as `clap` sees it
record IsPlain (word : Text) : Type 0 where
  no_dashes : bytes_eq word (45 ∷ 45 ∷ []) ≡ false
  no_long : long_of word ≡ None
  no_short : short_of word ≡ None

plain_word : (word : Text) → is_option word ≡ false → IsPlain word
plain_word [] e = record { no_dashes = refl; no_long = refl; no_short = refl }
plain_word (b ∷ []) e = go (b == 45) refl
  where
    go : (t : Bool) → (b == 45) ≡ t → IsPlain (b ∷ [])
    go true same = record { no_dashes = rw same refl; no_long = rw same refl; no_short = rw same refl }
    go false same = record { no_dashes = rw same refl; no_long = rw same refl; no_short = rw same refl }
plain_word (b ∷ c ∷ bs) e = record { no_dashes = rw e refl; no_long = rw e refl; no_short = rw e refl }

-- ---- one use of an argument

-- the row of an argument that was used once
abbrev pub entry : Text → Text → Row
entry id v = record { id = id; values = v ∷ []; count = None; source = Some CommandLine; reading = reading_of vp.String }

-- where an id has no row, one joins at the end
at_none : (id : Text) (change : Row → List Row) (missing rows : List Row) → has_row id rows ≡ false → at_row id change missing rows ≡ rows ++ missing
at_none id change missing [] e = refl
at_none id change missing (r ∷ rs) e = go (bytes_eq r.id id) refl (λ miss. at_none id change missing rs (rw miss at e))
  where
    go : (b : Bool) → bytes_eq r.id id ≡ b → (bytes_eq r.id id ≡ false → at_row id change missing rs ≡ rs ++ missing) → at_row id change missing (r ∷ rs) ≡ (r ∷ rs) ++ missing
    go true hit more = absurd (true≢false (rw hit at e))
    go false miss more = rw miss (ap (λ xs. r ∷ xs) (more miss))

pub appends : (id v : Text) (rows : List Row) → has_row id rows ≡ false → with_values id (reading_of vp.String) CommandLine (v ∷ []) (without id rows) ≡ rows ++ entry id v ∷ []
appends id v rows none =
    let gone : without id rows ≡ rows = at_none id (λ _. []) [] rows none ∙ append-nil rows in
    ap (with_values id (reading_of vp.String) CommandLine (v ∷ [])) gone ∙ at_none id (more_values CommandLine (v ∷ [])) (entry id v ∷ []) rows none

-- a repeated use is refused
pub no_row : (b : Bool) (k : Kinds) → or_else (if b && true then kind.ArgumentConflict ∷ [] else []) k ≡ [] → b ≡ false
no_row true k e = cc
no_row false k e = refl

pub no_repeat : (b : Bool) → b ≡ false → or_else (if b && true then kind.ArgumentConflict ∷ [] else []) [] ≡ []
no_repeat b e = rw e refl

-- ---- one word

abbrev positional_rule : ℕ → Text → Rule
positional_rule i id = with_index i (filled (new_rule id))

abbrev pub budget_arg : Rule
budget_arg = filled budget_rule

-- the positional that stands at a place
pub data Place : ℕ → Text → Type 0 where
  first : Place 1 (codes "command")
  second : Place 2 (codes "file")
  third : Place 3 (codes "out")

-- the rows and the fault once what is pending is settled
abbrev pub rows_now : Option (Text × List Text) → List Row → List Row
rows_now pending rows = settled_rows args pending rows

abbrev pub fault_now : Option (Text × List Text) → List Row → Kinds
fault_now pending rows = settle_fault args false (held pending rows)

module _ (pending : Option (Text × List Text)) (rows : List Row) (word : Text) where
  met : (t : Bool) (position : ℕ) → (t ≡ false → is_option word ≡ false) → (held pending rows, value) ≡ word_met args [] t idle position word (held pending rows)
  met true position plain = refl
  met false position plain = let w = plain_word word (plain refl) in rw (w.no_dashes, w.no_long, w.no_short) refl

  no_fault : (t : Bool) → (t ≡ false → is_option word ≡ false) → word_fault shape [] t idle word (held pending rows) ≡ []
  no_fault true plain = refl
  no_fault false plain = let w = plain_word word (plain refl) in rw (w.no_dashes, w.no_long, w.no_short) refl

  held_is : (a : Rule) → takes_several a ≡ false → positional_held args a word (held pending rows) ≡ held (Some (a.id, word ∷ [])) (rows_now pending rows)
  held_is a single = rw single (go (is_pending a pending))
    where
      go : (b : Bool) → pushed a.id word (if b && false then held pending rows else settled args (held pending rows)) ≡ held (Some (a.id, word ∷ [])) (rows_now pending rows)
      go true = refl
      go false = refl

  or_false : (b : Bool) → (b || false) ≡ b
  or_false true = refl
  or_false false = refl

  settles : (b : Bool) → (if b && false then [] else fault_now pending rows) ≡ fault_now pending rows
  settles true = refl
  settles false = refl

  pub positional_walked : (position : ℕ) (id : Text) (t : Bool) → Place position id → (t ≡ false → is_option word ≡ false)
      → walked args [] (at pending rows position t) word ≡ at (Some (id, word ∷ [])) (rows_now pending rows) (suc position) t
  positional_walked position id t place plain =
      sym (walked_is args [] (at pending rows position t) word (held pending rows) value (met t position plain)) ∙ go position id place
    where
      go : (position : ℕ) (id : Text) → Place position id → after_step args word (at pending rows position t) (held pending rows) value ≡ at (Some (id, word ∷ [])) (rows_now pending rows) (suc position) t
      go _ _ first = ap₂ (λ h b. record { held = h; waiting = idle; position = 2; is_trailing = b; stopped = None }) (held_is (positional_rule 1 (codes "command")) refl) (or_false t)
      go _ _ second = ap₂ (λ h b. record { held = h; waiting = idle; position = 3; is_trailing = b; stopped = None }) (held_is (positional_rule 2 (codes "file")) refl) (or_false t)
      go _ _ third = ap₂ (λ h b. record { held = h; waiting = idle; position = 4; is_trailing = b; stopped = None }) (held_is (positional_rule 3 (codes "out")) refl) (or_false t)

  pub positional_fault : (position : ℕ) (id : Text) (t : Bool) → Place position id → (t ≡ false → is_option word ≡ false)
      → turn_fault shape [] (at pending rows position t) word ≡ fault_now pending rows
  positional_fault position id t place plain =
      sym (turn_is shape [] (at pending rows position t) word (held pending rows) value (met t position plain) (no_fault t plain)) ∙ go position id place
    where
      go : (position : ℕ) (id : Text) → Place position id → step_fault shape position (held pending rows) value ≡ fault_now pending rows
      go _ _ first = settles (is_pending (positional_rule 1 (codes "command")) pending)
      go _ _ second = settles (is_pending (positional_rule 2 (codes "file")) pending)
      go _ _ third = settles (is_pending (positional_rule 3 (codes "out")) pending)

  pub stray_fault : (t : Bool) → (t ≡ false → is_option word ≡ false) → turn_fault shape [] (at pending rows 4 t) word ≡ kind.UnknownArgument ∷ []
  stray_fault t plain = sym (turn_is shape [] (at pending rows 4 t) word (held pending rows) value (met t 4 plain) (no_fault t plain))

-- an option that waits for its value
abbrev pub waits : List Row → ℕ → Bool → Walk
waits rows position trailing =
    record { held = held (Some (codes "budget", [])) rows; waiting = option (codes "budget"); position = position; is_trailing = trailing; stopped = None }

module _ (pending : Option (Text × List Text)) (rows : List Row) (position : ℕ) where
  pub budget_fault : turn_fault shape [] (at pending rows position false) (codes "--budget") ≡ or_else (fault_now pending rows) []
  budget_fault = refl

  pub budget_walked : walked args [] (at pending rows position false) (codes "--budget") ≡ waits (rows_now pending rows) position false
  unfolding walked
  budget_walked = refl

  pub dashes_fault : turn_fault shape [] (at pending rows position false) (codes "--") ≡ []
  dashes_fault = refl

  pub dashes_walked : walked args [] (at pending rows position false) (codes "--") ≡ at pending rows position true
  unfolding walked
  dashes_walked = refl

  pub joined_fault : (text : Text) → turn_fault shape [] (at pending rows position false) (codes "--budget=" ++ text)
      ≡ or_else (or_else (fault_now pending rows) (use_fault false budget_arg (text ∷ []) (rows_now pending rows))) []
  joined_fault text = refl

  pub joined_walked : (text : Text) → walked args [] (at pending rows position false) (codes "--budget=" ++ text) ≡ at None (used budget_arg (text ∷ []) (rows_now pending rows)) position false
  unfolding walked
  joined_walked text = refl

  pub value_fault : (text : Text) → is_option text ≡ false → turn_fault shape [] (waits rows position false) text ≡ []
  value_fault text plain = let w = plain_word text plain in rw (w.no_dashes, w.no_long, w.no_short) refl

  pub value_walked : (text : Text) → is_option text ≡ false → walked args [] (waits rows position false) text ≡ at (Some (codes "budget", text ∷ [])) rows position false
  unfolding walked
  value_walked text plain = let w = plain_word text plain in rw (w.no_dashes, w.no_long, w.no_short) refl

  pub waits_dashes : walked args [] (waits rows position false) (codes "--") ≡ waits rows position true
  unfolding walked
  waits_dashes = refl
