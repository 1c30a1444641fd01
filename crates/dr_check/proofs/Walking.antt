-- A file that is read record by record, each judged over those before it.
use Rattle.std.proofs.Common.{◌≡◌, ◌<◌, ◌≤◌, ◌+◌, ◌⊎◌, inl, inr, true≢false, ℕ, Bool, true, false, List, [], ◌∷◌, ◌++◌, length, drop, Ok, Err, refl, ap, sym, ◌∙◌, subst, subst₂, arith, append_assoc}
use Rattle.std.proofs.lemmas.List.{append-nil, length-append, length_push}
use Rattle.std.proofs.Math.Seq.{drop-append_seam}
use Rattle.ld_terms.specs.Known.{judgement_at, line_entry, primitive_entry}
use Rattle.ld_terms.specs.Record.{Record, State, IsThere, Meets, IsNoEnd, Stand, Stands, start, after, final}
use Rattle.ld_env.specs.Entries.{env_of, AreLive}
use Rattle.dr_text.specs.Spelling.{header, record_bytes, records_bytes, spelling}
use Rattle.dr_text.specs.Read.{Reading, is_end, HasHeader, IsRecordAt, IsNoRecordAt, Reads, Parts}
use Rattle.dr_text.specs.Derives.{Derives}
use Rattle.dr_text.proofs.Legal.{derived_is_legal}
use Rattle.dr_text.proofs.Records.{final-append, stand-append, records_bytes-append}
use Rattle.dr_text.specs.declared.reader.RecordFault.{RecordFault}
use Rattle.dr_text.specs.declared.reader.RecordFault.TheVariants.{Malformed, Unfinished, BadRef, BadStep, Memory}
use Rattle.dr_check.specs.declared.check.Checked.{Checked}
use Rattle.dr_check.specs.Faults.{IsFirstFault, headless, misspelled, overlong, unfinished, reference, step}
use Rattle.dr_check.specs.Judging.{IsJudgedAs, AnswersNext, TakesNext, RefusesNext}
use Rattle.dr_check.specs.Checks.{IsDerived, IsRefused, ChecksFile}
use Rattle.dr_check.proofs.Refusing.{refutes}

-- what is answered of the next record is what is answered of it where it stands
pub refused_next : (old new : Reading) (read : Parts) (s t : State) (number : ℕ) (fault : RecordFault) → (h : Reads old new read)
    → IsJudgedAs {T = Unit {0}} s t h.it number (Err fault) → AnswersNext old new s t number (Err fault)
refused_next old new read s t number (BadRef j) h k = record { it = h.it; there = h.there; more = h.more; number_is = k.0; refused = k.1 }
refused_next old new read s t number (BadStep j) h k = record { it = h.it; there = h.there; more = h.more; number_is = k.0; refused = (k.1, k.2) }
refused_next old new read s t number Memory h k = tt
refused_next old new read s t number (Malformed at) h k = absurd k
refused_next old new read s t number Unfinished h k = absurd k

pub spelling-push : (rs : List Record) (r : Record) → spelling (rs ++ r ∷ []) ≡ spelling rs ++ record_bytes r
spelling-push rs r =
    ap (λ xs. header ++ xs) (records_bytes-append rs (r ∷ []) ∙ ap (λ xs. records_bytes rs ++ xs) (append-nil (record_bytes r)))
    ∙ sym (append_assoc header (records_bytes rs) (record_bytes r))

-- these records are spelled up to the place, and others may follow
record IsSpelled (bytes : List ℕ) (at : ℕ) (rs : List Record) : Type 0 where
  rest : List ℕ
  is : bytes ≡ spelling rs ++ rest
  place : at ≡ length (spelling rs)

left : (bytes : List ℕ) (at : ℕ) (rs : List Record) (h : IsSpelled bytes at rs) → drop at bytes ≡ h.rest
left bytes at rs h = ap (drop at) h.is ∙ ap (λ n. drop n (spelling rs ++ h.rest)) h.place ∙ drop-append_seam (spelling rs) h.rest

spelled_more : (bytes : List ℕ) (at : ℕ) (rs : List Record) (r : Record) → IsSpelled bytes at rs → IsRecordAt bytes at r
    → IsSpelled bytes (at + length (record_bytes r)) (rs ++ r ∷ [])
spelled_more bytes at rs r h k = record {
  rest = k.rest;
  is =
      h.is ∙ ap (λ xs. spelling rs ++ xs) (sym (left bytes at rs h) ∙ k.is)
      ∙ sym (ap (λ xs. xs ++ k.rest) (spelling-push rs r) ∙ append_assoc (spelling rs) (record_bytes r) k.rest);
  place = ap (λ n. n + length (record_bytes r)) h.place ∙ sym (ap length (spelling-push rs r) ∙ length-append (spelling rs) (record_bytes r));
}

-- Records that stand have been read, and so many of them; or an end record behind such ones.
data Front (bytes : List ℕ) (at : ℕ) (ended : Bool) (s : State) (number : ℕ) : Type 0 where
  running : (rs : List Record) → ended ≡ false → IsSpelled bytes at rs → Stand start rs → s ≡ final start rs → number ≡ length rs → Front bytes at ended s number
  finished : (rs : List Record) (n : ℕ) → ended ≡ true → IsSpelled bytes at (rs ++ Record.End n ∷ []) → Stand start rs → s ≡ final start rs → Stands s (Record.End n) → Front bytes at ended s number

-- the file is read up to a place, and its records so far have made the state
pub record HasRead (bytes : List ℕ) (reading : Reading) (s : State) (number : ℕ) : Type 0 where
  pub same : reading.bytes ≡ bytes
  pub few : length s.known.env ≤ number
  pub within : number ≤ reading.at
  pub place : reading.at ≤ length bytes
  front : Front bytes reading.at reading.ended s number

pub begun : (bytes : List ℕ) → HasHeader bytes → HasRead bytes (record { bytes = bytes; at = 8; ended = false }) start 0
begun bytes h = record {
  same = refl;
  few = omega arith;
  within = omega arith;
  place = omega (arith, ap length h.1, length-append header h.0);
  front = running [] refl (record { rest = h.0; is = h.1; place = refl }) tt refl refl;
}

-- at most one entry is added
entry_more : (s : State) (r : Record) → length (after s r).known.env ≤ length s.known.env + 1
entry_more s Record.Star = omega arith
entry_more s Record.Box = omega arith
entry_more s (Record.Var i) = omega arith
entry_more s (Record.App t u) = omega arith
entry_more s (Record.Lam t u) = omega arith
entry_more s (Record.Pi t u) = omega arith
entry_more s (Record.Const k ts) = omega arith
entry_more s (Record.Context c t) = omega arith
entry_more s (Record.Equal l r rule) = omega arith
entry_more s (Record.Node m c t u rule) = omega arith
entry_more s (Record.Entry name n) = omega (arith, length_push s.known.env (line_entry name (judgement_at s.known n)))
entry_more s (Record.PrimEntry name n) = omega (arith, length_push s.known.env (primitive_entry name (judgement_at s.known n)))
entry_more s (Record.Flag n) = omega arith
entry_more s (Record.End n) = omega arith

-- a record that ends, or one that doesn't
data Kind : Record → Type 0 where
  ends : (n : ℕ) → Kind (Record.End n)
  goes : {r : Record} → is_end r ≡ false → IsNoEnd r → Kind r

kind : (r : Record) → Kind r
kind (Record.End n) = ends n
kind Record.Star = goes refl tt
kind Record.Box = goes refl tt
kind (Record.Var i) = goes refl tt
kind (Record.App t u) = goes refl tt
kind (Record.Lam t u) = goes refl tt
kind (Record.Pi t u) = goes refl tt
kind (Record.Const k ts) = goes refl tt
kind (Record.Context c t) = goes refl tt
kind (Record.Equal l r rule) = goes refl tt
kind (Record.Node m c t u rule) = goes refl tt
kind (Record.Entry name n) = goes refl tt
kind (Record.PrimEntry name n) = goes refl tt
kind (Record.Flag n) = goes refl tt

front_more : (bytes : List ℕ) (at : ℕ) (s : State) (number : ℕ) (rs : List Record) (r : Record) → IsSpelled bytes at rs → Stand start rs → s ≡ final start rs → number ≡ length rs
    → IsRecordAt bytes at r → Stands s r → Front bytes (at + length (record_bytes r)) (is_end r) (after s r) (number + 1)
front_more bytes at s number rs r spelled stand made numbered there stands = by_kind (kind r) there stands
  where
    by_kind : {r : Record} → Kind r → IsRecordAt bytes at r → Stands s r → Front bytes (at + length (record_bytes r)) (is_end r) (after s r) (number + 1)
    by_kind (ends n) there stands = finished rs n refl (spelled_more bytes at rs (Record.End n) spelled there) stand made stands
    by_kind (goes {r = r} e no_end) there stands =
        running (rs ++ r ∷ []) e (spelled_more bytes at rs r spelled there)
        (stand-append start rs (r ∷ []) stand (no_end, subst (λ x. Stands x r) made stands, tt))
        (ap (λ x. after x r) made ∙ sym (final-append start rs (r ∷ [])))
        (omega (arith, length_push rs r))

-- the record at a place is within the bytes
within_bytes : (bytes : List ℕ) (at : ℕ) (r : Record) (rs : List Record) → IsSpelled bytes at rs → IsRecordAt bytes at r → at + length (record_bytes r) ≤ length bytes
within_bytes bytes at r rs h k =
    let m = spelled_more bytes at rs r h k in
    omega (arith, m.place, ap length m.is, length-append (spelling (rs ++ r ∷ [])) m.rest)

pub took : (bytes : List ℕ) (old new : Reading) (s t : State) (number : ℕ) → HasRead bytes old s number → TakesNext old new s t → HasRead bytes new t (number + 1)
took bytes old new s t number h k = by_front h.front
  where
    there : IsRecordAt bytes old.at k.it
    there = subst (λ (xs : List ℕ). IsRecordAt xs old.at k.it) h.same k.there

    by_front : Front bytes old.at old.ended s number → HasRead bytes new t (number + 1)
    by_front (finished rs n e spelled stand made stands) = absurd (true≢false (sym e ∙ k.more))
    by_front (running rs e spelled stand made numbered) =
        let P : Reading → State → Type 0 = λ x y. HasRead bytes x y (number + 1) in
        subst₂ P (sym k.next) (sym k.made) (record {
          same = h.same;
          few = omega (arith, entry_more s k.it, h.few);
          within = omega (arith, h.within);
          place = within_bytes bytes old.at k.it rs spelled there;
          front = front_more bytes old.at s number rs k.it spelled stand made numbered there k.stands;
        })

-- the file ends behind its end record
pub derived : (bytes : List ℕ) (old new : Reading) (s t : State) (number : ℕ) (checked : Checked) → HasRead bytes old s number → AnswersNext old new s t number (Ok false)
    → env_of checked.bank checked.env ≡ t.known.env → AreLive checked.bank checked.env → IsDerived bytes checked
derived bytes old new s t number checked h k trees live = by_front h.front
  where
    none : drop old.at bytes ≡ []
    none = subst (λ (xs : List ℕ). drop old.at xs ≡ []) h.same k.0

    by_front : Front bytes old.at old.ended s number → IsDerived bytes checked
    by_front (running rs e spelled stand made numbered) = absurd (true≢false (sym k.1 ∙ e))
    by_front (finished rs n e spelled stand made stands) =
        let env : (final start rs).known.env ≡ env_of checked.bank checked.env = sym (trees ∙ ap (λ (x : State). x.known.env) (k.2 ∙ made)) in
        let end : Stands (final start rs) (Record.End n) = subst (λ x. Stands x (Record.End n)) made stands in
        let derives : Derives bytes (env_of checked.bank checked.env) (final start rs).known.notes = record {
          listed = rs;
          last = n;
          spelled = spelled.is ∙ ap (λ xs. spelling (rs ++ Record.End n ∷ []) ++ xs) (sym (left bytes old.at (rs ++ Record.End n ∷ []) spelled) ∙ none) ∙ append-nil (spelling (rs ++ Record.End n ∷ []));
          stand = stand;
          end = end;
          env = env;
          notes = refl;
        } in
        record {
          notes = (final start rs).known.notes;
          derives = derives;
          legal = derived_is_legal bytes (env_of checked.bank checked.env) (final start rs).known.notes derives;
          live = live;
        }

-- a fault of the file
refused : (bytes : List ℕ) (fault : RecordFault) → IsFirstFault bytes fault → IsRefused bytes fault
refused bytes fault h = record { first = h; derives_nothing = λ entries notes d. refutes bytes entries notes d h }

pub no_header : (bytes : List ℕ) (fault : RecordFault) → (HasHeader bytes → ⊥) × (fault ≡ Malformed 0) → ChecksFile bytes (Err fault)
no_header bytes fault h = subst (λ x. ChecksFile bytes (Err x)) (sym h.1) (refused bytes (Malformed 0) (headless h.0))

module _ (bytes : List ℕ) (old new : Reading) (s t : State) (number : ℕ) (h : HasRead bytes old s number) where
  -- behind an end record no other is read
  still_running : (P : Type 0) → old.ended ≡ false
      → ((rs : List Record) → IsSpelled bytes old.at rs → Stand start rs → s ≡ final start rs → number ≡ length rs → P) → P
  still_running P e then = by_front h.front
    where
      by_front : Front bytes old.at old.ended s number → P
      by_front (running rs going spelled stand made numbered) = then rs spelled stand made numbered
      by_front (finished rs n ended spelled stand made stands) = absurd (true≢false (sym ended ∙ e))

  malformed : (at : ℕ) → at ≡ old.at → old.at < length bytes → (old.ended ≡ true) ⊎ IsNoRecordAt bytes old.at → IsFirstFault bytes (Malformed at)
  malformed at e more none = subst (λ n. IsFirstFault bytes (Malformed n)) (sym e) (by_front h.front none)
    where
      some : (rs : List Record) (k : IsSpelled bytes old.at rs) → k.rest ≡ [] → ⊥
      some rs k f = omega (arith, ap length k.is, length-append (spelling rs) k.rest, ap length f, k.place)

      by_front : Front bytes old.at old.ended s number → (old.ended ≡ true) ⊎ IsNoRecordAt bytes old.at → IsFirstFault bytes (Malformed old.at)
      by_front (running rs going k stand made numbered) (inl ended) = absurd (true≢false (sym ended ∙ going))
      by_front (running rs going k stand made numbered) (inr none) =
          subst (λ n. IsFirstFault bytes (Malformed n)) (sym k.place)
          (misspelled rs k.rest k.is stand (some rs k)
          (λ r behind spells is. none r (record { rest = behind; is = left bytes old.at rs k ∙ is; spelling = spells })))
      by_front (finished rs n ended k stand made stands) none =
          subst (λ n. IsFirstFault bytes (Malformed n)) (sym k.place)
          (overlong rs n k.rest k.is stand (subst (λ x. Stands x (Record.End n)) made stands) (some (rs ++ Record.End n ∷ []) k))

  unended : drop old.at bytes ≡ [] → old.ended ≡ false → IsFirstFault bytes Unfinished
  unended none e =
      still_running (IsFirstFault bytes Unfinished) e (λ rs k stand made numbered.
      unfinished rs (k.is ∙ ap (λ xs. spelling rs ++ xs) (sym (left bytes old.at rs k) ∙ none) ∙ append-nil (spelling rs)) stand)

  -- the bytes of records and one more
  one_more : (rs : List Record) (k : IsSpelled bytes old.at rs) (r : Record) (there : IsRecordAt bytes old.at r) → bytes ≡ spelling (rs ++ r ∷ []) ++ there.rest
  unfolding spelled_more
  one_more rs k r there = (spelled_more bytes old.at rs r k there).is

  bad_reference : (j : ℕ) → RefusesNext old number j (λ r. IsThere s r → ⊥) → IsFirstFault bytes (BadRef j)
  bad_reference j k =
      let there : IsRecordAt bytes old.at k.it = subst (λ (xs : List ℕ). IsRecordAt xs old.at k.it) h.same k.there in
      still_running (IsFirstFault bytes (BadRef j)) k.more (λ rs spelled stand made numbered.
      subst (λ n. IsFirstFault bytes (BadRef n)) (sym (k.number_is ∙ numbered))
      (reference rs k.it there.rest (one_more rs spelled k.it there) stand there.spelling (subst (λ x. IsThere x k.it → ⊥) made k.refused)))

  bad_step : (j : ℕ) → RefusesNext old number j (λ r. IsThere s r × (Meets s r → ⊥)) → IsFirstFault bytes (BadStep j)
  bad_step j k =
      let there : IsRecordAt bytes old.at k.it = subst (λ (xs : List ℕ). IsRecordAt xs old.at k.it) h.same k.there in
      still_running (IsFirstFault bytes (BadStep j)) k.more (λ rs spelled stand made numbered.
      subst (λ n. IsFirstFault bytes (BadStep n)) (sym (k.number_is ∙ numbered))
      (step rs k.it there.rest (one_more rs spelled k.it there) stand there.spelling (subst (λ x. IsThere x k.it) made k.refused.0) (subst (λ x. Meets x k.it → ⊥) made k.refused.1)))

  pub faulted : (fault : RecordFault) → AnswersNext old new s t number (Err fault) → ChecksFile bytes (Err fault)
  faulted (Malformed at) k =
      refused bytes (Malformed at)
      (malformed at k.0 (subst (λ (xs : List ℕ). old.at < length xs) h.same k.1)
      (subst (λ (xs : List ℕ). (old.ended ≡ true) ⊎ IsNoRecordAt xs old.at) h.same k.2))
  faulted Unfinished k = refused bytes Unfinished (unended (subst (λ (xs : List ℕ). drop old.at xs ≡ []) h.same k.0) k.1)
  faulted (BadRef j) k = refused bytes (BadRef j) (bad_reference j k)
  faulted (BadStep j) k = refused bytes (BadStep j) (bad_step j k)
  faulted Memory k = tt
