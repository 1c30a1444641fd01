-- A file has one first fault: records that stand are read up to one place, and one thing is wrong there.
use Rattle.std.proofs.Common.{◌≡◌, ◌≢◌, ◌⊎◌, ◌+◌, inl, inr, ℕ, List, [], ◌∷◌, ◌++◌, length, refl, ap, sym, ◌∙◌, subst, subst₂, append_assoc}
use Rattle.std.proofs.lemmas.List.{append-nil, append_cancel_left, length-append}
use Rattle.ld_terms.specs.Record.{Record, State, HasSpelling, IsThere, Meets, IsNoEnd, Stand, Stands, start, after, final}
use Rattle.dr_text.specs.Spelling.{header, record_bytes, records_bytes, spelling}
use Rattle.dr_text.specs.Read.{HasHeader, BeginsNoRecord}
use Rattle.dr_text.proofs.Once.{one_spelling}
use Rattle.dr_text.specs.declared.reader.RecordFault.{RecordFault}
use Rattle.dr_text.specs.declared.reader.RecordFault.TheVariants.{Malformed, Unfinished, BadRef, BadStep}
use Rattle.dr_check.specs.Faults.{IsFirstFault}
use Rattle.dr_check.specs.Laws.{OneFirstFault}
use Rattle.dr_check.proofs.Walking.{spelling-push}

-- what is wrong with the bytes behind records that have made the state
data Stops (at number : ℕ) (s : State) (left : List ℕ) : RecordFault → Type 0 where
  misspelled : left ≢ [] → BeginsNoRecord left → Stops at number s left (Malformed at)
  overlong : (n : ℕ) (rest : List ℕ) → left ≡ record_bytes (Record.End n) ++ rest → Stands s (Record.End n) → rest ≢ [] →
      Stops at number s left (Malformed (at + length (record_bytes (Record.End n))))
  unfinished : left ≡ [] → Stops at number s left Unfinished
  reference : (r : Record) (rest : List ℕ) → left ≡ record_bytes r ++ rest → HasSpelling r → (IsThere s r → ⊥) → Stops at number s left (BadRef number)
  step : (r : Record) (rest : List ℕ) → left ≡ record_bytes r ++ rest → HasSpelling r → IsThere s r → (Meets s r → ⊥) → Stops at number s left (BadStep number)

same_first : (left : List ℕ) (r q : Record) (a b : List ℕ) → left ≡ record_bytes r ++ a → left ≡ record_bytes q ++ b → r ≡ q
same_first left r q a b e f = (one_spelling r q a b (sym e ∙ f)).0

not_none : {P : Type 0} (left : List ℕ) (r : Record) (a : List ℕ) → left ≡ [] → left ≡ record_bytes r ++ a → P
not_none left r a e f = absurd (cc)

-- no record that stands is behind them
stops_there : {at number : ℕ} {s : State} {left : List ℕ} {f : RecordFault} → Stops at number s left f → (x : Record) (b : List ℕ) → left ≡ record_bytes x ++ b → IsNoEnd x → Stands s x → ⊥
stops_there (misspelled some none) x b e no_end stands = none x b stands.spelling e
stops_there {left = left} (overlong n rest f end some) x b e no_end stands = subst IsNoEnd (sym (same_first left (Record.End n) x rest b f e)) no_end
stops_there {left = left} (unfinished f) x b e no_end stands = not_none left x b f e
stops_there {s = s} {left = left} (reference r rest f spells none) x b e no_end stands = none (subst (IsThere s) (sym (same_first left r x rest b f e)) stands.there)
stops_there {s = s} {left = left} (step r rest f spells there none) x b e no_end stands = none (subst (Meets s) (sym (same_first left r x rest b f e)) stands.meets)

-- one thing is wrong at a place
one_stop : {at number : ℕ} {s : State} {left : List ℕ} {f g : RecordFault} → Stops at number s left f → Stops at number s left g → f ≡ g
one_stop (misspelled some none) (misspelled some' none') = refl
one_stop (misspelled some none) (overlong m rest' e' end' some') = absurd (none (Record.End m) rest' end'.spelling e')
one_stop (misspelled some none) (unfinished e') = absurd (some e')
one_stop (misspelled some none) (reference q rest' e' spells' lacks') = absurd (none q rest' spells' e')
one_stop (misspelled some none) (step q rest' e' spells' there' lacks') = absurd (none q rest' spells' e')
one_stop (overlong n rest e end some) (misspelled some' none') = absurd (none' (Record.End n) rest end.spelling e)
one_stop {at = at} {left = left} (overlong n rest e end some) (overlong m rest' e' end' some') =
    ap (λ r. Malformed (at + length (record_bytes r))) (same_first left (Record.End n) (Record.End m) rest rest' e e')
one_stop {left = left} (overlong n rest e end some) (unfinished e') = not_none left (Record.End n) rest e' e
one_stop {s = s} {left = left} (overlong n rest e end some) (reference q rest' e' spells' lacks') =
    absurd (lacks' (subst (IsThere s) (same_first left (Record.End n) q rest rest' e e') end.there))
one_stop {s = s} {left = left} (overlong n rest e end some) (step q rest' e' spells' there' lacks') =
    absurd (lacks' (subst (Meets s) (same_first left (Record.End n) q rest rest' e e') end.meets))
one_stop (unfinished e) (misspelled some' none') = absurd (some' e)
one_stop {left = left} (unfinished e) (overlong m rest' e' end' some') = not_none left (Record.End m) rest' e e'
one_stop (unfinished e) (unfinished e') = refl
one_stop {left = left} (unfinished e) (reference q rest' e' spells' lacks') = not_none left q rest' e e'
one_stop {left = left} (unfinished e) (step q rest' e' spells' there' lacks') = not_none left q rest' e e'
one_stop (reference r rest e spells lacks) (misspelled some' none') = absurd (none' r rest spells e)
one_stop {s = s} {left = left} (reference r rest e spells lacks) (overlong m rest' e' end' some') =
    absurd (lacks (subst (IsThere s) (same_first left (Record.End m) r rest' rest e' e) end'.there))
one_stop {left = left} (reference r rest e spells lacks) (unfinished e') = not_none left r rest e' e
one_stop (reference r rest e spells lacks) (reference q rest' e' spells' lacks') = refl
one_stop {s = s} {left = left} (reference r rest e spells lacks) (step q rest' e' spells' there' lacks') =
    absurd (lacks (subst (IsThere s) (same_first left q r rest' rest e' e) there'))
one_stop (step r rest e spells there lacks) (misspelled some' none') = absurd (none' r rest spells e)
one_stop {s = s} {left = left} (step r rest e spells there lacks) (overlong m rest' e' end' some') =
    absurd (lacks (subst (Meets s) (same_first left (Record.End m) r rest' rest e' e) end'.meets))
one_stop {left = left} (step r rest e spells there lacks) (unfinished e') = not_none left r rest e' e
one_stop {s = s} {left = left} (step r rest e spells there lacks) (reference q rest' e' spells' lacks') =
    absurd (lacks' (subst (IsThere s) (same_first left r q rest rest' e e') there))
one_stop (step r rest e spells there lacks) (step q rest' e' spells' there' lacks') = refl

-- both stop behind the same records
same_front : {at number at' number' : ℕ} {f g : RecordFault} (s : State) (rs qs : List Record) (a b : List ℕ) → records_bytes rs ++ a ≡ records_bytes qs ++ b → Stand s rs → Stand s qs
    → Stops at number (final s rs) a f → Stops at' number' (final s qs) b g → rs ≡ qs
same_front s [] [] a b e h k f g = refl
same_front s [] (q ∷ qs) a b e h k f g = absurd (stops_there f q (records_bytes qs ++ b) (e ∙ append_assoc (record_bytes q) (records_bytes qs) b) k.0 k.1)
same_front s (r ∷ rs) [] a b e h k f g = absurd (stops_there g r (records_bytes rs ++ a) (sym e ∙ append_assoc (record_bytes r) (records_bytes rs) a) h.0 h.1)
same_front {at' = at'} {number' = number'} {g = fault} s (r ∷ rs) (q ∷ qs) a b e h k f g =
    let one = one_spelling r q (records_bytes rs ++ a) (records_bytes qs ++ b)
    (sym (append_assoc (record_bytes r) (records_bytes rs) a) ∙ e ∙ append_assoc (record_bytes q) (records_bytes qs) b) in
    let first : r ≡ q = one.0 in
    let behind = same_front (after s r) rs qs a b one.1 h.2 (subst (λ x. Stand (after s x) qs) (sym first) k.2)
    f (subst (λ x. Stops at' number' (final (after s x) qs) b fault) (sym first) g) in
    (λ i. first i ∷ behind i)

record Stopped (bytes : List ℕ) (fault : RecordFault) : Type 0 where
  records : List Record
  left : List ℕ
  is : bytes ≡ spelling records ++ left
  stand : Stand start records
  stops : Stops (length (spelling records)) (length records) (final start records) left fault

behind_one : (bytes : List ℕ) (rs : List Record) (r : Record) (rest : List ℕ) → bytes ≡ spelling (rs ++ r ∷ []) ++ rest → bytes ≡ spelling rs ++ (record_bytes r ++ rest)
behind_one bytes rs r rest e = e ∙ ap (λ xs. xs ++ rest) (spelling-push rs r) ∙ append_assoc (spelling rs) (record_bytes r) rest

stopped : (bytes : List ℕ) {f : RecordFault} → IsFirstFault bytes f → ((HasHeader bytes → ⊥) × (f ≡ Malformed 0)) ⊎ Stopped bytes f
stopped bytes (IsFirstFault.headless none) = inl (none, refl)
stopped bytes (IsFirstFault.misspelled rs rest e stand some none) = inr (record { records = rs; left = rest; is = e; stand = stand; stops = misspelled some none })
stopped bytes (IsFirstFault.overlong rs n rest e stand end some) =
    let r = Record.End n in
    let place : length (spelling (rs ++ r ∷ [])) ≡ length (spelling rs) + length (record_bytes r) = ap length (spelling-push rs r) ∙ length-append (spelling rs) (record_bytes r) in
    inr (record {
      records = rs;
      left = record_bytes r ++ rest;
      is = behind_one bytes rs r rest e;
      stand = stand;
      stops = subst (λ k. Stops (length (spelling rs)) (length rs) (final start rs) (record_bytes r ++ rest) (Malformed k)) (sym place) (overlong n rest refl end some);
    })
stopped bytes (IsFirstFault.unfinished rs e stand) = inr (record { records = rs; left = []; is = e ∙ sym (append-nil (spelling rs)); stand = stand; stops = unfinished refl })
stopped bytes (IsFirstFault.reference rs r rest e stand spells none) =
    inr (record { records = rs; left = record_bytes r ++ rest; is = behind_one bytes rs r rest e; stand = stand; stops = reference r rest refl spells none })
stopped bytes (IsFirstFault.step rs r rest e stand spells there none) =
    inr (record { records = rs; left = record_bytes r ++ rest; is = behind_one bytes rs r rest e; stand = stand; stops = step r rest refl spells there none })

headed : (bytes : List ℕ) {f : RecordFault} → Stopped bytes f → HasHeader bytes
headed bytes h = (records_bytes h.records ++ h.left, h.is ∙ append_assoc header (records_bytes h.records) h.left)

one_stopped : (bytes : List ℕ) (f g : RecordFault) → Stopped bytes f → Stopped bytes g → f ≡ g
unfolding headed
one_stopped bytes f g h k =
    let bodies : records_bytes h.records ++ h.left ≡ records_bytes k.records ++ k.left =
    append_cancel_left header (records_bytes h.records ++ h.left) (records_bytes k.records ++ k.left) (sym (headed bytes h).1 ∙ (headed bytes k).1) in
    let same : h.records ≡ k.records = same_front start h.records k.records h.left k.left bodies h.stand k.stand h.stops k.stops in
    let left : k.left ≡ h.left = append_cancel_left (spelling k.records) k.left h.left (sym k.is ∙ h.is ∙ ap (λ rs. spelling rs ++ h.left) same) in
    let P : List Record → List ℕ → Type 0 = λ rs xs. Stops (length (spelling rs)) (length rs) (final start rs) xs g in
    one_stop h.stops (subst₂ P (sym same) left k.stops)

pub one_first_fault : OneFirstFault
one_first_fault bytes f g h k = by_cases (stopped bytes h) (stopped bytes k)
  where
    by_cases : ((HasHeader bytes → ⊥) × (f ≡ Malformed 0)) ⊎ Stopped bytes f → ((HasHeader bytes → ⊥) × (g ≡ Malformed 0)) ⊎ Stopped bytes g → f ≡ g
    by_cases (inl a) (inl b) = a.1 ∙ sym b.1
    by_cases (inl a) (inr b) = absurd (a.0 (headed bytes b))
    by_cases (inr a) (inl b) = absurd (b.0 (headed bytes a))
    by_cases (inr a) (inr b) = one_stopped bytes f g a b
