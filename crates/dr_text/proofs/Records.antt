-- Records that stand one after another, and their bytes.
use Rattle.std.proofs.Common.{◌≡◌, ◌<◌, ◌^◌, ℕ, suc, Bool, true, false, List, [], ◌∷◌, ◌++◌, length, get_or, Fits, w8, refl, ap, sym, ◌∙◌, subst, arith, append_assoc}
use Rattle.std.specs.List.{AllByRecursion}
use Rattle.std.proofs.lemmas.List.{append-nil}
use Rattle.ld_terms.specs.Record.{Record, State, IsNoEnd, Stands, Stand, after, final, name_of, numbers_before, numbers_behind}
use Rattle.dr_text.specs.Spelling.{tag, numbers_bytes, record_bytes, records_bytes}
use Rattle.dr_text.specs.Written.{Pushes, Writes, entry_record}

pub final-append : (s : State) (rs qs : List Record) → final s (rs ++ qs) ≡ final (final s rs) qs
final-append s [] qs = refl
final-append s (r ∷ rs) qs = final-append (after s r) rs qs

pub stand-append : (s : State) (rs qs : List Record) → Stand s rs → Stand (final s rs) qs → Stand s (rs ++ qs)
stand-append s [] qs h k = k
stand-append s (r ∷ rs) qs h k = (h.0, h.1, stand-append (after s r) rs qs h.2 k)

pub records_bytes-append : (rs qs : List Record) → records_bytes (rs ++ qs) ≡ records_bytes rs ++ records_bytes qs
records_bytes-append [] qs = refl
records_bytes-append (r ∷ rs) qs =
    ap (λ bytes. record_bytes r ++ bytes) (records_bytes-append rs qs) ∙ sym (append_assoc (record_bytes r) (records_bytes rs) (records_bytes qs))

abbrev pub writes_none : (s : State) (out : List ℕ) → Writes s out out
writes_none s out = record { records = []; spelled = sym (append-nil out); stand = tt }

abbrev pub writes_then : (s : State) (a b c : List ℕ) (w : Writes s a b) → Writes (final s w.records) b c → Writes s a c
writes_then s a b c w v = record {
  records = w.records ++ v.records;
  spelled = v.spelled ∙ ap (λ bytes. bytes ++ records_bytes v.records) w.spelled ∙ append_assoc a (records_bytes w.records) (records_bytes v.records)
      ∙ ap (λ bytes. a ++ bytes) (sym (records_bytes-append w.records v.records));
  stand = stand-append s w.records v.records w.stand v.stand;
}

-- one record more, where the state so far is known
pub writes_more : (s : State) (a c later : List ℕ) (w : Writes s a c) (x : State) (r : Record) → final s w.records ≡ x → IsNoEnd r → Stands x r
    → later ≡ c ++ record_bytes r → (v : Writes s a later) × (final s v.records ≡ after x r)
writes_more s a c later w x r reach no_end stands wrote =
    let S : State → Type 0 = λ y. Stand y (r ∷ []) in
    let tail : records_bytes (w.records ++ r ∷ []) ≡ records_bytes w.records ++ record_bytes r =
    records_bytes-append w.records (r ∷ []) ∙ ap (λ bytes. records_bytes w.records ++ bytes) (append-nil (record_bytes r)) in (
      record {
        records = w.records ++ r ∷ [];
        spelled = wrote ∙ ap (λ bytes. bytes ++ record_bytes r) w.spelled ∙ append_assoc a (records_bytes w.records) (record_bytes r) ∙ ap (λ bytes. a ++ bytes) (sym tail);
        stand = stand-append s w.records (r ∷ []) w.stand (subst S (sym reach) (no_end, stands, tt));
      },
      final-append s w.records (r ∷ []) ∙ ap (λ (y : State). after y r) reach,
    )

-- a record with no name is its tag and its numbers
pub pushes_plain : (before later : List ℕ) (r : Record) → name_of r ≡ [] → numbers_behind r ≡ []
    → later ≡ before ++ tag r ∷ numbers_bytes (numbers_before r) → AllByRecursion (λ n. n < 2 ^ 64) (numbers_before r) → Pushes before later r
pushes_plain before later r nameless last is range =
    let A : List ℕ → Type 0 = λ ns. AllByRecursion (λ n. n < 2 ^ 64) (numbers_before r ++ ns) in
    let B : List ℕ → Type 0 = λ bytes. AllByRecursion (λ b. b < 256) bytes in
    let C : List ℕ → Type 0 = λ ns. AllByRecursion (λ n. n < 2 ^ 64) ns in
    record {
      bytes = is ∙ ap (λ bytes. before ++ tag r ∷ bytes) (sym (append-nil (numbers_bytes (numbers_before r)))
          ∙ ap (λ bytes. numbers_bytes (numbers_before r) ++ bytes) (sym (ap (λ name. name ++ numbers_bytes (numbers_behind r)) nameless ∙ ap numbers_bytes last)));
      spelling = record {
        small_numbers = subst A (sym last) (subst C (sym (append-nil (numbers_before r))) range);
        name_bytes = subst B (sym nameless) tt;
      };
    }

entry_bytes : (before b c later name : List ℕ) (n t u : ℕ) → t ≡ u
    → b ≡ before ++ t ∷ numbers_bytes (length name ∷ []) → c ≡ b ++ name → later ≡ c ++ numbers_bytes (n ∷ [])
    → later ≡ before ++ u ∷ (numbers_bytes (length name ∷ []) ++ (name ++ numbers_bytes (n ∷ [])))
entry_bytes before b c later name n t u tagged one two three =
    let front = numbers_bytes (length name ∷ []) in
    let back = numbers_bytes (n ∷ []) in
    three ∙ ap (λ bytes. bytes ++ back) (two ∙ ap (λ bytes. bytes ++ name) (one ∙ ap (λ x. before ++ x ∷ front) tagged))
    ∙ ap (λ bytes. bytes ++ back) (append_assoc before (u ∷ front) name) ∙ append_assoc before ((u ∷ front) ++ name) back
    ∙ ap (λ bytes. before ++ u ∷ bytes) (append_assoc front name back)

-- an entry is its tag, the length of its name, the name and the number of its judgement
pub pushes_entry : (before b c later : List ℕ) (prim : Bool) (name : List ℕ) (n t : ℕ) → t ≡ tag (entry_record prim name n)
    → b ≡ before ++ t ∷ numbers_bytes (length name ∷ []) → c ≡ b ++ name → later ≡ c ++ numbers_bytes (n ∷ [])
    → length name < 2 ^ 64 → n < 2 ^ 64 → AllByRecursion (λ b. b < 256) name → Pushes before later (entry_record prim name n)
pushes_entry before b c later true name n t tagged one two three short low range = record {
  bytes = entry_bytes before b c later name n t 0x41 tagged one two three;
  spelling = record { small_numbers = (short, (low, tt)); name_bytes = range };
}
pushes_entry before b c later false name n t tagged one two three short low range = record {
  bytes = entry_bytes before b c later name n t 0x40 tagged one two three;
  spelling = record { small_numbers = (short, (low, tt)); name_bytes = range };
}

pub each_byte_fits : (bs : List ℕ) → ((i : ℕ) → Fits w8 (get_or bs i 0)) → AllByRecursion (λ b. b < 256) bs
each_byte_fits [] h = tt
each_byte_fits (b ∷ bs) h = (omega (arith, h 0), each_byte_fits bs (λ i. h (suc i)))
