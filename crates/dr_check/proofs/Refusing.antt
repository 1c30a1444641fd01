-- A file that has a fault derives nothing: what it begins with is read one way, and in a derivation each record stands.
use Rattle.std.proofs.Common.{◌≡◌, ◌≢◌, ℕ, List, [], ◌∷◌, ◌++◌, refl, ap, sym, ◌∙◌, subst, append_assoc}
use Rattle.std.proofs.lemmas.List.{append-nil, append_cancel_left}
use Rattle.ld_terms.specs.Entry.{Env}
use Rattle.ld_terms.specs.Known.{Note}
use Rattle.ld_terms.specs.Record.{Record, State, HasSpelling, IsNoEnd, Stand, Stands, start, after, final}
use Rattle.dr_text.specs.Spelling.{header, record_bytes, records_bytes, spelling}
use Rattle.dr_text.specs.Derives.{Derives}
use Rattle.dr_text.proofs.Once.{one_spelling}
use Rattle.dr_text.specs.declared.reader.RecordFault.{RecordFault}
use Rattle.dr_check.specs.Faults.{IsFirstFault, headless, misspelled, overlong, unfinished, reference, step}

-- the records behind some, in a list whose bytes begin with theirs
record Goes (rs all : List Record) (rest : List ℕ) : Type 0 where
  others : List Record
  are : all ≡ rs ++ others
  bytes : rest ≡ records_bytes others

goes : (rs all : List Record) (rest : List ℕ) → records_bytes rs ++ rest ≡ records_bytes all → Goes rs all rest
goes [] all rest e = record { others = all; are = refl; bytes = e }
goes (r ∷ rs) [] rest e = absurd (cc)
goes (r ∷ rs) (q ∷ all) rest e =
    let one = one_spelling r q (records_bytes rs ++ rest) (records_bytes all) (sym (append_assoc (record_bytes r) (records_bytes rs) rest) ∙ e) in
    let further = goes rs all rest one.1 in
    let first : q ≡ r = sym one.0 in
    record { others = further.others; are = (λ i. first i ∷ further.are i); bytes = further.bytes }

-- each record of a derivation stands over those before it
stands_at : (s : State) (ls : List Record) (n : ℕ) (rs : List Record) (q : Record) (qs : List Record) → Stand s ls → Stands (final s ls) (Record.End n)
    → ls ++ Record.End n ∷ [] ≡ rs ++ q ∷ qs → Stands (final s rs) q
stands_at s [] n [] q qs h last e = let same : Record.End n ≡ q = cc in subst (Stands s) same last
stands_at s [] n (r ∷ []) q qs h last e = absurd (cc)
stands_at s [] n (r ∷ (r' ∷ rs)) q qs h last e = absurd (cc)
stands_at s (l ∷ ls) n [] q qs h last e = let same : l ≡ q = cc in subst (Stands s) same h.1
stands_at s (l ∷ ls) n (r ∷ rs) q qs h last e =
    let same : l ≡ r = cc in
    let behind : ls ++ Record.End n ∷ [] ≡ rs ++ q ∷ qs = cc in
    subst (λ x. Stands (final (after s x) rs) q) same (stands_at (after s l) ls n rs q qs h.2 last behind)

-- nothing is behind its end record
none_behind : (s : State) (ls : List Record) (n : ℕ) (rs : List Record) (m : ℕ) (qs : List Record) → Stand s ls
    → ls ++ Record.End n ∷ [] ≡ rs ++ Record.End m ∷ qs → qs ≡ []
none_behind s [] n [] m qs h e = cc
none_behind s [] n (r ∷ []) m qs h e = absurd (cc)
none_behind s [] n (r ∷ (r' ∷ rs)) m qs h e = absurd (cc)
none_behind s (l ∷ ls) n [] m qs h e = let same : l ≡ Record.End m = cc in absurd (subst IsNoEnd same h.0)
none_behind s (l ∷ ls) n (r ∷ rs) m qs h e =
    let behind : ls ++ Record.End n ∷ [] ≡ rs ++ Record.End m ∷ qs = cc in
    none_behind (after s l) ls n rs m qs h.2 behind

-- the last of records of which none ends
no_end_last : (s : State) (ls : List Record) (r : Record) → Stand s (ls ++ r ∷ []) → IsNoEnd r
no_end_last s [] r h = h.0
no_end_last s (l ∷ ls) r h = no_end_last (after s l) ls r h.2

module _ (bytes : List ℕ) (entries : Env) (notes : List Note) (d : Derives bytes entries notes) where
  abbrev all : List Record
  all = d.listed ++ Record.End d.last ∷ []

  goes_on : (rs : List Record) (rest : List ℕ) → bytes ≡ spelling rs ++ rest → Goes rs all rest
  goes_on rs rest e = goes rs all rest
      (append_cancel_left header (records_bytes rs ++ rest) (records_bytes all) (sym (append_assoc header (records_bytes rs) rest) ∙ sym e ∙ d.spelled))

  stands : (rs : List Record) (q : Record) (qs : List Record) → all ≡ rs ++ q ∷ qs → Stands (final start rs) q
  stands rs q qs e = stands_at start d.listed d.last rs q qs d.stand d.end e

  -- a record behind some
  stands_behind : (rs : List Record) (q : Record) (rest : List ℕ) → bytes ≡ spelling (rs ++ q ∷ []) ++ rest → Stands (final start rs) q
  stands_behind rs q rest e =
      let g = goes_on (rs ++ q ∷ []) rest e in
      stands rs q g.others (g.are ∙ append_assoc rs (q ∷ []) g.others)

  none_left : (rs : List Record) (rest : List ℕ) (g : Goes rs all rest) → rest ≢ [] → ((r : Record) (behind : List ℕ) → HasSpelling r → rest ≡ record_bytes r ++ behind → ⊥) → ⊥
  none_left rs rest g some none = by_others g.others g.are g.bytes
    where
      by_others : (others : List Record) → all ≡ rs ++ others → rest ≡ records_bytes others → ⊥
      by_others [] are b = some b
      by_others (q ∷ qs) are b = none q (records_bytes qs) (stands rs q qs are).spelling b

  pub refutes : {fault : RecordFault} → IsFirstFault bytes fault → ⊥
  refutes (headless none) = none (records_bytes all, d.spelled)
  refutes (misspelled rs rest e stand some none) = none_left rs rest (goes_on rs rest e) some none
  refutes (overlong rs n rest e stand end some) =
      let g = goes_on (rs ++ Record.End n ∷ []) rest e in
      let none = none_behind start d.listed d.last rs n g.others d.stand (g.are ∙ append_assoc rs (Record.End n ∷ []) g.others) in
      some (g.bytes ∙ ap records_bytes none)
  refutes (unfinished rs e stand) =
      let g = goes_on rs [] (e ∙ sym (append-nil (spelling rs))) in
      by_others g.others g.are g.bytes
    where
      by_others : (others : List Record) → all ≡ rs ++ others → [] ≡ records_bytes others → ⊥
      by_others [] are b =
          no_end_last start d.listed (Record.End d.last) (subst (Stand start) (sym (are ∙ append-nil rs)) stand)
      by_others (q ∷ qs) are b = cc
  refutes (reference rs r rest e stand spells none) = none (stands_behind rs r rest e).there
  refutes (step rs r rest e stand spells there none) = none (stands_behind rs r rest e).meets
