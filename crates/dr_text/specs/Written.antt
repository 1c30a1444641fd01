-- What a writer has written, and what it appends.
use Rattle.std.specs.Prelude.{Bool, true, false, ◌≡◌, ◌<◌, ◌≤◌, ℕ, List, [], ◌∷◌, ◌++◌, length, map, take, Option, Some, None, slice_index_or}
use Rattle.std.specs.List.{AllByRecursion}
use Rattle.ld_terms.specs.Tree.{Tree, Trees, Star, Box, Nil}
use Rattle.ld_terms.specs.Item.{Item}
use Rattle.ld_terms.specs.Bank.{tree_at, IsTermAt}
use Rattle.ld_terms.specs.Known.{Known, Judgement, trees}
use Rattle.ld_terms.specs.Record.{Record, State, start, term_at, HasSpelling, IsTerm, Stand, final}
use Rattle.ld_terms.specs.declared.bank.TermId.{TermId}
use Rattle.ld_record.specs.declared.record.JudgeId.{JudgeId}
use Rattle.ld_record.specs.declared.record.Kept.{Kept}
use Rattle.ld_record.specs.declared.record.Kept.TheVariants.{Context, Equal, Node, Entry, Flag}
use Rattle.ld_record.specs.Kept.{known_of, with_kept, Fits}
use Rattle.dr_text.specs.declared.terms.Terms.{Terms}
use Rattle.dr_text.specs.declared.writer.Writer.{Writer}
use Rattle.ld_terms.specs.Named.{IsNamed, AreNamed}
use Rattle.dr_text.specs.Spelling.{spelling, record_bytes, records_bytes}
use Rattle.dr_text.specs.Derives.{Derives}

-- the number that a term has in the file, if it is written
abbrev pub number_in : List (Option ℕ) → TermId → Option ℕ
number_in numbers t = slice_index_or numbers t.0 None

-- the number in the file is that of the term's tree
pub record IsNumberOf (items : List Item) (s : State) (t : TermId) (n : ℕ) : Type 0 where
  pub live : t.0 < length items
  pub there : n < length s.terms
  pub is : term_at s n ≡ tree_at items t

-- the numbers of terms are those in the file, after records with this state
pub record Matches (items : List Item) (terms : Terms) (s : State) : Type 0 where
  pub all : length s.terms ≡ terms.written
  pub each : (t : TermId) (n : ℕ) → number_in terms.numbers.items t ≡ Some n → IsNumberOf items s t n

-- later on a number from before is that of the same term
pub record KeepsNumbers (old new : Terms) : Type 0 where
  pub longer : old.written ≤ new.written
  pub same : (t : TermId) (n : ℕ) → number_in new.numbers.items t ≡ Some n → n < old.written → number_in old.numbers.items t ≡ Some n

pub record HasSameNumbers (old new : Terms) : Type 0 where
  pub count : new.written ≡ old.written
  pub same : (t : TermId) → number_in new.numbers.items t ≡ number_in old.numbers.items t

-- so many terms are left, by their numbers
pub record Forgets (count : ℕ) (old new : Terms) : Type 0 where
  pub left : new.written ≡ count
  pub each : (t : TermId) (n : ℕ) → number_in new.numbers.items t ≡ Some n → (n < count) × (number_in old.numbers.items t ≡ Some n)

-- The content is the header and records that say what the first of the kept ones say, so many as the writer has counted.
pub record IsWritten (items : List Item) (kept : List Kept) (writer : Writer) (content : List ℕ) : Type 0 where
  pub records : List Record
  pub spelled : content ≡ spelling records
  pub stand : Stand start records
  pub within : writer.written ≤ length kept
  pub known : (final start records).known ≡ known_of items (take writer.written kept)
  pub matches : Matches items writer.terms (final start records)

-- the judgement with which a derivation ends
abbrev pub last_judgement : Known → Judgement
last_judgement known = record { entries = length known.env; context = Nil; term = Star; type = Box }

-- with an end the content is a derivation file, else one that is written so far
abbrev pub IsContent : List Item → List Kept → Writer → Option JudgeId → List ℕ → Type 0
IsContent items kept writer None content = IsWritten items kept writer content
IsContent items kept writer (Some j) content = Derives content (known_of items kept).env (known_of items kept).notes

-- What was appended goes on with the content.
pub record GoesOn (items : List Item) (kept : List Kept) (new : Writer) (front before later : List ℕ) (ended : Option JudgeId) : Type 0 where
  pub added : List ℕ
  pub appended : later ≡ before ++ added
  pub content : IsContent items kept new ended (front ++ added)

-- All kept records are written, and what was appended goes on with any content that the writer has written.
pub record Appends (items : List Item) (kept : List Kept) (old new : Writer) (before later : List ℕ) (ended : Option JudgeId) : Type 0 where
  pub all : new.written ≡ length kept
  pub goes_on : (front : List ℕ) → IsWritten items kept old front → GoesOn items kept new front before later ended

-- Nothing is appended, and what the writer had written is what it has written.
pub record IsUndone (old new : Writer) (before later : List ℕ) : Type 0 where
  pub nothing : later ≡ before
  pub count : new.written ≡ old.written
  pub stays : (items : List Item) (kept : List Kept) (content : List ℕ) → IsWritten items kept old content → IsWritten items kept new content

-- the bytes of one record are appended
pub record Pushes (before later : List ℕ) (r : Record) : Type 0 where
  pub bytes : later ≡ before ++ record_bytes r
  pub spelling : HasSpelling r

-- The bytes behind those before are the spelling of records that stand from the state on.
pub record Writes (s : State) (before later : List ℕ) : Type 0 where
  pub records : List Record
  pub spelled : later ≡ before ++ records_bytes records
  pub stand : Stand s records

-- later on all terms are there, and nothing else is known
pub record AddsTerms (s later : State) : Type 0 where
  pub known : later.known ≡ s.known
  pub longer : length s.terms ≤ length later.terms
  pub kept : (n : ℕ) → n < length s.terms → term_at later n ≡ term_at s n

-- the term is written, and has this number
pub record Numbered (items : List Item) (s : State) (terms : Terms) (before later : List ℕ) (t : Tree) (n : ℕ) : Type 0 where
  pub writes : Writes s before later
  pub adds : AddsTerms s (final s writes.records)
  pub matches : Matches items terms (final s writes.records)
  pub there : n < length (final s writes.records).terms
  pub is : term_at (final s writes.records) n ≡ t

-- the terms of a list are written, and have these numbers
pub record AllNumbered (items : List Item) (s : State) (terms : Terms) (before later : List ℕ) (us : Trees) (ns : List ℕ) : Type 0 where
  pub writes : Writes s before later
  pub adds : AddsTerms s (final s writes.records)
  pub matches : Matches items terms (final s writes.records)
  pub there : AllByRecursion (IsTerm (final s writes.records)) ns
  pub are : trees (map (term_at (final s writes.records)) ns) ≡ us

-- the term is written, as the last one, and its number is not yet kept
pub record JustWritten (items : List Item) (s : State) (terms : Terms) (before later : List ℕ) (t : Tree) : Type 0 where
  pub writes : Writes s before later
  pub before_it : State
  pub adds : AddsTerms s before_it
  pub matches : Matches items terms before_it
  pub reached : final s writes.records ≡ record before_it { terms = before_it.terms ++ t ∷ [] }

-- from any state that the numbers match on, the term is written and has this number
abbrev pub Numbers : List Item → Terms → Terms → List ℕ → List ℕ → Tree → ℕ → Type 0
Numbers items old new before later t n =
    (s : State) → Matches items old s → IsNamed s.known.env t → Numbered items s new before later t n

-- the same of the terms of a list
abbrev pub NumbersAll : List Item → Terms → Terms → List ℕ → List ℕ → Trees → List ℕ → Type 0
NumbersAll items old new before later us ns =
    (s : State) → Matches items old s → AreNamed s.known.env us → AllNumbered items s new before later us ns

-- from any such state on, the term is written, as the last one
abbrev pub WritesTerm : List Item → Terms → Terms → List ℕ → List ℕ → Tree → Type 0
WritesTerm items old new before later t =
    (s : State) → Matches items old s → IsNamed s.known.env t → JustWritten items s new before later t

-- the record of an entry, of a primitive or of a line
abbrev pub entry_record : (prim : Bool) → List ℕ → ℕ → Record
entry_record true name n = Record.PrimEntry name n
entry_record false name n = Record.Entry name n

-- the terms of a record are terms of the bank
abbrev pub HasTerms : List Item → Kept → Type 0
HasTerms items (Context c t) = IsTermAt items t
HasTerms items (Equal left right step) = IsTermAt items left × IsTermAt items right
HasTerms items (Node judge step) = IsTermAt items judge.term × IsTermAt items judge.of
HasTerms items (Entry name j prim) = Unit {0}
HasTerms items (Flag j) = Unit {0}

-- the terms of a record name entries as they are known
abbrev pub HasNamedTerms : List Item → Known → Kept → Type 0
HasNamedTerms items known (Context c t) = IsNamed known.env (tree_at items t)
HasNamedTerms items known (Equal left right step) = IsNamed known.env (tree_at items left) × IsNamed known.env (tree_at items right)
HasNamedTerms items known (Node judge step) = IsNamed known.env (tree_at items judge.term) × IsNamed known.env (tree_at items judge.of)
HasNamedTerms items known (Entry name j prim) = Unit {0}
HasNamedTerms items known (Flag j) = Unit {0}

-- records are written, after which this is known
pub record Reached (items : List Item) (s : State) (terms : Terms) (before later : List ℕ) (known : Known) : Type 0 where
  pub writes : Writes s before later
  pub knows : (final s writes.records).known ≡ known
  pub matches : Matches items terms (final s writes.records)

-- from any such state on, a kept record is written, behind the terms that it names
abbrev pub WritesKept : List Item → Terms → Terms → List ℕ → List ℕ → Kept → Type 0
WritesKept items old new before later k =
    (s : State) → Matches items old s → Fits items s.known k → HasNamedTerms items s.known k →
    Reached items s new before later (with_kept items s.known k)

-- from where the records before one place are written, those before another are written
abbrev pub Carries : List Item → List Kept → Terms → Terms → List ℕ → List ℕ → (from to : ℕ) → Type 0
Carries items kept old new before later from to =
    (s : State) → Matches items old s → s.known ≡ known_of items (take from kept) →
    Reached items s new before later (known_of items (take to kept))
