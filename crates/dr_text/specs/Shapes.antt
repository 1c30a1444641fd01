-- Where in a record its numbers stand, where a count of numbers, and where a name.
use Rattle.std.specs.Prelude.{◌≡◌, ◌<◌, ◌^◌, ℕ, List, [], ◌∷◌, ◌++◌, length}
use Rattle.std.specs.List.{AllByRecursion}
use Rattle.ld_terms.specs.Rule.{counted}
use Rattle.ld_terms.specs.Record.{Record, numbers_before, name_of, numbers_behind}
use Rattle.dr_text.specs.Spelling.{tag, numbers_bytes}
use Rattle.dr_text.specs.declared.shape.Shape.{Shape}
use Rattle.dr_text.specs.declared.shape.Shape.TheVariants.{Plain, Counted, Named}

-- the numbers are so many, and then some others behind their count
pub record IsCounted (front : ℕ) (numbers : List ℕ) : Type 0 where
  pub first : List ℕ
  pub others : List ℕ
  pub so_many : length first ≡ front
  pub is : numbers ≡ first ++ counted others

-- numbers, a name and further numbers follow one another so
abbrev pub Fits : Shape → (before name behind : List ℕ) → Type 0
Fits (Plain count) before name behind = (length before ≡ count) × (name ≡ []) × (behind ≡ [])
Fits (Counted front) before name behind = IsCounted front before × (name ≡ []) × (behind ≡ [])
Fits Named before name behind = (before ≡ length name ∷ []) × (length behind ≡ 1)

-- the record with this tag, these numbers and this name
pub record IsRecordOf (t : ℕ) (before name behind : List ℕ) : Type 0 where
  pub made : Record
  pub of_tag : tag made ≡ t
  pub of_before : numbers_before made ≡ before
  pub of_name : name_of made ≡ name
  pub of_behind : numbers_behind made ≡ behind

-- the records with this tag are those whose numbers and name fit
pub record IsShapeOf (t : ℕ) (shape : Shape) : Type 0 where
  pub fits : (r : Record) → tag r ≡ t → Fits shape (numbers_before r) (name_of r) (numbers_behind r)
  pub record_of : (before name behind : List ℕ) → Fits shape before name behind → IsRecordOf t before name behind

-- no record has this tag
abbrev pub IsNoTag : ℕ → Type 0
IsNoTag t = (r : Record) → tag r ≡ t → ⊥

-- the bytes begin with numbers, a name and further numbers, which fit
pub record Begins (shape : Shape) (bytes before name behind rest : List ℕ) : Type 0 where
  pub fits : Fits shape before name behind
  pub small : AllByRecursion (λ n. n < 2 ^ 64) (before ++ behind)
  pub name_bytes : AllByRecursion (λ b. b < 256) name
  pub is : bytes ≡ numbers_bytes before ++ (name ++ (numbers_bytes behind ++ rest))

-- the bytes begin with nothing that fits
abbrev pub BeginsNothing : Shape → List ℕ → Type 0
BeginsNothing shape bytes = (before name behind rest : List ℕ) → Begins shape bytes before name behind rest → ⊥

-- parts that fit, as bytes
pub record AreParts (shape : Shape) (bytes before name behind rest : List ℕ) : Type 0 where
  pub numbers : List ℕ
  pub others : List ℕ
  pub before_is : before ≡ numbers_bytes numbers
  pub behind_is : behind ≡ numbers_bytes others
  pub begins : Begins shape bytes numbers name others rest
