-- Items one after another.
use Rattle.std.proofs.Common.{◌≡◌, ◌+◌, ℕ, suc, List, [], ◌∷◌, ◌++◌, ap, arith, sym, ◌∙◌}
use Rattle.std.proofs.lemmas.Option.{slice_get_within}
use mathlib.Core.Logic.{inl, inr}
use Rattle.ld_terms.specs.Entry.{Entry, EntryAt}
use Rattle.ld_laws.proofs.Scoping.{entry_of_more}
use Rattle.fb_steps.specs.Items.{Item}
use Rattle.fb_steps.specs.Places.{Place, closed_to, line_entry}
use Rattle.fb_steps.specs.Spells.{Spells, Derives}
use Rattle.fb_steps.specs.Spells as spelled
use Rattle.fb_steps.specs.Named.{LinesNamed}

pub derives_on : {first : ℕ} {name : ℕ → List ℕ} {p q r : Place} {is js : List Item} → Derives first name p is q → Derives first name q js r → Derives first name p (is ++ js) r
derives_on spelled.Derives.none k = k
derives_on (spelled.Derives.flag le h d) k = spelled.Derives.flag le h (derives_on d k)
derives_on (spelled.Derives.line t le m b f h d) k = spelled.Derives.line t le m b f h (derives_on d k)

-- what has derivations is spelled
pub derived_spelled : {first : ℕ} {name : ℕ → List ℕ} {p q : Place} {is : List Item} → Derives first name p is q → Spells first name p is q
derived_spelled spelled.Derives.none = spelled.Spells.none
derived_spelled (spelled.Derives.flag le h d) = spelled.Spells.flag le (derived_spelled d)
derived_spelled (spelled.Derives.line t le m b f h d) = spelled.Spells.line t le m b (derived_spelled d)

-- each entry behind the first is a line of its number's name
AreNamed : (first : ℕ) (name : ℕ → List ℕ) → Place → Type 0
AreNamed first name p = (j : ℕ) (e : Entry) → EntryAt p.env (first + j) e → e.name ≡ name (suc j)

named_on : {first : ℕ} {name : ℕ → List ℕ} {p q : Place} {is : List Item} → AreNamed first name p → Spells first name p is q → AreNamed first name q
unfolding AreNamed
named_on h spelled.Spells.none = h
named_on h (spelled.Spells.flag le g) = named_on h g
named_on {first} {name} {p} h (spelled.Spells.line {depth = depth} {j = i} {type = type} t le m b g) = named_on more g
  where
    more : (j : ℕ) (e : Entry) → EntryAt (p.env ++ line_entry (name (suc i)) (closed_to depth p.flags) t type ∷ []) (first + j) e → e.name ≡ name (suc j)
    more j e at = elim (entry_of_more p.env (line_entry (name (suc i)) (closed_to depth p.flags) t type) (first + j) e at) [
      | inl before ↦ h j e before
      | inr last ↦ let k = last.0 in let same : i ≡ j = omega (arith, k, m) in sym (ap (λ d. d.name) last.1) ∙ ap (λ n. name (suc n)) same
    ]

pub lines_named : LinesNamed
unfolding AreNamed
lines_named first name p q items e h = named_on (λ j d at. let lt = slice_get_within p.env (first + j) d at in absurd (omega (arith, lt, e))) h
