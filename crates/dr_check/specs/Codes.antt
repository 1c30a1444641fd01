-- The codes of entries and notes, by which a struct may have them in its value.
use Rattle.std.specs.Prelude.{◌≡◌, ◌⊎◌, ℕ, List, refl}
use Rattle.std.specs.Coded.{Coded, code_by, coded⊎, coded×, coded_list, coded_ℕ}
use base.Stored.{coded_unit}
use mathlib.Core.Logic.{inl, inr}
use Rattle.ld_terms.specs.Tree.{Tree, Trees}
use Rattle.ld_terms.specs.TreeCode.{tree_code, trees_code}
use Rattle.ld_terms.specs.Entry.{Body, Defined, Primitive, Entry}
use Rattle.ld_terms.specs.Known.{Note, FlagNote, EntryNote}

abbrev pub body_parts : Body → Tree ⊎ Unit {0}
body_parts (Defined t) = inl t
body_parts Primitive = inr tt

abbrev pub body_by : Tree ⊎ Unit {0} → Body
body_by (inl t) = Defined t
body_by (inr _) = Primitive

pub body_by-parts : (b : Body) → body_by (body_parts b) ≡ b
body_by-parts (Defined t) = refl
body_by-parts Primitive = refl

abbrev pub body_code : Coded Body
body_code = code_by (Tree ⊎ Unit {0}) (coded⊎ tree_code coded_unit) body_parts body_by body_by-parts

abbrev pub entry_code : Coded Entry
entry_code = code_by (List ℕ × (Trees × (Body × Tree))) (coded× (coded_list coded_ℕ) (coded× trees_code (coded× body_code tree_code)))
    (λ e. (e.name, (e.params, (e.body, e.type)))) (λ p. record { name = p.0; params = p.1.0; body = p.1.1.0; type = p.1.1.1 }) (λ _. refl)

abbrev pub note_parts : Note → (Trees × Tree) ⊎ Entry
note_parts (FlagNote ctx t) = inl (ctx, t)
note_parts (EntryNote e) = inr e

abbrev pub note_by : (Trees × Tree) ⊎ Entry → Note
note_by (inl p) = FlagNote p.0 p.1
note_by (inr e) = EntryNote e

pub note_by-parts : (n : Note) → note_by (note_parts n) ≡ n
note_by-parts (FlagNote ctx t) = refl
note_by-parts (EntryNote e) = refl

abbrev pub note_code : Coded Note
note_code = code_by ((Trees × Tree) ⊎ Entry) (coded⊎ (coded× trees_code tree_code) entry_code) note_parts note_by note_by-parts
