-- The names of a map's entries, and what its look-ups say of them.
use Rattle.std.proofs.Common.{◌≡◌, ◌<◌, ℕ, zero, suc, Bool, true, false, cond, List, [], ◌∷◌, ◌++◌, length, get_or, Option, None, Some, slice_get, position, is_some, MatchOption, Contains, refl, sym, ap, ◌∙◌, true≢false, arith, inl, inr}
use Rattle.std.specs.Global.{Vec}
use Rattle.std.specs.Cmp.Lexicographic.{pointwise}
use Rattle.std.specs.Prelude.{nat_eq}
use Rattle.std.specs.List.{IsDistinct}
use Rattle.std.specs.Map.{keys_of, values_of, lookup}
use Rattle.std.proofs.lemmas.Bool.Decides.{Decides-eqb}
use Rattle.std.proofs.lemmas.Slice.Eq.{slice_eq-Decides}
use Rattle.std.proofs.lemmas.List.Quantifiers.{position-Some}
use Rattle.std.proofs.lemmas.Map.Keys.{apart_from_distinct}
use Rattle.std.proofs.lemmas.Option.{slice_get_within, slice_get_cases, get_or_from_slice_get}
use Rattle.ld_env.specs.declared.env.Entry.{Entry}
use Rattle.ld_env.specs.Named.{named, named_of, names_of, entries_of, AreNamesDistinct}

bool_cases : {C : Type 0} (b : Bool) → (b ≡ true → C) → (b ≡ false → C) → C
bool_cases true passes fails = passes refl
bool_cases false passes fails = fails refl

abbrev pub Pairs : Type 0
Pairs = List (Vec ℕ × Entry)

-- whether a key is the name
abbrev pub is_name : List ℕ → Vec ℕ → Bool
is_name name key = pointwise nat_eq name key.items

pub name_from_test : (name : List ℕ) (key : Vec ℕ) → is_name name key ≡ true → name ≡ key.items
name_from_test name key h = (slice_eq-Decides Decides-eqb name key.items _ refl).0 h

pub test_from_name : (name : List ℕ) (key : Vec ℕ) → name ≡ key.items → is_name name key ≡ true
test_from_name name key e = (slice_eq-Decides Decides-eqb name key.items _ refl).1 e

pub named_of-push : (ps : Pairs) (p : Vec ℕ × Entry) → named_of (ps ++ p ∷ []) ≡ named_of ps ++ named p.0.items p.1 ∷ []
named_of-push [] p = refl
named_of-push (q ∷ ps) p = ap (λ ns. named q.0.items q.1 ∷ ns) (named_of-push ps p)

-- a name is at the place of its key
pub slice_get-names : (ps : Pairs) (k : ℕ) (key : Vec ℕ) → slice_get (keys_of ps) k ≡ Some key → slice_get (names_of (named_of ps)) k ≡ Some key.items
slice_get-names [] k key e = cc
slice_get-names (p ∷ ps) zero key e = let same : p.0 ≡ key = cc in ap (λ v. Some v.items) same
slice_get-names (p ∷ ps) (suc k) key e = slice_get-names ps k key e

-- what a look-up finds behind the first pair
tail_only : (name : List ℕ) (p : Vec ℕ × Entry) (ps : Pairs) → is_name name p.0 ≡ false → lookup (is_name name) (p ∷ ps) ≡ lookup (is_name name) ps
tail_only name p ps h = ap (λ b. cond b (Some p.1) (lookup (is_name name) ps)) h

head_found : (name : List ℕ) (p : Vec ℕ × Entry) (ps : Pairs) → is_name name p.0 ≡ true → lookup (is_name name) (p ∷ ps) ≡ Some p.1
head_found name p ps h = ap (λ b. cond b (Some p.1) (lookup (is_name name) ps)) h

-- a name that some entry has is found
found_at : (name : List ℕ) (ps : Pairs) → is_some (lookup (is_name name) ps) ≡ false → (k : ℕ) → k < length (names_of (named_of ps)) → get_or (names_of (named_of ps)) k name ≡ name → ⊥
found_at name [] none k l e = omega arith
found_at name (p ∷ ps) none zero l e = true≢false (sym (ap is_some (head_found name p ps (test_from_name name p.0 (sym e)))) ∙ none)
found_at name (p ∷ ps) none (suc k) l e =
    bool_cases (is_name name p.0)
    (λ h. true≢false (sym (ap is_some (head_found name p ps h)) ∙ none))
    (λ h. found_at name ps (sym (ap is_some (tail_only name p ps h)) ∙ none) k (omega arith) e)

pub absent : (name : List ℕ) (ps : Pairs) → is_some (lookup (is_name name) ps) ≡ false → Contains (names_of (named_of ps)) name → ⊥
absent name ps none h = found_at name ps none h.0 h.1 h.2

-- and a name that no entry has is not
pub missing : (name : List ℕ) (ps : Pairs) → (Contains (names_of (named_of ps)) name → ⊥) → lookup (is_name name) ps ≡ None
missing name [] free = refl
missing name (p ∷ ps) free =
    bool_cases (is_name name p.0)
    (λ h. absurd (free (0, omega arith, sym (name_from_test name p.0 h))))
    (λ h. tail_only name p ps h ∙ missing name ps (λ c. free (suc c.0, omega (arith, c.1), c.2)))

-- the key at the place of a name
pub record HasKey (ps : Pairs) (k : ℕ) (name : List ℕ) : Type 0 where
  pub key : Vec ℕ
  pub at : slice_get (keys_of ps) k ≡ Some key
  pub is : key.items ≡ name

pub key_at : (ps : Pairs) (k : ℕ) (name : List ℕ) → slice_get (names_of (named_of ps)) k ≡ Some name → HasKey ps k name
key_at [] k name e = absurd (cc)
key_at (p ∷ ps) zero name e = record { key = p.0; at = refl; is = cc }
key_at (p ∷ ps) (suc k) name e = let h = key_at ps k name e in record { key = h.key; at = h.at; is = h.is }

abbrev pub same_names : Vec ℕ → Vec ℕ → Bool
same_names a b = pointwise nat_eq a.items b.items

never_apart : (ps : Pairs) → IsDistinct same_names (keys_of ps) → (i j : ℕ) (name : List ℕ) → HasKey ps i name → HasKey ps j name → i < j → ⊥
never_apart ps distinct i j name a b lt =
    let within : j < length (keys_of ps) = slice_get_within (keys_of ps) j b.key b.at in
    let apart = apart_from_distinct same_names (keys_of ps) i j a.key distinct lt within in
    let first : get_or (keys_of ps) i a.key ≡ a.key = get_or_from_slice_get (keys_of ps) i a.key a.key a.at in
    let second : get_or (keys_of ps) j a.key ≡ b.key = get_or_from_slice_get (keys_of ps) j b.key a.key b.at in
    let same : is_name (get_or (keys_of ps) i a.key).items (get_or (keys_of ps) j a.key) ≡ true =
    test_from_name (get_or (keys_of ps) i a.key).items (get_or (keys_of ps) j a.key) (ap (λ v. v.items) first ∙ a.is ∙ sym b.is ∙ sym (ap (λ v. v.items) second)) in
    true≢false (sym same ∙ apart)

pub distinct_names : (ps : Pairs) → IsDistinct same_names (keys_of ps) → AreNamesDistinct (named_of ps)
distinct_names ps distinct i j name p q =
    let a = key_at ps i name p in
    let b = key_at ps j name q in
    let not_below : i < j → ⊥ = never_apart ps distinct i j name a b in
    let not_above : j < i → ⊥ = never_apart ps distinct j i name b a in
    grind (arith, not_below, not_above)

length-keys : (ps : Pairs) → length (keys_of ps) ≡ length ps
length-keys [] = refl
length-keys (p ∷ ps) = ap suc (length-keys ps)

-- a found place has the name
pub found_name : (name : List ℕ) (ps : Pairs) (k : ℕ) → position (is_name name) (keys_of ps) ≡ Some k → k < length ps → slice_get (names_of (named_of ps)) k ≡ Some name
found_name name ps k e within =
    elim (slice_get_cases (keys_of ps) k).1 [
      | inl h ↦
          let passes = (position-Some (is_name name) (keys_of ps) k h.0 e).1 in
          let key : get_or (keys_of ps) k h.0 ≡ h.0 = h.3 in
          let same : name ≡ h.0.items = name_from_test name h.0 (sym (ap (is_name name) key) ∙ passes) in
          slice_get-names ps k h.0 h.2 ∙ ap Some (sym same)
      | inr h ↦ let n = length-keys ps in absurd (omega (arith, h.0))
    ]

pub entries_are : (ps : Pairs) → entries_of (named_of ps) ≡ values_of ps
entries_are [] = refl
entries_are (p ∷ ps) = ap (λ es. p.1 ∷ es) (entries_are ps)

pub name_at : (ps : Pairs) (k : ℕ) (key : Vec ℕ) (entry : Entry) → slice_get ps k ≡ Some (key, entry) → slice_get (names_of (named_of ps)) k ≡ Some key.items
name_at [] k key entry e = absurd (cc)
name_at (p ∷ ps) zero key entry e = let same : p.0 ≡ key = cc in ap (λ v. Some v.items) same
name_at (p ∷ ps) (suc k) key entry e = name_at ps k key entry e

-- an entry under a new name goes last
pub pushed : (ps new : Pairs) (key : Vec ℕ) (entry : Entry) → new ≡ ps ++ (key, entry) ∷ [] → named_of new ≡ named_of ps ++ named key.items entry ∷ []
pushed ps new key entry e = ap named_of e ∙ named_of-push ps (key, entry)

pub from_none : (r : Option ℕ) (P : Type 0) (Q : ℕ → Type 0) → is_some r ≡ false → MatchOption r P Q → P
from_none None P Q e h = h
from_none (Some k) P Q e h = absurd (true≢false e)
