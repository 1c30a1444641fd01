-- The open flags, which are kept outermost first.
use Rattle.std.proofs.Common.{◌≡◌, ◌<◌, ◌≤◌, ℕ, zero, suc, Bool, true, false, nat_lt, if◌then◌else◌, List, [], ◌∷◌, length, map, reverse, get_or, slice_get, Option, Some, None, refl, sym, ap, ◌∙◌, arith}
use Rattle.std.specs.List.{list_any}
use Rattle.std.specs.Str.{bytes_eq}
use Rattle.std.proofs.lemmas.List.{reverse-reverse, length-reverse}
use Rattle.std.proofs.lemmas.Bool.Decides.{nat_tests}
use Rattle.fb_scope.specs.declared.scope.Flag.{Flag}
use Rattle.fb_scope.specs.declared.fault.ScopeFault.{ScopeFault}
use Rattle.fb_scope.specs.declared.fault.ScopeFault.TheVariants.{FlagTaken, ManyFlags}
use Rattle.fb_scope.specs.State.{numbers, flag_names, flag_fault}
use Rattle.fb_scope.proofs.Lists.{map-reverse, list_any-map, list_any-reverse}

pub numbers-reverse : (flags : List Flag) → numbers (reverse flags) ≡ map (λ f. f.number) flags
numbers-reverse flags = ap reverse (map-reverse (λ f. f.number) flags) ∙ reverse-reverse (map (λ f. f.number) flags)

pub names-reverse : (flags : List Flag) → reverse (flag_names (reverse flags)) ≡ map (λ f. f.name) flags
names-reverse flags = ap reverse (map-reverse (λ f. f.name) flags) ∙ reverse-reverse (map (λ f. f.name) flags)

named-reverse : (name : List ℕ) (flags : List Flag) → list_any (bytes_eq name) (flag_names (reverse flags)) ≡ list_any (λ f. bytes_eq name f.name) flags
named-reverse name flags = list_any-map (bytes_eq name) (λ f. f.name) (reverse flags) ∙ list_any-reverse (λ f. bytes_eq name f.name) flags

-- the fault by two tests
fault_by : (taken few : Bool) → Option ScopeFault
fault_by taken few = if taken then Some FlagTaken else if few then None else Some ManyFlags

fault_of : (name : List ℕ) (flags : List Flag) → flag_fault name (reverse flags) ≡ fault_by (list_any (λ f. bytes_eq name f.name) flags) (nat_lt (length flags) 64)
unfolding fault_by
fault_of name flags = λ i. fault_by (named-reverse name flags i) (nat_lt (length-reverse flags i) 64)

pub taken : (name : List ℕ) (flags : List Flag) → list_any (λ f. bytes_eq name f.name) flags ≡ true → flag_fault name (reverse flags) ≡ Some FlagTaken
unfolding fault_by
taken name flags h = fault_of name flags ∙ ap (λ b. fault_by b (nat_lt (length flags) 64)) h

pub fits : (name : List ℕ) (flags : List Flag) → list_any (λ f. bytes_eq name f.name) flags ≡ false → length flags < 64 → flag_fault name (reverse flags) ≡ None
unfolding fault_by
fits name flags h lt = let few : nat_lt (length flags) 64 ≡ true = grind (arith, nat_tests) in fault_of name flags ∙ (λ i. fault_by (h i) (few i))

pub many : (name : List ℕ) (flags : List Flag) → list_any (λ f. bytes_eq name f.name) flags ≡ false → 64 ≤ length flags → flag_fault name (reverse flags) ≡ Some ManyFlags
unfolding fault_by
many name flags h le = let few : nat_lt (length flags) 64 ≡ false = grind (arith, nat_tests) in fault_of name flags ∙ (λ i. fault_by (h i) (few i))

pub name_at : (flags : List Flag) (k : ℕ) (flag : Flag) → k < length flags → flag ≡ get_or flags k flag → slice_get (map (λ f. f.name) flags) k ≡ Some flag.name
name_at [] k flag lt e = absurd (omega arith)
name_at (f ∷ flags) zero flag lt e = ap (λ g. Some g.name) (sym e)
name_at (f ∷ flags) (suc k) flag lt e = name_at flags k flag (omega arith) e

by_none : (taken few : Bool) → fault_by taken few ≡ None → few ≡ true
unfolding fault_by
by_none true few e = absurd (cc)
by_none false true e = refl
by_none false false e = absurd (cc)

-- where a flag may be opened there is room for it
pub room : (name : List ℕ) (flags : List Flag) → flag_fault name flags ≡ None → length flags < 64
unfolding fault_by
room name flags e = let few : nat_lt (length flags) 64 ≡ true = by_none (list_any (bytes_eq name) (flag_names flags)) (nat_lt (length flags) 64) e in grind (arith, nat_tests)
