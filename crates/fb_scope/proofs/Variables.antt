-- The index of the variable of a name.
use Rattle.std.proofs.Common.{◌≡◌, ◌+◌, ℕ, List, length, map, position, Option, Some, None, ◌∙◌}
use Rattle.std.specs.Str.{bytes_eq}
use Rattle.fb_scope.specs.declared.scope.Flag.{Flag}
use Rattle.fb_scope.specs.State.{State}
use Rattle.fb_scope.specs.Resolve.{is_named, variables}
use Rattle.fb_scope.proofs.Places.{found_first, found_later, found_nowhere, position-map}

-- the place of a name among flags
abbrev pub flag_place : List ℕ → List Flag → Option ℕ
flag_place name flags = position (λ f. bytes_eq name f.name) flags

named_flags : (name : List ℕ) (flags : List Flag) → position (is_named name) (map (λ f. Some f.name) flags) ≡ flag_place name flags
named_flags name flags = position-map (is_named name) (λ f. Some f.name) flags

pub binder_found : (name : List ℕ) (s : State) (i : ℕ) → position (is_named name) s.binders ≡ Some i → position (is_named name) (variables s) ≡ Some i
binder_found name s i e = found_first (is_named name) s.binders (map (λ f. Some f.name) s.flags) i e

pub flag_found : (name : List ℕ) (s : State) (i : ℕ) → position (is_named name) s.binders ≡ None → flag_place name s.flags ≡ Some i → position (is_named name) (variables s) ≡ Some (length s.binders + i)
flag_found name s i none e = found_later (is_named name) s.binders (map (λ f. Some f.name) s.flags) i none (named_flags name s.flags ∙ e)

pub no_variable : (name : List ℕ) (s : State) → position (is_named name) s.binders ≡ None → flag_place name s.flags ≡ None → position (is_named name) (variables s) ≡ None
no_variable name s none e = found_nowhere (is_named name) s.binders (map (λ f. Some f.name) s.flags) none (named_flags name s.flags ∙ e)
