-- Trees with alike heads have parts to be compared, all of which are convertible.
use Rattle.std.proofs.Common.{◌≡◌, ◌==◌, ℕ, Bool, true, false, List, [], ◌∷◌, ◌++◌, Option, None, Some, refl, ap, arith}
use Rattle.std.specs.Prelude.{⊤, if◌then◌else◌}
use Rattle.std.proofs.lemmas.Bool.Decides.{nat_tests}
use Rattle.ld_terms.specs.Tree.{Tree, Trees}
use Rattle.ld_terms.specs.Entry.{Env}
use Rattle.ld_terms.specs.Step.{Converts}
use Rattle.ld_laws.specs.Heads.{Alike, ConvertsEach}
use Rattle.ld_convert.specs.Apart.{Part, part, and_then, arguments, parts_of}

abbrev pub AllConvert : Env → List Part → Type 0
AllConvert env [] = ⊤
AllConvert env (p ∷ ps) = Converts env p.left p.right × AllConvert env ps

and_last : (env : Env) (p : Part) (ps : List Part) → AllConvert env ps → Converts env p.left p.right → AllConvert env (ps ++ p ∷ [])
and_last env p [] all last = (last, tt)
and_last env p (q ∷ ps) all last = (all.0, and_last env p ps all.1 last)

-- there are parts, and all of them are convertible
pub record HasParts (env : Env) (o : Option (List Part)) : Type 0 where
  pub parts : List Part
  pub are : o ≡ Some parts
  pub convert : AllConvert env parts

no_parts : (env : Env) → HasParts env (Some [])
no_parts env = record { parts = []; are = refl; convert = tt }

with_last : (env : Env) (a b : Tree) (o : Option (List Part)) → HasParts env o → Converts env a b → HasParts env (and_then o (part a b 0))
with_last env a b o h last = record {
  parts = h.parts ++ part a b 0 ∷ [];
  are = ap (λ x. and_then x (part a b 0)) h.are;
  convert = and_last env (part a b 0) h.parts h.convert last;
}

same_number : (k : ℕ) → (k == k) ≡ true
same_number k = grind (arith, nat_tests)

if_same : (env : Env) (o : Option (List Part)) (c : Bool) → c ≡ true → HasParts env o → HasParts env (if c then o else None)
if_same env o true e h = h
if_same env o false e h = absurd (cc)

each_has_parts : {env : Env} {us vs : Trees} → ConvertsEach env us vs → HasParts env (arguments us vs)
each_has_parts {env} ConvertsEach.none = no_parts env
each_has_parts {env} (ConvertsEach.more {us = us} {vs = vs} {u = u} {v = v} h last) = with_last env u v (arguments us vs) (each_has_parts h) last

pub alike_has_parts : {env : Env} {a b : Tree} → Alike env a b → HasParts env (parts_of a b)
alike_has_parts {env} Alike.star = no_parts env
alike_has_parts {env} Alike.box = no_parts env
alike_has_parts {env} (Alike.variable {i = i}) = if_same env (Some []) (i == i) (same_number i) (no_parts env)
alike_has_parts (Alike.abstraction h k) = record { parts = _ ∷ _ ∷ []; are = refl; convert = (h, (k, tt)) }
alike_has_parts (Alike.product h k) = record { parts = _ ∷ _ ∷ []; are = refl; convert = (h, (k, tt)) }
alike_has_parts {env} (Alike.instance_of {k = k} {us = us} {vs = vs} h) = if_same env (arguments us vs) (k == k) (same_number k) (each_has_parts h)
alike_has_parts {env} (Alike.applied {f = f} {g = g} {u = u} {v = v} h last) = with_last env u v (parts_of f g) (alike_has_parts h) last
