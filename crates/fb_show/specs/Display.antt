-- The surface tree that shows a term, and the names of its variables.
use Rattle.std.specs.Prelude.{ℕ, zero, suc, ◌-◌, decimal, Bool, true, false, ◌&&◌, not, ◌==◌, if◌then◌else◌}
use Rattle.std.specs.Prelude.{List, [], ◌∷◌, ◌++◌, length, replicate, Option, Some, None, slice_get, slice_index_or}
use Rattle.std.specs.Str.{all_ascii_digits, byte}
use Rattle.std.specs.List.{list_any}
use Rattle.ld_terms.specs.Tree as tree
use Rattle.ld_terms.specs.Tree.{Tree, Trees, Var, App, Lam, Pi, Const, Nil, ◌▸◌}
use Rattle.fb_parse.specs.Grammar.{Surface, Star, Box_, Name, Inst, Apply, Fun, All, Arrow, Surfaces, none, more}
use Rattle.fb_write.specs.Canonical.{nowhere}

-- the name is so many of the letters and then digits, at least one
abbrev pub is_numbered : (letter letters : ℕ) → List ℕ → Bool
is_numbered letter zero [] = false
is_numbered letter zero (d ∷ ds) = all_ascii_digits (d ∷ ds)
is_numbered letter (suc n) [] = false
is_numbered letter (suc n) (b ∷ bs) = b == letter && is_numbered letter n bs

abbrev pub is_taken : (letter letters : ℕ) → List (List ℕ) → Bool
is_taken letter n names = list_any (is_numbered letter n) names

-- The least number of letters, from so many on, that no name has before digits. Each name takes one number at most.
abbrev pub least_free : (tries letter letters : ℕ) → List (List ℕ) → ℕ
least_free zero letter n names = n
least_free (suc tries) letter n names = if is_taken letter n names then least_free tries letter (suc n) names else n

-- how many letters the base has
abbrev pub base_length : (letter : ℕ) → List (List ℕ) → ℕ
base_length letter names = least_free (length names) letter 1 names

-- the base of names that begin with this letter
abbrev pub base : (letter : ℕ) → List (List ℕ) → List ℕ
base letter names = replicate (base_length letter names) letter

-- The name of the variable of a level. The outermost variable has level 0.
abbrev pub level_name : List (List ℕ) → ℕ → List ℕ
level_name names i = base (byte "x") names ++ decimal (suc i)

-- the same where the first levels have names of their own
abbrev pub own_or : Option (List ℕ) → List ℕ → List ℕ
own_or None other = other
own_or (Some x) other = x

abbrev pub named_level : (own names : List (List ℕ)) → ℕ → List ℕ
named_level own names i = own_or (slice_get own i) (level_name (own ++ names) i)

-- the name of a line
abbrev pub line_name : List (List ℕ) → ℕ → List ℕ
line_name names j = base (byte "p") names ++ decimal j

-- whether this variable isn't used
abbrev mutual
  pub avoids : Tree → ℕ → Bool
  avoids tree.Star i = true
  avoids tree.Box i = true
  avoids (Var j) i = not (j == i)
  avoids (App f u) i = avoids f i && avoids u i
  avoids (Lam a m) i = avoids a i && avoids m (suc i)
  avoids (Pi a b) i = avoids a i && avoids b (suc i)
  avoids (Const k us) i = all_avoid us i

  pub all_avoid : Trees → ℕ → Bool
  all_avoid Nil i = true
  all_avoid (us ▸ u) i = all_avoid us i && avoids u i

-- one more argument
abbrev pub behind : Surfaces → Surface → Surfaces
behind none a = more a none
behind (more b us) a = more b (behind us a)

abbrev pub applied : Surface → Surface → Surface
applied (Apply s f us) a = Apply nowhere f (behind us a)
applied (Star s) a = Apply nowhere (Star s) (more a none)
applied (Box_ s) a = Apply nowhere (Box_ s) (more a none)
applied (Name s x) a = Apply nowhere (Name s x) (more a none)
applied (Inst s x us) a = Apply nowhere (Inst s x us) (more a none)
applied (Fun s x b m) a = Apply nowhere (Fun s x b m) (more a none)
applied (All s x b m) a = Apply nowhere (All s x b m) (more a none)
applied (Arrow s b m) a = Apply nowhere (Arrow s b m) (more a none)

-- an instance with all its arguments
abbrev pub instance : List ℕ → Surfaces → Surface
instance c none = Name nowhere c
instance c (more a us) = Inst nowhere c (more a us)

-- a product whose variable isn't used is an arrow
abbrev pub product : (unused : Bool) → List ℕ → Surface → Surface → Surface
product true x a b = Arrow nowhere a b
product false x a b = All nowhere x a b

-- by the names of levels and of entries
module _ (name : ℕ → List ℕ) (names : List (List ℕ)) where
  abbrev mutual
    -- the surface tree of a term that stands under so many variables
    pub shown : (depth : ℕ) → Tree → Surface
    shown d tree.Star = Star nowhere
    shown d tree.Box = Box_ nowhere
    shown d (Var i) = Name nowhere (name (d - suc i))
    shown d (App f u) = applied (shown d f) (shown d u)
    shown d (Lam a m) = Fun nowhere (name d) (shown d a) (shown (suc d) m)
    shown d (Pi a b) = product (avoids b 0) (name d) (shown d a) (shown (suc d) b)
    shown d (Const k us) = instance (slice_index_or names k []) (all_shown d us)

    pub all_shown : (depth : ℕ) → Trees → Surfaces
    all_shown d Nil = none
    all_shown d (us ▸ u) = behind (all_shown d us) (shown d u)

-- the surface tree of a term under so many variables, over entries of these names
abbrev pub display : (names : List (List ℕ)) → (depth : ℕ) → Tree → Surface
display names d t = shown (level_name names) names d t
