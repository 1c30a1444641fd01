-- How the names of a term are read.
use Rattle.std.specs.Prelude.{ℕ, zero, suc, ◌+◌, ◌-◌, min, true, false, List, length, Some, None, Result, Ok, Err}
use Rattle.ld_terms.specs.Tree.{Tree, Trees, Star, Box, Var, App, Lam, Pi, Const, Nil, ◌▸◌}
use Rattle.fb_base.specs.declared.places.Span.{Span}
use Rattle.fb_parse.specs.Grammar as written
use Rattle.fb_parse.specs.Grammar.{Surface, Surfaces}
use Rattle.fb_scope.specs.State.{State, bound}
use Rattle.fb_scope.specs.Resolve.{resolve}
use Rattle.fb_scope.specs.declared.fault.ScopeFault.{ScopeFault}
use Rattle.fb_scope.specs.declared.resolve.Found.{Found}
use Rattle.fb_scope.specs.declared.resolve.Found.TheVariants as stands

infixl 10 ◌>>=◌
abbrev pub ◌>>=◌ : {E A B : Type 0} → Result A E → (A → Result B E) → Result B E
(Ok x) >>= f = f x
(Err e) >>= f = Err e

-- the span of the name with which a term begins, which is a part of the term's
abbrev pub name_span : Span → List ℕ → Span
name_span at x = record { start = at.start; end = min (at.start + length x) at.end }

-- why a name stands for nothing, with the span of the name
abbrev pub NameFault : Type 0
NameFault = ScopeFault × Span

-- what a name stands for, or the fault at the name
abbrev pub named : Span → (x : List ℕ) → Result Found ScopeFault → Result Found NameFault
named at x (Ok f) = Ok f
named at x (Err f) = Err (f, name_span at x)

-- how many binders and flags are open
abbrev pub variable_count : State → ℕ
variable_count s = length s.binders + length s.flags

-- the variables of the first open flags, so many, outermost first, where there are so many variables
abbrev pub implied : (variables : ℕ) → ℕ → Trees
implied v zero = Nil
implied v (suc n) = implied v n ▸ Var (v - suc n)

-- the arguments of what a name stands for that are implied
abbrev pub implied_of : State → Found → Trees
implied_of s (stands.Var i) = Nil
implied_of s (stands.Const k n) = implied (variable_count s) n

-- what a name stands for with all its arguments
abbrev pub with_arguments : Found → Trees → Tree
with_arguments (stands.Var i) us = Var i
with_arguments (stands.Const k n) us = Const k us

abbrev pub number : Surfaces → ℕ
number written.none = 0
number (written.more a us) = suc (number us)

-- how many arguments are written; a count has 32 bits
abbrev pub given : Surfaces → ℕ
given us = min (number us) 4_294_967_295

-- A term over entries of these names. An arrow is a product whose variable has no name. The name of an instance is read before its
-- arguments, and these from left to right.
abbrev mutual
  pub tree_of : State → (entries : List (List ℕ)) → Surface → Result Tree NameFault
  tree_of s entries (written.Star at) = Ok Star
  tree_of s entries (written.Box_ at) = Ok Box
  tree_of s entries (written.Name at x) = named at x (resolve s entries x 0 false) >>= λ f. Ok (with_arguments f (implied_of s f))
  tree_of s entries (written.Inst at x us) = named at x (resolve s entries x (given us) true) >>= λ f. listed s entries (implied_of s f) us >>= λ ts. Ok (with_arguments f ts)
  tree_of s entries (written.Apply at f us) = tree_of s entries f >>= λ t. applied s entries t us
  tree_of s entries (written.Fun at x a m) = tree_of s entries a >>= λ t. tree_of (bound (Some x) s) entries m >>= λ u. Ok (Lam t u)
  tree_of s entries (written.All at x a b) = tree_of s entries a >>= λ t. tree_of (bound (Some x) s) entries b >>= λ u. Ok (Pi t u)
  tree_of s entries (written.Arrow at a b) = tree_of s entries a >>= λ t. tree_of (bound None s) entries b >>= λ u. Ok (Pi t u)

  -- a tree applied to the trees of these terms
  pub applied : State → (entries : List (List ℕ)) → Tree → Surfaces → Result Tree NameFault
  applied s entries t written.none = Ok t
  applied s entries t (written.more a us) = tree_of s entries a >>= λ u. applied s entries (App t u) us

  -- the trees of these terms behind those that are there
  pub listed : State → (entries : List (List ℕ)) → Trees → Surfaces → Result Trees NameFault
  listed s entries ts written.none = Ok ts
  listed s entries ts (written.more a us) = tree_of s entries a >>= λ u. listed s entries (ts ▸ u) us
