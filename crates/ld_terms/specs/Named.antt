-- Trees whose instances are of entries that are there, with as many arguments as those have parameters.
use Rattle.std.specs.Prelude.{◌≡◌, ◌<◌, ℕ, ⊤, length}
use Rattle.ld_terms.specs.Tree.{Tree, Star, Box, Var, App, Lam, Pi, Const, Trees, Nil, ◌▸◌, count}
use Rattle.ld_terms.specs.Entry.{Env, IsScoped}
use Rattle.ld_terms.specs.Record.{params_at}

abbrev mutual
  pub IsNamed : Env → Tree → Type 0
  IsNamed env Star = ⊤
  IsNamed env Box = ⊤
  IsNamed env (Var i) = ⊤
  IsNamed env (App f u) = IsNamed env f × IsNamed env u
  IsNamed env (Lam a m) = IsNamed env a × IsNamed env m
  IsNamed env (Pi a b) = IsNamed env a × IsNamed env b
  IsNamed env (Const k us) = (k < length env) × (count us ≡ params_at env k) × AreNamed env us

  pub AreNamed : Env → Trees → Type 0
  AreNamed env Nil = ⊤
  AreNamed env (us ▸ u) = AreNamed env us × IsNamed env u

-- A term over an environment and so many variables: it names only entries that are there, as above, and only those variables.
pub record IsWellFormed (env : Env) (variables : ℕ) (t : Tree) : Type 0 where
  pub named : IsNamed env t
  pub scoped : IsScoped t variables
