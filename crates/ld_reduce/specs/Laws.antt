-- The ways at a head have one end each.
use Rattle.std.specs.Prelude.{◌≡◌, ℕ}
use Rattle.ld_terms.specs.Tree.{Tree}
use Rattle.ld_terms.specs.Entry.{Env}
use Rattle.ld_reduce.specs.Heads.{Reached, Way, BetaHead, Unfold, Expose, reaches}
use Rattle.ld_reduce.specs.Task.{Pairs, Answer}

-- at most one end, at one number of steps
abbrev pub Once : Way → Type 0
Once way = (r s : Reached) (n m : ℕ) → way r n → way s m → (r ≡ s) × (n ≡ m)

-- as a task, which has no faults, at most one answer; what is known stays
abbrev pub AnswersOnce : Way → Type 0
AnswersOnce way = (K L M : Pairs) (r s : Answer ⊥ Tree) (n m : ℕ) → reaches way K r L n → reaches way K s M m → (r ≡ s) × (L ≡ M) × (n ≡ m)

pub record HasOneEnd (way : Way) : Type 0 where
  pub ends : Once way
  pub answers : AnswersOnce way

pub record WaysOnce : Type 0 where
  pub of_beta_head : (t : Tree) → HasOneEnd (BetaHead t)
  pub of_unfold : (env : Env) (t : Tree) → HasOneEnd (Unfold env t)
  pub of_expose : (env : Env) (t : Tree) → HasOneEnd (Expose env t)
