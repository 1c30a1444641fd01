-- What an answer says that refuses a term: in a legal context and from convertible pairs, the reading means it.
use Rattle.std.proofs.Common.{◌≡◌, ℕ, subst}
use Rattle.std.specs.Prelude.{Result, Err}
use Rattle.ld_terms.specs.Tree.{Tree}
use Rattle.ld_terms.specs.declared.bank.TermId.{TermId}
use Rattle.ld_terms.specs.Derivable.{IsLegalContext}
use Rattle.ld_record.specs.declared.record.JudgeId.{JudgeId}
use Rattle.ld_reduce.specs.Task.{Fails}
use Rattle.ld_convert.specs.Sameness.{AreConvertible}
use Rattle.ld_infer.specs.declared.failure.Failure.{Failure}
use Rattle.ld_infer.specs.declared.failure.InferFault.{InferFault}
use Rattle.ld_infer.specs.declared.failure.InferFault.TheVariants.{Refused}
use Rattle.ld_infer.specs.declared.inference.Typed.{Typed}
use Rattle.ld_infer.specs.Account.{Account}
use Rattle.ld_infer.specs.Reading.{Asked, Types, SortOf}
use Rattle.ld_infer.specs.Refusals.{IsUntyped, IsUnsorted}
use Rattle.ld_infer.specs.Standing.{Standing, env}
use Rattle.ld_infer.specs.Infers.{Infers, InfersSort, refusal_of}
use Rattle.ld_infer.proofs.Rightness.{types_mean, sorts_mean}

module _ (old new : Standing) (nest : ℕ) (q : Asked) (t : Tree) (number : TermId) (before after : Account) (legal : IsLegalContext (env old) old.context)
    (known : AreConvertible (env old) before.known) where
  pub type_refused : (r : Result Typed InferFault) (f : Failure) → Infers old new (Types (env old) old.context nest q t) number before after r → r ≡ Err (Refused f)
      → IsUntyped (env old) old.context t (refusal_of new.items f)
  type_refused r f answer is =
      let comes = subst (Infers old new (Types (env old) old.context nest q t) number before after) is answer in
      (types_mean (env old) old.context legal nest q t before.known after.known (Fails (refusal_of new.items f)) comes.steps comes.answers.is known).says

  pub sort_refused : (r : Result (TermId × JudgeId) InferFault) (f : Failure) → InfersSort old new (SortOf (env old) old.context nest q t) number before after r → r ≡ Err (Refused f)
      → IsUnsorted (env old) old.context t (refusal_of new.items f)
  sort_refused r f answer is =
      let comes = subst (InfersSort old new (SortOf (env old) old.context nest q t) number before after) is answer in
      (sorts_mean (env old) old.context legal nest q t before.known after.known (Fails (refusal_of new.items f)) comes.steps comes.answers.is known).says
