-- From a file that isn't fetched to an answer.
use Rattle.std.proofs.Common.{ℕ, List, IsTrue, sym, subst}
use Rattle.fb_base.specs.Desk.{Seen}
use Rattle.book_top.specs.declared.status.LimitFault.{LimitFault}
use Rattle.book_top.specs.declared.status.Status.{Status}
use Rattle.book_top.specs.declared.status.Status.TheVariants as status
use Rattle.book_top.specs.Fetched.{IsLonger, StopsFetch}

module _ (most : ℕ) (passed : LimitFault) (before : Seen) (name : List ℕ) where
  -- by the cause, where files are told
  pub fetch_stops : (P : Status → Type 0) (s : Status) → StopsFetch most passed before name s → IsTrue before.tells_files
      → (IsLonger most before.files name → P (status.Limit passed)) → P status.Desk → P status.Memory → P s
  fetch_stops P (status.Limit l) h told long failed spent = subst (λ k. P (status.Limit k)) (sym h.0) (long (h.1 told))
  fetch_stops P status.Desk h told long failed spent = failed
  fetch_stops P status.Memory h told long failed spent = spent
  fetch_stops P (status.Done x) h told long failed spent = absurd h
  fetch_stops P (status.Text x) h told long failed spent = absurd h
  fetch_stops P status.Usage h told long failed spent = absurd h
  fetch_stops P (status.Rule x) h told long failed spent = absurd h
  fetch_stops P (status.Budget x) h told long failed spent = absurd h
  fetch_stops P (status.BadRecord x) h told long failed spent = absurd h

  -- the same on any desk, of which statuses alone are said
  pub unfetched_may : (P : Status → Type 0) (s : Status) → StopsFetch most passed before name s → P (status.Limit passed) → P status.Desk
      → P status.Memory → P s
  unfetched_may P (status.Limit l) h long failed spent = subst (λ k. P (status.Limit k)) (sym h.0) long
  unfetched_may P status.Desk h long failed spent = failed
  unfetched_may P status.Memory h long failed spent = spent
  unfetched_may P (status.Done x) h long failed spent = absurd h
  unfetched_may P (status.Text x) h long failed spent = absurd h
  unfetched_may P status.Usage h long failed spent = absurd h
  unfetched_may P (status.Rule x) h long failed spent = absurd h
  unfetched_may P (status.Budget x) h long failed spent = absurd h
  unfetched_may P (status.BadRecord x) h long failed spent = absurd h
