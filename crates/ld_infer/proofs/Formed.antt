-- Terms that are formed: they are small, or the reading stops.
use Rattle.std.proofs.Common.{◌≡◌, Bool, List, refl, sym, subst}
use Rattle.ld_terms.specs.Tree.{Tree}
use Rattle.ld_terms.specs.Item.{Item, One, IsSmall}
use Rattle.ld_terms.specs.declared.bank.TermFault.{TermFault}
use Rattle.ld_terms.specs.declared.bank.TermFault.TheVariants as term
use Rattle.ld_infer.specs.declared.failure.InferFault.{InferFault}
use Rattle.ld_infer.specs.declared.failure.InferFault.TheVariants as fault
use Rattle.ld_reduce.specs.Task.{Task, Gives, High, formed, ◌>>=◌, gives, Ends}
use Rattle.ld_infer.specs.Account.{Account, Comes}
use Rattle.ld_infer.specs.Reading.{Refusal, Found, found}
use Rattle.ld_reduce.specs.Cost.{stop_of}
use Rattle.ld_infer.specs.Infers.{Stops}
use Rattle.ld_reduce.proofs.Tasks.{formed_answers, formed_high}
use Rattle.ld_infer.proofs.Accounts.{comes_at_once, comes_then, comes_ended}
use Rattle.ld_infer.proofs.Sorts.{gives_now}

abbrev pub formed_type : Tree → Bool → Task Refusal Found
formed_type t comes = formed t >>= (λ x. gives (found x comes))

pub type_formed : (t : Tree) (comes : Bool) (w : Account) → IsSmall (One t) → Comes (formed_type t comes) (Gives (found t comes)) w w
type_formed t comes w small =
    comes_then (formed t) _ t (Gives (found t comes)) w w w (comes_at_once (formed t) (Gives t) w (formed_answers t w.known small)) (gives_now (found t comes) w)

-- a term that the bank refuses is not small, or memory runs out
pub formed_stops : (items : List Item) (t : Tree) (comes : Bool) (f : TermFault) (g : InferFault) (w : Account) → (f ≡ term.High → ¬ IsSmall (One t)) → g ≡ fault.Stop (stop_of f)
    → Stops items (formed_type t comes) g w w
formed_stops items t comes term.High g w high e =
    let P : InferFault → Type 0 = λ x. Stops items (formed_type t comes) x w w in
    subst P (sym e) (comes_ended (formed t) _ High High w w (comes_at_once (formed t) High w (formed_high t w.known (high refl))) Ends.high)
formed_stops items t comes term.Memory g w high e =
    let P : InferFault → Type 0 = λ x. Stops items (formed_type t comes) x w w in subst P (sym e) tt
