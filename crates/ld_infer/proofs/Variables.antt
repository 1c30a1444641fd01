-- The reading of a variable.
use Rattle.std.proofs.Common.{◌≡◌, ◌<◌, ℕ, zero, suc, true, Option, Some, Result, Err, refl, ap, sym, subst, arith}
use Rattle.ld_terms.specs.Tree.{Tree, Trees, Var, Nil, ◌▸◌, count}
use Rattle.ld_terms.specs.Put.{lift}
use Rattle.ld_terms.specs.Item.{One, IsSmall}
use Rattle.ld_terms.specs.Bank.{tree_at}
use Rattle.ld_terms.specs.Entry.{IsScoped}
use Rattle.ld_terms.specs.declared.bank.TermId.{TermId}
use Rattle.ld_terms.specs.declared.bank.TermFault.{TermFault}
use Rattle.ld_terms.specs.declared.bank.TermFault.TheVariants as term
use Rattle.ld_record.specs.Growth.{Knows}
use Rattle.ld_infer.specs.declared.failure.InferFault.{InferFault}
use Rattle.ld_infer.specs.declared.failure.InferFault.TheVariants as fault
use Rattle.ld_infer.specs.declared.inference.Typed.{Typed}
use Rattle.ld_infer.specs.declared.variable.VariableTyped.{VariableTyped}
use Rattle.ld_reduce.specs.Task.{Gives}
use Rattle.ld_infer.specs.Account.{Account, Comes}
use Rattle.ld_infer.specs.Reading.{type_in, lifted, variable_reading, found}
use Rattle.ld_infer.specs.Standing.{Standing, known, here}
use Rattle.ld_reduce.specs.Cost.{stop_of}
use Rattle.ld_infer.specs.Infers.{Infers, IsTyped, IsVariableTyped, Stops}
use Rattle.ld_infer.proofs.Sorts.{at_fault}
use Rattle.ld_infer.proofs.Formed.{type_formed, formed_stops}

-- a variable that is there has a type
pub record HasType (ctx : Trees) (i : ℕ) : Type 0 where
  pub type : Tree
  pub is : type_in ctx i ≡ Some type

pub type_there : (ctx : Trees) (i : ℕ) → i < count ctx → HasType ctx i
type_there Nil i h = absurd (omega (arith, h))
type_there (ctx ▸ a) zero h = record { type = lift a 1 0; is = refl }
type_there (ctx ▸ a) (suc i) h = let r = type_there ctx i (omega (arith, h)) in record { type = lift r.type 1 0; is = ap lifted r.is }

pub variable_there : (t : Tree) (i n : ℕ) → t ≡ Var i → IsScoped t n → i < n
variable_there t i n e h = let P : Tree → Type 0 = λ x. IsScoped x n in subst P e h

pub variable_stops : (a b : Standing) (i : ℕ) (t : TermId) (f : TermFault) (g : InferFault) (r : Result Typed InferFault) (w : Account) → i < count a.context
    → ((x : Tree) → type_in a.context i ≡ Some x → f ≡ term.High → ¬ IsSmall (One x)) → g ≡ fault.Stop (stop_of f) → r ≡ Err g
    → Infers a b (variable_reading (type_in a.context i)) t w w r
variable_stops a b i t f g r w below high e is =
    let h = type_there a.context i below in
    let P : Option Tree → Type 0 = λ o. Stops b.items (variable_reading o) g w w in
    at_fault (λ x. Infers a b (variable_reading (type_in a.context i)) t w w x) r g g is refl (subst P (sym h.is) (formed_stops b.items h.type true f g w (high h.type h.is) e))

pub variable_typed : (a b : Standing) (i : ℕ) (t : TermId) (v : VariableTyped) (w : Account) → tree_at a.items t ≡ Var i → IsVariableTyped a b i v
    → IsTyped a b (variable_reading (type_in a.context i)) t w w (record { of = v.of; judge = v.judge; of_judge = Some v.sort })
variable_typed a b i t v w is h =
    let P : Option Tree → Type 0 = λ o. Comes (variable_reading o) (Gives (found (tree_at b.items v.of) true)) w w in
    let Q : Tree → Type 0 = λ x. Knows (known b) v.judge (here a x (tree_at b.items v.of)) in
    record {
      term = h.term;
      gives = subst P (sym h.type) (type_formed (tree_at b.items v.of) true w h.small);
      judged = subst Q (sym is) h.judged;
      sorted = h.sorted;
    }
