-- The rules for variables and weakening, and what stays of the contexts without some variables.
use Rattle.std.proofs.Common.{◌≡◌, ◌<◌, ◌≤◌, ◌+◌, ◌-◌, ℕ, zero, suc, refl, ap, sym, ◌∙◌, subst, arith, Some, max}
use Rattle.std.proofs.lemmas.Bool.Decides.{nat_tests}
use Rattle.std.specs.Prelude.{Option, None}
use Rattle.ld_terms.specs.Tree.{Tree, Star, Box, Var, App, Lam, Pi, Const, Trees, Nil, ◌▸◌}
use Rattle.ld_terms.specs.Item.{One, IsSmall, height, greatest_height, greatest_index, greatest_index_in}
use Rattle.ld_terms.specs.Put.{lift, lift_all}
use Rattle.ld_terms.specs.Bank.{tree_at}
use Rattle.ld_record.specs.Growth.{Knows}
use Rattle.ld_infer.specs.declared.variable.VariableTyped.{VariableTyped}
use Rattle.ld_infer.specs.Reading.{type_in, lifted}
use Rattle.ld_infer.specs.Standing.{Standing, known, Continues, here, without}
use Rattle.ld_infer.specs.Variables.{judged_in, IsTypedIn, IsHighIn}
use Rattle.ld_infer.specs.Infers.{IsVariableTyped}
use Rattle.ld_infer.proofs.Going.{continues_trans, here_stays}

-- Lifting keeps the height, and makes no index less.
mutual
  height_lift : (t : Tree) (by from : ℕ) → height (lift t by from) ≡ height t
  height_lift Star by from = refl
  height_lift Box by from = refl
  height_lift (Var i) by from = refl
  height_lift (App f u) by from = (λ k. max (height_lift f by from k) (height_lift u by from k) + 1)
  height_lift (Lam a m) by from = (λ k. max (height_lift a by from k) (height_lift m by (suc from) k) + 1)
  height_lift (Pi a b) by from = (λ k. max (height_lift a by from k) (height_lift b by (suc from) k) + 1)
  height_lift (Const n us) by from = (λ k. height_lift_all us by from k + 1)

  height_lift_all : (us : Trees) (by from : ℕ) → greatest_height (lift_all us by from) ≡ greatest_height us
  height_lift_all Nil by from = refl
  height_lift_all (us ▸ u) by from = (λ k. max (height_lift_all us by from k) (height_lift u by from k))

max_above : (a b c d : ℕ) → a ≤ c → b ≤ d → max a b ≤ max c d
max_above a b c d h k = grind arith

mutual
  index_lift : (t : Tree) (by from : ℕ) → greatest_index t ≤ greatest_index (lift t by from)
  index_lift Star by from = omega arith
  index_lift Box by from = omega arith
  index_lift (Var i) by from = grind (arith, nat_tests)
  index_lift (App f u) by from = max_above _ _ _ _ (index_lift f by from) (index_lift u by from)
  index_lift (Lam a m) by from = max_above _ _ _ _ (index_lift a by from) (index_lift m by (suc from))
  index_lift (Pi a b) by from = max_above _ _ _ _ (index_lift a by from) (index_lift b by (suc from))
  index_lift (Const n us) by from = index_lift_all us by from

  index_lift_all : (us : Trees) (by from : ℕ) → greatest_index_in us ≤ greatest_index_in (lift_all us by from)
  index_lift_all Nil by from = omega arith
  index_lift_all (us ▸ u) by from = max_above _ _ _ _ (index_lift_all us by from) (index_lift u by from)

small_before : (t : Tree) → IsSmall (One (lift t 1 0)) → IsSmall (One t)
small_before t h = record { height = omega (arith, height_lift t 1 0, h.height); index = omega (arith, index_lift t 1 0, h.index) }

-- what is not small before it is lifted is not afterwards
pub high_after : (t : Tree) → ¬ IsSmall (One t) → ¬ IsSmall (One (lift t 1 0))
high_after t h small = h (small_before t small)

some_lifted : (o : Option Tree) (b : Tree) → lifted o ≡ Some b → (t : Tree) × (o ≡ Some t) × (lift t 1 0 ≡ b)
some_lifted None b e = absurd (cc)
some_lifted (Some t) b e = (t, refl, cc)

-- a type that is high without some variables is high with them
pub high_whole : (ctx : Trees) (out i j : ℕ) → j ≡ i + out → IsHighIn (without out ctx) i → IsHighIn ctx j
high_whole ctx zero i j e h = let P : ℕ → Type 0 = IsHighIn ctx in let same : i ≡ j = omega arith in subst P same h
high_whole Nil (suc out) i j e h = λ a is. absurd (cc)
high_whole (ctx ▸ c) (suc out) i zero e h = absurd (omega arith)
high_whole (ctx ▸ c) (suc out) i (suc j) e h = λ b is.
    let before = some_lifted (type_in ctx j) b is in
    let inner = high_whole ctx out i j (omega arith) h before.0 before.1 in
    let P : Tree → Type 0 = λ t. ¬ IsSmall (One t) in
    subst P before.2 (high_after before.0 inner)

-- how far a variable's type was led: into the context without all but so many later variables
pub record IsWeakened (old now : Standing) (i index : ℕ) (v : VariableTyped) : Type 0 where
  pub continues : Continues old now
  pub typed : IsTypedIn now (i - index) index v

typed_by : (s : Standing) (out out' i i' : ℕ) (v : VariableTyped) → out ≡ out' → i ≡ i' → IsTypedIn s out i v → IsTypedIn s out' i' v
typed_by s out out' i i' v e f h =
    let P : ℕ → Type 0 = λ n. IsTypedIn s n i' v in
    subst P e (subst (λ n. IsTypedIn s out n v) f h)

pub weakened_first : (old now : Standing) (i : ℕ) (v : VariableTyped) → Continues old now → IsTypedIn now i 0 v → IsWeakened old now i 0 v
weakened_first old now i v continues h = record { continues = continues; typed = typed_by now i (i - 0) 0 0 v (omega arith) refl h }

pub weakened_typed : (old now : Standing) (i index : ℕ) (v : VariableTyped) → index < i → IsWeakened old now i index v → IsTypedIn now (i - 1 - index + 1) (index + 1 - 1) v
weakened_typed old now i index v below h = typed_by now (i - index) _ index _ v (omega arith) (omega arith) h.typed

pub weakened_more : (old mid now : Standing) (i index : ℕ) (v w : VariableTyped) → index < i → IsWeakened old mid i index v → Continues mid now → IsTypedIn now (i - 1 - index) (index + 1) w → IsWeakened old now i (index + 1) w
weakened_more old mid now i index v w below h continues typed = record {
  continues = continues_trans old mid now h.continues continues;
  typed = typed_by now _ _ _ _ w (omega arith) refl typed;
}

pub weakened_all : (old now : Standing) (i index : ℕ) (v : VariableTyped) → i ≤ index → index ≤ i → IsWeakened old now i index v → IsVariableTyped old now i v
weakened_all old now i index v above below h =
    let typed = typed_by now (i - index) 0 index i v (omega arith) (omega arith) h.typed in
    let here_same : judged_in now now.context (Var i) (tree_at now.items v.of) ≡ here old (Var i) (tree_at now.items v.of) = here_stays old now _ _ h.continues in
    record {
      term = typed.term;
      type = ap (λ ctx. type_in ctx i) (sym h.continues.context) ∙ typed.type;
      small = typed.small;
      judged = subst (Knows (known now) v.judge) here_same typed.judged;
      sorted = record { sort = typed.sorted.sort; is = typed.sorted.is; knows = typed.sorted.knows };
    }

-- a type that is high in a context on the way
pub high_on_the_way : (old now : Standing) (i index : ℕ) (v : VariableTyped) → index < i → IsWeakened old now i index v → IsHighIn (without (i - 1 - index) now.context) (index + 1) → IsHighIn old.context i
high_on_the_way old now i index v below h high =
    let P : Trees → Type 0 = λ ctx. IsHighIn ctx i in
    subst P h.continues.context (high_whole now.context (i - 1 - index) (index + 1) i (omega arith) high)
