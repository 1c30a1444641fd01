-- A reading is right, both where it gives a type and where it is refused: one walk along the definition.
use Rattle.std.proofs.Common.{◌≡◌, ◌≤◌, ◌+◌, ◌-◌, ℕ, zero, suc, subst, arith}
use Rattle.ld_terms.specs.Tree.{Tree, Trees}
use Rattle.ld_terms.specs.Entry.{Env, IsScopedEnv}
use Rattle.ld_terms.specs.Step.{Converts}
use Rattle.ld_terms.specs.Derivable.{IsLegalContext}
use Rattle.ld_laws.proofs.Scoping.{scopes}
use Rattle.ld_reduce.specs.Task.{Gives, Fails, High, Nested}
use Rattle.ld_convert.specs.Compares.{Compares, compare_within}
use Rattle.ld_convert.proofs.Means.{Means, at_once_means}
use Rattle.ld_convert.proofs.Apartness.{compares_apart}
use Rattle.ld_convert.proofs.Sameness.{compares_same}
use Rattle.ld_infer.specs.Reading.{Asked, read_within, Types, SortOf, part_reading}
use Rattle.ld_infer.specs.Refusals.{HasType, IsSortOf, IsUntyped, IsUnsorted}
use Rattle.ld_infer.specs.Rightness.{ReadingDerivable, RefusedUntyped, AgainNotRefused, ReasonsHold}
use Rattle.ld_infer.proofs.PartsRead.{DifferAt}
use Rattle.ld_infer.proofs.SortsRead.{sort_means, again_means}
use Rattle.ld_infer.proofs.FormsRead.{reading_means}

-- the two laws of the comparison
compares_means : (env : Env) → IsScopedEnv env → (nesting : ℕ) (a b : Tree) → Means env (Compares env nesting a b) (λ _. Converts env a b) (DifferAt env a b)
compares_means env scoped nesting a b K L (Gives x) n h known = record { known = compares_same.pairs env nesting a b K L (Gives x) n known h; says = compares_same.are_same env nesting a b K L n known h }
compares_means env scoped nesting a b K L (Fails d) n h known =
    record { known = compares_same.pairs env nesting a b K L (Fails d) n known h; says = compares_apart.are_apart env scoped nesting a b d.left d.right d.under K L n h }
compares_means env scoped nesting a b K L High n h known = record { known = compares_same.pairs env nesting a b K L High n known h; says = tt }
compares_means env scoped nesting a b K L Nested n h known = record { known = compares_same.pairs env nesting a b K L Nested n known h; says = tt }

left_means : (env : Env) → IsScopedEnv env → (left : ℕ) → left ≤ 1001 → (a b : Tree) → Means env (compare_within left env a b) (λ _. Converts env a b) (DifferAt env a b)
left_means env scoped left le a b =
    let is : 1001 - (1001 - left) ≡ left = omega (arith, le) in
    subst (λ k. Means env (compare_within k env a b) (λ _. Converts env a b) (DifferAt env a b)) is (compares_means env scoped (1001 - left) a b)

read_means : (left : ℕ) → left ≤ 1001 → (env : Env) (ctx : Trees) → IsLegalContext env ctx → (q : Asked) (t : Tree) → Means env (read_within left env ctx q t) (HasType env ctx t) (IsUntyped env ctx t)
read_means zero le env ctx legal q t = at_once_means Nested 0 tt
read_means (suc left) le env ctx legal q t =
    let less : left ≤ 1001 = omega (arith, le) in
    reading_means env (read_within left env) (read_means left less env) ctx legal (compare_within left env) (left_means env (scopes legal).of_env left less) q t

pub types_mean : (env : Env) (ctx : Trees) → IsLegalContext env ctx → (nesting : ℕ) (q : Asked) (t : Tree) → Means env (Types env ctx nesting q t) (HasType env ctx t) (IsUntyped env ctx t)
types_mean env ctx legal nesting q t = let le : 1001 - nesting ≤ 1001 = omega arith in read_means (1001 - nesting) le env ctx legal q t

pub sorts_mean : (env : Env) (ctx : Trees) → IsLegalContext env ctx → (nesting : ℕ) (q : Asked) (t : Tree) → Means env (SortOf env ctx nesting q t) (IsSortOf env ctx t) (IsUnsorted env ctx t)
sorts_mean env ctx legal nesting q t = sort_means env ctx legal (read_within (1001 - nesting) env ctx) (λ p u. types_mean env ctx legal nesting p u) q t

pub reading_derivable : ReadingDerivable
reading_derivable = record {
  types = λ env ctx nesting q t K L r n legal known h. (types_mean env ctx legal nesting q t K L (Gives r) n h known).says;
  sorts = λ env ctx nesting q t K L s n legal known h. (sorts_mean env ctx legal nesting q t K L (Gives s) n h known).says;
  pairs_of_types = λ env ctx nesting q t K L r n legal known h. (types_mean env ctx legal nesting q t K L r n h known).known;
  pairs_of_sorts = λ env ctx nesting q t K L r n legal known h. (sorts_mean env ctx legal nesting q t K L r n h known).known;
}

pub refused_untyped : RefusedUntyped
refused_untyped = record {
  types = λ env ctx nesting q t K L f n legal known h. (types_mean env ctx legal nesting q t K L (Fails f) n h known).says.no_type;
  sorts = λ env ctx nesting q t K L f n legal known h. (sorts_mean env ctx legal nesting q t K L (Fails f) n h known).says.no_sort;
}

pub reasons_hold : ReasonsHold
reasons_hold = record {
  types = λ env ctx nesting q t K L f n legal known h. (types_mean env ctx legal nesting q t K L (Fails f) n h known).says.because;
  sorts = λ env ctx nesting q t K L f n legal known h. (sorts_mean env ctx legal nesting q t K L (Fails f) n h known).says.because;
}

pub again_not_refused : AgainNotRefused
again_not_refused env ctx nesting q t K L f n legal known sorted h =
    (again_means env ctx legal (part_reading nesting env ctx) (types_mean env ctx legal (nesting + 1)) (λ _. ⊥) q t sorted K L (Fails f) n h known).says
