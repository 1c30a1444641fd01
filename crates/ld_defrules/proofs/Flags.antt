-- A context without some of its last variables.
use Rattle.std.proofs.Common.{◌≡◌, ◌-◌, ℕ, zero, suc, refl, arith}
use Rattle.ld_terms.specs.Tree.{Trees, Nil, ◌▸◌, count}
use Rattle.ld_infer.specs.Standing.{without, without_last}

-- the last of those that are left is taken away
pub without_more : (n : ℕ) (ctx : Trees) → without_last (without n ctx) ≡ without (suc n) ctx
without_more zero ctx = refl
without_more (suc n) ctx = without_more n (without_last ctx)

pub count_without_last : (ctx : Trees) → count (without_last ctx) ≡ count ctx - 1
count_without_last Nil = refl
count_without_last (ctx ▸ a) = omega arith
