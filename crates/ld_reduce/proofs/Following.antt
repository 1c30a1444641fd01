-- By which rule the equality of one step follows.
use Rattle.std.proofs.Common.{◌≡◌, ◌≤◌, ◌+◌, max, ℕ, List, refl, ap, sym, ◌∙◌, subst, arith}
use Rattle.ld_terms.specs.Tree.{Tree, App, Const, Trees, Nil, ◌▸◌}
use Rattle.ld_terms.specs.Put.{put}
use Rattle.ld_terms.specs.Entry.{Env}
use Rattle.ld_terms.specs.Item.{Item, One, IsSmall, tree, height, greatest_index}
use Rattle.ld_terms.specs.Bank.{item_at, tree_at, IsTermAt, StandsFor}
use Rattle.ld_terms.specs.Known.{Known, Equality, equality_at}
use Rattle.ld_terms.specs.Named.{IsNamed, AreNamed}
use Rattle.ld_terms.specs.declared.bank.TermId.{TermId}
use Rattle.ld_record.specs.declared.record.EqId.{EqId}
use Rattle.ld_record.specs.declared.record.Kept.{Kept}
use Rattle.ld_record.specs.declared.record.EqStep.TheVariants as step
use Rattle.ld_record.specs.Equal.{ByBeta, ByDelta, ByTwo}
use Rattle.ld_record.specs.Kept.{known_of, equality_of, FitsEqual}
use Rattle.ld_record.specs.Growth.{KnowsEquality}
use Rattle.ld_record.proofs.CallerLemmas.{equal_fits}
use Rattle.ld_reduce.specs.Cost.{Equates, Goes}
use Rattle.ld_reduce.specs.Steps.{IsMade, IsRedex, IsInstance, IsUnder}
use Rattle.ld_reduce.proofs.Going.{stands_later, kept_equates}

pub by_beta : (known : Known) (t m u : Tree) → IsRedex t m u → IsNamed known.env t → ByBeta known t (put m (Nil ▸ u))
by_beta known t m u h named = record { domain = h.domain; body = m; argument = u; left = h.is; right = refl; named = named }

-- the arguments of an instance that is named
arguments_named : (env : Env) (t : Tree) (k : ℕ) (us : Trees) → t ≡ Const k us → IsNamed env t → AreNamed env us
arguments_named env t k us e h =
    let P : Tree → Type 0 = λ x. IsNamed env x in
    (subst P e h).2

pub by_delta : (known : Known) (t : Tree) (us : Trees) (body : Tree) → IsInstance known.env t us body → IsNamed known.env t → ByDelta known t (put body us)
by_delta known t us body h named = record {
  number = h.number;
  there = h.has.there;
  body = body;
  unfolds = h.has.unfolds;
  arguments = us;
  as_many = h.has.as_many;
  left = h.is;
  right = refl;
  named = arguments_named known.env t h.number us h.is named;
}

-- the argument of an application that is named
pub argument_named : (env : Env) (t f u : Tree) → t ≡ App f u → IsNamed env t → IsNamed env f × IsNamed env u
argument_named env t f u e h =
    let P : Tree → Type 0 = λ x. IsNamed env x in
    subst P e h

-- An application of the left side of an equality is equal to that of the right side, by the equality of the argument with itself.
module _ (a d : List Item) (j k : List Kept) (t u g to : TermId) (e q : EqId) (goes : Goes a d j k) (term : IsTermAt a t) (argument : IsTermAt a u)
    (under : IsUnder (known_of a j) (tree_at a t) (tree_at a u) e (tree_at a g)) (holds : StandsFor d to (App (tree_at a g) (tree_at a u)))
    (same : Equates (known_of d k) q (tree_at d u) (tree_at d u) 0) where
  function_is : equality_at (known_of d k) e.0 ≡ equality_at (known_of a j) e.0
  function_is = goes.adds.equality e.0 under.live

  argument_is : tree_at d u ≡ tree_at a u
  argument_is = ap tree (goes.extends.kept u argument.live)

  by_two : ByTwo (known_of d k) App (tree_at a t) (App (tree_at a g) (tree_at a u)) e q
  by_two = record {
    first = omega (arith, under.live, goes.adds.equalities);
    second = same.sides.live;
    left =
        under.left ∙ ap (λ (x : Equality). App x.left (tree_at a u)) (sym function_is)
        ∙ ap (App (equality_at (known_of d k) e.0).left) (sym (same.sides.left ∙ argument_is));
    right =
        ap (λ x. App x (tree_at a u)) (sym (ap (λ (x : Equality). x.right) function_is ∙ under.right))
        ∙ ap (App (equality_at (known_of d k) e.0).right) (sym (same.sides.right ∙ argument_is));
  }

  pub app_fits : FitsEqual d (known_of d k) t to (step.App e q)
  app_fits = equal_fits d (known_of d k) t to (tree_at a t) (App (tree_at a g) (tree_at a u)) (step.App e q) (stands_later a d t goes.extends term) holds by_two

  pub app_made : (known : Known) (r : EqId) → IsSmall (item_at d to) → KnowsEquality known r (equality_of d (known_of d k) t to (step.App e q))
      → IsMade d known (tree_at a t) (App (tree_at a g) (tree_at a u)) (equality_at (known_of a j) e.0).bound to r
  app_made known r small knows = record {
    stands = holds;
    small = subst IsSmall holds.item small;
    equal = kept_equates d (known_of d k) known r t to (tree_at a t) (App (tree_at a g) (tree_at a u)) (step.App e q) _ (stands_later a d t goes.extends term) holds knows
        (let n = ap (λ (x : Equality). x.bound) function_is in let m = same.most in grind arith);
  }

-- the function part of a small application is small
pub function_small : (f u : Tree) → IsSmall (One (App f u)) → IsSmall (One f)
function_small f u h = record { height = less_height (height f) (height u) h.height; index = less_index (greatest_index f) (greatest_index u) h.index }
  where
    less_height : (x y : ℕ) → max x y + 1 ≤ 500 → x ≤ 500
    less_height x y e = grind arith

    less_index : (x y : ℕ) → max x y ≤ 65535 → x ≤ 65535
    less_index x y e = grind arith
