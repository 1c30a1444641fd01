-- The step that a tree has itself, and what is answered where it is made.
use Rattle.std.proofs.Common.{◌≡◌, ◌≤◌, ◌<◌, ℕ, List, Option, None, Some, Result, Err, refl, ap, sym, ◌∙◌, subst, arith}
use Rattle.ld_terms.specs.Tree.{Tree, App, Lam, Const}
use Rattle.ld_terms.specs.Entry.{Env}
use Rattle.ld_terms.specs.Item.{Item, tree, height_of}
use Rattle.ld_terms.specs.Bank.{item_at, item_of, tree_at, list_at, IsTermAt, IsListAt}
use Rattle.ld_terms.specs.Known.{Known}
use Rattle.ld_terms.specs.declared.bank.TermId.{TermId}
use Rattle.ld_terms.specs.declared.bank.Node.{Node}
use Rattle.ld_terms.specs.declared.bank.Node.TheVariants as node
use Rattle.ld_env.specs.Named.{Named}
use Rattle.ld_env.specs.Entries.{env_of}
use Rattle.ld_record.specs.declared.record.EqId.{EqId}
use Rattle.ld_reduce.specs.Heads.{head_step}
use Rattle.ld_reduce.specs.Work.{Work, Takes}
use Rattle.ld_reduce.specs.Steps.{IsMade, Makes, HasBodyFor}
use Rattle.ld_reduce.specs.Forms.{AreAllLive, HasEntries, next_of, bound_of, Fits, none, further, IsPartDone, Passes, outcome, redex_bound, IsStep, LeadsOn, LeadsTop, Walks}
use Rattle.ld_reduce.specs.declared.top.Redex.{Redex}
use Rattle.ld_reduce.specs.declared.top.Redex.TheVariants as redex
use Rattle.ld_reduce.specs.declared.stop.Stop.{Stop}
use Rattle.ld_reduce.specs.declared.stop.Stop.TheVariants as stop
use Rattle.ld_reduce.proofs.Going.{term_of}
use Rattle.ld_reduce.proofs.Unfolding.{unfolds_to}
use Rattle.ld_reduce.proofs.Walks.{next_none}

-- a number whose node is no abstraction stands for none
pub no_abstraction : (items : List Item) (n : Node) (f : TermId) → item_of items n ≡ item_at items f → ((x y : TermId) → n ≡ node.Lam x y → ⊥) → (a m : Tree) → tree_at items f ≡ Lam a m → ⊥
no_abstraction items node.Star f e other a m is = let x = ap tree e in cc
no_abstraction items node.Box_ f e other a m is = let x = ap tree e in cc
no_abstraction items (node.Var i) f e other a m is = let x = ap tree e in cc
no_abstraction items (node.App g u) f e other a m is = let x = ap tree e in cc
no_abstraction items (node.Lam x y) f e other a m is = other x y refl
no_abstraction items (node.Pi x y) f e other a m is = let x = ap tree e in cc
no_abstraction items (node.Const k us) f e other a m is = let x = ap tree e in cc
no_abstraction items node.Nil f e other a m is = let x = ap tree e in cc
no_abstraction items (node.Cons u us) f e other a m is = let x = ap tree e in cc

pub no_redex : (o : Option (List Named)) (env : Env) (t f u : Tree) → t ≡ App f u → IsPartDone (next_of o env) t → ((a m : Tree) → f ≡ Lam a m → ⊥) → next_of o env t ≡ None
no_redex o env t f u e part other = ap (next_of o env) e ∙ next_none o env f u (part.none f u e) other

pub all_live : (items : List Item) (env : Env) (o : Option (List Named)) → HasEntries items env o → AreAllLive items o
all_live items env None h = tt
all_live items env (Some n) h = h.1

pub instance_step : (items : List Item) (env : Env) (o : Option (List Named)) (entries : List Named) (t : Tree) (k : ℕ) (us body : TermId) → o ≡ Some entries → HasEntries items env o
    → t ≡ Const k (list_at items us) → IsListAt items us → IsTermAt items body → HasBodyFor (env_of items entries) k (list_at items us) (tree_at items body)
    → IsStep (next_of o env) (bound_of o env) items env t (redex.Delta body us)
instance_step items env None entries t k us body e h is list there has = absurd (cc)
instance_step items env (Some n) entries t k us body e h is list there has =
    let same : entries ≡ n = cc in
    let now : HasBodyFor env k (list_at items us) (tree_at items body) = subst (λ x. HasBodyFor x k (list_at items us) (tree_at items body)) (ap (env_of items) same ∙ h.0) has in
    record {
      redex = (there, list, record { number = k; is = is; has = now });
      is = ap (head_step env) is ∙ unfolds_to env k (list_at items us) (tree_at items body) now;
      most = omega arith;
    }

module _ (next : Tree → Option Tree) (room bound : ℕ) (from : Tree) (items : List Item) (env : Env) (r : Redex) (step : IsStep next bound items env from r) (old new : Work) where
  -- no step is left
  pub top_spent : (now : List Item) (known : Known) (s : Stop) (result : Result (Option (TermId × EqId)) Stop) → old.left ≡ 0 → new ≡ old → s ≡ stop.Spent → Err s ≡ result
      → LeadsTop next room bound from now known old new result
  top_spent now known s result zero same is e =
      let P : Result (Option (TermId × EqId)) Stop → Type 0 = λ x. LeadsTop next room bound from now known old new x in
      let Q : Stop → Type 0 = λ x. P (Err x) in
      subst P e (subst Q (sym is) (record {
        steps = 0;
        between = from;
        to = outcome items r;
        walks = none;
        is = step.is;
        takes = record { left = let x = ap (λ (w : Work). w.left) same in omega arith; spent = let x = ap (λ (w : Work). w.spent) same in omega arith };
        left = ap (λ (w : Work). w.left) same ∙ zero;
      }))

  -- the tree after the step is made, or is too high
  module _ (takes : Takes old new 1) (now : List Item) (known : Known) where
    top_passes : (¬ Fits room (outcome items r)) → Passes next room from old new
    top_passes high = record {
      steps = 0;
      between = from;
      to = outcome items r;
      walks = none;
      is = step.is;
      high = high;
      takes = takes;
    }

    stopped : room ≤ 500 → (s : Stop) → Makes from (outcome items r) (redex_bound env r) now known (Err s) → LeadsTop next room bound from now known old new (Err s)
    stopped le stop.Spent h = absurd h
    stopped le stop.Nested h = absurd h
    stopped le stop.High h = top_passes (λ fits. h (record { height = omega (arith, fits.height, le); index = fits.index }))
    stopped le stop.Memory h = tt

    pub top_stopped : room ≤ 500 → (s : Stop) (result : Result (Option (TermId × EqId)) Stop) → Makes from (outcome items r) (redex_bound env r) now known (Err s) → Err s ≡ result
        → LeadsTop next room bound from now known old new result
    top_stopped le s result h e =
        let P : Result (Option (TermId × EqId)) Stop → Type 0 = λ x. LeadsTop next room bound from now known old new x in
        subst P e (stopped le s h)

    module _ (t : TermId) (e : EqId) (made : IsMade now known from (outcome items r) (redex_bound env r) t e) where
      pub top_high : room < height_of (item_at now t) → Passes next room from old new
      top_high lt =
          let same = ap height_of made.stands.item in
          top_passes (λ fits. let x = fits.height in omega arith)

      pub top_made : height_of (item_at now t) ≤ room → LeadsOn next room bound from now known old new t e
      top_made le =
          let same = ap height_of made.stands.item in
          let is : outcome items r ≡ tree_at now t = sym (ap tree made.stands.item) in
          let fits : Fits room (outcome items r) = record { height = omega arith; index = made.small.index } in
          let W : Tree → Type 0 = λ x. Walks next room from x 1 in
          record {
            leads = record {
              steps = 1;
              walks = subst W is (further none step.is fits);
              takes = takes;
              term = term_of now t (outcome items r) made.stands;
              fits = subst (Fits room) is fits;
              joins = record { sides = record { live = made.equal.sides.live; left = made.equal.sides.left; right = made.equal.sides.right ∙ is }; most = omega arith };
              most = let x = made.equal.most in let y = step.most in omega arith;
            };
            less = let x = takes.left in omega arith;
          }

-- a number whose node is no application stands for a tree without a function part
pub no_part : (next : Tree → Option Tree) (items : List Item) (n : Node) (t : TermId) → item_of items n ≡ item_at items t → ((x y : TermId) → n ≡ node.App x y → ⊥) → IsPartDone next (tree_at items t)
no_part next items n t e other = record { none = λ f u is. absurd (no_application items n t e other f u is) }
  where
    no_application : (items : List Item) (n : Node) (t : TermId) → item_of items n ≡ item_at items t → ((x y : TermId) → n ≡ node.App x y → ⊥) → (f u : Tree) → tree_at items t ≡ App f u → ⊥
    no_application items node.Star t e other f u is = let x = ap tree e in cc
    no_application items node.Box_ t e other f u is = let x = ap tree e in cc
    no_application items (node.Var i) t e other f u is = let x = ap tree e in cc
    no_application items (node.App x y) t e other f u is = other x y refl
    no_application items (node.Lam a m) t e other f u is = let x = ap tree e in cc
    no_application items (node.Pi x y) t e other f u is = let x = ap tree e in cc
    no_application items (node.Const k us) t e other f u is = let x = ap tree e in cc
    no_application items node.Nil t e other f u is = let x = ap tree e in cc
    no_application items (node.Cons v us) t e other f u is = let x = ap tree e in cc
