-- Functions and arguments as they are read.
use Rattle.std.proofs.Common.{◌≡◌, suc, Bool, true, false, Option, None, Some, refl, sym, subst}
use Rattle.std.specs.Prelude.{⊤}
use Rattle.ld_terms.specs.Tree.{Tree, Box, Pi, Trees, Nil, ◌▸◌, count}
use Rattle.ld_terms.specs.Put.{put}
use Rattle.ld_terms.specs.Entry.{Env}
use Rattle.ld_terms.specs.Step.{Converts}
use Rattle.ld_terms.specs.Derivable.{Derivable, Arguments, IsLegalContext, ◌⨾◌⊢◌∶◌, ◌⨾◌⊢◌∶∶◌}
use Rattle.ld_terms.specs.Tests.{equals}
use Rattle.ld_laws.specs.Typing.{HasSort}
use Rattle.ld_laws.specs.Reduction.{Steps}
use Rattle.ld_laws.proofs.RigidHeads.{heads_alike}
use Rattle.ld_laws.proofs.Scoping.{scopes}
use Rattle.ld_laws.proofs.Converting.{Extends}
use Rattle.ld_laws.proofs.LegalContexts.{legal_of, last_of, put_all}
use Rattle.ld_laws.proofs.Correctness.{IsCorrect, correct}
use Rattle.ld_laws.proofs.Preservation.{from_put_sort, steps_convert}
use Rattle.ld_laws.proofs.UniqueTypes.{uniqueness}
use Rattle.ld_reduce.specs.Task.{Task, ◌>>=◌}
use Rattle.ld_convert.specs.Apart.{Apart}
use Rattle.ld_convert.specs.Apartness.{AreApart}
use Rattle.ld_convert.proofs.Means.{Means, gives_means, fails_means, bind_means, faults_means, means_more, formed_means}
use Rattle.ld_convert.proofs.Sameness.{equals_are}
use Rattle.ld_infer.specs.declared.failure.RuleName.{RuleName}
use Rattle.ld_infer.specs.declared.failure.PathStep.TheVariants.{Nth}
use Rattle.ld_infer.specs.Parts.{PartAt, PartAmong}
use Rattle.ld_infer.specs.Reading as reading
use Rattle.ld_infer.specs.Reading.{Asked, Reason, Refusal, refusal, inside, Found, product_of}
use Rattle.ld_infer.specs.Refusals.{HasType, IsUntyped}
use Rattle.ld_infer.proofs.ExposedHeads.{IsExposed, exposed_means}
use Rattle.ld_infer.proofs.TypesRead.{product_by_test, no_product, box_no_product, steps_typed, all_but_last, last_argument}
use Rattle.ld_infer.proofs.Refused.{NoFunction, Misfit, Misfits, holds_here, holds_inside, holds_more}
use Rattle.ld_infer.proofs.SortsRead.{again_means}

-- the type that a comparison finds apart from the one wanted
abbrev pub DifferAt : Env → (a b : Tree) → Apart → Type 0
DifferAt env a b d = AreApart env a b d.left d.right

module _ (env : Env) (ctx : Trees) (legal : IsLegalContext env ctx) (read : Asked → Tree → Task Refusal Found)
    (hr : (q : Asked) (t : Tree) → Means env (read q t) (HasType env ctx t) (IsUntyped env ctx t)) where
  -- a product that a type goes to has a sort, as the type has
  reduct_sorted : {n a b : Tree} → IsCorrect env ctx n → Steps env n (Pi a b) → HasSort env ctx (Pi a b)
  reduct_sorted {a = a} {b = b} IsCorrect.is_box w = absurd (box_no_product (heads_alike env (scopes legal).of_env Box (Pi a b) tt tt (steps_convert w)))
  reduct_sorted (IsCorrect.sorted g) w = record { of = g.of; is_sort = g.is_sort; typed = steps_typed w g.typed }

  exposed_product_means : (o : Option (Tree × Tree)) (q : Asked) (f type u : Tree) → product_of u ≡ o → Derivable env ctx f type → IsExposed env type u →
      Means env (reading.exposed_product env (count ctx) read o q type) (λ p. Derivable env ctx f (Pi p.0 p.1)) (NoFunction env ctx f)
  exposed_product_means (Some p) q f type u e d x =
      bind_means (λ _. ⊤) (again_means env ctx legal read hr (NoFunction env ctx f) q (Pi p.0 p.1) sorted)
      (λ _ _. gives_means p (◌⨾◌⊢◌∶◌.conv sorted.is_sort (steps_convert to_product) d sorted.typed))
    where
      to_product : Steps env type (Pi p.0 p.1)
      to_product = subst (Steps env type) (product_by_test u p e) x.steps

      sorted : HasSort env ctx (Pi p.0 p.1)
      sorted = reduct_sorted (correct d) to_product
  exposed_product_means None q f type u e d x =
      fails_means (refusal q (count ctx) (Reason.NotFunction type))
      (record { refused = refused; because = holds_here env ctx f q (Reason.NotFunction type) (record { typed = d; no_product = refused }) })
    where
      refused : (a b : Tree) → Derivable env ctx f (Pi a b) → ⊥
      refused a b d' =
          no_product (heads_alike env (scopes legal).of_env u (Pi a b) x.rigid tt (Converts.chain (Converts.back (steps_convert x.steps)) (uniqueness env ctx f type (Pi a b) d d'))) e

  product_in_means : (o : Option (Tree × Tree)) (q : Asked) (f type : Tree) → product_of type ≡ o → Derivable env ctx f type →
      Means env (reading.product_in env (count ctx) read o q type) (λ p. Derivable env ctx f (Pi p.0 p.1)) (NoFunction env ctx f)
  product_in_means (Some p) q f type e d = gives_means p (subst (Derivable env ctx f) (product_by_test type p e) d)
  product_in_means None q f type e d =
      bind_means (IsExposed env type) (exposed_means env (NoFunction env ctx f) type) (λ u x. exposed_product_means (product_of u) q f type u refl d x)

  pub function_means : (q : Asked) (f : Tree) →
      Means env (read q f >>= λ r. reading.product_in env (count ctx) read (product_of r.type) q r.type) (λ p. Derivable env ctx f (Pi p.0 p.1)) (NoFunction env ctx f)
  function_means q f =
      bind_means (HasType env ctx f)
      (means_more (HasType env ctx f) (IsUntyped env ctx f) (λ r h. h) (λ e g. record { refused = λ a b d. g.no_type (Pi a b) d; because = g.because }) (hr q f))
      (λ r h. product_in_means (product_of r.type) q f r.type refl h.typed)

  -- And hc says what the comparison means.
  module _ (compare : Tree → Tree → Task Apart (Unit {0})) (hc : (a b : Tree) → Means env (compare a b) (λ _. Converts env a b) (DifferAt env a b)) where
    suits_means : (equal : Bool) (q : Asked) (u type wanted : Tree) → equals type wanted ≡ equal → Derivable env ctx u type → HasSort env ctx wanted →
        Means env (reading.suits env compare (count ctx) read equal q type wanted) (λ _. Derivable env ctx u wanted) (Misfit env ctx u wanted)
    suits_means true q u type wanted e d h = gives_means tt (subst (Derivable env ctx u) (equals_are type wanted e) d)
    suits_means false q u type wanted e d h =
        bind_means (λ _. Converts env type wanted)
        (faults_means (λ d. refusal q (count ctx) (Reason.NotSame type wanted d)) (DifferAt env type wanted) misfit (hc type wanted))
        (λ _ c. means_more (λ _. ⊤) (Misfit env ctx u wanted) (λ _ _. ◌⨾◌⊢◌∶◌.conv h.is_sort c d h.typed) (λ e f. f)
        (again_means env ctx legal read hr (Misfit env ctx u wanted) q wanted h))
      where
        misfit : (f : Apart) → DifferAt env type wanted f → Misfit env ctx u wanted (refusal q (count ctx) (Reason.NotSame type wanted f))
        misfit f g =
            let other : Derivable env ctx u wanted → ⊥ = λ d'. g.compared (uniqueness env ctx u type wanted d d') in
            record { refused = other; because = holds_here env ctx u q (Reason.NotSame type wanted f) (record { typed = d; other = other; differ = g }) }

    -- an argument is read, and has the type wanted
    pub argument_means : (q : Asked) (wanted u : Tree) → HasSort env ctx wanted →
        Means env (reading.suited_reading env compare (count ctx) read q wanted u) (λ _. Derivable env ctx u wanted) (Misfit env ctx u wanted)
    argument_means q wanted u h =
        bind_means (HasType env ctx u)
        (means_more (HasType env ctx u) (IsUntyped env ctx u) (λ r g. g) (λ e f. record { refused = λ d. f.no_type wanted d; because = f.because }) (hr q u))
        (λ r g. suits_means (equals r.type wanted) q u r.type wanted refl g.typed h)

    -- the type wanted of an argument has a sort
    wanted_sorted : (before : Env) → Extends before env → {ps us : Trees} {p : Tree} → IsLegalContext before (ps ▸ p) → Arguments env ctx ps us → HasSort env ctx (put p us)
    wanted_sorted before x {us = us} l args =
        let h = last_of l in record { of = h.of; is_sort = h.is_sort; typed = from_put_sort us h.is_sort (put_all x legal args h.typed) }

    this_misfit : (ps us : Trees) (p u w : Tree) → w ≡ put p us → (f : Refusal) → Misfit env ctx u w f → Misfits env ctx (ps ▸ p) (us ▸ u) (inside (Nth (suc (count us))) f)
    this_misfit ps us p u w e f h = record {
      refused = λ args. h.refused (subst (Derivable env ctx u) (sym e) (last_argument args));
      because = holds_inside env (Nth (suc (count us))) (PartAt ctx u) (PartAmong ctx (us ▸ u)) (λ path c t a. PartAmong.last a) f h.because;
    }

    earlier_misfit : (ps us : Trees) (p u : Tree) (f : Refusal) → Misfits env ctx ps us f → Misfits env ctx (ps ▸ p) (us ▸ u) f
    earlier_misfit ps us p u f h = record {
      refused = λ args. h.refused (all_but_last args);
      because = holds_more env (PartAmong ctx us) (PartAmong ctx (us ▸ u)) (λ path c t a. PartAmong.before a) f h.because;
    }

    next_means : (rule : RuleName) (ps us : Trees) (p u : Tree) → HasSort env ctx (put p us) → Arguments env ctx ps us →
        Means env (reading.next_argument env compare (count ctx) read rule p us u) (λ _. Arguments env ctx (ps ▸ p) (us ▸ u)) (Misfits env ctx (ps ▸ p) (us ▸ u))
    next_means rule ps us p u h args =
        bind_means (λ w. w ≡ put p us) (formed_means (put p us) refl)
        (λ w e. faults_means (inside (Nth (suc (count us)))) (Misfit env ctx u w) (this_misfit ps us p u w e)
        (means_more (λ _. Derivable env ctx u w) (Misfit env ctx u w) (λ _ d. ◌⨾◌⊢◌∶∶◌.more args (subst (Derivable env ctx u) e d)) (λ e f. f)
        (argument_means (rule, suc (count us)) w u (subst (HasSort env ctx) (sym e) h))))

    pub arguments_means : (before : Env) → Extends before env → (rule : RuleName) (ps us : Trees) → IsLegalContext before ps →
        Means env (reading.arguments env compare (count ctx) read rule ps us) (λ _. Arguments env ctx ps us) (Misfits env ctx ps us)
    arguments_means before x rule Nil Nil l = gives_means tt ◌⨾◌⊢◌∶∶◌.none
    arguments_means before x rule (ps ▸ p) (us ▸ u) l =
        bind_means (λ _. Arguments env ctx ps us)
        (means_more (λ _. Arguments env ctx ps us) (Misfits env ctx ps us) (λ _ args. args) (earlier_misfit ps us p u)
        (arguments_means before x rule ps us (legal_of (last_of l).typed)))
        (λ _ args. next_means rule ps us p u (wanted_sorted before x l args) args)
    arguments_means before x rule Nil (us ▸ u) l = λ K L r n h known. absurd h
    arguments_means before x rule (ps ▸ p) Nil l = λ K L r n h known. absurd h
