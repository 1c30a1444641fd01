-- Variables, products, abstractions, applications and instances as they are read.
use Rattle.std.proofs.Common.{◌≡◌, ℕ, Bool, true, false, Option, None, Some, slice_get, take, refl, sym, subst}
use Rattle.std.specs.Prelude.{⊤}
use Rattle.ld_terms.specs.Tree.{Tree, Star, Box, Var, App, Lam, Pi, Const, Trees, Nil, ◌▸◌, count}
use Rattle.ld_terms.specs.Put.{put}
use Rattle.ld_terms.specs.Entry.{Entry, EntryAt, Env}
use Rattle.ld_terms.specs.Step.{Converts}
use Rattle.ld_terms.specs.Derivable.{Derivable, Arguments, IsLegalContext, ◌⨾◌⊢◌∶◌}
use Rattle.ld_terms.specs.Tests.{is_star, is_box}
use Rattle.ld_laws.specs.Typing.{HasSort}
use Rattle.ld_laws.proofs.Scoping.{scopes}
use Rattle.ld_laws.proofs.LegalContexts.{variable_typed}
use Rattle.ld_laws.proofs.Inversion.{generation}
use Rattle.ld_laws.proofs.Entries.{made_over, take_extends}
use Rattle.ld_laws.proofs.BoxFree.{box_untyped, box_apart}
use Rattle.ld_laws.proofs.Preservation.{params_legal, instance_by, product_parts}
use Rattle.ld_laws.proofs.UniqueTypes.{uniqueness}
use Rattle.ld_reduce.specs.Task.{Task, gives, formed, ◌>>=◌}
use Rattle.ld_convert.specs.Apart.{Apart}
use Rattle.ld_convert.proofs.Means.{Means, gives_means, fails_means, bind_means, faults_means, means_more, formed_means}
use Rattle.ld_infer.specs.declared.failure.RuleName.TheVariants.{Form, Appl, Abst}
use Rattle.ld_infer.specs.declared.failure.PathStep.TheVariants.{Dom, Ran, Fun, Arg, Body}
use Rattle.ld_infer.specs.Parts.{PartAt, PartAmong}
use Rattle.ld_infer.specs.Reading as reading
use Rattle.ld_infer.specs.Reading.{Asked, Reason, Refusal, refusal, inside, Found, found, type_in, instance_rule}
use Rattle.ld_infer.specs.Refusals.{HasType, IsSortOf, HasNoType, IsUntyped, IsUnsorted}
use Rattle.ld_infer.proofs.TypesRead.{star_by_test, box_by_test, sorted_type, sorted_product, star_sorted, type_at, at_sorted}
use Rattle.ld_infer.proofs.Refused.{NoFunction, Misfit, Misfits, holds_here, holds_inside, holds_more}
use Rattle.ld_infer.proofs.SortsRead.{sort_means, again_unless_means}
use Rattle.ld_infer.proofs.PartsRead.{DifferAt, function_means, argument_means, arguments_means}

-- the type of a variable, over its context
pub variable_means : (env : Env) (ctx : Trees) → IsLegalContext env ctx → (i : ℕ) (o : Option Tree) → type_in ctx i ≡ o →
    Means env (reading.variable_reading o) (HasType env ctx (Var i)) (IsUntyped env ctx (Var i))
variable_means env ctx legal i None e = λ K L r n h known. absurd h
variable_means env ctx legal i (Some a) e =
    let at = type_at ctx i a e in
    bind_means (λ n. n ≡ a) (formed_means a refl)
    (λ n p. gives_means (found n true) (record { typed = subst (Derivable env ctx (Var i)) (sym p) (variable_typed legal at); sorted = λ h. subst (HasSort env ctx) (sym p) (at_sorted legal at) }))

-- a type that is formed and whose sort doesn't come
pub formed_type : (env : Env) (ctx : Trees) (t type : Tree) (F : Refusal → Type 0) → Derivable env ctx t type →
    Means env (formed {E = Refusal} type >>= λ n. gives (found n false)) (HasType env ctx t) F
formed_type env ctx t type F d =
    bind_means (λ n. n ≡ type) (formed_means type refl)
    (λ n e. gives_means (found n false) (record { typed = subst (Derivable env ctx t) (sym e) d; sorted = λ h. absurd (cc) }))

-- Below, hr says what the readings of parts mean in every legal context.
module _ (env : Env) (read : Trees → Asked → Tree → Task Refusal Found)
    (hr : (ctx : Trees) → IsLegalContext env ctx → (q : Asked) (t : Tree) → Means env (read ctx q t) (HasType env ctx t) (IsUntyped env ctx t))
    (ctx : Trees) (legal : IsLegalContext env ctx) where
  under : {a s : Tree} → IsSortOf env ctx a s → IsLegalContext env (ctx ▸ a)
  under h = ◌⨾◌⊢◌∶◌.weak h.is_sort legal h.typed

  domain_refused : (a b : Tree) (f : Refusal) → IsUnsorted env ctx a f → IsUntyped env ctx (Pi a b) (inside Dom f)
  domain_refused a b f h = record {
    no_type = λ n d. let g = generation env ctx (Pi a b) n d in h.no_sort g.domain.of g.domain.is_sort g.domain.typed;
    because = holds_inside env Dom (PartAt ctx a) (PartAt ctx (Pi a b)) (λ path c t x. PartAt.domain x) f h.because;
  }

  range_refused : (a b : Tree) (f : Refusal) → IsUnsorted env (ctx ▸ a) b f → IsUntyped env ctx (Pi a b) (inside Ran f)
  range_refused a b f h = record {
    no_type = λ n d. let g = generation env ctx (Pi a b) n d in h.no_sort g.range.of g.range.is_sort g.range.typed;
    because = holds_inside env Ran (PartAt (ctx ▸ a) b) (PartAt ctx (Pi a b)) (λ path c t x. PartAt.range x) f h.because;
  }

  pub product_means : (a b : Tree) → Means env (reading.product_reading env read ctx a b) (HasType env ctx (Pi a b)) (IsUntyped env ctx (Pi a b))
  product_means a b =
      bind_means (IsSortOf env ctx a)
      (faults_means (inside Dom) (IsUnsorted env ctx a) (domain_refused a b) (sort_means env ctx legal (read ctx) (hr ctx legal) (Form, 1) a))
      (λ s1 h. bind_means (IsSortOf env (ctx ▸ a) b)
      (faults_means (inside Ran) (IsUnsorted env (ctx ▸ a) b) (range_refused a b) (sort_means env (ctx ▸ a) (under h) (read (ctx ▸ a)) (hr (ctx ▸ a) (under h)) (Form, 2) b))
      (λ s k. gives_means (found s (is_star s)) (record {
        typed = ◌⨾◌⊢◌∶◌.form h.is_sort k.is_sort h.typed k.typed;
        sorted = λ e. subst (HasSort env ctx) (sym (star_by_test s e)) (star_sorted legal);
      })))

  binder_refused : (a m : Tree) (f : Refusal) → IsUnsorted env ctx a f → IsUntyped env ctx (Lam a m) (inside Dom f)
  binder_refused a m f h = record {
    no_type = λ n d.
        let g = generation env ctx (Lam a m) n d in
        let p = generation env ctx (Pi a g.range) g.product.of g.product.typed in
        h.no_sort p.domain.of p.domain.is_sort p.domain.typed;
    because = holds_inside env Dom (PartAt ctx a) (PartAt ctx (Lam a m)) (λ path c t x. PartAt.binder x) f h.because;
  }

  body_refused : (a m : Tree) (f : Refusal) → IsUntyped env (ctx ▸ a) m f → IsUntyped env ctx (Lam a m) (inside Body f)
  body_refused a m f h = record {
    no_type = λ n d. let g = generation env ctx (Lam a m) n d in h.no_type g.range g.body;
    because = holds_inside env Body (PartAt (ctx ▸ a) m) (PartAt ctx (Lam a m)) (λ path c t x. PartAt.body x) f h.because;
  }

  -- an abstraction whose body has the type box has no type
  box_body : (a m : Tree) → Derivable env (ctx ▸ a) m Box → HasNoType env ctx (Lam a m)
  box_body a m d n d' =
      let g = generation env ctx (Lam a m) n d' in
      let p = generation env ctx (Pi a g.range) g.product.of g.product.typed in
      box_apart p.range.typed (uniqueness env (ctx ▸ a) m Box g.range d g.body)

  body_sorted_means : (box : Bool) (a m s : Tree) (r : Found) → IsSortOf env ctx a s → HasType env (ctx ▸ a) m r → is_box r.type ≡ box →
      Means env (reading.body_sorted env read ctx box a r) (λ _. HasSort env (ctx ▸ a) r.type) (IsUntyped env ctx (Lam a m))
  body_sorted_means true a m s r h d e =
      let typed = subst (Derivable env (ctx ▸ a) m) (box_by_test r.type e) d.typed in
      let no_type = box_body a m typed in
      fails_means (refusal (Abst, 2) (count ctx) Reason.BoxBody)
      (record { no_type = no_type; because = holds_here env ctx (Lam a m) (Abst, 2) Reason.BoxBody (record { binder = a; body = m; is = refl; body_typed = typed; no_type = no_type }) })
  body_sorted_means false a m s r h d e =
      let k = sorted_type d.typed e in
      means_more (λ _. ⊤) (IsUntyped env ctx (Lam a m)) (λ _ _. k) (λ f g. g)
      (again_unless_means env (ctx ▸ a) (under h) (read (ctx ▸ a)) (hr (ctx ▸ a) (under h)) (IsUntyped env ctx (Lam a m)) r.sort_comes (Abst, 2) r.type k)

  -- the body's type, which has a sort
  record IsBody (a m : Tree) (r : Found) : Type 0 where
    typed : Derivable env (ctx ▸ a) m r.type
    sorted : HasSort env (ctx ▸ a) r.type

  body_means : (a m s : Tree) → IsSortOf env ctx a s → Means env (reading.body_reading env read ctx a m) (IsBody a m) (IsUntyped env ctx (Lam a m))
  body_means a m s h =
      bind_means (HasType env (ctx ▸ a) m)
      (faults_means (inside Body) (IsUntyped env (ctx ▸ a) m) (body_refused a m) (hr (ctx ▸ a) (under h) (Abst, 1) m))
      (λ r d. bind_means (λ _. HasSort env (ctx ▸ a) r.type) (body_sorted_means (is_box r.type) a m s r h d refl)
      (λ _ k. gives_means r (record { typed = d.typed; sorted = k })))

  pub abstraction_means : (a m : Tree) → Means env (reading.abstraction_reading env read ctx a m) (HasType env ctx (Lam a m)) (IsUntyped env ctx (Lam a m))
  abstraction_means a m =
      bind_means (IsSortOf env ctx a)
      (faults_means (inside Dom) (IsUnsorted env ctx a) (binder_refused a m) (sort_means env ctx legal (read ctx) (hr ctx legal) (Abst, 1) a))
      (λ s h. bind_means (IsBody a m) (body_means a m s h)
      (λ r d. bind_means (λ n. n ≡ Pi a r.type) (formed_means (Pi a r.type) refl)
      (λ n e. gives_means (found n true) (abstraction_typed a m s r n h d e))))
    where
      abstraction_typed : (a m s : Tree) (r : Found) (n : Tree) → IsSortOf env ctx a s → IsBody a m r → n ≡ Pi a r.type → HasType env ctx (Lam a m) (found n true)
      abstraction_typed a m s r n h d e =
          let k = d.sorted in
          let p : Derivable env ctx (Pi a r.type) k.of = ◌⨾◌⊢◌∶◌.form h.is_sort k.is_sort h.typed k.typed in
          record {
            typed = subst (Derivable env ctx (Lam a m)) (sym e) (◌⨾◌⊢◌∶◌.abst k.is_sort d.typed p);
            sorted = λ _. subst (HasSort env ctx) (sym e) (record { of = k.of; is_sort = k.is_sort; typed = p });
          }

  -- And hc says what the comparison means.
  module _ (compare : Tree → Tree → Task Apart (Unit {0})) (hc : (a b : Tree) → Means env (compare a b) (λ _. Converts env a b) (DifferAt env a b)) where
    function_refused : (f u : Tree) (e : Refusal) → NoFunction env ctx f e → IsUntyped env ctx (App f u) (inside Fun e)
    function_refused f u e h = record {
      no_type = λ n d. let g = generation env ctx (App f u) n d in h.refused g.domain g.range g.function;
      because = holds_inside env Fun (PartAt ctx f) (PartAt ctx (App f u)) (λ path c t x. PartAt.function x) e h.because;
    }

    domain_sorted : (f : Tree) (p : Tree × Tree) → Derivable env ctx f (Pi p.0 p.1) → HasSort env ctx p.0
    domain_sorted f p d = let h = sorted_product d in (generation env ctx (Pi p.0 p.1) h.of h.typed).domain

    argument_refused : (f u : Tree) (p : Tree × Tree) → Derivable env ctx f (Pi p.0 p.1) → (e : Refusal) → Misfit env ctx u p.0 e → IsUntyped env ctx (App f u) (inside Arg e)
    argument_refused f u p d e h = record {
      no_type = λ n d'.
          let g = generation env ctx (App f u) n d' in
          let parts = product_parts (scopes legal).of_env (uniqueness env ctx f (Pi g.domain g.range) (Pi p.0 p.1) g.function d) in
          let s = domain_sorted f p d in
          h.refused (◌⨾◌⊢◌∶◌.conv s.is_sort parts.domains g.argument s.typed);
      because = holds_inside env Arg (PartAt ctx u) (PartAt ctx (App f u)) (λ path c t x. PartAt.argument x) e h.because;
    }

    pub application_means : (f u : Tree) → Means env (reading.application_reading env compare read ctx f u) (HasType env ctx (App f u)) (IsUntyped env ctx (App f u))
    application_means f u =
        bind_means (λ p. Derivable env ctx f (Pi p.0 p.1))
        (faults_means (inside Fun) (NoFunction env ctx f) (function_refused f u) (function_means env ctx legal (read ctx) (hr ctx legal) (Appl, 1) f))
        (λ p d. bind_means (λ _. Derivable env ctx u p.0)
        (faults_means (inside Arg) (Misfit env ctx u p.0) (argument_refused f u p d) (argument_means env ctx legal (read ctx) (hr ctx legal) compare hc (Appl, 2) p.0 u (domain_sorted f p d)))
        (λ _ d'. formed_type env ctx (App f u) (put p.1 (Nil ▸ u)) (IsUntyped env ctx (App f u)) (◌⨾◌⊢◌∶◌.appl d d')))

    instance_refused : (k : ℕ) (us : Trees) (e : Entry) → EntryAt env k e → (f : Refusal) → Misfits env ctx e.params us f → IsUntyped env ctx (Const k us) f
    instance_refused k us e at f h = record {
      no_type = λ n d.
          let g = generation env ctx (Const k us) n d in
          let is : g.entry ≡ e = cc (at, g.at) in
          h.refused (subst (λ b. Arguments env ctx b.params us) is g.arguments);
      because = holds_more env (PartAmong ctx us) (PartAt ctx (Const k us)) (λ path c t a. PartAt.among a) f h.because;
    }

    pub instance_means : (k : ℕ) (us : Trees) (o : Option Entry) → slice_get env k ≡ o →
        Means env (reading.instance_reading env compare read ctx o us) (HasType env ctx (Const k us)) (IsUntyped env ctx (Const k us))
    instance_means k us None at = λ K L r n h known. absurd h
    instance_means k us (Some e) at =
        let made = made_over legal k e at in
        bind_means (λ _. Arguments env ctx e.params us)
        (means_more (λ _. Arguments env ctx e.params us) (Misfits env ctx e.params us) (λ _ args. args) (instance_refused k us e at)
        (arguments_means env ctx legal (read ctx) (hr ctx legal) compare hc (take k env) (take_extends env k) (instance_rule e.body) e.params us (params_legal made)))
        (λ _ args. formed_type env ctx (Const k us) (put e.type us) (IsUntyped env ctx (Const k us)) (instance_by legal made at args))

    pub reading_means : (q : Asked) (t : Tree) → Means env (reading.reading env compare read ctx q t) (HasType env ctx t) (IsUntyped env ctx t)
    reading_means q Star = gives_means (found Box false) (record { typed = legal; sorted = λ h. absurd (cc) })
    reading_means q Box =
        fails_means (refusal q (count ctx) Reason.NoType) (record { no_type = λ n d. box_untyped d; because = holds_here env ctx Box q Reason.NoType refl })
    reading_means q (Var i) = variable_means env ctx legal i (type_in ctx i) refl
    reading_means q (Pi a b) = product_means a b
    reading_means q (Lam a m) = abstraction_means a m
    reading_means q (App f u) = application_means f u
    reading_means q (Const k us) = instance_means k us (slice_get env k) refl
