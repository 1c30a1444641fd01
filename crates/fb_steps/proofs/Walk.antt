-- The walk along a term: its items, with what holds of them.
use Rattle.std.proofs.Common.{◌≡◌, ◌≤◌, ◌+◌, ℕ, zero, suc, List, [], ◌∷◌, ◌++◌, length, ap, arith, refl, sym, subst, ◌∙◌}
use mathlib.Core.Path.{subst₂}
use Rattle.std.proofs.lemmas.List.Elements.{All-nil, All-push}
use Rattle.std.specs.Prelude.{Bool, true, false, nat_lt}
use Rattle.ld_terms.specs.Tree.{Tree, Star, Box, Var, App, Lam, Pi, Const, Trees, ◌▸◌, count}
use Rattle.ld_terms.specs.Item.{IsSmall, One, greatest_height, greatest_index_in, height}
use Rattle.ld_terms.specs.Entry.{Env}
use Rattle.ld_terms.specs.Derivable.{Derivable, abst, appl}
use Rattle.ld_laws.specs.Typing.{HasSort, FromAbstraction, FromProduct}
use Rattle.ld_laws.specs.Unfolding.{Unfolded, abstraction, application}
use Rattle.ld_laws.proofs.LegalContexts.{legal_of}
use Rattle.ld_laws.proofs.Inversion.{generation}
use Rattle.ld_infer.specs.declared.failure.RuleName.TheVariants.{Appl, Abst}
use Rattle.ld_infer.specs.Reading.{Asked, Types, SortOf}
use Rattle.ld_infer.specs.Refusals.{HasType, IsSortOf, IsUntyped, IsUnsorted}
use Rattle.ld_infer.proofs.Rightness.{types_mean, sorts_mean}
use Rattle.ld_convert.proofs.Means.{Means, means_more}
use Rattle.fb_scope.specs.Names.{implied}
use Rattle.fb_steps.specs.Items.{Operand, Term, OfLine, Plain, Intro, Elim}
use Rattle.fb_steps.specs.Work.{Work, done, line}
use Rattle.fb_steps.specs.Steps.{Spine, with_operand, has_items, operand_by, introduced, steps_of, spine_of}
use Rattle.fb_steps.specs.Places.{OpenFlag, Place, context_of, own_instance, numbers}
use Rattle.fb_steps.specs.Spells.{OperandIs, term, of_line, Applies, alone, applied, BodyIs, plain, intro, elim_by, abstracted}
use Rattle.fb_steps.specs.Shown.{IsShownOperand}
use Rattle.fb_steps.proofs.NamedTerms.{well_formed}
use Rattle.fb_steps.proofs.Later.{as_typed, later, sort_later, term_names, unfolds_itself}
use Rattle.fb_steps.proofs.Lists.{count_flags, further_flag}
use Rattle.fb_steps.proofs.Invariant.{Differ, IsLow, IsPlace, StandsFor, Replaces, OperandFor, SpineFor}
use Rattle.fb_steps.proofs.Growing.{outside, spine_on}
use Rattle.fb_steps.proofs.Working.{Works, done_works, reads_works, bind_works, under_flags}
use Rattle.fb_steps.proofs.Lines.{instance_replaces, flag_works, line_works}

-- readings of what has a type or a sort
type_means : {Δ : Env} {Γ : Trees} {t n : Tree} (q : Asked) → Derivable Δ Γ t n → Means Δ (Types Δ Γ 1 q t) (HasType Δ Γ t) (λ _. ⊥)
type_means {Δ} {Γ} {t} {n} q d = means_more (HasType Δ Γ t) (IsUntyped Δ Γ t) (λ r h. h) (λ f h. h.no_type n d) (types_mean Δ Γ (legal_of d) 1 q t)

pub sort_means : {Δ : Env} {Γ : Trees} {t : Tree} (q : Asked) → HasSort Δ Γ t → Means Δ (SortOf Δ Γ 1 q t) (IsSortOf Δ Γ t) (λ _. ⊥)
sort_means {Δ} {Γ} {t} q h = means_more (IsSortOf Δ Γ t) (IsUnsorted Δ Γ t) (λ r k. k) (λ f k. k.no_sort h.of h.is_sort h.typed) (sorts_mean Δ Γ (legal_of h.typed) 1 q t)

-- a part itself
itself : {Δ : Env} {name : ℕ → List ℕ} {fs : List OpenFlag} {j : ℕ} {p : Place} {t n : Tree} → IsPlace Δ name fs j p → Derivable Δ (context_of fs) t n → Replaces Δ fs p t t
itself {Δ} {t = t} s d = record { typed = λ m c. later s.extends s.legal c; unfolds = λ Δ' x. unfolds_itself Δ' (length Δ) t (term_names d) }

-- an application of what takes the places of its parts
applied_replaces : {Δ : Env} {name : ℕ → List ℕ} {fs : List OpenFlag} {j : ℕ} {p : Place} {f g u v : Tree} → IsPlace Δ name fs j p →
    Replaces Δ fs p g f → Replaces Δ fs p v u → Replaces Δ fs p (App g v) (App f u)
applied_replaces {Δ} {fs = fs} {p = p} {f = f} {u = u} s h k = record {
  typed = λ n d.
      let c = generation Δ (context_of fs) (App f u) n d in
      as_typed (length Δ) (application (h.unfolds p.env (λ i e at. at)) (k.unfolds p.env (λ i e at. at))) (appl (h.typed _ c.function) (k.typed _ c.argument)) (later s.extends s.legal d);
  unfolds = λ Δ' x. application (h.unfolds Δ' x) (k.unfolds Δ' x);
}

applies_more : {first : ℕ} {marks : List (List ℕ)} {fs : List OpenFlag} {f t u : Tree} {bs : List Operand} {b : Operand} →
    Applies first marks fs f bs t → OperandIs first marks fs b u → Applies first marks fs f (bs ++ b ∷ []) (App t u)
applies_more alone o = applied o alone
applies_more (applied q a) o = applied q (applies_more a o)

applied_low : {d : ℕ} {f g u v : Tree} → IsLow d g f → IsLow d v u → IsLow d (App g v) (App f u)
applied_low h k =
    let a = h.height_le in
    let b = k.height_le in
    let c = h.index_le in
    let e = k.index_le in
    record { height_le = omega (arith, a, b); index_le = omega (arith, c, e) }

itself_low : (d : ℕ) (t : Tree) → IsLow d t t
itself_low d t = record { height_le = omega arith; index_le = omega arith }

low_small : {d : ℕ} {t part : Tree} → IsLow d t part → IsSmall (One part) → d ≤ 64 → IsSmall (One t)
low_small h s le =
    let a = h.height_le in
    let b = h.index_le in
    let c = s.height in
    let e = s.index in
    record { height = omega (arith, a, c); index = omega (arith, b, e, le) }

-- an instance with the open flags
own_height : (v n : ℕ) → greatest_height (implied v n) ≤ 1
own_height v zero = omega arith
own_height v (suc n) = let h = own_height v n in omega (arith, h)

own_index : (v n : ℕ) → greatest_index_in (implied v n) ≤ v
own_index v zero = omega arith
own_index v (suc n) = let h = own_index v n in omega (arith, h)

high : (t : Tree) → 1 ≤ height t
high Star = omega arith
high Box = omega arith
high (Var i) = omega arith
high (App f u) = omega arith
high (Lam a m) = omega arith
high (Pi a b) = omega arith
high (Const k us) = omega arith

items_high : (u : Tree) → has_items u ≡ true → 2 ≤ height u
items_high Star e = absurd (cc)
items_high Box e = absurd (cc)
items_high (Var i) e = absurd (cc)
items_high (App f u) e = let h = high f in omega (arith, h)
items_high (Lam a m) e = let h = high a in omega (arith, h)
items_high (Pi a b) e = absurd (cc)
items_high (Const k us) e = absurd (cc)

own_low : (k : ℕ) (fs : List OpenFlag) (u : Tree) → has_items u ≡ true → IsLow (count (context_of fs)) (own_instance k (length fs)) u
own_low k fs u e =
    let a = own_height (length fs) (length fs) in
    let b = own_index (length fs) (length fs) in
    let c = items_high u e in
    let g = count_flags fs in
    record { height_le = omega (arith, a, c); index_le = omega (arith, b, g) }

introduced_small : (k : ℕ) (f : OpenFlag) (fs : List OpenFlag) (m : Tree) → IsSmall (One (Lam f.type m)) → count (context_of fs) ≤ 64 → IsSmall (One (Lam f.type (own_instance k (suc (length fs)))))
introduced_small k f fs m s le =
    let a = own_height (length (f ∷ fs)) (length (f ∷ fs)) in
    let b = own_index (length (f ∷ fs)) (length (f ∷ fs)) in
    let g = count_flags fs in
    let c = s.height in
    let e = s.index in
    record { height = omega (arith, a, c); index = omega (arith, b, e, g, le) }

spine_more : {Δ : Env} {name : ℕ → List ℕ} {fs : List OpenFlag} {j : ℕ} {p : Place} {s : Spine} {b : Operand} {f u : Tree} → IsPlace Δ name fs j p →
    SpineFor Δ fs p s f → OperandFor Δ fs p b u → SpineFor Δ fs p (with_operand s b) (App f u)
spine_more {Δ} {fs = fs} {s = s} {b = b} is h k = record { tree = App h.tree k.tree; applies = applies_more h.applies k.is; shown = (h.shown.0, All-push (IsShownOperand Δ (count (context_of fs))) s.1 b h.shown.1 k.shown); replaces = applied_replaces is h.replaces k.replaces; low = applied_low h.low k.low }

-- what is introduced takes the place of the abstraction
introduced_replaces : {Δ : Env} {name : ℕ → List ℕ} {f : OpenFlag} {fs : List OpenFlag} {j : ℕ} {p : Place} {number : ℕ} {m type n : Tree} →
    IsPlace Δ name fs j p → IsPlace Δ name (f ∷ fs) j p → (h : StandsFor Δ (f ∷ fs) p number m type) → Derivable Δ (context_of fs) (Lam f.type m) n →
    Replaces Δ fs p (Lam f.type (own_instance (length Δ + h.before) (suc (length fs)))) (Lam f.type m)
introduced_replaces {Δ} {f = f} {fs = fs} {p = p} {m = m} s inner h d = record {
  typed = λ n c.
      let g = generation Δ (context_of fs) (Lam f.type m) n c in
      let product = sort_later s.extends s.legal g.product in
      as_typed (length Δ) (abstraction (binder p.env) (body.unfolds p.env (λ i e at. at))) (abst product.is_sort (body.typed _ g.body) product.typed) (later s.extends s.legal c);
  unfolds = λ Δ' x. abstraction (binder Δ') (body.unfolds Δ' x);
}
  where
    body : Replaces Δ (f ∷ fs) p (own_instance (length Δ + h.before) (suc (length fs))) m
    body = instance_replaces inner h

    binder : (Δ' : Env) → Unfolded Δ' (length Δ) f.type f.type
    binder Δ' = unfolds_itself Δ' (length Δ) f.type (term_names d).0

-- the instance with all flags of a parameter list, abstracted over the last
abbrev abstracted_once : (k : ℕ) → Trees → (n : ℕ) → Tree
abstracted_once k ps n = abstracted 1 ps (own_instance k n)

introduced_is : {Δ : Env} {f : OpenFlag} {fs : List OpenFlag} {p : Place} {number : ℕ} {m type : Tree} → (h : StandsFor Δ (f ∷ fs) p number m type) →
    BodyIs (length Δ) p.marks fs p.env (Intro number) (Lam f.type (own_instance (length Δ + h.before) (suc (length fs))))
introduced_is {Δ} {f} {fs} {p} h =
    subst₂ (λ n t. BodyIs (length Δ) p.marks fs p.env (Intro n) t) (sym h.number_is) same
    (intro h.before 1 (numbers (f ∷ fs)) h.entry h.at h.mark (further_flag f fs))
  where
    k : ℕ
    k = length Δ + h.before

    same : abstracted_once k h.entry.params (count h.entry.params) ≡ Lam f.type (own_instance k (suc (length fs)))
    same = ap (λ ps. abstracted_once k ps (count ps)) h.params_are ∙ ap (abstracted_once k (context_of (f ∷ fs))) (count_flags (f ∷ fs))

module _ (Δ : Env) (name : ℕ → List ℕ) (differ : Differ name) where
  abbrev Prints : (fs : List OpenFlag) (p : Place) (j : ℕ) → Work ℕ → (part type : Tree) → Type 0
  Prints fs p j w part type = Works Δ name fs p j w (λ number q _. StandsFor Δ fs q number part type)

  -- a line by the term itself
  itself_works : (t n : Tree) (fs : List OpenFlag) (p : Place) (j : ℕ) → IsPlace Δ name fs j p → Derivable Δ (context_of fs) t n →
      Prints fs p j (line (count (context_of fs)) (Plain t) n t) t n
  itself_works t n fs p j s d = line_works Δ name differ (Plain t) t t n s plain (well_formed d) d (itself s d) (λ k _. k)

  operand_works : (has : Bool) (u n : Tree) (fs : List OpenFlag) (p : Place) (j : ℕ) → has_items u ≡ has → IsPlace Δ name fs j p → Derivable Δ (context_of fs) u n → (items : (type : Tree) → Work ℕ) →
      ((type : Tree) (q : Place) (k : ℕ) → IsPlace Δ name fs k q → Derivable Δ (context_of fs) u type → Prints fs q k (items type) u type) →
      Works Δ name fs p j (operand_by has Δ (context_of fs) u items) (λ b q _. OperandFor Δ fs q b u)
  operand_works false u n fs p j e s d items h = done_works Δ name (Term u) s (record { tree = u; is = term; shown = well_formed d; replaces = itself s d; low = itself_low (count (context_of fs)) u })
  operand_works true u n fs p j e s d items h =
      bind_works Δ name (λ r _ _. HasType Δ (context_of fs) u r)
      (reads_works Δ name (HasType Δ (context_of fs) u) s (type_means (Appl, 2) d))
      (λ r q k is g typed. bind_works Δ name (λ number o _. StandsFor Δ fs o number u r.type) (h r.type q k is typed.typed)
      (λ number o l there grown stands. done_works Δ name (OfLine number) there (of_that number o l there stands)))
    where
      of_that : {type : Tree} (number : ℕ) (o : Place) (l : ℕ) → IsPlace Δ name fs l o → StandsFor Δ fs o number u type → OperandFor Δ fs o (OfLine number) u
      of_that number o l there stands = record {
        tree = own_instance (length Δ + stands.before) (length fs);
        is = subst (λ k. OperandIs (length Δ) o.marks fs (OfLine k) (own_instance (length Δ + stands.before) (length fs))) (sym stands.number_is) (of_line stands.before stands.mark);
        shown = tt;
        replaces = instance_replaces there stands;
        low = own_low (length Δ + stands.before) fs u e;
      }

  introduced_works : (fits : Bool) (a m n : Tree) (fs : List OpenFlag) (p : Place) (j : ℕ) → IsPlace Δ name fs j p → Derivable Δ (context_of fs) (Lam a m) n → (items : (type : Tree) → Work ℕ) →
      ((flag_number : ℕ) (type : Tree) (q : Place) (k : ℕ) → IsPlace Δ name (record { number = flag_number; type = a } ∷ fs) k q → Derivable Δ (context_of fs ▸ a) m type →
      Prints (record { number = flag_number; type = a } ∷ fs) q k (items type) m type) →
      Prints fs p j (introduced fits Δ (context_of fs) a m n items) (Lam a m) n
  introduced_works false a m n fs p j s d items h = itself_works (Lam a m) n fs p j s d
  introduced_works true a m n fs p j s d items h =
      bind_works Δ name (λ r _ _. IsSortOf Δ (context_of fs) a r) (reads_works Δ name (IsSortOf Δ (context_of fs) a) s (sort_means (Abst, 1) c.domain))
      (λ r0 q0 k0 s0 g0 h0. bind_works Δ name (λ r _ _. HasType Δ (context_of fs ▸ a) m r) (reads_works Δ name (HasType Δ (context_of fs ▸ a) m) s0 (type_means (Abst, 1) g.body))
      (λ r q1 k1 s1 g1 typed. bind_works Δ name (λ _ q k. (number : ℕ) × IsPlace Δ name (record { number = number; type = a } ∷ fs) k q) (flag_works Δ name a s1 c.domain)
      (λ x q2 k2 s2 g2 flagged. bind_works Δ name (λ w q k. StandsFor Δ (record { number = flagged.0; type = a } ∷ fs) q w m r.type × IsPlace Δ name (record { number = flagged.0; type = a } ∷ fs) k q)
      (under_flags Δ name {j = k2} (items r.type) (λ w q _. StandsFor Δ (record { number = flagged.0; type = a } ∷ fs) q w m r.type) (λ k q. outside) (h flagged.0 r.type q2 k2 flagged.1 typed.typed))
      (λ w q3 k3 s3 g3 stands. line_works Δ name differ (Intro w) _ (Lam a m) n s3 (introduced_is stands.0) tt d (introduced_replaces s3 stands.1 stands.0 d) (introduced_small _ (record { number = flagged.0; type = a }) fs m)))))
    where
      g : FromAbstraction Δ (context_of fs) a m n
      g = generation Δ (context_of fs) (Lam a m) n d

      c : FromProduct Δ (context_of fs) a g.range g.product.of
      c = generation Δ (context_of fs) (Pi a g.range) g.product.of g.product.typed

  -- a head alone
  alone_works : (t n : Tree) (fs : List OpenFlag) (p : Place) (j : ℕ) → IsPlace Δ name fs j p → Derivable Δ (context_of fs) t n →
      Works Δ name fs p j (done (t, [])) (λ x q _. SpineFor Δ fs q x t)
  alone_works t n fs p j s d = done_works Δ name (t, []) s (record { tree = t; applies = alone; shown = (well_formed d, All-nil (IsShownOperand Δ (count (context_of fs)))); replaces = itself s d; low = itself_low (count (context_of fs)) t })

  mutual
    pub steps_work : (t n : Tree) (fs : List OpenFlag) (p : Place) (j : ℕ) → IsPlace Δ name fs j p → Derivable Δ (context_of fs) t n → Prints fs p j (steps_of Δ (context_of fs) t n) t n
    steps_work Star n fs p j s d = itself_works Star n fs p j s d
    steps_work Box n fs p j s d = itself_works Box n fs p j s d
    steps_work (Var i) n fs p j s d = itself_works (Var i) n fs p j s d
    steps_work (App f u) n fs p j s d =
        let g = generation Δ (context_of fs) (App f u) n d in
        bind_works Δ name (λ x q _. SpineFor Δ fs q x f) (spine_work f (Pi g.domain g.range) fs p j s g.function)
        (λ x q k is g0 spine. bind_works Δ name (λ b o _. OperandFor Δ fs o b u)
        (operand_works (has_items u) u g.domain fs q k refl is g.argument (steps_of Δ (context_of fs) u) (λ type o l at typed. steps_work u type fs o l at typed))
        (λ b o l at grown operand. let whole = spine_more at (spine_on grown at spine) operand in
        line_works Δ name differ (Elim x.0 (x.1 ++ b ∷ [])) whole.tree (App f u) n at (elim_by whole.applies) whole.shown d whole.replaces (low_small whole.low)))
    steps_work (Lam a m) n fs p j s d =
        introduced_works (nat_lt (count (context_of fs)) 64) a m n fs p j s d (steps_of Δ (context_of fs ▸ a) m)
        (λ number type q k is typed. steps_work m type (record { number = number; type = a } ∷ fs) q k is typed)
    steps_work (Pi a b) n fs p j s d = itself_works (Pi a b) n fs p j s d
    steps_work (Const k us) n fs p j s d = itself_works (Const k us) n fs p j s d

    spine_work : (t n : Tree) (fs : List OpenFlag) (p : Place) (j : ℕ) → IsPlace Δ name fs j p → Derivable Δ (context_of fs) t n → Works Δ name fs p j (spine_of Δ (context_of fs) t) (λ x q _. SpineFor Δ fs q x t)
    spine_work (App f u) n fs p j s d =
        let g = generation Δ (context_of fs) (App f u) n d in
        bind_works Δ name (λ x q _. SpineFor Δ fs q x f) (spine_work f (Pi g.domain g.range) fs p j s g.function)
        (λ x q k is g0 spine. bind_works Δ name (λ b o _. OperandFor Δ fs o b u)
        (operand_works (has_items u) u g.domain fs q k refl is g.argument (steps_of Δ (context_of fs) u) (λ type o l at typed. steps_work u type fs o l at typed))
        (λ b o l at grown operand. done_works Δ name (with_operand x b) at (spine_more at (spine_on grown at spine) operand)))
    spine_work Star n fs p j s d = alone_works Star n fs p j s d
    spine_work Box n fs p j s d = alone_works Box n fs p j s d
    spine_work (Var i) n fs p j s d = alone_works (Var i) n fs p j s d
    spine_work (Lam a m) n fs p j s d = alone_works (Lam a m) n fs p j s d
    spine_work (Pi a b) n fs p j s d = alone_works (Pi a b) n fs p j s d
    spine_work (Const k us) n fs p j s d = alone_works (Const k us) n fs p j s d
