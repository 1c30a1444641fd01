-- The answers of the rows for products and abstractions: the standings are those at the start, behind the domain, with the
-- variable, behind what is read under it, and without the variable.
use Rattle.std.proofs.Common.{◌≡◌, ◌+◌, ℕ, Bool, true, List, Option, Some, refl, ap, sym, ◌∙◌, subst, length}
use Rattle.std.specs.Prelude.{IfSome, is_some}
use Rattle.ld_terms.specs.Tree.{Tree, Trees, Lam, Pi, ◌▸◌}
use Rattle.ld_terms.specs.Item.{One, IsSmall, tree}
use Rattle.ld_terms.specs.Bank.{Extends, tree_at, IsTermAt}
use Rattle.ld_terms.specs.Entry.{Env}
use Rattle.ld_terms.specs.Tests.{is_star}
use Rattle.ld_terms.specs.Derivable.{IsSort}
use Rattle.ld_terms.specs.Known.{Judgement, judgement_at}
use Rattle.ld_terms.specs.declared.bank.TermId.{TermId}
use Rattle.ld_terms.specs.declared.bank.TermFault.{TermFault}
use Rattle.ld_terms.specs.declared.bank.TermFault.TheVariants as term
use Rattle.ld_terms.proofs.Banks.{extends_trans}
use Rattle.ld_record.specs.declared.record.JudgeId.{JudgeId}
use Rattle.ld_record.specs.Growth.{Knows}
use Rattle.ld_record.specs.Follows.{ByAbst}
use Rattle.ld_infer.specs.declared.failure.RuleName.TheVariants.{Form, Abst}
use Rattle.ld_infer.specs.declared.failure.PathStep.TheVariants.{Dom, Ran}
use Rattle.ld_infer.specs.declared.failure.InferFault.{InferFault}
use Rattle.ld_infer.specs.declared.failure.InferFault.TheVariants as fault
use Rattle.ld_infer.specs.declared.inference.BodyTyped.{BodyTyped}
use Rattle.ld_reduce.specs.Task.{Task, Gives}
use Rattle.ld_infer.specs.Account.{Account, Comes}
use Rattle.ld_infer.specs.Reading.{Refusal, Found, found, within, SortOf, part_reading, product_reading, abstraction_reading, body_reading}
use Rattle.ld_convert.specs.declared.job.Job.{Job}
use Rattle.ld_convert.specs.declared.known.Pair.{Pair}
use Rattle.ld_infer.specs.Standing.{Standing, known, env, here, account, Continues, Enters, KnowsSort, KnowsPairs, without_last}
use Rattle.ld_reduce.specs.Cost.{stop_of}
use Rattle.ld_infer.specs.Infers.{Stops, IsWithin, IsTyped, IsSorted, IsBodyTyped}
use Rattle.ld_infer.proofs.Going.{continues_trans, continues_around, here_stays, term_stays, tree_stays, knows_stays, sort_stays}
use Rattle.ld_infer.proofs.Pairs.{told_later, account_entered, account_left, pairs_left}
use Rattle.ld_infer.proofs.Staying.{known_here, at_same}
use Rattle.ld_infer.proofs.Binding.{product_stops_range, product_given, abstraction_stops_body, abstraction_stops_formed, abstraction_given}

pub record IsAround (a b c e d : Standing) (x : TermId) : Type 0 where
  pub domain : Continues a b
  pub enters : Enters b c (tree_at b.items x)
  pub inside : Continues c e
  pub leaves : d ≡ record e { context = without_last e.context }

pub between : {a b c e d : Standing} {x : TermId} → Continues a b → Enters b c (tree_at b.items x) → Continues c e → d ≡ record e { context = without_last e.context } → IsAround a b c e d x
between domain enters inside leaves = record { domain = domain; enters = enters; inside = inside; leaves = leaves }

module _ (a b c e d : Standing) (x : TermId) (h : IsAround a b c e d x) (at : IsTermAt a.items x) where
  pub around : Continues a d
  around = continues_trans a b d h.domain (continues_around b c e d (tree_at b.items x) h.enters h.inside h.leaves)

  -- below the variable the environment is the same, and the context has one variable more
  pub inner_env : env c ≡ env a
  inner_env = h.enters.adds.env ∙ h.domain.adds.env

  pub inner_context : c.context ≡ a.context ▸ tree_at a.items x
  inner_context = h.enters.context ∙ ap (λ ctx. ctx ▸ tree_at b.items x) h.domain.context ∙ ap (λ y. a.context ▸ y) (tree_stays a b x h.domain at)

  inner_extends : Extends a.items c.items
  inner_extends = extends_trans a.items b.items c.items h.domain.items h.enters.items

  pub inner_tree : (y : TermId) → IsTermAt a.items y → tree_at c.items y ≡ tree_at a.items y
  inner_tree y there = ap tree (inner_extends.kept y there.live)

  -- a term that was made under the variable
  pub outer_term : (y : TermId) → IsTermAt e.items y → IsTermAt d.items y
  outer_term y there = let P : Standing → Type 0 = λ s. IsTermAt s.items y in subst P (sym h.leaves) there

  pub outer_tree : (y : TermId) → tree_at d.items y ≡ tree_at e.items y
  outer_tree y = ap (λ (s : Standing). tree_at s.items y) h.leaves

  pub sort_outside : (g : Standing) (y : TermId) → Continues d g → IsTermAt e.items y → IsSort (tree_at e.items y) → IsSort (tree_at g.items y)
  sort_outside g y on there sort =
      let P : Tree → Type 0 = IsSort in subst P (sym (tree_stays d g y on (outer_term y there) ∙ outer_tree y)) sort

  outer_stops : {X : Type 0} (p : Task Refusal X) (f : InferFault) (w w' : Account) → Stops e.items p f w w' → Stops d.items p f w w'
  outer_stops p f w w' k = let P : Standing → Type 0 = λ s. Stops s.items p f w w' in subst P (sym h.leaves) k

  outer_knows : (j : JudgeId) (s : Judgement) → Knows (known e) j s → Knows (known d) j s
  outer_knows j s k = let P : Standing → Type 0 = λ z. Knows (known z) j s in subst P (sym h.leaves) k

  -- the account of a job is the same with the variable, and without it
  pub inner_account : (job : Job) → KnowsPairs b job.known → account c job ≡ account b job
  inner_account job pairs = account_entered b c (tree_at b.items x) job h.enters pairs

  pub outer_account : (job : Job) → account d job ≡ account e job
  outer_account job = account_left e d job h.leaves

  pub outer_pairs : (ps : List Pair) → KnowsPairs e ps → KnowsPairs d ps
  outer_pairs ps pairs = pairs_left e d ps h.leaves pairs

  -- what is told of the account with the variable, is told without it and later
  pub told_outside : (g : Standing) (job : Job) (P : Account → Type 0) → Continues d g → KnowsPairs e job.known → P (account e job) → P (account g job)
  told_outside g job P on pairs p = told_later d g job P on (outer_pairs job.known pairs) (subst P (sym (outer_account job)) p)

  -- Products.
  range_moved : (nest : ℕ) (y : TermId) (P : Task Refusal Tree → Type 0) → IsTermAt a.items y
      → P (SortOf (env c) c.context (nest + 1) (Form, 2) (tree_at c.items y)) → P (SortOf (env a) (a.context ▸ tree_at a.items x) (nest + 1) (Form, 2) (tree_at a.items y))
  range_moved nest y P there k = at_same (λ Δ ctx t. P (SortOf Δ ctx (nest + 1) (Form, 2) t)) inner_env inner_context (inner_tree y there) k

  pub range_refused : (nest : ℕ) (y : TermId) (s : TermId × JudgeId) (f g : InferFault) (w w1 w2 : Account) → IsTermAt a.items y
      → IsSorted a b (within Dom (SortOf (env a) a.context (nest + 1) (Form, 1) (tree_at a.items x))) x w w1 s
      → Stops e.items (SortOf (env c) c.context (nest + 1) (Form, 2) (tree_at c.items y)) f w1 w2 → IsWithin Ran f g
      → Stops d.items (product_reading (env a) (part_reading nest (env a)) a.context (tree_at a.items x) (tree_at a.items y)) g w w2
  range_refused nest y s f g w w1 w2 there dom ran is =
      outer_stops _ g w w2
      (product_stops_range (env a) (part_reading nest (env a)) a.context e.items (tree_at a.items x) (tree_at a.items y) (tree_at b.items s.0) f g w w1 w2 dom.gives
      (range_moved nest y (λ p. Stops e.items p f w1 w2) there ran) is)

  pub product_typed : (k z : Standing) (nest : ℕ) (t y : TermId) (dom rng : TermId × JudgeId) (judge : JudgeId) (o : Option JudgeId) (w w1 w2 : Account) → IsTermAt a.items t → IsTermAt a.items y
      → IsSorted a b (within Dom (SortOf (env a) a.context (nest + 1) (Form, 1) (tree_at a.items x))) x w w1 dom
      → IsSorted c e (SortOf (env c) c.context (nest + 1) (Form, 2) (tree_at c.items y)) y w1 w2 rng
      → Continues d k → Continues k z → Knows (known k) judge (here d (tree_at d.items t) (tree_at d.items rng.0))
      → is_some o ≡ is_star (tree_at k.items rng.0) → IfSome o (λ j. KnowsSort z j (tree_at k.items rng.0))
      → IsTyped a z (product_reading (env a) (part_reading nest (env a)) a.context (tree_at a.items x) (tree_at a.items y)) t w w2 (record { of = rng.0; judge = judge; of_judge = o })
  product_typed k z nest t y dom rng judge o w w1 w2 at_t there first second on last knows comes sorted =
      let of = rng.0 in
      let to_z = continues_trans d k z on last in
      let there_d = outer_term of second.has.term in
      let same : tree_at z.items of ≡ tree_at e.items of = tree_stays d z of to_z there_d ∙ outer_tree of in
      let same_k : tree_at k.items of ≡ tree_at e.items of = tree_stays d k of on there_d ∙ outer_tree of in
      let P : Tree → Type 0 = λ r. Comes (product_reading (env a) (part_reading nest (env a)) a.context (tree_at a.items x) (tree_at a.items y)) (Gives (found r (is_some o))) w w2 in
      let Q : Tree → Type 0 = λ r. IfSome o (λ j. KnowsSort z j r) in
      record {
        term = term_stays d z of to_z there_d;
        gives = subst P (sym same)
            (product_given (env a) (part_reading nest (env a)) a.context (tree_at a.items x) (tree_at a.items y) (tree_at b.items dom.0) (tree_at e.items of) (is_some o) w w1 w2 first.gives
            (range_moved nest y (λ p. Comes p (Gives (tree_at e.items of)) w1 w2) there second.gives) (comes ∙ ap is_star same_k));
        judged = known_here a d z judge (tree_at d.items t) (tree_at a.items t) (tree_at d.items of) (tree_at z.items of) around (tree_stays a d t around at_t)
            (sym (tree_stays d z of to_z there_d)) (knows_stays k z judge _ last knows);
        sorted = subst Q (same_k ∙ sym same) sorted;
      }

  -- Abstractions.
  body_moved : (nest : ℕ) (m : TermId) (P : Task Refusal Found → Type 0) → IsTermAt a.items m
      → ((ctx : Trees) (y : Tree) → c.context ≡ ctx ▸ y → P (body_reading (env c) (part_reading nest (env c)) ctx y (tree_at c.items m)))
      → P (body_reading (env a) (part_reading nest (env a)) a.context (tree_at a.items x) (tree_at a.items m))
  body_moved nest m P there k =
      at_same (λ Δ (o : Unit {0}) t. P (body_reading Δ (part_reading nest Δ) a.context (tree_at a.items x) t)) inner_env refl (inner_tree m there) (k a.context (tree_at a.items x) inner_context)

  pub body_stopped : (nest : ℕ) (m : TermId) (s : TermId × JudgeId) (f : InferFault) (w w1 w2 : Account) → IsTermAt a.items m
      → IsSorted a b (within Dom (SortOf (env a) a.context (nest + 1) (Abst, 1) (tree_at a.items x))) x w w1 s
      → ((ctx : Trees) (y : Tree) → c.context ≡ ctx ▸ y → Stops e.items (body_reading (env c) (part_reading nest (env c)) ctx y (tree_at c.items m)) f w1 w2)
      → Stops d.items (abstraction_reading (env a) (part_reading nest (env a)) a.context (tree_at a.items x) (tree_at a.items m)) f w w2
  body_stopped nest m s f w w1 w2 there dom k =
      outer_stops _ f w w2
      (abstraction_stops_body (env a) (part_reading nest (env a)) a.context e.items (tree_at a.items x) (tree_at a.items m) (tree_at b.items s.0) f w w1 w2 dom.gives
      (body_moved nest m (λ p. Stops e.items p f w1 w2) there k))

  body_gives : (nest : ℕ) (m : TermId) (r : BodyTyped) (w w1 w2 : Account) → IsTermAt a.items m
      → ((ctx : Trees) (y : Tree) → c.context ≡ ctx ▸ y → IsBodyTyped c e (body_reading (env c) (part_reading nest (env c)) ctx y (tree_at c.items m)) m w1 w2 r)
      → (comes : Bool) × Comes (body_reading (env a) (part_reading nest (env a)) a.context (tree_at a.items x) (tree_at a.items m)) (Gives (found (tree_at e.items r.of) comes)) w1 w2
  body_gives nest m r w w1 w2 there k =
      let one = k a.context (tree_at a.items x) inner_context in
      let P : Env → Unit {0} → Tree → Type 0 = λ Δ o t. Comes (body_reading Δ (part_reading nest Δ) a.context (tree_at a.items x) t) (Gives (found (tree_at e.items r.of) one.comes)) w1 w2 in
      (one.comes, at_same P inner_env refl (inner_tree m there) one.gives)

  pub abstraction_high : (g : Standing) (nest : ℕ) (m : TermId) (s : TermId × JudgeId) (r : BodyTyped) (f : TermFault) (q : InferFault) (w w1 w2 : Account) → IsTermAt a.items m
      → IsSorted a b (within Dom (SortOf (env a) a.context (nest + 1) (Abst, 1) (tree_at a.items x))) x w w1 s
      → ((ctx : Trees) (y : Tree) → c.context ≡ ctx ▸ y → IsBodyTyped c e (body_reading (env c) (part_reading nest (env c)) ctx y (tree_at c.items m)) m w1 w2 r)
      → (f ≡ term.High → ¬ IsSmall (One (Pi (tree_at d.items x) (tree_at d.items r.of)))) → q ≡ fault.Stop (stop_of f)
      → Stops g.items (abstraction_reading (env a) (part_reading nest (env a)) a.context (tree_at a.items x) (tree_at a.items m)) q w w2
  abstraction_high g nest m s r f q w w1 w2 there dom k high is =
      let body = body_gives nest m r w w1 w2 there k in
      let P : Tree → Type 0 = λ y. f ≡ term.High → ¬ IsSmall (One (Pi y (tree_at d.items r.of))) in
      let Q : Tree → Type 0 = λ y. f ≡ term.High → ¬ IsSmall (One (Pi (tree_at a.items x) y)) in
      abstraction_stops_formed (env a) (part_reading nest (env a)) a.context g.items (tree_at a.items x) (tree_at a.items m) (tree_at b.items s.0) (tree_at e.items r.of) body.0 f q w w1 w2 dom.gives body.1
      (subst Q (outer_tree r.of) (subst P (tree_stays a d x around at) high)) is

  pub abstraction_typed : (g k z : Standing) (nest : ℕ) (t m : TermId) (s : TermId × JudgeId) (r : BodyTyped) (of : TermId) (judge formed : JudgeId) (w w1 w2 : Account) → IsTermAt a.items t → IsTermAt a.items m
      → IsSorted a b (within Dom (SortOf (env a) a.context (nest + 1) (Abst, 1) (tree_at a.items x))) x w w1 s
      → ((ctx : Trees) (y : Tree) → c.context ≡ ctx ▸ y → IsBodyTyped c e (body_reading (env c) (part_reading nest (env c)) ctx y (tree_at c.items m)) m w1 w2 r)
      → Continues d g → Continues g k → Continues k z → IsTermAt g.items of → tree_at g.items of ≡ Pi (tree_at d.items x) (tree_at d.items r.of) → IsSmall (One (tree_at g.items of))
      → IsSort (tree_at g.items r.sort.0) → Knows (known k) formed (here g (tree_at g.items of) (tree_at g.items r.sort.0))
      → Knows (known z) judge (here k (tree_at k.items t) (tree_at k.items of))
      → IsTyped a z (abstraction_reading (env a) (part_reading nest (env a)) a.context (tree_at a.items x) (tree_at a.items m)) t w w2 (record { of = of; judge = judge; of_judge = Some formed })
  abstraction_typed g k z nest t m s r of judge formed w w1 w2 at_t there dom body on next last at_of is small sort forms knows =
      let to_k = continues_trans d g k on next in
      let a_to_k = continues_trans a d k around to_k in
      let g_to_z = continues_trans g k z next last in
      let gives = body_gives nest m r w w1 w2 there body in
      let type = Pi (tree_at a.items x) (tree_at e.items r.of) in
      let same_g : tree_at g.items of ≡ type = is ∙ ap (λ y. Pi y (tree_at d.items r.of)) (tree_stays a d x around at) ∙ ap (Pi (tree_at a.items x)) (outer_tree r.of) in
      let same : tree_at z.items of ≡ type = tree_stays g z of g_to_z at_of ∙ same_g in
      let P : Tree → Type 0 = λ y. Comes (abstraction_reading (env a) (part_reading nest (env a)) a.context (tree_at a.items x) (tree_at a.items m)) (Gives (found y true)) w w2 in
      let Q : Tree → Type 0 = λ y. IsSmall (One y) in
      let at_k = term_stays g k of next at_of in
      let g_sort : KnowsSort k formed (tree_at k.items of) = record {
        sort = tree_at g.items r.sort.0;
        is = sort;
        knows = known_later g k formed (tree_at g.items of) (tree_at k.items of) (tree_at g.items r.sort.0) next (sym (tree_stays g k of next at_of)) forms;
      } in
      record {
        term = term_stays g z of g_to_z at_of;
        gives = subst P (sym same)
            (abstraction_given (env a) (part_reading nest (env a)) a.context (tree_at a.items x) (tree_at a.items m) (tree_at b.items s.0) (tree_at e.items r.of) gives.0 w w1 w2 dom.gives gives.1 (subst Q same_g small));
        judged = known_here a k z judge (tree_at k.items t) (tree_at a.items t) (tree_at k.items of) (tree_at z.items of) a_to_k (tree_stays a k t a_to_k at_t) (sym (tree_stays k z of last at_k)) knows;
        sorted = sort_stays k z formed (tree_at k.items of) (tree_at z.items of) last (sym (tree_stays k z of last at_k)) g_sort;
      }
    where
      known_later : (g k : Standing) (j : JudgeId) (t t' type : Tree) → Continues g k → t ≡ t' → Knows (known k) j (here g t type) → Knows (known k) j (here k t' type)
      known_later g k j t t' type goes same h =
          let R : Judgement → Type 0 = λ q. Knows (known k) j q in
          let S : Tree → Type 0 = λ y. Knows (known k) j (here k y type) in
          subst S same (subst R (sym (here_stays g k t type goes)) h)

  -- what the rule for abstractions asks of its premises
  pub abstraction_follows : (g k : Standing) (t m of : TermId) (body formed : JudgeId) (type sort : Tree) → IsTermAt a.items t → IsTermAt a.items m → tree_at a.items t ≡ Lam (tree_at a.items x) (tree_at a.items m)
      → Continues d g → Continues g k → IsTermAt g.items of → tree_at g.items of ≡ Pi (tree_at d.items x) type → IsSort sort
      → Knows (known e) body (here c (tree_at c.items m) type) → Knows (known k) formed (here g (tree_at g.items of) sort)
      → ByAbst (known k) (here k (tree_at k.items t) (tree_at k.items of)) body formed
  abstraction_follows g k t m of body formed type sort at_t there is on next at_of pi sorted under over =
      let to_k = continues_trans d g k on next in
      let a_to_k = continues_trans a d k around to_k in
      let inner = knows_stays d k body _ to_k (outer_knows body (here c (tree_at c.items m) type) under) in
      let dom = tree_at a.items x in
      let J : Judgement → Type 0 = λ q. IsSort q.type in
      let a_to_g = continues_trans a d g around on in
      let pi_a : tree_at g.items of ≡ Pi dom type = pi ∙ ap (λ y. Pi y type) (tree_stays a d x around at) in
      let type_is : (judgement_at (known k) body.0).type ≡ type = ap (λ (j : Judgement). j.type) inner.is in
      let term_is : (judgement_at (known k) body.0).term ≡ tree_at a.items m = ap (λ (j : Judgement). j.term) inner.is ∙ inner_tree m there in
      let over_term : (judgement_at (known k) formed.0).term ≡ Pi dom type = ap (λ (j : Judgement). j.term) over.is ∙ pi_a in
      record {
        first = record { live = inner.live; entries = ap (λ (j : Judgement). j.entries) inner.is ∙ ap length (inner_env ∙ sym a_to_k.adds.env) };
        second = record { live = over.live; entries = ap (λ (j : Judgement). j.entries) over.is ∙ ap length (sym next.adds.env) };
        outer = ap (λ (j : Judgement). j.context) over.is ∙ sym next.context;
        domain = dom;
        inner = ap (λ (j : Judgement). j.context) inner.is ∙ inner_context ∙ ap (λ ctx. ctx ▸ dom) (sym a_to_k.context);
        product = over_term ∙ ap (Pi dom) (sym type_is);
        sort = subst J (sym over.is) sorted;
        term = tree_stays a k t a_to_k at_t ∙ is ∙ ap (Lam dom) (sym term_is);
        type = tree_stays g k of next at_of ∙ pi_a ∙ ap (Pi dom) (sym type_is);
      }
