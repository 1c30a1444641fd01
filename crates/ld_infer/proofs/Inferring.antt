-- The answers of a reading's rows, from the calls that they make in one standing after another.
use Rattle.std.proofs.Common.{◌≡◌, ◌+◌, ℕ, false, List, Option, Some, None, refl, ap, sym, ◌∙◌, subst}
use Rattle.std.specs.Prelude.{IfSome, is_some}
use Rattle.ld_terms.specs.Tree.{Tree, Trees, Pi, Nil, ◌▸◌, count}
use Rattle.ld_terms.specs.Item.{Item, One, IsSmall, IsOne, tree}
use Rattle.ld_terms.specs.Put.{put}
use Rattle.ld_terms.specs.Bank.{Holds, item_at, tree_at, IsTermAt}
use Rattle.ld_terms.specs.Entry.{Env}
use Rattle.ld_terms.specs.Tests.{is_box}
use Rattle.ld_terms.specs.Named.{IsWellFormed}
use Rattle.ld_terms.specs.Derivable.{IsSort}
use Rattle.ld_terms.specs.Known.{Judgement, judgement_at}
use Rattle.ld_terms.specs.declared.bank.TermId.{TermId}
use Rattle.ld_terms.specs.declared.bank.TermFault.{TermFault}
use Rattle.ld_terms.specs.declared.bank.TermFault.TheVariants as term
use Rattle.ld_record.specs.declared.record.JudgeId.{JudgeId}
use Rattle.ld_record.specs.Growth.{Knows}
use Rattle.ld_infer.specs.declared.failure.RuleName.TheVariants.{Abst, Appl}
use Rattle.ld_infer.specs.declared.failure.PathStep.TheVariants.{Arg}
use Rattle.ld_infer.specs.declared.failure.InferFault.{InferFault}
use Rattle.ld_infer.specs.declared.failure.InferFault.TheVariants as fault
use Rattle.ld_infer.specs.declared.inference.Typed.{Typed}
use Rattle.ld_infer.specs.declared.function.FunctionTyped.{FunctionTyped}
use Rattle.ld_reduce.specs.Task.{Task, Gives}
use Rattle.ld_convert.specs.Compares.{Compares}
use Rattle.ld_infer.specs.Account.{Account, Comes}
use Rattle.ld_infer.specs.Reading.{Asked, Refusal, found, Types, part_reading, again_unless, body_reading, product_read, function_reading, suited_reading, argument_reading, application_reading}
use Rattle.ld_infer.specs.Standing.{Standing, known, env, here, Continues, KnowsSort}
use Rattle.ld_reduce.specs.Cost.{stop_of}
use Rattle.ld_infer.specs.Infers.{Stops, IsTyped, IsTypedAgain, IsBodyTyped, IsFunctionTyped, IsSuited}
use Rattle.ld_infer.proofs.Going.{continues_trans, here_stays, term_stays, tree_stays, knows_stays}
use Rattle.ld_infer.proofs.Staying.{known_here, at_same}
use Rattle.ld_infer.proofs.Sorts.{gives_now}
use Rattle.ld_infer.proofs.Parting.{product_read_given, suited_given}
use Rattle.ld_infer.proofs.Binding.{body_sort_stops, body_given}
use Rattle.ld_infer.proofs.Applying.{application_stops_argument, application_stops_formed, application_given}

-- Functions and arguments.
pub function_typed : (a b : Standing) (nest : ℕ) (f : TermId) (x : Typed) (dom ran : TermId) (w w' : Account) → IsTyped a b (Types (env a) a.context (nest + 1) (Appl, 1) (tree_at a.items f)) f w w' x
    → IsTermAt b.items dom → IsTermAt b.items ran → tree_at b.items x.of ≡ Pi (tree_at b.items dom) (tree_at b.items ran)
    → IsFunctionTyped a b (product_read (env a) (part_reading nest (env a)) a.context (tree_at a.items f)) f w w' (record { judge = x.judge; domain = dom; range = ran })
function_typed a b nest f x dom ran w w' h at_dom at_ran e =
    let P : Tree → Type 0 = λ y. Knows (known b) x.judge (here a (tree_at a.items f) y) in
    record {
      domain = at_dom;
      range = at_ran;
      gives = product_read_given (env a) (part_reading nest (env a)) a.context (tree_at a.items f) (tree_at b.items x.of) (tree_at b.items dom) (tree_at b.items ran) (is_some x.of_judge) w w' h.gives e;
      judged = subst P e h.judged;
    }

pub suited_typed : (a b : Standing) (nest : ℕ) (q : Asked) (wanted u : TermId) (x : Typed) (w w' : Account) → IsTyped a b (Types (env a) a.context (nest + 1) q (tree_at a.items u)) u w w' x
    → tree_at b.items x.of ≡ tree_at a.items wanted
    → IsSuited a b (suited_reading (env a) (Compares (env a) (nest + 1)) (count a.context) (part_reading nest (env a) a.context) q (tree_at a.items wanted) (tree_at a.items u)) (tree_at a.items u) (tree_at a.items wanted) w w' x.judge
suited_typed a b nest q wanted u x w w' h e =
    let P : Tree → Type 0 = λ y. Knows (known b) x.judge (here a (tree_at a.items u) y) in
    record {
      gives = suited_given (env a) (Compares (env a) (nest + 1)) (count a.context) (part_reading nest (env a) a.context) q (tree_at a.items wanted) (tree_at a.items u) (tree_at b.items x.of) (is_some x.of_judge) w w' h.gives e;
      judged = subst P e h.judged;
    }

-- Applications: the standings are those at the start, behind the function, the argument, the type and the judgement.
pub argument_moved : (a b : Standing) (nest : ℕ) (u : TermId) (dom : Tree) (P : Task Refusal (Unit {0}) → Type 0) → Continues a b → IsTermAt a.items u
    → P (argument_reading (env b) (Compares (env b) (nest + 1)) (count b.context) (part_reading nest (env b) b.context) Arg (Appl, 2) dom (tree_at b.items u))
    → P (argument_reading (env a) (Compares (env a) (nest + 1)) (count a.context) (part_reading nest (env a) a.context) Arg (Appl, 2) dom (tree_at a.items u))
argument_moved a b nest u dom P goes at h =
    at_same (λ Δ ctx t. P (argument_reading Δ (Compares Δ (nest + 1)) (count ctx) (part_reading nest Δ ctx) Arg (Appl, 2) dom t)) goes.adds.env goes.context (tree_stays a b u goes at) h

pub application_refused : (a b c : Standing) (nest : ℕ) (f u : TermId) (x : FunctionTyped) (g : InferFault) (w w1 w2 : Account) → Continues a b → IsTermAt a.items u
    → IsFunctionTyped a b (function_reading (env a) (part_reading nest (env a)) a.context (tree_at a.items f)) f w w1 x
    → Stops c.items (argument_reading (env b) (Compares (env b) (nest + 1)) (count b.context) (part_reading nest (env b) b.context) Arg (Appl, 2) (tree_at b.items x.domain) (tree_at b.items u)) g w1 w2
    → Stops c.items (application_reading (env a) (Compares (env a) (nest + 1)) (part_reading nest (env a)) a.context (tree_at a.items f) (tree_at a.items u)) g w w2
application_refused a b c nest f u x g w w1 w2 goes at h s =
    application_stops_argument (env a) (Compares (env a) (nest + 1)) (part_reading nest (env a)) a.context c.items (tree_at a.items f) (tree_at a.items u) (tree_at b.items x.domain) (tree_at b.items x.range) g w w1 w2 h.gives
    (argument_moved a b nest u (tree_at b.items x.domain) (λ p. Stops c.items p g w1 w2) goes at s)

pub application_high : (a b c d : Standing) (nest : ℕ) (f u : TermId) (x : FunctionTyped) (j : JudgeId) (y : TermFault) (g : InferFault) (w w1 w2 : Account)
    → Continues a b → Continues b c → IsTermAt a.items u
    → IsFunctionTyped a b (function_reading (env a) (part_reading nest (env a)) a.context (tree_at a.items f)) f w w1 x
    → IsSuited b c (argument_reading (env b) (Compares (env b) (nest + 1)) (count b.context) (part_reading nest (env b) b.context) Arg (Appl, 2) (tree_at b.items x.domain) (tree_at b.items u)) (tree_at b.items u) (tree_at b.items x.domain) w1 w2 j
    → (y ≡ term.High → ¬ IsSmall (One (put (tree_at c.items x.range) (Nil ▸ tree_at c.items u)))) → g ≡ fault.Stop (stop_of y)
    → Stops d.items (application_reading (env a) (Compares (env a) (nest + 1)) (part_reading nest (env a)) a.context (tree_at a.items f) (tree_at a.items u)) g w w2
application_high a b c d nest f u x j y g w w1 w2 goes more at h s high e =
    let P : Tree → Type 0 = λ r. y ≡ term.High → ¬ IsSmall (One (put r (Nil ▸ tree_at c.items u))) in
    let Q : Tree → Type 0 = λ v. y ≡ term.High → ¬ IsSmall (One (put (tree_at b.items x.range) (Nil ▸ v))) in
    application_stops_formed (env a) (Compares (env a) (nest + 1)) (part_reading nest (env a)) a.context d.items (tree_at a.items f) (tree_at a.items u) (tree_at b.items x.domain) (tree_at b.items x.range) y g w w1 w2 h.gives
    (argument_moved a b nest u (tree_at b.items x.domain) (λ p. Comes p (Gives tt) w1 w2) goes at s.gives)
    (subst Q (tree_stays a c u (continues_trans a b c goes more) at) (subst P (tree_stays b c x.range more h.range) high)) e

pub application_typed : (a b c d k : Standing) (nest : ℕ) (t f u : TermId) (x : FunctionTyped) (j : JudgeId) (of : TermId) (judge : JudgeId) (w w1 w2 : Account)
    → Continues a b → Continues b c → Continues c d → Continues d k → IsTermAt a.items t → IsTermAt a.items u
    → IsFunctionTyped a b (function_reading (env a) (part_reading nest (env a)) a.context (tree_at a.items f)) f w w1 x
    → IsSuited b c (argument_reading (env b) (Compares (env b) (nest + 1)) (count b.context) (part_reading nest (env b) b.context) Arg (Appl, 2) (tree_at b.items x.domain) (tree_at b.items u)) (tree_at b.items u) (tree_at b.items x.domain) w1 w2 j
    → IsTermAt d.items of → tree_at d.items of ≡ put (tree_at c.items x.range) (Nil ▸ tree_at c.items u) → IsSmall (One (tree_at d.items of))
    → Knows (known k) judge (here d (tree_at d.items t) (tree_at d.items of))
    → IsTyped a k (application_reading (env a) (Compares (env a) (nest + 1)) (part_reading nest (env a)) a.context (tree_at a.items f) (tree_at a.items u)) t w w2 (record { of = of; judge = judge; of_judge = None })
application_typed a b c d k nest t f u x j of judge w w1 w2 goes more next last at_t at_u h s at is small knows =
    let to_c = continues_trans a b c goes more in
    let to_d = continues_trans a c d to_c next in
    let type = put (tree_at b.items x.range) (Nil ▸ tree_at a.items u) in
    let same : tree_at k.items of ≡ type =
    tree_stays d k of last at ∙ is ∙ ap (λ r. put r (Nil ▸ tree_at c.items u)) (tree_stays b c x.range more h.range)
    ∙ ap (λ v. put (tree_at b.items x.range) (Nil ▸ v)) (tree_stays a c u to_c at_u) in
    let P : Tree → Type 0 = λ y. Comes (application_reading (env a) (Compares (env a) (nest + 1)) (part_reading nest (env a)) a.context (tree_at a.items f) (tree_at a.items u)) (Gives (found y false)) w w2 in
    let Q : Tree → Type 0 = λ y. IsSmall (One y) in
    record {
      term = term_stays d k of last at;
      gives = subst P (sym same)
          (application_given (env a) (Compares (env a) (nest + 1)) (part_reading nest (env a)) a.context (tree_at a.items f) (tree_at a.items u) (tree_at b.items x.domain) (tree_at b.items x.range) w w1 w2 h.gives
          (argument_moved a b nest u (tree_at b.items x.domain) (λ p. Comes p (Gives tt) w1 w2) goes at_u s.gives) (subst Q (sym (tree_stays d k of last at) ∙ same) small));
      judged = known_here a d k judge (tree_at d.items t) (tree_at a.items t) (tree_at d.items of) (tree_at k.items of) to_d (tree_stays a d t to_d at_t) (sym (tree_stays d k of last at)) knows;
      sorted = tt;
    }

-- the sort that came with a type
pub sort_come : (a : Standing) (nest : ℕ) (x : Typed) (j : JudgeId) (s : TermId) (w : Account) → x.of_judge ≡ Some j → IfSome x.of_judge (λ i. KnowsSort a i (tree_at a.items x.of))
    → IsTermAt a.items s → tree_at a.items s ≡ (judgement_at (known a) j.0).type
    → IsTypedAgain a a (again_unless (env a) (count a.context) (part_reading nest (env a) a.context) (is_some x.of_judge) (Abst, 2) (tree_at a.items x.of)) x.of w w (s, j)
sort_come a nest x j s w is sorted at same =
    let type = tree_at a.items x.of in
    let P : Option JudgeId → Type 0 = λ o. IfSome o (λ i. KnowsSort a i type) in
    let Q : Option JudgeId → Type 0 = λ o. Comes (again_unless (env a) (count a.context) (part_reading nest (env a) a.context) (is_some o) (Abst, 2) type) (Gives tt) w w in
    let k = subst P is sorted in
    let sort_is : tree_at a.items s ≡ k.sort = same ∙ ap (λ (i : Judgement). i.type) k.knows.is in
    let S : Tree → Type 0 = IsSort in
    let J : Tree → Type 0 = λ y. Knows (known a) j (here a type y) in
    record { has = record { term = at; sort = subst S (sym sort_is) k.is; judged = subst J (sym sort_is) k.knows }; gives = subst Q (sym is) (gives_now tt w) }

-- a term that was formed
pub held_term : (items : List Item) (t : TermId) (x : Tree) → Holds items t (One x) → IsTermAt items t
held_term items t x h = let P : Item → Type 0 = IsOne in record { live = h.live; form = subst P (sym h.item) tt }

pub held_small : (items : List Item) (t : TermId) (x : Tree) → Holds items t (One x) → IsSmall (item_at items t) → IsSmall (One (tree_at items t))
held_small items t x h small = let P : Item → Type 0 = IsSmall in subst P (h.item ∙ sym (ap (λ i. One (tree i)) h.item)) small

-- Bodies: the standings are those at the start, behind the body's type and behind its sort.
pub body_typed : (a b c : Standing) (nest : ℕ) (m : TermId) (x : Typed) (s : TermId × JudgeId) (w w1 w2 : Account) (ctx : Trees) (y : Tree) → a.context ≡ ctx ▸ y → Continues a b → Continues b c
    → IsTyped a b (Types (env a) a.context (nest + 1) (Abst, 1) (tree_at a.items m)) m w w1 x → is_box (tree_at b.items x.of) ≡ false
    → IsTypedAgain b c (again_unless (env b) (count b.context) (part_reading nest (env b) b.context) (is_some x.of_judge) (Abst, 2) (tree_at b.items x.of)) x.of w1 w2 s
    → IsBodyTyped a c (body_reading (env a) (part_reading nest (env a)) ctx y (tree_at a.items m)) m w w2 (record { of = x.of; judge = x.judge; sort = s })
body_typed a b c nest m x s w w1 w2 ctx y inner goes more h other again =
    let type = tree_at b.items x.of in
    let same : tree_at c.items x.of ≡ type = tree_stays b c x.of more h.term in
    let P : Trees → Type 0 = λ Γ. Comes (Types (env a) Γ (nest + 1) (Abst, 1) (tree_at a.items m)) (Gives (found type (is_some x.of_judge))) w w1 in
    let Q : Env → Trees → Tree → Type 0 = λ Δ Γ z. Comes (again_unless Δ (count Γ) (part_reading nest Δ Γ) (is_some x.of_judge) (Abst, 2) z) (Gives tt) w1 w2 in
    let R : Tree → Type 0 = λ z. Comes (body_reading (env a) (part_reading nest (env a)) ctx y (tree_at a.items m)) (Gives (found z (is_some x.of_judge))) w w2 in
    let J : Tree → Type 0 = λ z. Knows (known c) x.judge (here a (tree_at a.items m) z) in
    record {
      term = term_stays b c x.of more h.term;
      comes = is_some x.of_judge;
      gives = subst R (sym same) (body_given (env a) (part_reading nest (env a)) ctx y (tree_at a.items m) type (is_some x.of_judge) w w1 w2 (subst P inner h.gives) other
          (at_same Q goes.adds.env (goes.context ∙ inner) refl again.gives));
      judged = subst J (sym same) (knows_stays b c x.judge _ more h.judged);
      sorted = record {
        term = again.has.term;
        sort = again.has.sort;
        judged = known_again b c s type (tree_at c.items x.of) more (sym same) again.has.judged;
      };
    }
  where
    known_again : (b c : Standing) (s : TermId × JudgeId) (t t' : Tree) → Continues b c → t ≡ t' → Knows (known c) s.1 (here b t (tree_at c.items s.0)) → Knows (known c) s.1 (here c t' (tree_at c.items s.0))
    known_again b c s t t' more e k =
        let P : Judgement → Type 0 = λ j. Knows (known c) s.1 j in
        let Q : Tree → Type 0 = λ z. Knows (known c) s.1 (here c z (tree_at c.items s.0)) in
        subst Q e (subst P (sym (here_stays b c t (tree_at c.items s.0) more)) k)

pub body_refused : (a b c : Standing) (nest : ℕ) (m : TermId) (x : Typed) (g : InferFault) (w w1 w2 : Account) (ctx : Trees) (y : Tree) → a.context ≡ ctx ▸ y → Continues a b
    → IsTyped a b (Types (env a) a.context (nest + 1) (Abst, 1) (tree_at a.items m)) m w w1 x → is_box (tree_at b.items x.of) ≡ false
    → Stops c.items (again_unless (env b) (count b.context) (part_reading nest (env b) b.context) (is_some x.of_judge) (Abst, 2) (tree_at b.items x.of)) g w1 w2
    → Stops c.items (body_reading (env a) (part_reading nest (env a)) ctx y (tree_at a.items m)) g w w2
body_refused a b c nest m x g w w1 w2 ctx y inner goes h other again =
    let type = tree_at b.items x.of in
    let P : Trees → Type 0 = λ Γ. Comes (Types (env a) Γ (nest + 1) (Abst, 1) (tree_at a.items m)) (Gives (found type (is_some x.of_judge))) w w1 in
    let Q : Env → Trees → Tree → Type 0 = λ Δ Γ z. Stops c.items (again_unless Δ (count Γ) (part_reading nest Δ Γ) (is_some x.of_judge) (Abst, 2) z) g w1 w2 in
    body_sort_stops (env a) (part_reading nest (env a)) ctx c.items y (tree_at a.items m) type (is_some x.of_judge) g w w1 w2 (subst P inner h.gives) other
    (at_same Q goes.adds.env (goes.context ∙ inner) refl again)

-- a type that was found is over the entries and variables that are there
pub type_well_formed : (a b : Standing) (j : JudgeId) (t type : Tree) → Continues a b
    → ((i : JudgeId) (x y : Tree) → Knows (known b) i (here b x y) → IsWellFormed (env b) (count b.context) x × IsWellFormed (env b) (count b.context) y)
    → Knows (known b) j (here a t type) → IsWellFormed (env b) (count b.context) type
type_well_formed a b j t type goes keeps k =
    let P : Judgement → Type 0 = λ s. Knows (known b) j s in (keeps j t type (subst P (sym (here_stays a b t type goes)) k)).1
