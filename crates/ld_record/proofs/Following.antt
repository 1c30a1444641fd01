-- A judgement follows by a rule from judgements and equalities that are known by their numbers.
use Rattle.std.proofs.Common.{◌≡◌, ◌∙◌, ◌<◌, ◌≤◌, ℕ, List, length, true, Result, IfOk, refl, ap, sym, subst, arith}
use Rattle.std.proofs.lemmas.List.Elements.{All-nil}
use mathlib.Core.Path.{ap₂}
use Rattle.std.specs.List.{AllByRecursion}
use Rattle.ld_terms.specs.Tree.{Tree, Star, Box, Var, App, Lam, Pi, Const, Trees, Nil, ◌▸◌}
use Rattle.ld_terms.specs.Put.{lift, put}
use Rattle.ld_terms.specs.Entry.{Primitive}
use Rattle.ld_terms.specs.Derivable.{IsSort}
use Rattle.ld_terms.specs.Item.{Item, tree}
use Rattle.ld_terms.specs.Bank.{StandsFor, tree_at}
use Rattle.ld_terms.specs.declared.bank.TermId.{TermId}
use Rattle.ld_terms.specs.Known.{Known, nothing, no_judgement, with_node, Equality, Judgement, context_at, judgement_at, bound_by, IsNode, JudgeArguments}
use Rattle.ld_record.specs.declared.record.JudgeId.{JudgeId}
use Rattle.ld_record.specs.declared.record.EqId.{EqId}
use Rattle.ld_record.specs.declared.record.CtxId.{CtxId}
use Rattle.ld_record.specs.declared.record.Judge.{Judge}
use Rattle.ld_record.specs.declared.record.Kept.{Kept}
use Rattle.ld_record.specs.Follows.{numbers_of, entry_at, IsPremise, ByVar, ByWeak, ByForm, ByAppl, ByAbst, ByConv, ByInstPrim}
use Rattle.ld_record.specs.declared.record.EqStep.{EqStep}
use Rattle.ld_record.specs.Equal.{eq_rule_of}
use Rattle.ld_record.specs.Kept.{known_of, judgement_of, equality_of, FitsContext, FitsEntry}
use Rattle.ld_record.specs.Growth.{Knows, KnowsContext, KnowsEquality}
use Rattle.ld_record.specs.Tests.{judged}
use Rattle.ld_record.proofs.Growing.{judged_by}
use Rattle.ld_record.proofs.CallerLemmas.{Says, said, equality_said, term_there, empty_known}

module _ (known : Known) where
  premise : (s q : Judgement) (n : JudgeId) → Knows known n q → q.entries ≡ s.entries → IsPremise known s n
  premise s q n h e = record { live = h.live; entries = ap (λ (x : Judgement). x.entries) h.is ∙ e }

  sorted : (q : Judgement) (n : JudgeId) → Knows known n q → IsSort q.type → IsSort (judgement_at known n.0).type
  sorted q n h sort = let P : Judgement → Type 0 = λ x. IsSort x.type in subst P (sym h.is) sort

  pub by_var : (n : JudgeId) (m : ℕ) (ctx : Trees) (a s : Tree) → IsSort s → Knows known n (judged m ctx a s) → ByVar known (judged m (ctx ▸ a) (Var 0) (lift a 1 0)) n
  by_var n m ctx a s sort h = record {
    premise = premise (judged m (ctx ▸ a) (Var 0) (lift a 1 0)) (judged m ctx a s) n h refl;
    sort = sorted (judged m ctx a s) n h sort;
    context = sym (ap (λ (q : Judgement). q.context ▸ q.term) h.is);
    term = refl;
    type = sym (ap (λ (q : Judgement). lift q.term 1 0) h.is);
  }

  pub by_weak : (n k : JudgeId) (m : ℕ) (ctx : Trees) (a b c s : Tree) → IsSort s → Knows known n (judged m ctx a b) → Knows known k (judged m ctx c s)
      → ByWeak known (judged m (ctx ▸ c) (lift a 1 0) (lift b 1 0)) n k
  by_weak n k m ctx a b c s sort h i = record {
    first = premise (judged m (ctx ▸ c) (lift a 1 0) (lift b 1 0)) (judged m ctx a b) n h refl;
    second = premise (judged m (ctx ▸ c) (lift a 1 0) (lift b 1 0)) (judged m ctx c s) k i refl;
    same = ap (λ (q : Judgement). q.context) i.is ∙ sym (ap (λ (q : Judgement). q.context) h.is);
    sort = sorted (judged m ctx c s) k i sort;
    context = sym (ap₂ ◌▸◌ (ap (λ (q : Judgement). q.context) h.is) (ap (λ (q : Judgement). q.term) i.is));
    term = sym (ap (λ (q : Judgement). lift q.term 1 0) h.is);
    type = sym (ap (λ (q : Judgement). lift q.type 1 0) h.is);
  }

  pub by_form : (n k : JudgeId) (m : ℕ) (ctx : Trees) (a b s t : Tree) → IsSort s → IsSort t → Knows known n (judged m ctx a s) → Knows known k (judged m (ctx ▸ a) b t)
      → ByForm known (judged m ctx (Pi a b) t) n k
  by_form n k m ctx a b s t one two h i = record {
    first = premise (judged m ctx (Pi a b) t) (judged m ctx a s) n h refl;
    second = premise (judged m ctx (Pi a b) t) (judged m (ctx ▸ a) b t) k i refl;
    outer = ap (λ (q : Judgement). q.context) h.is;
    inner = ap (λ (q : Judgement). q.context) i.is ∙ ap (λ (x : Tree). ctx ▸ x) (sym (ap (λ (q : Judgement). q.term) h.is));
    domain = sorted (judged m ctx a s) n h one;
    range = sorted (judged m (ctx ▸ a) b t) k i two;
    term = sym (ap₂ Pi (ap (λ (q : Judgement). q.term) h.is) (ap (λ (q : Judgement). q.term) i.is));
    type = sym (ap (λ (q : Judgement). q.type) i.is);
  }

  pub by_appl : (n k : JudgeId) (m : ℕ) (ctx : Trees) (a b f u : Tree) → Knows known n (judged m ctx f (Pi a b)) → Knows known k (judged m ctx u a)
      → ByAppl known (judged m ctx (App f u) (put b (Nil ▸ u))) n k
  by_appl n k m ctx a b f u h i = record {
    first = premise (judged m ctx (App f u) (put b (Nil ▸ u))) (judged m ctx f (Pi a b)) n h refl;
    second = premise (judged m ctx (App f u) (put b (Nil ▸ u))) (judged m ctx u a) k i refl;
    function = ap (λ (q : Judgement). q.context) h.is;
    argument = ap (λ (q : Judgement). q.context) i.is;
    range = b;
    product = ap (λ (q : Judgement). q.type) h.is ∙ sym (ap (λ (q : Judgement). Pi q.type b) i.is);
    term = sym (ap₂ App (ap (λ (q : Judgement). q.term) h.is) (ap (λ (q : Judgement). q.term) i.is));
    type = sym (ap (λ (q : Judgement). put b (Nil ▸ q.term)) i.is);
  }

  pub by_abst : (n k : JudgeId) (m : ℕ) (ctx : Trees) (a b p s : Tree) → IsSort s → Knows known n (judged m (ctx ▸ a) p b) → Knows known k (judged m ctx (Pi a b) s)
      → ByAbst known (judged m ctx (Lam a p) (Pi a b)) n k
  by_abst n k m ctx a b p s sort h i = record {
    first = premise (judged m ctx (Lam a p) (Pi a b)) (judged m (ctx ▸ a) p b) n h refl;
    second = premise (judged m ctx (Lam a p) (Pi a b)) (judged m ctx (Pi a b) s) k i refl;
    outer = ap (λ (q : Judgement). q.context) i.is;
    domain = a;
    inner = ap (λ (q : Judgement). q.context) h.is;
    product = ap (λ (q : Judgement). q.term) i.is ∙ sym (ap (λ (q : Judgement). Pi a q.type) h.is);
    sort = sorted (judged m ctx (Pi a b) s) k i sort;
    term = sym (ap (λ (q : Judgement). Lam a q.term) h.is);
    type = sym (ap (λ (q : Judgement). Pi a q.type) h.is);
  }

  pub by_conv : (n k : JudgeId) (e : EqId) (m bound : ℕ) (ctx : Trees) (a b c s : Tree) → IsSort s → Knows known n (judged m ctx a b) → Knows known k (judged m ctx c s)
      → KnowsEquality known e (record { left = b; right = c; bound = bound }) → bound ≤ m → ByConv known (judged m ctx a c) n k e
  by_conv n k e m bound ctx a b c s sort h i q low = record {
    first = premise (judged m ctx a c) (judged m ctx a b) n h refl;
    second = premise (judged m ctx a c) (judged m ctx c s) k i refl;
    live = q.live;
    typed = ap (λ (x : Judgement). x.context) h.is;
    wanted = ap (λ (x : Judgement). x.context) i.is;
    sort = sorted (judged m ctx c s) k i sort;
    left = ap (λ (x : Equality). x.left) q.is ∙ sym (ap (λ (x : Judgement). x.type) h.is);
    right = ap (λ (x : Equality). x.right) q.is;
    bound = omega (arith, low, ap (λ (x : Equality). x.bound) q.is);
    term = sym (ap (λ (x : Judgement). x.term) h.is);
    type = sym (ap (λ (x : Judgement). x.term) i.is);
  }

  pub by_inst_prim : (n : JudgeId) (ns : List JudgeId) (m k : ℕ) (ctx us : Trees) → Knows known n (judged m ctx Star Box) → k < m → k < length known.env
      → (entry_at known.env k).body ≡ Primitive → AllByRecursion (IsNode known) (numbers_of ns)
      → JudgeArguments known (numbers_of ns) m ctx (entry_at known.env k).params us → ByInstPrim known (judged m ctx (Const k us) (put (entry_at known.env k).type us)) n ns
  by_inst_prim n ns m k ctx us h low there body live args = record {
    instance = record {
      star = premise (judged m ctx (Const k us) (put (entry_at known.env k).type us)) (judged m ctx Star Box) n h refl;
      context = ap (λ (q : Judgement). q.context) h.is;
      star_term = ap (λ (q : Judgement). q.term) h.is;
      star_type = ap (λ (q : Judgement). q.type) h.is;
      number = k;
      below = low;
      there = there;
      arguments = us;
      live = live;
      judged = args;
      term = refl;
      type = refl;
    };
    body = body;
  }

-- over the first judgement any name may be that of a primitive
pub primitive_fits : (known : Known) (name : List ℕ) (j : JudgeId) → known ≡ with_node nothing no_judgement → j.0 ≡ 0 → 0 < length name → length name ≤ 255
    → FitsEntry known name j true
primitive_fits known name j is zero some short =
    let P : Known → Type 0 = λ k. FitsEntry k name j true in
    let Q : ℕ → Type 0 = λ n. FitsEntry (with_node nothing no_judgement) name (record { 0 = n }) true in
    let fits : FitsEntry (with_node nothing no_judgement) name (record { 0 = 0 }) true = record {
      live = omega arith;
      may = record { free = record { some = some; short = short; fresh = All-nil _ }; over = refl; sort = IsSort.box };
    } in
    subst P (sym is) (subst Q (sym zero) fits)

-- what the numbers of a record say, over as many entries as there may be
pub says_at : (items : List Item) (known : Known) (m : ℕ) (ctx : CtxId) (t u : TermId) (us : Trees) (x y : Tree) → m ≤ length known.env → KnowsContext known ctx us
    → StandsFor items t x → StandsFor items u y → Says items known (record { entries = m; ctx = ctx; term = t; of = u }) (judged m us x y)
says_at items known m ctx t u us x y within context term type = record { entries = refl; within = within; context = context; term = term; type = type }

-- the same in the empty context
pub says_empty : (items : List Item) (kept : List Kept) (m : ℕ) (none : CtxId) (t u : TermId) (x y : Tree) → none.0 ≡ 0 → m ≤ length (known_of items kept).env
    → StandsFor items t x → StandsFor items u y → Says items (known_of items kept) (record { entries = m; ctx = none; term = t; of = u }) (judged m Nil x y)
says_empty items kept m none t u x y zero within term type = says_at items (known_of items kept) m none t u Nil x y within (empty_known items kept none zero) term type

-- the number of a judgement that was kept
pub knows_said : (items : List Item) (old new : Known) (judge : Judge) (s : Judgement) (k : JudgeId) → Says items old judge s → Knows new k (judgement_of items old judge) → Knows new k s
knows_said items old new judge s k says h = let P : Judgement → Type 0 = λ q. Knows new k q in subst P (said items old judge s says) h

pub number_said : {E : Type 0} (items : List Item) (old new : Known) (judge : Judge) (s : Judgement) (r : Result JudgeId E) → Says items old judge s
    → IfOk r (λ k. Knows new k (judgement_of items old judge)) → IfOk r (λ k. Knows new k s)
number_said items old new judge s r says h = let P : Judgement → Type 0 = λ q. IfOk r (λ k. Knows new k q) in subst P (said items old judge s says) h

-- a context may be extended by the term of a judgement, and the number is then that of the longer one
pub context_fits : (items : List Item) (known : Known) (outer : CtxId) (t : TermId) (us : Trees) (j : JudgeId) (s : Judgement) → KnowsContext known outer us
    → StandsFor items t s.term → Knows known j s → FitsContext items known outer t
context_fits items known outer t us j s context term h = record {
  context = context.live;
  term = term_there items t s.term term;
  judged = judged_by known j s (tree_at items t) h (sym (ap tree term.item));
}

pub extended_known : (items : List Item) (old new : Known) (outer ctx : CtxId) (t : TermId) (us : Trees) (x : Tree) → KnowsContext old outer us → StandsFor items t x
    → KnowsContext new ctx (context_at old outer.0 ▸ tree_at items t) → KnowsContext new ctx (us ▸ x)
extended_known items old new outer ctx t us x context term h =
    let P : Trees → Type 0 = λ vs. KnowsContext new ctx vs in
    subst P (ap₂ ◌▸◌ context.is (ap tree term.item)) h

-- the number of an equality that was kept
pub equality_known : (items : List Item) (old new : Known) (left right : TermId) (l r : Tree) (by : EqStep) (e : EqId) → StandsFor items left l → StandsFor items right r
    → KnowsEquality new e (equality_of items old left right by) → KnowsEquality new e (record { left = l; right = r; bound = bound_by old l (eq_rule_of by) })
equality_known items old new left right l r by e l_is r_is h =
    let P : Equality → Type 0 = λ q. KnowsEquality new e q in
    subst P (equality_said items old left right l r by l_is r_is) h
