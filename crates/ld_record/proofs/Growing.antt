-- Contexts, equalities, judgements and entries are only added, so that what a number stands for stays.
use Rattle.std.proofs.Common.{◌≡◌, ◌<◌, ◌≤◌, ◌+◌, ℕ, zero, suc, Bool, true, false, List, [], ◌∷◌, ◌++◌, length, get_or, refl, ap, sym, ◌∙◌, subst, arith, add-zero}
use Rattle.std.proofs.lemmas.List.{get_or_append_left, get_or_at, length_push}
use Rattle.ld_terms.specs.Tree.{Tree, Trees, Nil, ◌▸◌}
use Rattle.ld_terms.specs.Item.{Item, tree}
use Rattle.ld_terms.specs.Bank.{tree_at, Extends}
use Rattle.ld_terms.specs.declared.bank.TermId.{TermId}
use Rattle.ld_terms.proofs.Banks.{term_at_later}
use Rattle.ld_terms.specs.Entry.{Primitive}
use Rattle.ld_terms.specs.Entry as named
use Rattle.ld_terms.specs.Known.{Known, nothing, Equality, no_equality, Judgement, no_judgement, context_at, judgement_at, with_context, with_equality, with_node, with_entry, with_flag, bound_by, primitive_entry}
use Rattle.ld_record.specs.declared.record.JudgeId.{JudgeId}
use Rattle.ld_record.specs.declared.record.CtxId.{CtxId}
use Rattle.ld_record.specs.declared.record.EqId.{EqId}
use Rattle.ld_record.specs.declared.record.EqStep.{EqStep}
use Rattle.ld_record.specs.declared.record.Judge.{Judge}
use Rattle.ld_record.specs.declared.record.Step.{Step}
use Rattle.ld_record.specs.declared.record.Kept.{Kept}
use Rattle.ld_record.specs.declared.record.Kept.TheVariants.{Context, Equal, Node, Entry, Flag}
use Rattle.ld_record.specs.Follows.{entry_at, IsDefined, Follows}
use Rattle.ld_record.specs.Equal.{eq_rule_of, FollowsEqual}
use Rattle.ld_record.specs.Kept.{IsJudged, judgement_of, equality_of, entry_by, with_kept, known_after, known_of, HasNumbers, FitsEqual, FitsNode, Fits, AreSound, IsSound}
use Rattle.ld_record.specs.Tables.{judges_of, prims_of}
use Rattle.ld_record.specs.Growth.{Knows, KnowsContext, KnowsEquality, IsNodeOf, Adds}
use Rattle.ld_record.proofs.Keeping.{nodes_known}

pub adds_refl : (known : Known) → Adds known known
adds_refl known = record { env = refl; notes = refl; contexts = omega arith; context = λ c h. refl; equalities = omega arith; equality = λ e h. refl; nodes = omega arith; node = λ n h. refl }

pub adds_trans : (a b c : Known) → Adds a b → Adds b c → Adds a c
adds_trans a b c e f = record {
  env = f.env ∙ e.env;
  notes = f.notes ∙ e.notes;
  contexts = omega (arith, e.contexts, f.contexts);
  context = λ n h. f.context n (omega (arith, e.contexts)) ∙ e.context n h;
  equalities = omega (arith, e.equalities, f.equalities);
  equality = λ n h. f.equality n (omega (arith, e.equalities)) ∙ e.equality n h;
  nodes = omega (arith, e.nodes, f.nodes);
  node = λ n h. f.node n (omega (arith, e.nodes)) ∙ e.node n h;
}

pub adds_node : (known : Known) (s : Judgement) → Adds known (with_node known s)
adds_node known s = record {
  env = refl;
  notes = refl;
  contexts = omega arith;
  context = λ c h. refl;
  equalities = omega arith;
  equality = λ e h. refl;
  nodes = omega (arith, length_push known.nodes s);
  node = λ n h. get_or_append_left known.nodes (s ∷ []) no_judgement n h;
}

pub adds_context : (known : Known) (ctx : Trees) → Adds known (with_context known ctx)
adds_context known ctx = record {
  env = refl;
  notes = refl;
  contexts = omega (arith, length_push known.contexts ctx);
  context = λ c h. get_or_append_left known.contexts (ctx ∷ []) Nil c h;
  equalities = omega arith;
  equality = λ e h. refl;
  nodes = omega arith;
  node = λ n h. refl;
}

pub adds_equality : (known : Known) (q : Equality) → Adds known (with_equality known q)
adds_equality known q = record {
  env = refl;
  notes = refl;
  contexts = omega arith;
  context = λ c h. refl;
  equalities = omega (arith, length_push known.equalities q);
  equality = λ e h. get_or_append_left known.equalities (q ∷ []) no_equality e h;
  nodes = omega arith;
  node = λ n h. refl;
}

pub adds_by : (a b c : Known) → Adds a b → c ≡ b → Adds a c
adds_by a b c h e = let P : Known → Type 0 = λ k. Adds a k in subst P (sym e) h

pub knows_later : (a b : Known) (j : JudgeId) (s : Judgement) → Adds a b → Knows a j s → Knows b j s
knows_later a b j s adds h = record { live = omega (arith, adds.nodes, h.live); is = adds.node j.0 h.live ∙ h.is }

pub knows_context_later : (a b : Known) (c : CtxId) (ctx : Trees) → Adds a b → KnowsContext a c ctx → KnowsContext b c ctx
knows_context_later a b c ctx adds h = record { live = omega (arith, adds.contexts, h.live); is = adds.context c.0 h.live ∙ h.is }

pub knows_equality_later : (a b : Known) (e : EqId) (q : Equality) → Adds a b → KnowsEquality a e q → KnowsEquality b e q
knows_equality_later a b e q adds h = record { live = omega (arith, adds.equalities, h.live); is = adds.equality e.0 h.live ∙ h.is }

-- what the last number stands for
pub last_known : (known : Known) (s : Judgement) (n : ℕ) → n ≡ length known.nodes → Knows (with_node known s) (record { 0 = n }) s
last_known known s n e = record {
  live = omega (arith, length_push known.nodes s);
  is = get_or_at known.nodes s [] no_judgement n (sym e);
}

pub last_context : (known : Known) (ctx : Trees) (n : ℕ) → n ≡ length known.contexts → KnowsContext (with_context known ctx) (record { 0 = n }) ctx
last_context known ctx n e = record {
  live = omega (arith, length_push known.contexts ctx);
  is = get_or_at known.contexts ctx [] Nil n (sym e);
}

pub last_equality : (known : Known) (q : Equality) (n : ℕ) → n ≡ length known.equalities → KnowsEquality (with_equality known q) (record { 0 = n }) q
last_equality known q n e = record {
  live = omega (arith, length_push known.equalities q);
  is = get_or_at known.equalities q [] no_equality n (sym e);
}

pub knows_by : (a b : Known) (j : JudgeId) (s : Judgement) → b ≡ a → Knows a j s → Knows b j s
knows_by a b j s e h = let P : Known → Type 0 = λ k. Knows k j s in subst P (sym e) h

pub knows_context_by : (a b : Known) (c : CtxId) (ctx : Trees) → b ≡ a → KnowsContext a c ctx → KnowsContext b c ctx
knows_context_by a b c ctx e h = let P : Known → Type 0 = λ k. KnowsContext k c ctx in subst P (sym e) h

pub knows_equality_by : (a b : Known) (e : EqId) (q : Equality) → b ≡ a → KnowsEquality a e q → KnowsEquality b e q
knows_equality_by a b e q same h = let P : Known → Type 0 = λ k. KnowsEquality k e q in subst P (sym same) h

-- Contexts and judgements stay, and entries are added.
pub record Grows (old new : Known) : Type 0 where
  pub contexts : length old.contexts ≤ length new.contexts
  pub context : (c : ℕ) → c < length old.contexts → context_at new c ≡ context_at old c
  pub nodes : length old.nodes ≤ length new.nodes
  pub node : (n : ℕ) → n < length old.nodes → judgement_at new n ≡ judgement_at old n
  pub env : length old.env ≤ length new.env
  pub entry : (k : ℕ) → k < length old.env → entry_at new.env k ≡ entry_at old.env k

grows_refl : (known : Known) → Grows known known
grows_refl known = record { contexts = omega arith; context = λ c h. refl; nodes = omega arith; node = λ n h. refl; env = omega arith; entry = λ k h. refl }

grows_trans : (a b c : Known) → Grows a b → Grows b c → Grows a c
grows_trans a b c e f = record {
  contexts = omega (arith, e.contexts, f.contexts);
  context = λ n h. f.context n (omega (arith, e.contexts)) ∙ e.context n h;
  nodes = omega (arith, e.nodes, f.nodes);
  node = λ n h. f.node n (omega (arith, e.nodes)) ∙ e.node n h;
  env = omega (arith, e.env, f.env);
  entry = λ k h. f.entry k (omega (arith, e.env)) ∙ e.entry k h;
}

grows_by_adding : (a b : Known) → Adds a b → Grows a b
grows_by_adding a b h = record {
  contexts = h.contexts;
  context = h.context;
  nodes = h.nodes;
  node = h.node;
  env = omega (arith, ap length h.env);
  entry = λ k l. ap (λ env. entry_at env k) h.env;
}

grows_entry : (known : Known) (e : named.Entry) → Grows known (with_entry known e)
grows_entry known e = record {
  contexts = omega arith;
  context = λ c h. refl;
  nodes = omega arith;
  node = λ n h. refl;
  env = omega (arith, length_push known.env e);
  entry = λ k h. get_or_append_left known.env (e ∷ []) (primitive_entry [] no_judgement) k h;
}

grows_flag : (known : Known) (j : Judgement) → Grows known (with_flag known j)
grows_flag known j = record { contexts = omega arith; context = λ c h. refl; nodes = omega arith; node = λ n h. refl; env = omega arith; entry = λ k h. refl }

pub grows_kept : (items : List Item) (known : Known) (k : Kept) → Grows known (with_kept items known k)
grows_kept items known (Context c t) = grows_by_adding known (with_kept items known (Context c t)) (adds_context known (context_at known c.0 ▸ tree_at items t))
grows_kept items known (Equal left right step) =
    grows_by_adding known (with_kept items known (Equal left right step)) (adds_equality known (equality_of items known left right step))
grows_kept items known (Node judge step) = grows_by_adding known (with_kept items known (Node judge step)) (adds_node known (judgement_of items known judge))
grows_kept items known (Entry name j prim) = grows_entry known (entry_by prim name (judgement_at known j.0))
grows_kept items known (Flag j) = grows_flag known (judgement_at known j.0)

pub grows_after : (items : List Item) (known : Known) (ks : List Kept) → Grows known (known_after items known ks)
grows_after items known [] = grows_refl known
grows_after items known (k ∷ ks) =
    grows_trans known (with_kept items known k) (known_after items known (k ∷ ks)) (grows_kept items known k) (grows_after items (with_kept items known k) ks)

-- a judgement with its numbers says the same later
judged_later : (items : List Item) (old new : Known) (judge : Judge) (j : JudgeId) → Grows old new → IsNodeOf items old judge j → j.0 < length old.nodes → IsNodeOf items new judge j
judged_later items old new judge j g h l = record {
  numbers = record {
    entries = omega (arith, g.env, h.numbers.entries);
    context = omega (arith, g.contexts, h.numbers.context);
    term = h.numbers.term;
    of = h.numbers.of;
  };
  is = ap (λ (context : Trees). record (judgement_of items new judge) { context = context }) (g.context judge.ctx.0 h.numbers.context) ∙ h.is ∙ sym (g.node j.0 l);
}

first_judged : (items : List Item) (known : Known) (judge : Judge) (step : Step) (ks : List Kept) → FitsNode items known judge step
    → IsNodeOf items (known_after items known (Node judge step ∷ ks)) judge (record { 0 = length known.nodes })
first_judged items known judge step ks h =
    let s = judgement_of items known judge in
    let now = with_node known s in
    let e : judgement_at now (length known.nodes) ≡ s = get_or_at known.nodes s [] no_judgement (length known.nodes) refl in
    judged_later items now (known_after items now ks) judge (record { 0 = length known.nodes }) (grows_after items now ks)
    (record { numbers = record { entries = h.numbers.entries; context = h.numbers.context; term = h.numbers.term; of = h.numbers.of }; is = sym e })
    (omega (arith, length_push known.nodes s))

judged_at : (items : List Item) (known : Known) (ks : List Kept) (i : ℕ) (d : Judge) → AreSound items known ks → i < length (judges_of ks)
    → IsNodeOf items (known_after items known ks) (get_or (judges_of ks) i d) (record { 0 = length known.nodes + i })
judged_at items known [] i d h l = absurd (omega arith)
judged_at items known (Context c t ∷ ks) i d h l = judged_at items (with_kept items known (Context c t)) ks i d h.1 l
judged_at items known (Equal left right step ∷ ks) i d h l = judged_at items (with_kept items known (Equal left right step)) ks i d h.1 l
judged_at items known (Node judge step ∷ ks) zero d h l =
    let P : ℕ → Type 0 = λ n. IsNodeOf items (known_after items known (Node judge step ∷ ks)) judge (record { 0 = n }) in
    subst P (sym (add-zero (length known.nodes))) (first_judged items known judge step ks h.0)
judged_at items known (Node judge step ∷ ks) (suc i) d h l =
    let s = judgement_of items known judge in
    let P : ℕ → Type 0 = λ n. IsNodeOf items (known_after items known (Node judge step ∷ ks)) (get_or (judges_of ks) i d) (record { 0 = n }) in
    let e : length (known.nodes ++ s ∷ []) + i ≡ length known.nodes + suc i = omega (arith, length_push known.nodes s) in
    subst P e (judged_at items (with_node known s) ks i d h.1 (omega arith))
judged_at items known (Entry name j prim ∷ ks) i d h l = judged_at items (with_kept items known (Entry name j prim)) ks i d h.1 l
judged_at items known (Flag j ∷ ks) i d h l = judged_at items (with_kept items known (Flag j)) ks i d h.1 l

-- the judgement that a read of a derivation gives
pub read_judge : (items : List Item) (ks : List Kept) (judges : List Judge) (judge : Judge) (j : JudgeId) → IsSound items ks → judges ≡ judges_of ks
    → j.0 < length (known_of items ks).nodes → judge ≡ get_or judges j.0 judge → IsNodeOf items (known_of items ks) judge j
read_judge items ks judges judge j sound are live is =
    let P : Judge → Type 0 = λ q. IsNodeOf items (known_of items ks) q (record { 0 = 0 + j.0 }) in
    let e : get_or (judges_of ks) j.0 judge ≡ judge = ap (λ js. get_or js j.0 judge) (sym are) ∙ sym is in
    let here = subst P e (judged_at items nothing ks j.0 judge sound.all (omega (arith, nodes_known items ks))) in
    let at : 0 + j.0 ≡ j.0 = omega arith in
    record { numbers = here.numbers; is = here.is ∙ ap (judgement_at (known_of items ks)) at }

-- whether an entry is a primitive is what the table says
abbrev pub IsKind : Bool → named.Body → Type 0
IsKind true body = body ≡ Primitive
IsKind false body = IsDefined body

kind_of : (prim : Bool) (name : List ℕ) (j : Judgement) → IsKind prim (entry_by prim name j).body
kind_of true name j = refl
kind_of false name j = tt

first_kind : (items : List Item) (known : Known) (name : List ℕ) (j : JudgeId) (prim : Bool) (ks : List Kept)
    → IsKind prim (entry_at (known_after items known (Entry name j prim ∷ ks)).env (length known.env)).body
first_kind items known name j prim ks =
    let e = entry_by prim name (judgement_at known j.0) in
    let now = with_entry known e in
    let P : named.Entry → Type 0 = λ x. IsKind prim x.body in
    let g = grows_after items now ks in
    subst P (sym (g.entry (length known.env) (omega (arith, length_push known.env e)) ∙ get_or_at known.env e [] (primitive_entry [] no_judgement) (length known.env) refl))
    (kind_of prim name (judgement_at known j.0))

pub kind_at : (items : List Item) (known : Known) (ks : List Kept) (i : ℕ) (d : Bool) → i < length (prims_of ks)
    → IsKind (get_or (prims_of ks) i d) (entry_at (known_after items known ks).env (length known.env + i)).body
kind_at items known [] i d l = absurd (omega arith)
kind_at items known (Context c t ∷ ks) i d l = kind_at items (with_kept items known (Context c t)) ks i d l
kind_at items known (Equal left right step ∷ ks) i d l = kind_at items (with_kept items known (Equal left right step)) ks i d l
kind_at items known (Node judge step ∷ ks) i d l = kind_at items (with_kept items known (Node judge step)) ks i d l
kind_at items known (Flag j ∷ ks) i d l = kind_at items (with_kept items known (Flag j)) ks i d l
kind_at items known (Entry name j prim ∷ ks) zero d l =
    let P : ℕ → Type 0 = λ n. IsKind prim (entry_at (known_after items known (Entry name j prim ∷ ks)).env n).body in
    subst P (sym (add-zero (length known.env))) (first_kind items known name j prim ks)
kind_at items known (Entry name j prim ∷ ks) (suc i) d l =
    let e = entry_by prim name (judgement_at known j.0) in
    let P : ℕ → Type 0 = λ n. IsKind (get_or (prims_of ks) i d) (entry_at (known_after items known (Entry name j prim ∷ ks)).env n).body in
    let same : length (known.env ++ e ∷ []) + i ≡ length known.env + suc i = omega (arith, length_push known.env e) in
    subst P same (kind_at items (with_entry known e) ks i d (omega arith))

pub length-env : (items : List Item) (known : Known) (ks : List Kept) → length (known_after items known ks).env ≡ length known.env + length (prims_of ks)
length-env items known [] = sym (add-zero (length known.env))
length-env items known (Context c t ∷ ks) = length-env items (with_kept items known (Context c t)) ks
length-env items known (Equal left right step ∷ ks) = length-env items (with_kept items known (Equal left right step)) ks
length-env items known (Node judge step ∷ ks) = length-env items (with_kept items known (Node judge step)) ks
length-env items known (Flag j ∷ ks) = length-env items (with_kept items known (Flag j)) ks
length-env items known (Entry name j prim ∷ ks) =
    let e = entry_by prim name (judgement_at known j.0) in
    omega (arith, length-env items (with_entry known e) ks, length_push known.env e)

pub env_known : (items : List Item) (ks : List Kept) → length (known_of items ks).env ≡ length (prims_of ks)
env_known items ks = omega (arith, length-env items nothing ks)

pub read_kind : (items : List Item) (ks : List Kept) (prims : List Bool) (prim : Bool) (i : ℕ) → prims ≡ prims_of ks → i < length prims → prim ≡ get_or prims i prim
    → IsKind prim (entry_at (known_of items ks).env i).body
read_kind items ks prims prim i are live is =
    let P : Bool → Type 0 = λ p. IsKind p (entry_at (known_of items ks).env (0 + i)).body in
    let e : get_or (prims_of ks) i prim ≡ prim = ap (λ ps. get_or ps i prim) (sym are) ∙ sym is in
    let here = subst P e (kind_at items nothing ks i prim (omega (arith, ap length are))) in
    let Q : ℕ → Type 0 = λ n. IsKind prim (entry_at (known_of items ks).env n).body in
    let at : 0 + i ≡ i = omega arith in
    subst Q at here

-- Where terms are added to the bank, records say the same.
judgement_later : (old new : List Item) (known : Known) (judge : Judge) → Extends old new → HasNumbers old known judge → judgement_of new known judge ≡ judgement_of old known judge
judgement_later old new known judge e h =
    ap (λ (x : Item). record (judgement_of new known judge) { term = tree x }) (e.kept judge.term h.term.live)
    ∙ ap (λ (y : Item). record (judgement_of old known judge) { type = tree y }) (e.kept judge.of h.of.live)

equality_later : (old new : List Item) (known : Known) (left right : TermId) (step : EqStep) → Extends old new → FitsEqual old known left right step
    → equality_of new known left right step ≡ equality_of old known left right step
equality_later old new known left right step e h =
    ap (λ (x : Item). record { left = tree x; right = tree_at new right; bound = bound_by known (tree x) (eq_rule_of step) }) (e.kept left h.left_there.live)
    ∙ ap (λ (y : Item). record (equality_of old known left right step) { right = tree y }) (e.kept right h.right_there.live)

kept_later : (old new : List Item) (known : Known) (k : Kept) → Extends old new → Fits old known k → with_kept new known k ≡ with_kept old known k
kept_later old new known (Context c t) e h = ap (λ (x : Item). with_context known (context_at known c.0 ▸ tree x)) (e.kept t h.term.live)
kept_later old new known (Equal left right step) e h = ap (with_equality known) (equality_later old new known left right step e h)
kept_later old new known (Node judge step) e h = ap (with_node known) (judgement_later old new known judge e h.numbers)
kept_later old new known (Entry name j prim) e h = refl
kept_later old new known (Flag j) e h = refl

known_afters_later : (old new : List Item) (known : Known) (ks : List Kept) → Extends old new → AreSound old known ks → known_after new known ks ≡ known_after old known ks
known_afters_later old new known [] e h = refl
known_afters_later old new known (k ∷ ks) e h =
    ap (λ (q : Known). known_after new q ks) (kept_later old new known k e h.0)
    ∙ known_afters_later old new (with_kept old known k) ks e h.1

pub known_later : (old new : List Item) (ks : List Kept) → Extends old new → IsSound old ks → known_of new ks ≡ known_of old ks
known_later old new ks e h = known_afters_later old new nothing ks e h.all

fits_later : (old new : List Item) (known : Known) (k : Kept) → Extends old new → Fits old known k → Fits new known k
fits_later old new known (Context c t) e h =
    let J : Item → Type 0 = λ x. IsJudged known (tree x) in
    record { context = h.context; term = term_at_later old new t e h.term; judged = subst J (sym (e.kept t h.term.live)) h.judged }
fits_later old new known (Equal left right step) e h =
    let P : Item → Type 0 = λ x. FollowsEqual known (tree x) (tree_at old right) step in
    let Q : Item → Type 0 = λ y. FollowsEqual known (tree_at new left) (tree y) step in
    record {
      left_there = term_at_later old new left e h.left_there;
      right_there = term_at_later old new right e h.right_there;
      follows = subst Q (sym (e.kept right h.right_there.live)) (subst P (sym (e.kept left h.left_there.live)) h.follows);
    }
fits_later old new known (Node judge step) e h =
    let Q : Judgement → Type 0 = λ q. Follows known q step in
    record {
      numbers = record {
        entries = h.numbers.entries;
        context = h.numbers.context;
        term = term_at_later old new judge.term e h.numbers.term;
        of = term_at_later old new judge.of e h.numbers.of;
      };
      follows = subst Q (sym (judgement_later old new known judge e h.numbers)) h.follows;
    }
fits_later old new known (Entry name j prim) e h = h
fits_later old new known (Flag j) e h = h

are_sound_later : (old new : List Item) (known : Known) (ks : List Kept) → Extends old new → AreSound old known ks → AreSound new known ks
are_sound_later old new known [] e h = tt
are_sound_later old new known (k ∷ ks) e h =
    let P : Known → Type 0 = λ q. AreSound new q ks in
    (fits_later old new known k e h.0, subst P (sym (kept_later old new known k e h.0)) (are_sound_later old new (with_kept old known k) ks e h.1))

pub sound_later : (old new : List Item) (ks : List Kept) → Extends old new → IsSound old ks → IsSound new ks
sound_later old new ks e h = record { all = are_sound_later old new nothing ks e h.all }

-- the term of a judgement that is known
pub judged_by : (known : Known) (j : JudgeId) (s : Judgement) (t : Tree) → Knows known j s → s.term ≡ t → IsJudged known t
judged_by known j s t knows is = record { number = j.0; live = knows.live; term = ap (λ (q : Judgement). q.term) knows.is ∙ is }
