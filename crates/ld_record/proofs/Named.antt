-- A term in a record of a derivation names entries that are there, with as many arguments as parameters: by induction on
-- the records, since each rule makes its term and type of those of its premises and of types of entries.
use Rattle.std.proofs.Common.{◌≡◌, ◌<◌, ℕ, zero, suc, true, false, List, [], ◌∷◌, ◌++◌, length, map, get_or, refl, ap, sym, ◌∙◌, subst, arith, inl, inr}
use Rattle.std.specs.Prelude.{◌-◌, nat_lt, if◌then◌else◌}
use Rattle.std.specs.List.{AllByRecursion}
use Rattle.std.proofs.lemmas.Bool.{cases_lt}
use Rattle.std.proofs.lemmas.Bool.Decides.{nat_tests}
use Rattle.std.proofs.lemmas.List.{get_or_append_left, get_or_at, length_push}
use Rattle.ld_terms.specs.Tree.{Tree, Star, Box, Var, App, Lam, Pi, Const, Trees, Nil, ◌▸◌, count}
use Rattle.ld_terms.specs.Put.{lift, lift_all, in_place, in_place_below, put_below, put_all_below}
use Rattle.ld_terms.specs.Entry.{Env, Defined, Primitive}
use Rattle.ld_terms.specs.Entry as entry
use Rattle.ld_terms.specs.Item.{Item}
use Rattle.ld_terms.specs.Bank.{tree_at}
use Rattle.ld_terms.specs.Known.{Known, nothing, Equality, no_equality, Judgement, equality_at, judgement_at, no_judgement, primitive_entry, extended, IsEquality, IsNode, with_equality, with_node, with_entry}
use Rattle.ld_terms.specs.Named.{IsNamed, AreNamed}
use Rattle.ld_terms.specs.Record.{params_at}
use Rattle.ld_record.specs.declared.record.JudgeId.{JudgeId}
use Rattle.ld_record.specs.declared.record.EqId.{EqId}
use Rattle.ld_record.specs.declared.record.EqStep.{EqStep}
use Rattle.ld_record.specs.declared.record.EqStep.TheVariants as eq_step
use Rattle.ld_record.specs.declared.record.Step.{Step}
use Rattle.ld_record.specs.declared.record.Step.TheVariants as step
use Rattle.ld_record.specs.declared.record.Kept.{Kept}
use Rattle.ld_record.specs.declared.record.Kept.TheVariants.{Context, Equal, Node, Entry, Flag}
use Rattle.ld_record.specs.Follows.{numbers_of, entry_at, Instance, Follows}
use Rattle.ld_record.specs.Equal.{eq_numbers_of, ByTwo, FollowsEqual}
use Rattle.ld_record.specs.Kept.{with_kept, known_after, judgement_of, equality_of, entry_by, Fits, AreSound}
use Rattle.ld_record.specs.Laws.{IsNamedIn, KeptTermsAreNamed}
use Rattle.ld_record.proofs.Equals.{sides_as_many}

params_later : (env : Env) (e : entry.Entry) (k : ℕ) → k < length env → params_at (env ++ e ∷ []) k ≡ params_at env k
params_later env e k h = ap (λ (x : entry.Entry). count x.params) (get_or_append_left env (e ∷ []) (primitive_entry [] no_judgement) k h)

-- with one entry more
mutual
  named_later : (env : Env) (e : entry.Entry) (t : Tree) → IsNamed env t → IsNamed (env ++ e ∷ []) t
  named_later env e Star h = tt
  named_later env e Box h = tt
  named_later env e (Var i) h = tt
  named_later env e (App f u) h = (named_later env e f h.0, named_later env e u h.1)
  named_later env e (Lam a m) h = (named_later env e a h.0, named_later env e m h.1)
  named_later env e (Pi a b) h = (named_later env e a h.0, named_later env e b h.1)
  named_later env e (Const k us) h = (omega (arith, length_push env e, h.0), h.1 ∙ sym (params_later env e k h.0), all_named_later env e us h.2)

  all_named_later : (env : Env) (e : entry.Entry) (us : Trees) → AreNamed env us → AreNamed (env ++ e ∷ []) us
  all_named_later env e Nil h = tt
  all_named_later env e (us ▸ u) h = (all_named_later env e us h.0, named_later env e u h.1)

count-lift : (us : Trees) (by from : ℕ) → count (lift_all us by from) ≡ count us
count-lift Nil by from = refl
count-lift (us ▸ u) by from = ap suc (count-lift us by from)

mutual
  named_lift : (env : Env) (t : Tree) (by from : ℕ) → IsNamed env t → IsNamed env (lift t by from)
  named_lift env Star by from h = tt
  named_lift env Box by from h = tt
  named_lift env (Var i) by from h = tt
  named_lift env (App f u) by from h = (named_lift env f by from h.0, named_lift env u by from h.1)
  named_lift env (Lam a m) by from h = (named_lift env a by from h.0, named_lift env m by (suc from) h.1)
  named_lift env (Pi a b) by from h = (named_lift env a by from h.0, named_lift env b by (suc from) h.1)
  named_lift env (Const k us) by from h = (h.0, count-lift us by from ∙ h.1, all_named_lift env us by from h.2)

  all_named_lift : (env : Env) (us : Trees) (by from : ℕ) → AreNamed env us → AreNamed env (lift_all us by from)
  all_named_lift env Nil by from h = tt
  all_named_lift env (us ▸ u) by from h = (all_named_lift env us by from h.0, named_lift env u by from h.1)

-- what stands for a variable is a tree of the list, or a variable
in_place_named : (env : Env) (us : Trees) (i : ℕ) → AreNamed env us → IsNamed env (in_place us i)
in_place_named env Nil i h = tt
in_place_named env (us ▸ u) zero h = h.1
in_place_named env (us ▸ u) (suc i) h = in_place_named env us i h.0

in_place_below_named : (env : Env) (us : Trees) (below i : ℕ) → AreNamed env us → IsNamed env (in_place_below us below i)
in_place_below_named env us below i h =
    let t = lift (in_place us (i - below)) below 0 in
    let N : Tree → Type 0 = λ u. IsNamed env u in
    elim (cases_lt i below) [
      | inl less ↦ let e : (if nat_lt i below then Var i else t) ≡ Var i = grind (arith, nat_tests) in subst N (sym e) tt
      | inr more ↦ let e : (if nat_lt i below then Var i else t) ≡ t = grind (arith, nat_tests) in
          subst N (sym e) (named_lift env (in_place us (i - below)) below 0 (in_place_named env us (i - below) h))
    ]

count-put : (vs us : Trees) (below : ℕ) → count (put_all_below vs us below) ≡ count vs
count-put Nil us below = refl
count-put (vs ▸ v) us below = ap suc (count-put vs us below)

mutual
  pub named_put : (env : Env) (t : Tree) (us : Trees) (below : ℕ) → AreNamed env us → IsNamed env t → IsNamed env (put_below t us below)
  named_put env Star us below w h = tt
  named_put env Box us below w h = tt
  named_put env (Var i) us below w h = in_place_below_named env us below i w
  named_put env (App f u) us below w h = (named_put env f us below w h.0, named_put env u us below w h.1)
  named_put env (Lam a m) us below w h = (named_put env a us below w h.0, named_put env m us (suc below) w h.1)
  named_put env (Pi a b) us below w h = (named_put env a us below w h.0, named_put env b us (suc below) w h.1)
  named_put env (Const k vs) us below w h = (h.0, count-put vs us below ∙ h.1, all_named_put env vs us below w h.2)

  all_named_put : (env : Env) (vs us : Trees) (below : ℕ) → AreNamed env us → AreNamed env vs → AreNamed env (put_all_below vs us below)
  all_named_put env Nil us below w h = tt
  all_named_put env (vs ▸ v) us below w h = (all_named_put env vs us below w h.0, named_put env v us below w h.1)

-- both sides of an equality are named
abbrev pub AreSidesNamed : Env → Equality → Type 0
AreSidesNamed env q = IsNamed env q.left × IsNamed env q.right

pub record AreAllNamed (known : Known) : Type 0 where
  pub judgements : (n : ℕ) → n < length known.nodes → IsNamedIn known.env (judgement_at known n)
  pub types : (k : ℕ) → k < length known.env → IsNamed known.env (entry_at known.env k).type
  pub bodies : (k : ℕ) (t : Tree) → k < length known.env → (entry_at known.env k).body ≡ Defined t → IsNamed known.env t
  pub equalities : (e : ℕ) → e < length known.equalities → AreSidesNamed known.env (equality_at known e)

-- the terms of judgements that are there, at the end of a list of named trees
arguments_named : (known : Known) (us : Trees) (ns : List ℕ) → AreAllNamed known → AreNamed known.env us → AllByRecursion (IsNode known) ns
    → AreNamed known.env (extended us (map (λ j. j.term) (map (judgement_at known) ns)))
arguments_named known us [] all h live = h
arguments_named known us (n ∷ ns) all h live = arguments_named known (us ▸ (judgement_at known n).term) ns all (h, (all.judgements n live.0).0) live.1

instance_named : (known : Known) (s : Judgement) (n : JudgeId) (ns : List JudgeId) → AreAllNamed known → Instance known s n ns → IsNamedIn known.env s
instance_named known s n ns all h =
    let N : Tree → Type 0 = λ t. IsNamed known.env t in
    let L : Trees → Type 0 = λ us. AreNamed known.env us in
    let named = subst L h.judged.terms (arguments_named known Nil (numbers_of ns) all tt h.live) in (
      subst N (sym h.term) (h.there, h.judged.as_many, named),
      subst N (sym h.type) (named_put known.env (entry_at known.env h.number).type h.arguments 0 named (all.types h.number h.there)),
    )

same_named : (known : Known) (s : Judgement) (n m : ℕ) → AreAllNamed known → n < length known.nodes → s ≡ record (judgement_at known n) { entries = m }
    → IsNamedIn known.env s
same_named known s n m all there is = let P : Judgement → Type 0 = λ j. IsNamedIn known.env j in subst P (sym is) (all.judgements n there)

-- what follows from named judgements is named
pub named_by : (known : Known) (s : Judgement) (rule : Step) → AreAllNamed known → Follows known s rule → IsNamedIn known.env s
named_by known s step.Sort all h =
    let N : Tree → Type 0 = λ t. IsNamed known.env t in (subst N (sym h.term) tt, subst N (sym h.type) tt)
named_by known s (step.Var n) all h =
    let N : Tree → Type 0 = λ t. IsNamed known.env t in
    (subst N (sym h.term) tt, subst N (sym h.type) (named_lift known.env (judgement_at known n.0).term 1 0 (all.judgements n.0 h.premise.live).0))
named_by known s (step.Weak n m) all h =
    let N : Tree → Type 0 = λ t. IsNamed known.env t in
    let a = all.judgements n.0 h.first.live in
    (subst N (sym h.term) (named_lift known.env (judgement_at known n.0).term 1 0 a.0), subst N (sym h.type) (named_lift known.env (judgement_at known n.0).type 1 0 a.1))
named_by known s (step.Form n m) all h =
    let N : Tree → Type 0 = λ t. IsNamed known.env t in
    let a = all.judgements n.0 h.first.live in
    let b = all.judgements m.0 h.second.live in
    (subst N (sym h.term) (a.0, b.0), subst N (sym h.type) b.1)
named_by known s (step.Appl n m) all h =
    let N : Tree → Type 0 = λ t. IsNamed known.env t in
    let a = all.judgements n.0 h.first.live in
    let b = all.judgements m.0 h.second.live in
    let product = subst N h.product a.1 in
    (subst N (sym h.term) (a.0, b.0), subst N (sym h.type) (named_put known.env h.range (Nil ▸ (judgement_at known m.0).term) 0 (tt, b.0) product.1))
named_by known s (step.Abst n m) all h =
    let N : Tree → Type 0 = λ t. IsNamed known.env t in
    let a = all.judgements n.0 h.first.live in
    let product = subst N h.product (all.judgements m.0 h.second.live).0 in
    (subst N (sym h.term) (product.0, a.0), subst N (sym h.type) product)
named_by known s (step.Conv n m e) all h =
    let N : Tree → Type 0 = λ t. IsNamed known.env t in
    (subst N (sym h.term) (all.judgements n.0 h.first.live).0, subst N (sym h.type) (all.judgements m.0 h.second.live).0)
named_by known s (step.Def n) all h = same_named known s n.0 _ all h.over.live h.over.same
named_by known s (step.DefPrim n) all h = same_named known s n.0 _ all h.over.live h.over.same
named_by known s (step.Inst n ns) all h = instance_named known s n ns all h.instance
named_by known s (step.InstPrim n ns) all h = instance_named known s n ns all h.instance

-- one side each of equalities that are there, at the end of a list of named trees
side_named : (known : Known) (side : Equality → Tree) (us : Trees) (es : List ℕ) → ((e : ℕ) → e < length known.equalities → IsNamed known.env (side (equality_at known e)))
    → AreNamed known.env us → AllByRecursion (IsEquality known) es → AreNamed known.env (extended us (map (λ e. side (equality_at known e)) es))
side_named known side us [] each h live = h
side_named known side us (e ∷ es) each h live = side_named known side (us ▸ side (equality_at known e)) es each (h, each e live.0) live.1

two_named : (known : Known) (make : Tree → Tree → Tree) (l r : Tree) (e f : EqId) → ((t u : Tree) → IsNamed known.env t → IsNamed known.env u → IsNamed known.env (make t u))
    → AreAllNamed known → ByTwo known make l r e f → IsNamed known.env l × IsNamed known.env r
two_named known make l r e f makes all h =
    let N : Tree → Type 0 = λ t. IsNamed known.env t in
    let p = all.equalities e.0 h.first in
    let q = all.equalities f.0 h.second in
    (subst N (sym h.left) (makes _ _ p.0 q.0), subst N (sym h.right) (makes _ _ p.1 q.1))

-- what is equal to named trees by a rule is named
pub equal_named : (known : Known) (l r : Tree) (by : EqStep) → AreAllNamed known → FollowsEqual known l r by → IsNamed known.env l × IsNamed known.env r
equal_named known l r eq_step.Refl all h = let N : Tree → Type 0 = λ t. IsNamed known.env t in (h.named, subst N h.same h.named)
equal_named known l r (eq_step.Sym e) all h =
    let N : Tree → Type 0 = λ t. IsNamed known.env t in
    let q = all.equalities e.0 h.premise.live in
    (subst N h.premise.right q.1, subst N h.premise.left q.0)
equal_named known l r (eq_step.Trans e f) all h =
    let N : Tree → Type 0 = λ t. IsNamed known.env t in
    (subst N h.first.left (all.equalities e.0 h.first.live).0, subst N h.second.right (all.equalities f.0 h.second.live).1)
equal_named known l r eq_step.Beta all h =
    let N : Tree → Type 0 = λ t. IsNamed known.env t in
    let parts = subst N h.left h.named in
    (h.named, subst N (sym h.right) (named_put known.env h.body (Nil ▸ h.argument) 0 (tt, parts.1) parts.0.1))
equal_named known l r eq_step.Delta all h =
    let N : Tree → Type 0 = λ t. IsNamed known.env t in (
      subst N (sym h.left) (h.there, h.as_many, h.named),
      subst N (sym h.right) (named_put known.env h.body h.arguments 0 h.named (all.bodies h.number h.body h.there h.unfolds)),
    )
equal_named known l r (eq_step.App e f) all h = two_named known App l r e f (λ t u a b. (a, b)) all h
equal_named known l r (eq_step.Lam e f) all h = two_named known Lam l r e f (λ t u a b. (a, b)) all h
equal_named known l r (eq_step.Pi e f) all h = two_named known Pi l r e f (λ t u a b. (a, b)) all h
equal_named known l r (eq_step.Const es) all h =
    let N : Tree → Type 0 = λ t. IsNamed known.env t in
    let L : Trees → Type 0 = λ us. AreNamed known.env us in
    let lefts = subst L h.equated.0 (side_named known (λ q. q.left) Nil (eq_numbers_of es) (λ e there. (all.equalities e there).0) tt h.live) in
    let rights = subst L h.equated.1 (side_named known (λ q. q.right) Nil (eq_numbers_of es) (λ e there. (all.equalities e there).1) tt h.live) in (
      subst N (sym h.left) (h.there, h.as_many, lefts),
      subst N (sym h.right) (h.there, sides_as_many known (eq_numbers_of es) h.lefts h.rights h.equated ∙ h.as_many, rights),
    )

equality_named : (known : Known) (q : Equality) → AreAllNamed known → AreSidesNamed known.env q → AreAllNamed (with_equality known q)
equality_named known q all last = record {
  judgements = all.judgements;
  types = all.types;
  bodies = all.bodies;
  equalities = λ e h. elim (cases_lt e (length known.equalities)) as (λ _. AreSidesNamed known.env (get_or (known.equalities ++ q ∷ []) e no_equality)) [
    | inl below ↦
        let P : Equality → Type 0 = λ x. AreSidesNamed known.env x in
        subst P (sym (get_or_append_left known.equalities (q ∷ []) no_equality e below)) (all.equalities e below)
    | inr above ↦
        let P : Equality → Type 0 = λ x. AreSidesNamed known.env x in
        subst P (sym (get_or_at known.equalities q [] no_equality e (omega (arith, length_push known.equalities q)))) last
  ];
}

node_named : (known : Known) (s : Judgement) → AreAllNamed known → IsNamedIn known.env s → AreAllNamed (with_node known s)
node_named known s all last = record {
  judgements = λ n h. elim (cases_lt n (length known.nodes)) as (λ _. IsNamedIn known.env (get_or (known.nodes ++ s ∷ []) n no_judgement)) [
    | inl below ↦
        let P : Judgement → Type 0 = λ j. IsNamedIn known.env j in
        subst P (sym (get_or_append_left known.nodes (s ∷ []) no_judgement n below)) (all.judgements n below)
    | inr above ↦
        let P : Judgement → Type 0 = λ j. IsNamedIn known.env j in
        subst P (sym (get_or_at known.nodes s [] no_judgement n (omega (arith, length_push known.nodes s)))) last
  ];
  types = all.types;
  bodies = all.bodies;
  equalities = all.equalities;
}

entry_named : (known : Known) (e : entry.Entry) → AreAllNamed known → IsNamed known.env e.type → ((t : Tree) → e.body ≡ Defined t → IsNamed known.env t)
    → AreAllNamed (with_entry known e)
entry_named known e all last body = record {
  judgements = λ n h. let old = all.judgements n h in (named_later known.env e (judgement_at known n).term old.0, named_later known.env e (judgement_at known n).type old.1);
  types = λ k h. elim (cases_lt k (length known.env)) as (λ _. IsNamed (known.env ++ e ∷ []) (entry_at (known.env ++ e ∷ []) k).type) [
    | inl below ↦
        let P : entry.Entry → Type 0 = λ x. IsNamed (known.env ++ e ∷ []) x.type in
        subst P (sym (get_or_append_left known.env (e ∷ []) (primitive_entry [] no_judgement) k below)) (named_later known.env e (entry_at known.env k).type (all.types k below))
    | inr above ↦
        let P : entry.Entry → Type 0 = λ x. IsNamed (known.env ++ e ∷ []) x.type in
        subst P (sym (get_or_at known.env e [] (primitive_entry [] no_judgement) k (omega (arith, length_push known.env e)))) (named_later known.env e e.type last)
  ];
  bodies = λ k t h is. named_later known.env e t (elim (cases_lt k (length known.env)) [
    | inl below ↦
        let same = get_or_append_left known.env (e ∷ []) (primitive_entry [] no_judgement) k below in
        all.bodies k t below (ap (λ (x : entry.Entry). x.body) (sym same) ∙ is)
    | inr above ↦
        let same = get_or_at known.env e [] (primitive_entry [] no_judgement) k (omega (arith, length_push known.env e)) in
        body t (ap (λ (x : entry.Entry). x.body) (sym same) ∙ is)
  ]);
  equalities = λ n h. let old = all.equalities n h in (named_later known.env e (equality_at known n).left old.0, named_later known.env e (equality_at known n).right old.1);
}

no_body : (t : Tree) → Primitive ≡ Defined t → ⊥
no_body t h = cc

body_is : (t u : Tree) → Defined t ≡ Defined u → t ≡ u
body_is t u h = cc

-- with one record more
pub kept_named : (items : List Item) (known : Known) (k : Kept) → AreAllNamed known → Fits items known k → AreAllNamed (with_kept items known k)
kept_named items known (Context c t) all fits = record { judgements = all.judgements; types = all.types; bodies = all.bodies; equalities = all.equalities }
kept_named items known (Equal left right by) all fits =
    equality_named known (equality_of items known left right by) all (equal_named known (tree_at items left) (tree_at items right) by all fits.follows)
kept_named items known (Node judge rule) all fits =
    node_named known (judgement_of items known judge) all (named_by known (judgement_of items known judge) rule all fits.follows)
kept_named items known (Entry name j true) all fits = entry_named known (entry_by true name (judgement_at known j.0)) all (all.judgements j.0 fits.live).0 (λ t is. absurd (no_body t is))
kept_named items known (Entry name j false) all fits = entry_named known (entry_by false name (judgement_at known j.0)) all (all.judgements j.0 fits.live).1
    (λ t is. let N : Tree → Type 0 = λ u. IsNamed known.env u in subst N (body_is (judgement_at known j.0).term t is) (all.judgements j.0 fits.live).0)
kept_named items known (Flag j) all fits = record { judgements = all.judgements; types = all.types; bodies = all.bodies; equalities = all.equalities }

pub none_named : AreAllNamed nothing
none_named = record { judgements = λ n h. absurd (omega arith); types = λ k h. absurd (omega arith); bodies = λ k t h is. absurd (omega arith); equalities = λ e h. absurd (omega arith) }

-- all judgements of a sound derivation, and all types of its entries
pub all_named : (items : List Item) (known : Known) (ks : List Kept) → AreAllNamed known → AreSound items known ks → AreAllNamed (known_after items known ks)
all_named items known [] all sound = all
all_named items known (k ∷ ks) all sound = all_named items (with_kept items known k) ks (kept_named items known k all sound.0) sound.1

pub kept_terms_are_named : KeptTermsAreNamed
kept_terms_are_named items kept sound n live = (all_named items nothing kept none_named sound.all).judgements n live
