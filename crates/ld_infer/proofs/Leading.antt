-- A variable's type and judgement, led into the context that the variable ends, or that a later one ends.
use Rattle.std.proofs.Common.{◌≡◌, ◌<◌, ◌+◌, ◌-◌, ℕ, suc, nat_lt, if◌then◌else◌, Some, Result, Err, length, refl, ap, sym, ◌∙◌, subst, arith}
use Rattle.std.proofs.lemmas.Bool.Decides.{nat_tests}
use Rattle.ld_terms.specs.Tree.{Tree, Trees, Var, ◌▸◌, count}
use Rattle.ld_terms.specs.Item.{One, IsSmall}
use Rattle.ld_terms.specs.Put.{lift}
use Rattle.ld_terms.specs.Bank.{tree_at}
use Rattle.ld_terms.specs.Known.{Judgement}
use Rattle.ld_terms.specs.declared.bank.TermId.{TermId}
use Rattle.ld_terms.specs.declared.bank.TermFault.{TermFault}
use Rattle.ld_record.specs.declared.record.JudgeId.{JudgeId}
use Rattle.ld_record.specs.Follows.{ByVar, ByWeak}
use Rattle.ld_record.specs.Growth.{Knows}
use Rattle.ld_record.proofs.Following.{by_var, by_weak}
use Rattle.ld_infer.specs.declared.variable.Variable.{Variable}
use Rattle.ld_infer.specs.declared.variable.VariableTyped.{VariableTyped}
use Rattle.ld_infer.specs.Reading.{type_in, lifted}
use Rattle.ld_infer.specs.Standing.{Standing, known, env, Continues, without}
use Rattle.ld_infer.specs.Variables.{judged_in, KnowsSortIn, EndsWith, IsTypedIn, IsHighIn}
use Rattle.ld_infer.proofs.Going.{continues_trans, knows_stays, tree_stays}

pub there_stays : (a b : Standing) (out : ℕ) → Continues a b → out < count a.context → out < count b.context
there_stays a b out h below = let P : Trees → Type 0 = λ ctx. out < count ctx in subst P (sym h.context) below

-- a judgement of the context without some variables is the same later
judged_stays : (a b : Standing) (n : ℕ) (t type : Tree) → Continues a b → judged_in b (without n b.context) t type ≡ judged_in a (without n a.context) t type
judged_stays a b n t type h =
    ap (λ (e : ℕ). record (judged_in b (without n b.context) t type) { entries = e }) (ap length h.adds.env)
    ∙ ap (λ (ctx : Trees). judged_in a (without n ctx) t type) h.context

known_stays : (a b : Standing) (n : ℕ) (j : JudgeId) (t type : Tree) → Continues a b → Knows (known a) j (judged_in a (without n a.context) t type) → Knows (known b) j (judged_in b (without n b.context) t type)
known_stays a b n j t type h k = subst (Knows (known b) j) (sym (judged_stays a b n t type h)) (knows_stays a b j (judged_in a (without n a.context) t type) h k)

pub sort_in_stays : (a b : Standing) (n : ℕ) (j : JudgeId) (t u : Tree) → Continues a b → t ≡ u → KnowsSortIn a (without n a.context) j t → KnowsSortIn b (without n b.context) j u
sort_in_stays a b n j t u h e k =
    let P : Tree → Type 0 = KnowsSortIn b (without n b.context) j in
    subst P e (record { sort = k.sort; is = k.is; knows = known_stays a b n j t k.sort h k.knows })

pub sort_before : (s : Standing) (out : ℕ) (v : Variable) → EndsWith s out v → KnowsSortIn s (without (out + 1) s.context) v.sort (tree_at s.items v.of)
sort_before s out v h =
    let P : ℕ → Type 0 = λ n. KnowsSortIn s (without n s.context) v.sort (tree_at s.items v.of) in
    let e : suc out ≡ out + 1 = omega arith in
    subst P e h.sort

-- a fault is the same as an answer of either kind
pub fault_once : (f g : TermFault) → ◌≡◌ {A = Result VariableTyped TermFault} (Err f) (Err g) → f ≡ g
fault_once f g e = cc

some_once : {a b : Tree} → Some a ≡ Some b → a ≡ b
some_once e = cc

-- what a type of the context is, where it is a high one
high_by : (ctx : Trees) (index : ℕ) (t : Tree) → type_in ctx index ≡ Some t → ¬ IsSmall (One t) → IsHighIn ctx index
high_by ctx index t found high = λ x at small. let P : Tree → Type 0 = λ y. IsSmall (One y) in high (subst P (sym (some_once (sym found ∙ at))) small)

-- the last variable
module _ (a b d : Standing) (out : ℕ) (last : Variable) (of : TermId) (goes : Continues a b) (more : Continues b d) (ends : EndsWith b out last) where
  ended : without out d.context ≡ without (suc out) d.context ▸ tree_at b.items last.of
  ended = ap (without out) more.context ∙ ends.last ∙ ap (λ (ctx : Trees). without (suc out) ctx ▸ tree_at b.items last.of) (sym more.context)

  pub own_type : tree_at d.items of ≡ lift (tree_at b.items last.of) 1 0 → type_in (without out d.context) 0 ≡ Some (tree_at d.items of)
  own_type is = ap (λ (ctx : Trees). type_in ctx 0) ended ∙ ap Some (sym is)

  pub own_follows : tree_at d.items of ≡ lift (tree_at b.items last.of) 1 0 → ByVar (known d) (judged_in d (without out d.context) (Var 0) (tree_at d.items of)) last.sort
  own_follows is =
      let c = tree_at b.items last.of in
      let sort = sort_in_stays b d (suc out) last.sort c c more refl ends.sort in
      let P : Judgement → Type 0 = λ s. ByVar (known d) s last.sort in
      subst P (ap (λ (ctx : Trees). judged_in d ctx (Var 0) (lift c 1 0)) (sym ended) ∙ ap (judged_in d (without out d.context) (Var 0)) (sym is))
      (by_var (known d) last.sort (length (env d)) (without (suc out) d.context) c sort.sort sort.is sort.knows)

  pub own_high : ¬ IsSmall (One (lift (tree_at b.items last.of) 1 0)) → IsHighIn (without out a.context) 0
  own_high high = high_by (without out a.context) 0 (lift (tree_at b.items last.of) 1 0) (ap (λ (ctx : Trees). type_in (without out ctx) 0) (sym goes.context) ∙ ap (λ (ctx : Trees). type_in ctx 0) ends.last) high

  -- a variable before the last one
  module _ (index : ℕ) (typed : VariableTyped) (some : 0 < index) (h : IsTypedIn a (out + 1) (index - 1) typed) where
    weak_found : type_in (without out a.context) index ≡ Some (lift (tree_at b.items typed.of) 1 0)
    weak_found =
        let c = tree_at b.items last.of in
        let one : index ≡ suc (index - 1) = omega arith in
        let next : suc out ≡ out + 1 = omega arith in
        let context : without out a.context ≡ without (out + 1) a.context ▸ c = ap (without out) (sym goes.context) ∙ ends.last ∙ ap (λ (ctx : Trees). without (suc out) ctx ▸ c) goes.context ∙ ap (λ (n : ℕ). without n a.context ▸ c) next in
        ap (λ (ctx : Trees). type_in ctx index) context ∙ ap (type_in (without (out + 1) a.context ▸ c)) one ∙ ap lifted h.type ∙ ap (λ (t : Tree). Some (lift t 1 0)) (sym (tree_stays a b typed.of goes h.term))

    pub weak_type : tree_at d.items of ≡ lift (tree_at b.items typed.of) 1 0 → type_in (without out d.context) index ≡ Some (tree_at d.items of)
    weak_type is = ap (λ (ctx : Trees). type_in (without out ctx) index) (more.context ∙ goes.context) ∙ weak_found ∙ ap Some (sym is)

    pub weak_high : ¬ IsSmall (One (lift (tree_at b.items typed.of) 1 0)) → IsHighIn (without out a.context) index
    weak_high high = high_by (without out a.context) index (lift (tree_at b.items typed.of) 1 0) weak_found high

    weak_term : lift (Var (index - 1)) 1 0 ≡ Var index
    weak_term = let e : (if nat_lt (index - 1) 0 then index - 1 else index - 1 + 1) ≡ index = grind (arith, nat_tests) in ap Var e

    pub weak_follows : tree_at d.items of ≡ lift (tree_at b.items typed.of) 1 0 → ByWeak (known d) (judged_in d (without out d.context) (Var index) (tree_at d.items of)) typed.judge last.sort
    weak_follows is =
        let all = continues_trans a b d goes more in
        let c = tree_at b.items last.of in
        let t = tree_at a.items typed.of in
        let next : out + 1 ≡ suc out = omega arith in
        let J : ℕ → Type 0 = λ n. Knows (known d) typed.judge (judged_in d (without n d.context) (Var (index - 1)) t) in
        let there : J (suc out) = subst J next (known_stays a d (out + 1) typed.judge (Var (index - 1)) t all h.judged) in
        let sort = sort_in_stays b d (suc out) last.sort c c more refl ends.sort in
        let type : lift t 1 0 ≡ tree_at d.items of = ap (λ (x : Tree). lift x 1 0) (sym (tree_stays a b typed.of goes h.term)) ∙ sym is in
        let P : Judgement → Type 0 = λ s. ByWeak (known d) s typed.judge last.sort in
        subst P (ap (λ (ctx : Trees). judged_in d ctx (lift (Var (index - 1)) 1 0) (lift t 1 0)) (sym ended) ∙ ap (λ (x : Tree). judged_in d (without out d.context) x (lift t 1 0)) weak_term ∙ ap (judged_in d (without out d.context) (Var index)) type)
        (by_weak (known d) typed.judge last.sort (length (env d)) (without (suc out) d.context) (Var (index - 1)) t c sort.sort sort.is there sort.knows)
