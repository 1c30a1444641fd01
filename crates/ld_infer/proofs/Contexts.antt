-- The context of a list of variables, and that of its first ones.
use Rattle.std.proofs.Common.{◌≡◌, ◌<◌, ◌≤◌, ◌+◌, ◌-◌, ◌++◌, ◌∷◌, [], ℕ, zero, suc, List, length, take, ap, sym, ◌∙◌, subst, arith, All}
use Rattle.std.proofs.lemmas.List.{map-append, length-map, length-take, get_or-take, take-take, take_all, take_more, take-map}
use Rattle.std.proofs.lemmas.List.Elements.{All-cons}
use Rattle.ld_terms.specs.Tree.{Trees, Nil, ◌▸◌, count}
use Rattle.ld_terms.specs.Item.{Item}
use Rattle.ld_terms.specs.Bank.{Extends, IsTermAt, tree_at, listed}
use Rattle.ld_terms.proofs.Listing.{listed-push, listed-later}
use Rattle.ld_terms.specs.declared.bank.TermId.{TermId}
use Rattle.ld_infer.specs.declared.variable.Variable.{Variable}
use Rattle.ld_infer.specs.Standing.{without, without_last}
use Rattle.ld_infer.specs.Theory.{types_of, context_of, no_variable, variable_at}

pub context_of-push : (items : List Item) (vs : List Variable) (v : Variable) → context_of items (vs ++ v ∷ []) ≡ context_of items vs ▸ tree_at items v.of
context_of-push items vs v =
    ap (listed items Nil) (map-append (λ (x : Variable). x.of) vs (v ∷ [])) ∙ listed-push items Nil (types_of vs) v.of

pub count-listed : (items : List Item) (us : Trees) (ts : List TermId) → count (listed items us ts) ≡ count us + length ts
count-listed items us [] = omega arith
count-listed items us (t ∷ ts) = let more = count-listed items (us ▸ tree_at items t) ts in omega arith

pub count-context_of : (items : List Item) (vs : List Variable) → count (context_of items vs) ≡ length vs
count-context_of items vs = let all = count-listed items Nil (types_of vs) in let many = length-map vs (λ (v : Variable). v.of) in omega arith

-- the first variables, with the last of them
pub context_of-more : (items : List Item) (vs : List Variable) (i : ℕ) → i < length vs → context_of items (take (i + 1) vs) ≡ context_of items (take i vs) ▸ tree_at items (variable_at vs i).of
context_of-more items vs i below = ap (context_of items) (take_more vs i no_variable below) ∙ context_of-push items (take i vs) (variable_at vs i)

-- the context without some of its last variables is that of the first ones
pub context_of-without : (items : List Item) (vs : List Variable) (out : ℕ) → out ≤ length vs → without out (context_of items vs) ≡ context_of items (take (length vs - out) vs)
context_of-without items vs zero within = ap (context_of items) (sym (take_all (length vs - 0) vs (omega arith)))
context_of-without items vs (suc out) within =
    let fewer = take (length vs - 1) vs in
    let many : length fewer ≡ length vs - 1 = let l = length-take (length vs - 1) vs in grind arith in
    let all : take ((length vs - 1) + 1) vs ≡ vs = take_all ((length vs - 1) + 1) vs (omega arith) in
    let last : context_of items vs ≡ context_of items fewer ▸ tree_at items (variable_at vs (length vs - 1)).of =
    ap (context_of items) (sym all) ∙ context_of-more items vs (length vs - 1) (omega arith) in
    let places : length fewer - out ≡ length vs - suc out = omega arith in
    ap (λ ctx. without out (without_last ctx)) last
    ∙ context_of-without items fewer out (omega arith)
    ∙ ap (λ n. context_of items (take n fewer)) places
    ∙ ap (context_of items) (take-take (length vs - suc out) (length vs - 1) vs (omega arith))

-- the context stays as terms are added
pub types_live : (items : List Item) (vs : List Variable) → ((i : ℕ) → i < length vs → IsTermAt items (variable_at vs i).of) → All (IsTermAt items) (types_of vs)
types_live items [] live = λ k d l. absurd (omega arith)
types_live items (v ∷ vs) live = All-cons (IsTermAt items) v.of (types_of vs) (live 0 (omega arith)) (types_live items vs (λ i l. live (suc i) (omega arith)))

pub context_of-later : (old new : List Item) (vs : List Variable) (i : ℕ) → Extends old new → ((i : ℕ) → i < length vs → IsTermAt old (variable_at vs i).of) → context_of new (take i vs) ≡ context_of old (take i vs)
context_of-later old new vs i e live =
    listed-later old new Nil (types_of (take i vs)) e
    (types_live old (take i vs) (λ j l.
    let P : Variable → Type 0 = λ v. IsTermAt old v.of in
    let many = length-take i vs in
    let first : j < i = grind arith in
    let below : j < length vs = grind arith in
    subst P (sym (get_or-take i vs j no_variable first)) (live j below)))

-- the first variables, where those of two lists have the same types
pub context_of-same : (items : List Item) (vs ws : List Variable) (i : ℕ) → types_of vs ≡ types_of ws → context_of items (take i vs) ≡ context_of items (take i ws)
context_of-same items vs ws i same =
    ap (listed items Nil) (sym (take-map (λ (v : Variable). v.of) i vs) ∙ ap (take i) same ∙ take-map (λ (v : Variable). v.of) i ws)

-- the context without some of its last variables ends with the one before them
pub without-ends : (items : List Item) (vs : List Variable) (out place : ℕ) → out < length vs → place ≡ length vs - 1 - out
    → without out (context_of items vs) ≡ without (suc out) (context_of items vs) ▸ tree_at items (variable_at vs place).of
without-ends items vs out place below at =
    let more : length vs - out ≡ place + 1 = omega arith in
    let fewer : place ≡ length vs - suc out = omega arith in
    context_of-without items vs out (omega arith)
    ∙ ap (λ n. context_of items (take n vs)) more
    ∙ context_of-more items vs place (omega arith)
    ∙ ap (λ ctx. ctx ▸ tree_at items (variable_at vs place).of)
    (ap (λ n. context_of items (take n vs)) fewer ∙ sym (context_of-without items vs (suc out) (omega arith)))

-- all variables but the last
pub context_of-pop : (items : List Item) (vs : List Variable) → 0 < length vs → context_of items (take (length vs - 1) vs) ≡ without_last (context_of items vs)
context_of-pop items vs some = sym (context_of-without items vs 1 (omega arith))
