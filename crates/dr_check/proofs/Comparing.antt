-- The forms of terms, by their nodes in a bank.
use Rattle.std.proofs.Common.{◌≡◌, ◌⊎◌, ◌↔◌, Bool, IsTrue, ◌∙◌, ◌+◌, ℕ, List, [], ◌∷◌, length, refl, sym, subst, ap, arith}
use mathlib.Core.Logic.{inl, inr}
use Rattle.ld_terms.specs.Put.{lift, put}
use Rattle.dr_check.specs.declared.shape.Filling.{Filling}
use Rattle.dr_check.specs.Filling.{filling_of}
use Rattle.dr_check.proofs.Deciding.{through}
use Rattle.ld_terms.specs.Tree.{Star, Trees, Nil, ◌▸◌, count}
use Rattle.ld_terms.specs.Derivable.{IsSort, star, box}
use Rattle.ld_terms.specs.Item.{Item, tree, list, IsOne, IsMany}
use Rattle.ld_terms.specs.Bank.{item_of, item_at, tree_at, list_at, listed, IsTermAt, IsListAt}
use Rattle.ld_terms.specs.declared.bank.TermId.{TermId}
use Rattle.ld_terms.specs.declared.bank.Node.{Node}
use Rattle.ld_terms.specs.declared.bank.Node.TheVariants as node

pub a_sort : (items : List Item) (n : Node) → (n ≡ node.Star) ⊎ (n ≡ node.Box_) → IsSort (tree (item_of items n))
a_sort items n (inl e) = subst (λ x. IsSort (tree (item_of items x))) (sym e) star
a_sort items n (inr e) = subst (λ x. IsSort (tree (item_of items x))) (sym e) box

pub no_sort : (items : List Item) (n : Node) → IsOne (item_of items n) → (n ≡ node.Star → ⊥) → (n ≡ node.Box_ → ⊥) → IsSort (tree (item_of items n)) → ⊥
no_sort items node.Star one f g s = f refl
no_sort items node.Box_ one f g s = g refl
no_sort items (node.Var i) one f g s = elim s [ ]
no_sort items (node.App h u) one f g s = elim s [ ]
no_sort items (node.Lam h u) one f g s = elim s [ ]
no_sort items (node.Pi h u) one f g s = elim s [ ]
no_sort items (node.Const k us) one f g s = elim s [ ]
no_sort items node.Nil one f g s = absurd one
no_sort items (node.Cons u us) one f g s = absurd one

-- a list that has been gone down so far, and has no more
pub gone_down : (us rest : Trees) (i n : ℕ) → count us ≡ count rest + i → i ≡ n → rest ≡ Nil → count us ≡ n
gone_down us rest i n e f g = omega (arith, ap count g)

pub none_left : (us rest : Trees) (i n : ℕ) → count us ≡ count rest + i → i ≡ n → count us ≡ n → rest ≡ Nil
none_left us Nil i n e f g = refl
none_left us (rest ▸ u) i n e f g = absurd (omega arith)

-- a list whose node isn't of two parts is empty
pub is_nil : (items : List Item) (n : Node) → IsMany (item_of items n) → ((u us : TermId) → n ≡ node.Cons u us → ⊥) → list (item_of items n) ≡ Nil
is_nil items node.Star many f = absurd many
is_nil items node.Box_ many f = absurd many
is_nil items (node.Var i) many f = absurd many
is_nil items (node.App h u) many f = absurd many
is_nil items (node.Lam h u) many f = absurd many
is_nil items (node.Pi h u) many f = absurd many
is_nil items (node.Const k us) many f = absurd many
is_nil items node.Nil many f = refl
is_nil items (node.Cons u us) many f = absurd (f u us refl)

-- the last tree of a list, or that there is none, by its node
pub last_at : (items bank : List Item) (t u us : TermId) → bank ≡ items → item_of bank (node.Cons u us) ≡ item_at bank t → list_at items us ▸ tree_at items u ≡ list_at items t
last_at items bank t u us e h = subst (λ (b : List Item). list_at b us ▸ tree_at b u ≡ list_at b t) e (ap list h)

pub nil_at : (items bank : List Item) (t : TermId) (n : Node) → bank ≡ items → item_of bank n ≡ item_at bank t → IsListAt items t → ((u us : TermId) → n ≡ node.Cons u us → ⊥) → list_at items t ≡ Nil
nil_at items bank t n e h l f =
    let many = subst (λ (b : List Item). IsMany (item_at b t)) (sym e) l.form in
    subst (λ (b : List Item). list_at b t ≡ Nil) e (ap list (sym h) ∙ is_nil bank n (subst IsMany (sym h) many) f)

-- a term by its node
pub tree_by : (items bank : List Item) (t : TermId) (n : Node) → bank ≡ items → item_of bank n ≡ item_at bank t → tree (item_of items n) ≡ tree_at items t
tree_by items bank t n e h = subst (λ (b : List Item). tree (item_of b n) ≡ tree_at b t) e (ap tree h)

-- how many trees a list of numbers has
listed-count : (items : List Item) (us : Trees) (ts : List TermId) → count (listed items us ts) ≡ count us + length ts
listed-count items us [] = omega arith
listed-count items us (t ∷ ts) = omega (arith, listed-count items (us ▸ tree_at items t) ts)

pub count-listed : (items : List Item) (ts : List TermId) → count (listed items Nil ts) ≡ length ts
count-listed items ts = omega (arith, listed-count items Nil ts)

-- what a test says of a body with a filling, over the same items
pub instance_by : {t : Bool} (items bank : List Item) (r body : TermId) (f : Filling) → bank ≡ items →
    (IsTrue t ↔ (tree_at bank r ≡ put (tree_at bank body) (filling_of bank f))) → (IsTrue t ↔ (tree_at items r ≡ put (tree_at items body) (filling_of items f)))
instance_by {t} items bank r body f e h = subst (λ (b : List Item). IsTrue t ↔ (tree_at b r ≡ put (tree_at b body) (filling_of b f))) e h

pub count_by : {t : Bool} (items bank : List Item) (us : TermId) (ps ts : List TermId) → bank ≡ items → ps ≡ ts → (IsTrue t ↔ (count (list_at bank us) ≡ length ps)) → (IsTrue t ↔ (count (list_at items us) ≡ count (listed items Nil ts)))
count_by items bank us ps ts e f h =
    let c : count (list_at bank us) ≡ count (list_at items us) = ap (λ (b : List Item). count (list_at b us)) e in
    let d : length ps ≡ count (listed items Nil ts) = ap length f ∙ sym (count-listed items ts) in
    through h (λ g. sym c ∙ g ∙ d) (λ g. c ∙ g ∙ sym d)

-- what a test says of a list, or of a term lifted, over the same items
pub list_by : {t : Bool} (items bank : List Item) (us : TermId) → bank ≡ items → (IsTrue t ↔ (list_at bank us ≡ Nil)) → (IsTrue t ↔ (list_at items us ≡ Nil))
list_by {t} items bank us e h = subst (λ (b : List Item). IsTrue t ↔ (list_at b us ≡ Nil)) e h

pub weakened_by : {t : Bool} (items bank : List Item) (l x : TermId) → bank ≡ items → (IsTrue t ↔ (tree_at bank l ≡ lift (tree_at bank x) 1 0)) → (IsTrue t ↔ (tree_at items l ≡ lift (tree_at items x) 1 0))
weakened_by {t} items bank l x e h = subst (λ (b : List Item). IsTrue t ↔ (tree_at b l ≡ lift (tree_at b x) 1 0)) e h

no_star : (items : List Item) (n : Node) → IsOne (item_of items n) → (n ≡ node.Star → ⊥) → tree (item_of items n) ≡ Star → ⊥
no_star items node.Star one f e = f refl
no_star items node.Box_ one f e = cc
no_star items (node.Var i) one f e = cc
no_star items (node.App h u) one f e = cc
no_star items (node.Lam h u) one f e = cc
no_star items (node.Pi h u) one f e = cc
no_star items (node.Const k us) one f e = cc
no_star items node.Nil one f e = absurd one
no_star items (node.Cons u us) one f e = absurd one

pub not_star : (items bank : List Item) (t : TermId) (n : Node) → bank ≡ items → item_of bank n ≡ item_at bank t → IsTermAt items t → (n ≡ node.Star → ⊥) → tree_at items t ≡ Star → ⊥
not_star items bank t n e h at f g =
    let one = subst (λ (b : List Item). IsOne (item_at b t)) (sym e) at.form in
    no_star bank n (subst IsOne (sym h) one) f (ap tree h ∙ subst (λ (b : List Item). tree_at b t ≡ Star) (sym e) g)
