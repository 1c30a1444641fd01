-- What a node tells of the tree that its number stands for.
use Rattle.std.proofs.Common.{◌≡◌, true, false, ◌||◌, List, None, ap, sym, ◌∙◌, subst, refl, inl, inr, ◌⊎◌}
use Rattle.ld_terms.specs.Tree.{Tree, Trees}
use Rattle.ld_terms.specs.Item.{Item, One, Many, tree, IsOne}
use Rattle.ld_terms.specs.Bank.{item_at, item_of, tree_at, IsTermAt}
use Rattle.ld_terms.specs.Tests.{is_star, is_box}
use Rattle.ld_terms.specs.Derivable.{IsSort}
use Rattle.ld_terms.specs.Derivable as derivable
use Rattle.ld_terms.specs.declared.bank.TermId.{TermId}
use Rattle.ld_terms.specs.declared.bank.Node.{Node}
use Rattle.ld_terms.specs.declared.bank.Node.TheVariants as node
use Rattle.ld_infer.specs.Reading.{product_of}

-- a node that the bank gives, told of the items that the bank stands for
pub node_item : (bank items : List Item) (n : Node) (t : TermId) → bank ≡ items → item_of bank n ≡ item_at bank t → item_of items n ≡ item_at items t
node_item bank items n t e h = let P : List Item → Type 0 = λ xs. item_of xs n ≡ item_at xs t in subst P e h

pub node_tree : (bank items : List Item) (n : Node) (t : TermId) → bank ≡ items → item_of bank n ≡ item_at bank t → tree_at items t ≡ tree (item_of items n)
node_tree bank items n t e h = ap tree (sym (node_item bank items n t e h))

-- a node that is a sort
pub sort_node : (items : List Item) (n : Node) (t : TermId) → (n ≡ node.Star) ⊎ (n ≡ node.Box_) → item_of items n ≡ item_at items t → IsSort (tree_at items t)
sort_node items n t (inl e) same = let P : Tree → Type 0 = IsSort in subst P (ap (λ x. tree (item_of items x)) (sym e) ∙ ap tree same) derivable.star
sort_node items n t (inr e) same = let P : Tree → Type 0 = IsSort in subst P (ap (λ x. tree (item_of items x)) (sym e) ∙ ap tree same) derivable.box

pub sort_tested : (t : Tree) → IsSort t → (is_star t || is_box t) ≡ true
sort_tested t derivable.star = refl
sort_tested t derivable.box = refl

-- a number of a tree is none of a list
no_list : (us : Trees) (x : Item) → Many us ≡ x → IsOne x → ⊥
no_list us x e one = let P : Item → Type 0 = IsOne in subst P (sym e) one

pub no_sort_node : (items : List Item) (n : Node) (t : TermId) → (n ≡ node.Star → ⊥) → (n ≡ node.Box_ → ⊥) → IsTermAt items t → item_of items n ≡ item_at items t
    → (is_star (tree_at items t) || is_box (tree_at items t)) ≡ false
no_sort_node items node.Star t p q at same = absurd (p refl)
no_sort_node items node.Box_ t p q at same = absurd (q refl)
no_sort_node items (node.Var i) t p q at same = ap (λ x. is_star (tree x) || is_box (tree x)) (sym same)
no_sort_node items (node.App f u) t p q at same = ap (λ x. is_star (tree x) || is_box (tree x)) (sym same)
no_sort_node items (node.Lam a m) t p q at same = ap (λ x. is_star (tree x) || is_box (tree x)) (sym same)
no_sort_node items (node.Pi a b) t p q at same = ap (λ x. is_star (tree x) || is_box (tree x)) (sym same)
no_sort_node items (node.Const k us) t p q at same = ap (λ x. is_star (tree x) || is_box (tree x)) (sym same)
no_sort_node items node.Nil t p q at same = absurd (no_list _ _ same at.form)
no_sort_node items (node.Cons u us) t p q at same = absurd (no_list _ _ same at.form)

pub no_box_node : (items : List Item) (n : Node) (t : TermId) → (n ≡ node.Box_ → ⊥) → IsTermAt items t → item_of items n ≡ item_at items t → is_box (tree_at items t) ≡ false
no_box_node items node.Star t q at same = ap (λ x. is_box (tree x)) (sym same)
no_box_node items node.Box_ t q at same = absurd (q refl)
no_box_node items (node.Var i) t q at same = ap (λ x. is_box (tree x)) (sym same)
no_box_node items (node.App f u) t q at same = ap (λ x. is_box (tree x)) (sym same)
no_box_node items (node.Lam a m) t q at same = ap (λ x. is_box (tree x)) (sym same)
no_box_node items (node.Pi a b) t q at same = ap (λ x. is_box (tree x)) (sym same)
no_box_node items (node.Const k us) t q at same = ap (λ x. is_box (tree x)) (sym same)
no_box_node items node.Nil t q at same = absurd (no_list _ _ same at.form)
no_box_node items (node.Cons u us) t q at same = absurd (no_list _ _ same at.form)

pub no_star_node : (items : List Item) (n : Node) (t : TermId) → (n ≡ node.Star → ⊥) → IsTermAt items t → item_of items n ≡ item_at items t → is_star (tree_at items t) ≡ false
no_star_node items node.Star t q at same = absurd (q refl)
no_star_node items node.Box_ t q at same = ap (λ x. is_star (tree x)) (sym same)
no_star_node items (node.Var i) t q at same = ap (λ x. is_star (tree x)) (sym same)
no_star_node items (node.App f u) t q at same = ap (λ x. is_star (tree x)) (sym same)
no_star_node items (node.Lam a m) t q at same = ap (λ x. is_star (tree x)) (sym same)
no_star_node items (node.Pi a b) t q at same = ap (λ x. is_star (tree x)) (sym same)
no_star_node items (node.Const k us) t q at same = ap (λ x. is_star (tree x)) (sym same)
no_star_node items node.Nil t q at same = absurd (no_list _ _ same at.form)
no_star_node items (node.Cons u us) t q at same = absurd (no_list _ _ same at.form)

pub no_product_node : (items : List Item) (n : Node) (t : TermId) → ((a b : TermId) → n ≡ node.Pi a b → ⊥) → IsTermAt items t → item_of items n ≡ item_at items t → product_of (tree_at items t) ≡ None
no_product_node items node.Star t q at same = ap (λ x. product_of (tree x)) (sym same)
no_product_node items node.Box_ t q at same = ap (λ x. product_of (tree x)) (sym same)
no_product_node items (node.Var i) t q at same = ap (λ x. product_of (tree x)) (sym same)
no_product_node items (node.App f u) t q at same = ap (λ x. product_of (tree x)) (sym same)
no_product_node items (node.Lam a m) t q at same = ap (λ x. product_of (tree x)) (sym same)
no_product_node items (node.Pi a b) t q at same = absurd (q a b refl)
no_product_node items (node.Const k us) t q at same = ap (λ x. product_of (tree x)) (sym same)
no_product_node items node.Nil t q at same = absurd (no_list _ _ same at.form)
no_product_node items (node.Cons u us) t q at same = absurd (no_list _ _ same at.form)

-- equal trees are equal items where both are trees
pub same_items : (x y : Item) → IsOne x → IsOne y → tree x ≡ tree y → x ≡ y
same_items (One t) (One u) p q e = ap One e
same_items (Many us) y p q e = absurd p
same_items (One t) (Many us) p q e = absurd q
