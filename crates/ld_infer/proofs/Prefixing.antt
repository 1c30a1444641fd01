-- Lists without their last trees: the lists that an instance's arguments are read from, and the parameters for them.
use Rattle.std.proofs.Common.{◌≡◌, ◌<◌, ◌+◌, ◌-◌, ◌++◌, ◌∷◌, [], ℕ, zero, suc, List, length, take, get_or, refl, ap, sym, ◌∙◌, subst, inl, inr, arith}
use Rattle.std.proofs.lemmas.List.{length_push, get_or_push, get_or_append_left}
use Rattle.std.proofs.lemmas.Bool.{cases_lt}
use Rattle.ld_terms.specs.Tree.{Tree, Trees, Nil, ◌▸◌, count}
use Rattle.ld_terms.specs.Item.{Item, Many, list, IsMany}
use Rattle.ld_terms.specs.Bank.{tree_at, list_at, item_at, item_of, listed, IsListAt}
use Rattle.ld_terms.specs.declared.bank.TermId.{TermId}
use Rattle.ld_terms.specs.declared.bank.Node.{Node}
use Rattle.ld_terms.specs.declared.bank.Node.TheVariants as node
use Rattle.ld_terms.specs.Named.{AreNamed}
use Rattle.ld_terms.specs.Entry.{Env, AreScoped}
use Rattle.ld_infer.specs.Standing.{Standing, Continues, without, without_last}
use Rattle.ld_infer.specs.Infers.{AreReadable}
use Rattle.ld_infer.proofs.Staying.{at_same}
use Rattle.ld_infer.proofs.Nodes.{node_item}

-- without one tree more
without_more : (n : ℕ) (us : Trees) → without (suc n) us ≡ without_last (without n us)
without_more zero us = refl
without_more (suc n) us = without_more n (without_last us)

pub without_next : (n : ℕ) (us ws : Trees) (u : Tree) → without n us ≡ ws ▸ u → without (suc n) us ≡ ws
without_next n us ws u e = without_more n us ∙ ap without_last e

count_last : (us : Trees) → count (without_last us) ≡ count us - 1
count_last Nil = refl
count_last (us ▸ u) = omega arith

pub count_without : (n : ℕ) (us : Trees) → count (without n us) ≡ count us - n
count_without zero us = omega arith
count_without (suc n) us = omega (arith, count_without n (without_last us), count_last us)

no_trees : (us : Trees) → count us ≡ 0 → us ≡ Nil
no_trees Nil e = refl
no_trees (us ▸ u) e = absurd (omega (arith, e))

pub without_all : (n : ℕ) (us : Trees) → n ≡ count us → without n us ≡ Nil
without_all n us e = no_trees (without n us) (omega (arith, e, count_without n us))

-- a list that has a last tree
pub record HasLast (us : Trees) : Type 0 where
  pub before : Trees
  pub last : Tree
  pub is : us ≡ before ▸ last

pub has_last : (us : Trees) → 0 < count us → HasLast us
has_last Nil some = absurd (omega (arith, some))
has_last (us ▸ u) some = record { before = us; last = u; is = refl }

pub last_left : (n : ℕ) (us : Trees) → n < count us → HasLast (without n us)
last_left n us below = has_last (without n us) (omega (arith, below, count_without n us))

-- The first parameters and the one behind them, of the numbers of their types.
without_listed : (items : List Item) (us : Trees) (ts : List TermId) → without (length ts) (listed items us ts) ≡ us
without_listed items us [] = refl
without_listed items us (t ∷ ts) = without_more (length ts) (listed items (us ▸ tree_at items t) ts) ∙ ap without_last (without_listed items (us ▸ tree_at items t) ts)

pub listed_at : (items : List Item) (us : Trees) (ts : List TermId) (i : ℕ) (d : TermId) → i < length ts
    → without (length ts - suc i) (listed items us ts) ≡ listed items us (take i ts) ▸ tree_at items (get_or ts i d)
listed_at items us [] i d below = absurd (omega (arith, below))
listed_at items us (t ∷ ts) zero d below =
    let many : length (t ∷ ts) - suc zero ≡ length ts = omega arith in
    ap (λ n. without n (listed items (us ▸ tree_at items t) ts)) many ∙ without_listed items (us ▸ tree_at items t) ts
listed_at items us (t ∷ ts) (suc i) d below =
    let many : length (t ∷ ts) - suc (suc i) ≡ length ts - suc i = omega arith in
    ap (λ n. without n (listed items (us ▸ tree_at items t) ts)) many ∙ listed_at items (us ▸ tree_at items t) ts i d (omega (arith, below))

-- Some lists are left of a list without its last trees, and one more that is looked at next.
pub record AreFirst (items : List Item) (us : Trees) (rest : TermId) (lists : List TermId) : Type 0 where
  pub next : IsListAt items rest
  pub is : list_at items rest ≡ without (length lists) us
  pub all : length lists + count (list_at items rest) ≡ count us
  pub each : (i : ℕ) (d : TermId) → i < length lists → IsListAt items (get_or lists i d) × (list_at items (get_or lists i d) ≡ without i us)

pub first_more : (items : List Item) (us : Trees) (rest u before : TermId) (lists : List TermId) → AreFirst items us rest lists
    → Many (list_at items before ▸ tree_at items u) ≡ item_at items rest → IsListAt items before → AreFirst items us before (lists ++ rest ∷ [])
first_more items us rest u before lists h node at =
    let long = length_push lists rest in
    let here : list_at items rest ≡ list_at items before ▸ tree_at items u = ap list (sym node) in
    let now = without_next (length lists) us (list_at items before) (tree_at items u) (sym h.is ∙ here) in
    let many : length (lists ++ rest ∷ []) ≡ suc (length lists) = omega (arith, long) in
    record {
      next = at;
      is = sym now ∙ ap (λ n. without n us) (sym many);
      all = omega (arith, long, h.all, ap count here);
      each = λ i d below.
          elim (cases_lt i (length lists)) [
            | inl less ↦ old i d less
            | inr more ↦ new i d (omega (arith, more, below, long))
          ];
    }
  where
    old : (i : ℕ) (d : TermId) → i < length lists → IsListAt items (get_or (lists ++ rest ∷ []) i d) × (list_at items (get_or (lists ++ rest ∷ []) i d) ≡ without i us)
    old i d less =
        let P : TermId → Type 0 = λ t. IsListAt items t × (list_at items t ≡ without i us) in
        subst P (sym (get_or_append_left lists (rest ∷ []) d i less)) (h.each i d less)

    new : (i : ℕ) (d : TermId) → length lists ≡ i → IsListAt items (get_or (lists ++ rest ∷ []) i d) × (list_at items (get_or (lists ++ rest ∷ []) i d) ≡ without i us)
    new i d last =
        let P : TermId → Type 0 = λ t. IsListAt items t × (list_at items t ≡ without i us) in
        subst P (sym (get_or_push lists rest d i last)) (h.next, h.is ∙ ap (λ n. without n us) last)

-- a node of a list that is none of a longer list
pub nil_node : (items : List Item) (n : Node) (t : TermId) → ((u us : TermId) → n ≡ node.Cons u us → ⊥) → IsListAt items t → item_of items n ≡ item_at items t → list_at items t ≡ Nil
nil_node items node.Star t p at same = let P : Item → Type 0 = IsMany in absurd (subst P (sym same) at.form)
nil_node items node.Box_ t p at same = let P : Item → Type 0 = IsMany in absurd (subst P (sym same) at.form)
nil_node items (node.Var i) t p at same = let P : Item → Type 0 = IsMany in absurd (subst P (sym same) at.form)
nil_node items (node.App f u) t p at same = let P : Item → Type 0 = IsMany in absurd (subst P (sym same) at.form)
nil_node items (node.Lam a m) t p at same = let P : Item → Type 0 = IsMany in absurd (subst P (sym same) at.form)
nil_node items (node.Pi a b) t p at same = let P : Item → Type 0 = IsMany in absurd (subst P (sym same) at.form)
nil_node items (node.Const k us) t p at same = let P : Item → Type 0 = IsMany in absurd (subst P (sym same) at.form)
nil_node items node.Nil t p at same = ap list (sym same)
nil_node items (node.Cons u us) t p at same = absurd (p u us refl)

-- Arguments that are over the entries and variables, and so are fewer of them, and later.
pub readable_without : (s : Standing) (n : ℕ) (us : Trees) → AreReadable s us → AreReadable s (without n us)
readable_without s zero us h = h
readable_without s (suc n) Nil h = readable_without s n Nil h
readable_without s (suc n) (us ▸ u) h = readable_without s n us (h.0.0, h.1.0)

pub readable_stays : (a b : Standing) (us vs : Trees) → Continues a b → us ≡ vs → AreReadable a us → AreReadable b vs
readable_stays a b us vs goes same h =
    at_same (λ (Δ : Env) (ctx : Trees) (ws : Trees). AreNamed Δ ws × AreScoped ws (count ctx)) (sym goes.adds.env) (sym goes.context) same h

-- the parts of a list that is no empty one
pub cons_parts : (bank items : List Item) (u before whole : TermId) (us : Trees) (x : Tree) → bank ≡ items → item_of bank (node.Cons u before) ≡ item_at bank whole → list_at items whole ≡ us ▸ x
    → (list_at items before ≡ us) × (tree_at items u ≡ x)
cons_parts bank items u before whole us x same holds is = parts _ _ _ _ (ap list (node_item bank items (node.Cons u before) whole same holds) ∙ is)
  where
    parts : (us vs : Trees) (u v : Tree) → us ▸ u ≡ vs ▸ v → (us ≡ vs) × (u ≡ v)
    parts us vs u v e = (cc, cc)
