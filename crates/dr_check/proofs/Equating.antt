-- Equalities that equate the trees of two lists: gone through from the last to the first.
use Rattle.std.proofs.Common.{◌≡◌, ◌∙◌, ◌+◌, ◌<◌, ℕ, zero, suc, List, [], ◌∷◌, ◌++◌, length, map, take, get_or, refl, ap, sym, subst, arith}
use Rattle.std.specs.List.{AllByRecursion}
use Rattle.std.proofs.lemmas.List.{map-append, take_all, take_more}
use Rattle.ld_terms.specs.Tree.{Tree, Trees, Nil, ◌▸◌}
use Rattle.ld_terms.specs.Known.{Known, equality_at, extended, trees, Equates, EquateAll}

-- what holds of each member holds of the one at a place
pub all_at : (P : ℕ → Type 0) (xs : List ℕ) (i d : ℕ) → AllByRecursion P xs → i < length xs → P (get_or xs i d)
all_at P [] i d h l = absurd (omega arith)
all_at P (x ∷ xs) zero d h l = h.0
all_at P (x ∷ xs) (suc i) d h l = all_at P xs i d h.1 (omega arith)

extended_last : (us : Trees) (ts : List Tree) (t : Tree) → extended us (ts ++ t ∷ []) ≡ extended us ts ▸ t
extended_last us [] t = refl
extended_last us (x ∷ ts) t = extended_last (us ▸ x) ts t

pub trees_last : (g : ℕ → Tree) (xs : List ℕ) (x : ℕ) → trees (map g (xs ++ x ∷ [])) ≡ trees (map g xs) ▸ g x
trees_last g xs x = ap trees (map-append g xs (x ∷ [])) ∙ extended_last Nil (map g xs) (g x)

pub one_more : {us vs : Trees} {u v : Tree} → us ≡ vs → u ≡ v → us ▸ u ≡ vs ▸ v
one_more e f = cc

pub snoc_left : {us vs : Trees} {u v : Tree} → us ▸ u ≡ vs ▸ v → us ≡ vs
snoc_left h = cc

pub snoc_right : {us vs : Trees} {u v : Tree} → us ▸ u ≡ vs ▸ v → u ≡ v
snoc_right h = cc

pub snoc_nil : {us : Trees} {u : Tree} → us ▸ u ≡ Nil → ⊥
snoc_nil h = cc

module _ (known : Known) where
  abbrev left_of : ℕ → Tree
  left_of e = (equality_at known e).left

  abbrev right_of : ℕ → Tree
  right_of e = (equality_at known e).right

  -- Of the equalities, those before i are left to equate what is left of the lists.
  pub record IsGoneTo (es : List ℕ) (us vs : Trees) (i : ℕ) (left right : Trees) : Type 0 where
    pub back : EquateAll known (take i es) left right → EquateAll known es us vs
    pub onward : EquateAll known es us vs → EquateAll known (take i es) left right

  pub gone_start : (es : List ℕ) (us vs : Trees) → IsGoneTo es us vs (length es) us vs
  gone_start es us vs =
      let P : List ℕ → Type 0 = λ xs. EquateAll known xs us vs in
      let e : take (length es) es ≡ es = take_all (length es) es (omega arith) in
      record { back = subst P e; onward = subst P (sym e) }

  more_left : (es : List ℕ) (e : ℕ) (us vs left right : Trees) → EquateAll known (es ++ e ∷ []) left right → (trees (map left_of es) ▸ left_of e ≡ left) × (trees (map right_of es) ▸ right_of e ≡ right)
  more_left es e us vs left right h = (sym (trees_last left_of es e) ∙ h.0, sym (trees_last right_of es e) ∙ h.1)

  -- the last two trees are equated by the last equality
  pub record IsStep (es : List ℕ) (us vs : Trees) (i j : ℕ) (left right : Trees) : Type 0 where
    pub gone : IsGoneTo es us vs i left right
    pub next : i ≡ j + 1
    pub within : j < length es

  last_to : (es : List ℕ) (us vs : Trees) (i j : ℕ) (left right : Trees) → IsStep es us vs i j left right → take i es ≡ take j es ++ get_or es j 0 ∷ []
  last_to es us vs i j left right h = ap (λ n. take n es) h.next ∙ take_more es j 0 h.within

  parts : (es : List ℕ) (us vs : Trees) (i j : ℕ) (left right : Trees) → IsStep es us vs i j left right → EquateAll known es us vs →
      (trees (map left_of (take j es)) ▸ left_of (get_or es j 0) ≡ left) × (trees (map right_of (take j es)) ▸ right_of (get_or es j 0) ≡ right)
  parts es us vs i j left right h all =
      more_left (take j es) (get_or es j 0) us vs left right (subst (λ xs. EquateAll known xs left right) (last_to es us vs i j left right h) (h.gone.onward all))

  pub left_out : (es : List ℕ) (us vs : Trees) (i j : ℕ) (left right : Trees) → IsStep es us vs i j left right → left ≡ Nil → EquateAll known es us vs → ⊥
  left_out es us vs i j left right h e all = snoc_nil ((parts es us vs i j left right h all).0 ∙ e)

  pub right_out : (es : List ℕ) (us vs : Trees) (i j : ℕ) (left right : Trees) → IsStep es us vs i j left right → right ≡ Nil → EquateAll known es us vs → ⊥
  right_out es us vs i j left right h e all = snoc_nil ((parts es us vs i j left right h all).1 ∙ e)

  pub last_equated : (es : List ℕ) (us vs : Trees) (i j : ℕ) (left right more others : Trees) (u v : Tree) → IsStep es us vs i j left right → more ▸ u ≡ left → others ▸ v ≡ right → EquateAll known es us vs → Equates known (get_or es j 0) u v
  last_equated es us vs i j left right more others u v h e f all =
      let p = parts es us vs i j left right h all in
      (snoc_right (p.0 ∙ sym e), snoc_right (p.1 ∙ sym f))

  pub gone_more : (es : List ℕ) (us vs : Trees) (i j : ℕ) (left right more others : Trees) (u v : Tree) → IsStep es us vs i j left right → more ▸ u ≡ left → others ▸ v ≡ right → Equates known (get_or es j 0) u v → IsGoneTo es us vs j more others
  gone_more es us vs i j left right more others u v h e f here =
      let taken = last_to es us vs i j left right h in
      record {
        back = λ q. h.gone.back (subst (λ xs. EquateAll known xs left right) (sym taken)
            (trees_last left_of (take j es) (get_or es j 0) ∙ one_more q.0 here.0 ∙ e, trees_last right_of (take j es) (get_or es j 0) ∙ one_more q.1 here.1 ∙ f));
        onward = λ all. let p = parts es us vs i j left right h all in (snoc_left (p.0 ∙ sym e), snoc_left (p.1 ∙ sym f));
      }

  pub gone_all : (es : List ℕ) (us vs : Trees) (i : ℕ) (left right : Trees) → IsGoneTo es us vs i left right → i ≡ 0 → left ≡ Nil → right ≡ Nil → EquateAll known es us vs
  gone_all es us vs i left right h e f g = h.back (subst (λ n. EquateAll known (take n es) left right) (sym e) (sym f, sym g))

  pub ends_empty : (es : List ℕ) (us vs : Trees) (i : ℕ) (left right : Trees) → IsGoneTo es us vs i left right → i ≡ 0 → EquateAll known es us vs → (left ≡ Nil) × (right ≡ Nil)
  ends_empty es us vs i left right h e all =
      let q = subst (λ n. EquateAll known (take n es) left right) e (h.onward all) in
      (sym q.0, sym q.1)
