-- The text of a term up to a limit, from those of its parts.
use Rattle.std.proofs.Common.{◌≡◌, ℕ, suc, ◌≤◌, Bool, true, List, [], ◌++◌, Result, OnOk, refl, ap, ◌∙◌, sym, subst, arith}
use Rattle.std.specs.Prelude.{codes, slice_index_or}
use Rattle.std.proofs.lemmas.Result.{on_ok_weaker}
use Rattle.ld_terms.specs.Tree as tree
use Rattle.ld_terms.specs.Tree.{Tree, Trees, Var, App, Lam, Pi, Const, Nil, ◌▸◌}
use Rattle.ld_terms.specs.Item as item
use Rattle.ld_terms.specs.Item.{Item, One, Many, IsOne, height, height_of}
use Rattle.fb_parse.specs.Grammar.{Surface}
use Rattle.fb_write.specs.Canonical.{term_text, terms_text}
use Rattle.fb_show.specs.Cut.{Filled}
use Rattle.fb_show.specs.Display.{avoids, product, shown, all_shown}
use Rattle.fb_show.specs.Shown.{avoids_item, own_numbered, head_text, part_text, filling_text, domain_text, before_text, is_compound_tree, is_open_tree}
use Rattle.fb_show.proofs.Fills.{filled_then}
use Rattle.fb_show.proofs.Parts.{compound_shown, open_shown, filling_behind, before_behind, behind_text, product_text}
use Rattle.fb_show.proofs.TextsOf.{applied_text, instance_text}

-- a tree is at least 1 high
one_high : (t : Tree) → 1 ≤ height t
one_high tree.Star = omega arith
one_high tree.Box = omega arith
one_high (Var i) = omega arith
one_high (App f u) = omega arith
one_high (Lam a m) = omega arith
one_high (Pi a b) = omega arith
one_high (Const k us) = omega arith

pub high : (x : Item) → IsOne x → 1 ≤ height_of x
high (One t) h = one_high t
high (Many us) h = absurd h

pub avoids_tree : (x : Item) (i : ℕ) → IsOne x → avoids_item x i ≡ avoids (item.tree x) i
avoids_tree (One t) i h = refl
avoids_tree (Many us) i h = absurd h

module _ {T E : Type 0} (r : Result T E) where
  -- one more text
  pub then_filled : {l : ℕ} {o m a : List ℕ} (n b : List ℕ) → Filled l o m a → OnOk r (Filled l m n b) → OnOk r (Filled l o n (a ++ b))
  then_filled {l} {o} {m} {a} n b first last = on_ok_weaker r (λ (q : Filled l m n b). filled_then first q) last

  as_filled : (l : ℕ) (o : List ℕ) {a b : List ℕ} (n : List ℕ) → a ≡ b → OnOk r (Filled l o n a) → OnOk r (Filled l o n b)
  as_filled l o n e f = subst (λ v. OnOk r (Filled l o n v)) e f

  pub enclosed_part : {l : ℕ} {o m n : List ℕ} (p : List ℕ) (enclosed : Bool) (a : Surface) → enclosed ≡ true
      → Filled l o m (codes "(") → Filled l m n (term_text a) → OnOk r (Filled l n p (codes ")")) → OnOk r (Filled l o p (part_text enclosed a))
  enclosed_part {l} {o} {m} {n} p enclosed a e first middle last =
      as_filled l o p (ap (λ v. part_text v a) (sym e)) (then_filled p (codes ")") (filled_then first middle) last)

module _ {T E : Type 0} (r : Result T E) (own : List (List ℕ)) (base : List ℕ) (names : List (List ℕ)) (d : ℕ) where
  pub application : {l : ℕ} {o m n : List ℕ} (p : List ℕ) (t f u : Tree) (enclosed : Bool) → App f u ≡ t → enclosed ≡ is_compound_tree u
      → Filled l o m (head_text (shown (own_numbered own base) names d f)) → Filled l m n (codes " ")
      → OnOk r (Filled l n p (part_text enclosed (shown (own_numbered own base) names d u)))
      → OnOk r (Filled l o p (term_text (shown (own_numbered own base) names d t)))
  application {l} {o} {m} {n} p t f u enclosed e is head blank last =
      let name = own_numbered own base in
      let g = shown name names d f in
      let a = shown name names d u in
      let texts : head_text g ++ codes " " ++ part_text enclosed a ≡ term_text (shown name names d (App f u)) =
      ap (λ v. head_text g ++ codes " " ++ part_text v a) (is ∙ sym (compound_shown name names d u)) ∙ sym (applied_text g a) in
      subst (λ x. OnOk r (Filled l o p (term_text (shown name names d x)))) e
      (as_filled r l o p texts (then_filled r p (part_text enclosed a) (filled_then head blank) last))

  pub function : {l : ℕ} {o m : List ℕ} (n : List ℕ) (t a b : Tree) (below : ℕ) → Lam a b ≡ t → below ≡ suc d
      → Filled l o m (codes "fun " ++ own_numbered own base d ++ codes " : " ++ term_text (shown (own_numbered own base) names d a) ++ codes " . ")
      → OnOk r (Filled l m n (term_text (shown (own_numbered own base) names below b)))
      → OnOk r (Filled l o n (term_text (shown (own_numbered own base) names d t)))
  function {l} {o} {m} n t a b below e deeper first last =
      let name = own_numbered own base in
      subst (λ x. OnOk r (Filled l o n (term_text (shown name names d x)))) e
      (then_filled r n (term_text (shown name names (suc d) b)) first (subst (λ k. OnOk r (Filled l m n (term_text (shown name names k b)))) deeper last))

  pub quantified : {l : ℕ} {o m : List ℕ} (n : List ℕ) (t a b : Tree) (below : ℕ) (unused : Bool) → Pi a b ≡ t → below ≡ suc d → unused ≡ avoids b 0
      → Filled l o m (domain_text unused (own_numbered own base d) (shown (own_numbered own base) names d a))
      → OnOk r (Filled l m n (term_text (shown (own_numbered own base) names below b)))
      → OnOk r (Filled l o n (term_text (shown (own_numbered own base) names d t)))
  quantified {l} {o} {m} n t a b below unused e deeper is first last =
      let name = own_numbered own base in
      let x = shown name names d a in
      let y = shown name names (suc d) b in
      let texts : domain_text unused (name d) x ++ term_text y ≡ term_text (shown name names d (Pi a b)) =
      product_text unused (name d) x y ∙ ap (λ v. term_text (product v (name d) x y)) is in
      subst (λ x. OnOk r (Filled l o n (term_text (shown name names d x)))) e
      (as_filled r l o n texts (then_filled r n (term_text y) first (subst (λ k. OnOk r (Filled l m n (term_text (shown name names k b)))) deeper last)))

  pub instantiated : {l : ℕ} {o m : List ℕ} (n : List ℕ) (t : Tree) (k : ℕ) (us : Trees) (x : List ℕ) → Const k us ≡ t → x ≡ slice_index_or names k []
      → Filled l o m x → OnOk r (Filled l m n (filling_text (all_shown (own_numbered own base) names d us)))
      → OnOk r (Filled l o n (term_text (shown (own_numbered own base) names d t)))
  instantiated {l} {o} {m} n t k us x e is first last =
      let name = own_numbered own base in
      let all = all_shown name names d us in
      let texts : x ++ filling_text all ≡ term_text (shown name names d (Const k us)) =
      ap (λ v. v ++ filling_text all) is ∙ sym (instance_text (slice_index_or names k []) all) in
      subst (λ x. OnOk r (Filled l o n (term_text (shown name names d x)))) e
      (as_filled r l o n texts (then_filled r n (filling_text all) first last))

  pub domain_of_arrow : {l : ℕ} {o m : List ℕ} (n x : List ℕ) (t : Tree) (unused enclosed : Bool) → unused ≡ true → enclosed ≡ is_open_tree t
      → Filled l o m (part_text enclosed (shown (own_numbered own base) names d t)) → OnOk r (Filled l m n (codes " -> "))
      → OnOk r (Filled l o n (domain_text unused x (shown (own_numbered own base) names d t)))
  domain_of_arrow {l} {o} {m} n x t unused enclosed arrow is first last =
      let name = own_numbered own base in
      let a = shown name names d t in
      let texts : part_text enclosed a ++ codes " -> " ≡ domain_text unused x a =
      ap (λ v. part_text v a ++ codes " -> ") (is ∙ sym (open_shown name names d t)) ∙ ap (λ v. domain_text v x a) (sym arrow) in
      as_filled r l o n texts (then_filled r n (codes " -> ") first last)

  pub filling : {l : ℕ} {o m n : List ℕ} (p : List ℕ) (ts us : Trees) (u : Tree) → us ▸ u ≡ ts → Filled l o m (codes "(")
      → Filled l m n (terms_text (all_shown (own_numbered own base) names d ts)) → OnOk r (Filled l n p (codes ")"))
      → OnOk r (Filled l o p (filling_text (all_shown (own_numbered own base) names d ts)))
  filling {l} {o} {m} {n} p ts us u e first middle last =
      let name = own_numbered own base in
      let texts : codes "(" ++ terms_text (all_shown name names d ts) ++ codes ")" ≡ filling_text (all_shown name names d ts) =
      subst (λ x. codes "(" ++ terms_text (all_shown name names d x) ++ codes ")" ≡ filling_text (all_shown name names d x)) e
      (filling_behind (all_shown name names d us) (shown name names d u)) in
      as_filled r l o p texts (then_filled r p (codes ")") (filled_then first middle) last)

  pub before : {l : ℕ} {o m : List ℕ} (n : List ℕ) (ts us : Trees) (u : Tree) → us ▸ u ≡ ts
      → Filled l o m (terms_text (all_shown (own_numbered own base) names d ts)) → OnOk r (Filled l m n (codes ", "))
      → OnOk r (Filled l o n (before_text (all_shown (own_numbered own base) names d ts)))
  before {l} {o} {m} n ts us u e first last =
      let name = own_numbered own base in
      let texts : terms_text (all_shown name names d ts) ++ codes ", " ≡ before_text (all_shown name names d ts) =
      subst (λ x. terms_text (all_shown name names d x) ++ codes ", " ≡ before_text (all_shown name names d x)) e
      (before_behind (all_shown name names d us) (shown name names d u)) in
      as_filled r l o n texts (then_filled r n (codes ", ") first last)

  pub listed : {l : ℕ} {o m : List ℕ} (n : List ℕ) (ts us : Trees) (u : Tree) → us ▸ u ≡ ts
      → Filled l o m (before_text (all_shown (own_numbered own base) names d us))
      → OnOk r (Filled l m n (term_text (shown (own_numbered own base) names d u)))
      → OnOk r (Filled l o n (terms_text (all_shown (own_numbered own base) names d ts)))
  listed {l} {o} {m} n ts us u e first last =
      let name = own_numbered own base in
      let texts : before_text (all_shown name names d us) ++ term_text (shown name names d u) ≡ terms_text (all_shown name names d (us ▸ u)) =
      behind_text (all_shown name names d us) (shown name names d u) in
      subst (λ x. OnOk r (Filled l o n (terms_text (all_shown name names d x)))) e
      (as_filled r l o n texts (then_filled r n (term_text (shown name names d u)) first last))
