-- Nodes are compared by `==`, and each is kept once.
use Rattle.std.proofs.Common.{◌≡◌, ◌<◌, ℕ, zero, suc, Bool, true, false, cond, List, [], ◌∷◌, length, get_or, Option, None, Some, slice_get, position, refl, ap, sym, ◌∙◌, subst, arith, true≢false, if◌then◌else◌}
use Rattle.std.proofs.lemmas.Bool.Decides.{nat_tests}
use Rattle.std.proofs.lemmas.List.{get_or-map, length-map}
use Rattle.std.proofs.lemmas.List.Quantifiers.{position-Some}
use Rattle.std.proofs.lemmas.Map.Keys.{apart_from_distinct}
use Rattle.std.specs.List.{IsDistinct, position_or_len}
use Rattle.std.specs.Map.{keys_of, values_of, lookup}
use Rattle.indexmap.specs.IndexMap.{insert_entry}
use Rattle.indexmap.proofs.MapLemmas.{insert_entry-absent, Found-position, Missing-position}
use Rattle.ld_terms.specs.Tree.{Star}
use Rattle.ld_terms.specs.Item.{Item, One, Many, tree, list, IsOne, IsMany, height_of, reach_of}
use Rattle.ld_terms.specs.Bank.{item_at, IsLive, item_of, IsTermAt, IsListAt, HasParts, IsBelow, AreOnce, Stored, AreStored, IsNodeAt, items_of, IsStored, Holds, Extends}
use Rattle.ld_terms.specs.declared.bank.TermId.{TermId}
use Rattle.ld_terms.specs.declared.bank.Node.{Node}
use Rattle.ld_terms.specs.declared.bank.Node.TheVariants as node
use Rattle.ld_terms.specs.declared.bank.Facts.{Facts}
use Rattle.ld_terms.specs.contracts.bank.NodePartialEq.TheImpl.{eq-value}
use Rattle.ld_terms.proofs.Banks.{node_at, length-items_of, IsAdded, pushed, extends_refl, both}

abbrev pub node_eq : Node → Node → Bool
node_eq = eq-value.it

-- what `==` finds equal is equal
pub node_from_test : (n m : Node) → node_eq n m ≡ true → n ≡ m
node_from_test node.Star node.Star e = refl
node_from_test node.Box_ node.Box_ e = refl
node_from_test node.Nil node.Nil e = refl
node_from_test (node.Var i) (node.Var j) e = grind (arith, nat_tests)
node_from_test (node.App f u) (node.App g v) e = grind (arith, nat_tests)
node_from_test (node.Lam f u) (node.Lam g v) e = grind (arith, nat_tests)
node_from_test (node.Pi f u) (node.Pi g v) e = grind (arith, nat_tests)
node_from_test (node.Const k u) (node.Const l v) e = grind (arith, nat_tests)
node_from_test (node.Cons f u) (node.Cons g v) e = grind (arith, nat_tests)
node_from_test n m e = absurd (cc)

pub test_from_node : (n : Node) → node_eq n n ≡ true
test_from_node node.Star = refl
test_from_node node.Box_ = refl
test_from_node node.Nil = refl
test_from_node (node.Var i) = grind (arith, nat_tests)
test_from_node (node.App f u) = grind (arith, nat_tests)
test_from_node (node.Lam f u) = grind (arith, nat_tests)
test_from_node (node.Pi f u) = grind (arith, nat_tests)
test_from_node (node.Const k u) = grind (arith, nat_tests)
test_from_node (node.Cons f u) = grind (arith, nat_tests)

pub one_from_tree : (x y : Item) → IsOne x → IsOne y → tree x ≡ tree y → x ≡ y
one_from_tree (One t) (One u) h k e = ap One e
one_from_tree (Many ts) y h k e = absurd h
one_from_tree x (Many us) h k e = absurd k

many_from_list : (x y : Item) → IsMany x → IsMany y → list x ≡ list y → x ≡ y
many_from_list (Many ts) (Many us) h k e = ap Many e
many_from_list (One t) y h k e = absurd h
many_from_list x (One u) h k e = absurd k

-- below a bound live numbers are equal where their terms are
abbrev AreOnceBelow : List Item → ℕ → Type 0
AreOnceBelow items n = (s t : TermId) → s.0 < n → IsLive items s → IsLive items t → item_at items s ≡ item_at items t → s ≡ t

module _ (items : List Item) (n : ℕ) (once : AreOnceBelow items n) where
  term_part : (f g : TermId) → f.0 < n → IsTermAt items f → IsTermAt items g → tree (item_at items f) ≡ tree (item_at items g) → f ≡ g
  term_part f g lt h k e = once f g lt h.live k.live (one_from_tree (item_at items f) (item_at items g) h.form k.form e)

  list_part : (f g : TermId) → f.0 < n → IsListAt items f → IsListAt items g → list (item_at items f) ≡ list (item_at items g) → f ≡ g
  list_part f g lt h k e = once f g lt h.live k.live (many_from_list (item_at items f) (item_at items g) h.form k.form e)

  -- so nodes of equal terms are equal
  same_node : (a b : Node) → HasParts items a → HasParts items b → IsBelow (record { 0 = n }) a → item_of items a ≡ item_of items b → a ≡ b
  same_node node.Star node.Star h k lt e = refl
  same_node node.Box_ node.Box_ h k lt e = refl
  same_node node.Nil node.Nil h k lt e = refl
  same_node (node.Var i) (node.Var j) h k lt e = ap node.Var (cc)
  same_node (node.App f u) (node.App g v) h k lt e =
      (λ i. node.App (term_part f g lt.0 h.0 k.0 (cc) i) (term_part u v lt.1 h.1 k.1 (cc) i))
  same_node (node.Lam f u) (node.Lam g v) h k lt e =
      (λ i. node.Lam (term_part f g lt.0 h.0 k.0 (cc) i) (term_part u v lt.1 h.1 k.1 (cc) i))
  same_node (node.Pi f u) (node.Pi g v) h k lt e =
      (λ i. node.Pi (term_part f g lt.0 h.0 k.0 (cc) i) (term_part u v lt.1 h.1 k.1 (cc) i))
  same_node (node.Const k us) (node.Const l vs) h p lt e =
      (λ i. node.Const (number i) (list_part us vs lt h p (cc) i))
    where
      number : k ≡ l
      number = cc
  same_node (node.Cons u us) (node.Cons v vs) h k lt e =
      (λ i. node.Cons (term_part u v lt.0 h.0 k.0 (cc) i) (list_part us vs lt.1 h.1 k.1 (cc) i))
  same_node a b h k lt e = absurd (cc)

-- the key of an entry is at its place
key_at : (ss : List Stored) (i : ℕ) (d : Stored) → i < length ss → get_or (keys_of ss) i d.0 ≡ (get_or ss i d).0
key_at ss i d lt = get_or-map (λ s. s.0) ss i d d.0 lt

places_equal : (ss : List Stored) → IsDistinct node_eq (keys_of ss) → (i j : ℕ) (d : Stored) → i < length ss → j < length ss → (get_or ss i d).0 ≡ (get_or ss j d).0 → i ≡ j
places_equal ss distinct i j d p q e =
    let apart : (a b : ℕ) → a < b → b < length ss → (get_or ss a d).0 ≡ (get_or ss b d).0 → ⊥ =
    λ a b lt within same.
    let keys : b < length (keys_of ss) = omega (arith, within, length-map ss (λ s. s.0)) in
    let one = key_at ss a d (omega (arith, lt, within)) in
    let two = key_at ss b d within in
    let test = apart_from_distinct node_eq (keys_of ss) a b d.0 distinct lt keys in
    true≢false (sym (test_from_node (get_or ss a d).0) ∙ ap (node_eq (get_or ss a d).0) same ∙ (λ x. node_eq (sym one x) (sym two x)) ∙ test) in
    let not_below : i < j → ⊥ = λ lt. apart i j lt q e in
    let not_above : j < i → ⊥ = λ lt. apart j i lt p (sym e) in
    grind (arith, not_below, not_above)

module _ (ss : List Stored) (stored : AreStored [] ss) (distinct : IsDistinct node_eq (keys_of ss)) where
  node_there : (t : TermId) (d : Stored) → IsLive (items_of ss) t → IsNodeAt (items_of ss) t.0 (get_or ss t.0 d)
  node_there t d live =
      let P : ℕ → Type 0 = λ n. IsNodeAt (items_of ss) n (get_or ss t.0 d) in
      subst P (omega arith) (node_at [] ss t.0 d stored (omega (arith, live, length-items_of ss)))

  once_below : (n : ℕ) → AreOnceBelow (items_of ss) n
  once_below zero s t lt p q e = absurd (omega (arith, lt))
  once_below (suc n) s t lt p q e =
      let d : Stored = (node.Star, record { height = 0; reach = 0 }) in
      let a = node_there s d p in
      let b = node_there t d q in
      let below : AreOnceBelow (items_of ss) s.0 = λ x y l. once_below n x y (omega (arith, l, lt)) in
      let same = same_node (items_of ss) s.0 below (get_or ss s.0 d).0 (get_or ss t.0 d).0 a.parts b.parts a.below (a.tree ∙ e ∙ sym b.tree) in
      let number = places_equal ss distinct s.0 t.0 d (omega (arith, p, length-items_of ss)) (omega (arith, q, length-items_of ss)) same in
      ap (λ k. record { 0 = k }) number

  pub are_once : AreOnce (items_of ss)
  are_once a b p q = (λ e. ap (item_at (items_of ss)) e, λ e. once_below (suc a.0) a b (omega arith) p q e)

by_test : {C : Type 0} (b : Bool) → (b ≡ true → C) → (b ≡ false → C) → C
by_test true passes fails = passes refl
by_test false passes fails = fails refl

-- an entry that is there stays as it is
insert_same : (ss : List Stored) (n : Node) (f : Facts) → lookup (node_eq n) ss ≡ Some f → insert_entry node_eq ss n f ≡ ss
insert_same [] n f e = absurd (cc)
insert_same (s ∷ ss) n f e =
    by_test (node_eq n s.0)
    (λ t.
    let there : Some s.1 ≡ Some f = sym (ap (λ b. cond b (Some s.1) (lookup (node_eq n) ss)) t) ∙ e in
    let same : f ≡ s.1 = cc in
    ap (λ b. if b then (s.0, f) ∷ ss else s ∷ insert_entry node_eq ss n f) t ∙ ap (λ x. (s.0, x) ∷ ss) same)
    (λ t.
    let later : lookup (node_eq n) ss ≡ Some f = sym (ap (λ b. cond b (Some s.1) (lookup (node_eq n) ss)) t) ∙ e in
    ap (λ b. if b then (s.0, f) ∷ ss else s ∷ insert_entry node_eq ss n f) t ∙ ap (λ x. s ∷ x) (insert_same ss n f later))

value_at : (ss : List Stored) (i : ℕ) (d : Stored) → i < length ss → slice_get (values_of ss) i ≡ Some (get_or ss i d).1
value_at [] i d lt = absurd (omega (arith, lt))
value_at (s ∷ ss) zero d lt = refl
value_at (s ∷ ss) (suc i) d lt = value_at ss i d (omega (arith, lt))

-- what an insert leaves: a new node goes to the end, and one that is there stays
pub added : (ss new : List Stored) (trees : List Item) (s : Stored) (n : ℕ) → AreStored [] ss → items_of ss ≡ trees → n ≡ position_or_len (node_eq s.0) (keys_of ss) → new ≡ insert_entry node_eq ss s.0 s.1 → IsStored trees s → IsAdded trees new n s.0
added ss new trees s n h view at insert node = by (position (node_eq s.0) (keys_of ss)) refl
  where
    there : (i : ℕ) → position (node_eq s.0) (keys_of ss) ≡ Some i → IsAdded trees new n s.0
    there i p =
        let found = Found-position (node_eq s.0) ss i p in
        let old : Stored = get_or ss i s in
        let key : s.0 ≡ old.0 = node_from_test s.0 old.0 (sym (ap (node_eq s.0) (key_at ss i s found.within)) ∙ (position-Some (node_eq s.0) (keys_of ss) i s.0 p).1) in
        let At : ℕ → Type 0 = λ k. IsNodeAt (items_of ss) k old in
        let here : IsNodeAt (items_of ss) i old = subst At (omega arith) (node_at [] ss i s h found.within) in
        let item : item_of trees s.0 ≡ get_or (items_of ss) i (One Star) = both item_of (sym view) key ∙ here.tree in
        let made : ℕ → ℕ → Facts = λ a b. record { height = a; reach = b } in
        let facts : s.1 ≡ old.1 = both made (node.height ∙ ap height_of item ∙ sym here.height) (node.reach ∙ ap reach_of item ∙ sym here.reach) in
        let value : lookup (node_eq s.0) ss ≡ Some s.1 = found.value ∙ value_at ss i s found.within ∙ ap Some (sym facts) in
        let same : new ≡ ss = insert ∙ insert_same ss s.0 s.1 value in
        let Here : ℕ → Type 0 = λ k. Holds (items_of new) (record { 0 = k }) (item_of trees s.0) in
        let Now : List Item → Type 0 = λ ts. Holds ts (record { 0 = i }) (item_of trees s.0) in
        let live : i < length (items_of ss) = omega (arith, found.within, length-items_of ss) in
        record {
          stored = subst (AreStored []) (sym same) h;
          here = subst Here (sym (at ∙ found.or_len)) (subst Now (ap items_of (sym same)) (record { live = live; item = sym item }));
          kept = subst (Extends trees) (sym view ∙ ap items_of (sym same)) (extends_refl trees);
        }

    by : (r : Option ℕ) → position (node_eq s.0) (keys_of ss) ≡ r → IsAdded trees new n s.0
    by None p =
        let missing = Missing-position (node_eq s.0) ss p in
        pushed ss new trees s n h view (at ∙ missing.or_len) (insert ∙ insert_entry-absent node_eq s.0 s.1 ss missing.absent) node
    by (Some i) p = there i p
