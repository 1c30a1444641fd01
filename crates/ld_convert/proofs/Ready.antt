-- What a comparison works on stays as terms and equalities are added.
use Rattle.std.proofs.Common.{◌≡◌, ◌∷◌, [], ℕ, List, All, length, map, get_or, refl, ap, sym, ◌∙◌, subst}
use Rattle.std.proofs.lemmas.List.Elements.{All-head, All-tail}
use mathlib.Core.Path.{ap₂, subst₂}
use Rattle.ld_terms.specs.Tree.{Tree}
use Rattle.ld_terms.specs.Item.{Item, tree}
use Rattle.ld_terms.specs.Bank.{tree_at, IsTermAt}
use Rattle.ld_terms.specs.Known.{Known}
use Rattle.ld_terms.specs.declared.bank.TermId.{TermId}
use Rattle.ld_terms.proofs.Banks.{term_at_later}
use Rattle.ld_env.specs.Named.{Named}
use Rattle.ld_env.proofs.CallerLemmas.{live-later, env_of-later}
use Rattle.ld_record.specs.declared.record.EqId.{EqId}
use Rattle.ld_record.specs.declared.record.Kept.{Kept}
use Rattle.ld_record.specs.Kept.{known_of, IsSound}
use Rattle.ld_reduce.specs.Cost.{Equates, Goes}
use Rattle.ld_reduce.proofs.Going.{equates_later, named_later, right_named}
use Rattle.ld_convert.specs.Pairs.{pair_of, pairs_of, HasTerms, IsLivePair, ArePairsLive}
use Rattle.ld_convert.specs.Turned.{IsReady, AreComparable, IsTurned}
use Rattle.ld_convert.specs.declared.known.Pair.{Pair}
use Rattle.ld_convert.specs.declared.turning.Turned.{Turned}

-- the tree of a term
pub tree_later : (a b : List Item) (j k : List Kept) (t : TermId) → Goes a b j k → IsTermAt a t → tree_at b t ≡ tree_at a t
tree_later a b j k t g h = ap tree (g.extends.kept t h.live)

pub term_later : (a b : List Item) (j k : List Kept) (t : TermId) → Goes a b j k → IsTermAt a t → IsTermAt b t
term_later a b j k t g h = term_at_later a b t g.extends h

-- an equality of two trees
pub equal_later : (a b : List Item) (j k : List Kept) (e : EqId) (l r : Tree) (n : ℕ) → Goes a b j k → Equates (known_of a j) e l r n → Equates (known_of b k) e l r n
equal_later a b j k e l r n g h = equates_later (known_of a j) (known_of b k) e l r n g.adds h

-- an equality of a tree and a term's
pub equal_to_later : (a b : List Item) (j k : List Kept) (e : EqId) (l : Tree) (t : TermId) (n : ℕ) → Goes a b j k → IsTermAt a t → Equates (known_of a j) e l (tree_at a t) n
    → Equates (known_of b k) e l (tree_at b t) n
equal_to_later a b j k e l t n g at h = subst (λ x. Equates (known_of b k) e l x n) (sym (tree_later a b j k t g at)) (equal_later a b j k e l (tree_at a t) n g h)

-- how many entries there are
pub bound_later : (a b : List Item) (j k : List Kept) → Goes a b j k → length (known_of b k).env ≡ length (known_of a j).env
bound_later a b j k g = ap length g.adds.env

-- the known pairs, with their equalities
pair_later : (a b : List Item) (j k : List Kept) (n : ℕ) (p : Pair) → Goes a b j k → IsLivePair a (known_of a j) n p → IsLivePair b (known_of b k) n p
pair_later a b j k n p g h = record {
  terms = record { left = term_later a b j k p.left g h.terms.left; right = term_later a b j k p.right g h.terms.right };
  equal =
      let e = equal_later a b j k p.equal (tree_at a p.left) (tree_at a p.right) n g h.equal in
      subst (λ x. Equates (known_of b k) p.equal x (tree_at b p.right) n) (sym (tree_later a b j k p.left g h.terms.left))
      (subst (λ y. Equates (known_of b k) p.equal (tree_at a p.left) y n) (sym (tree_later a b j k p.right g h.terms.right)) e);
}

pub pairs_later : (a b : List Item) (j k : List Kept) (ps : List Pair) → Goes a b j k → ArePairsLive a (known_of a j) (length (known_of a j).env) ps
    → ArePairsLive b (known_of b k) (length (known_of b k).env) ps
pairs_later a b j k ps g h =
    subst (λ n. ArePairsLive b (known_of b k) n ps) (sym (bound_later a b j k g))
    (record { each = λ i d l. pair_later a b j k (length (known_of a j).env) (get_or ps i d) g (h.each i d l) })

-- as pairs of trees they are the same
pub pairs_stay : (a b : List Item) (j k : List Kept) (n : ℕ) (ps : List Pair) → Goes a b j k → ArePairsLive a (known_of a j) n ps → pairs_of b ps ≡ pairs_of a ps
pairs_stay a b j k n ps g h = each ps h.each
  where
    each : (ps : List Pair) → All (IsLivePair a (known_of a j) n) ps → map (pair_of b) ps ≡ map (pair_of a) ps
    each [] h = refl
    each (p ∷ ps) h =
        let x = (All-head (IsLivePair a (known_of a j) n) p ps h).terms in
        ap₂ (λ (q : Tree × Tree) qs. q ∷ qs)
        (ap₂ (λ l r. (l, r)) (tree_later a b j k p.left g x.left) (tree_later a b j k p.right g x.right))
        (each ps (All-tail (IsLivePair a (known_of a j) n) p ps h))

pub terms_live : (a : List Item) (known : Known) (n : ℕ) (ps : List Pair) → ArePairsLive a known n ps → All (HasTerms a) ps
terms_live a known n ps h = λ i d l. (h.each i d l).terms

pub ready_later : (a b : List Item) (j k : List Kept) (entries : List Named) (ps : List Pair) → Goes a b j k → IsReady a j entries ps → IsReady b k entries ps
ready_later a b j k entries ps g h = record {
  sound = g.sound;
  env = env_of-later a b entries g.extends h.live ∙ h.env ∙ sym g.adds.env;
  live = live-later a b entries g.extends h.live;
  pairs = pairs_later a b j k ps g h.pairs;
}

-- other pairs that are live
pub ready_with : (a : List Item) (j : List Kept) (entries : List Named) (ps qs : List Pair) → IsReady a j entries ps → ArePairsLive a (known_of a j) (length (known_of a j).env) qs → IsReady a j entries qs
ready_with a j entries ps qs h live = record { sound = h.sound; env = h.env; live = h.live; pairs = live }

pub comparable_later : (a b : List Item) (j k : List Kept) (t u : TermId) → Goes a b j k → AreComparable a (known_of a j) t u → AreComparable b (known_of b k) t u
comparable_later a b j k t u g h = record {
  first = term_later a b j k t g h.first;
  second = term_later a b j k u g h.second;
  first_named = named_later a b j k t g h.first h.first_named;
  second_named = named_later a b j k u g h.second h.second_named;
}

-- the two terms to which two others lead
pub comparable_ends : (a : List Item) (j : List Kept) (l r : TermId) (e f : EqId) (t u : Tree) (m n : ℕ) → IsSound a j → IsTermAt a l → IsTermAt a r
    → Equates (known_of a j) e t (tree_at a l) m → Equates (known_of a j) f u (tree_at a r) n → AreComparable a (known_of a j) l r
comparable_ends a j l r e f t u m n sound left right p q = record {
  first = left;
  second = right;
  first_named = right_named a j e t (tree_at a l) m sound p;
  second_named = right_named a j f u (tree_at a r) n sound q;
}

-- the equalities of a turn, for the two as they were
pub turned_here : (a b : List Item) (j k : List Kept) (l r : TermId) (known : Known) (t : Turned) → Goes a b j k → IsTermAt a l → IsTermAt a r
    → IsTurned b known (tree_at b l) (tree_at b r) (length (known_of b k).env) t → IsTurned b known (tree_at a l) (tree_at a r) (length (known_of a j).env) t
turned_here a b j k l r known t g left right h =
    subst (λ n. IsTurned b known (tree_at a l) (tree_at a r) n t) (bound_later a b j k g)
    (subst₂ (λ x y. IsTurned b known x y (length (known_of b k).env) t) (tree_later a b j k l g left) (tree_later a b j k r g right) h)
