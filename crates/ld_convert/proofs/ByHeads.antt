-- What two trees in beta-head form come to, from the comparison of their parts and the unfolding of their sides.
use Rattle.std.proofs.Common.{◌≡◌, ◌||◌, ℕ, Bool, true, false, Option, None, Some, Result, Ok, List, [], ◌∷◌, length, refl, sym, ◌∙◌, ap, subst, arith}
use Rattle.std.specs.Prelude.{◌↔◌, IsTrue}
use Rattle.ld_terms.specs.Tree.{Tree}
use Rattle.ld_terms.specs.Entry.{Env}
use Rattle.ld_terms.specs.Item.{Item, One}
use Rattle.ld_terms.specs.Bank.{item_at, tree_at, IsTermAt}
use Rattle.ld_terms.specs.Known.{Known}
use Rattle.ld_terms.specs.Tests.{equals}
use Rattle.ld_terms.specs.declared.bank.TermId.{TermId}
use Rattle.ld_terms.proofs.Banks.{extends_refl}
use Rattle.ld_terms.proofs.TreeTests.{other_trees}
use Rattle.ld_record.specs.declared.record.EqId.{EqId}
use Rattle.ld_record.specs.declared.record.Kept.{Kept}
use Rattle.ld_record.specs.Kept.{known_of}
use Rattle.ld_reduce.specs.Task.{Pairs, Answer, Gives, Fails, High, Nested, Task, gives, fails, fault}
use Rattle.ld_reduce.specs.Work.{Work}
use Rattle.ld_reduce.specs.Cost.{Goes}
use Rattle.ld_reduce.specs.declared.stop.Stop.{Stop}
use Rattle.ld_reduce.specs.declared.stop.Stop.TheVariants as stop
use Rattle.ld_reduce.proofs.Going.{stands_later}
use Rattle.ld_convert.specs.Apart.{Apart, apart, Part, parts_of}
use Rattle.ld_convert.specs.Known.{or_else}
use Rattle.ld_convert.specs.Compares.{Side, sides, unfolded, all_same}
use Rattle.ld_convert.specs.Compares as spec
use Rattle.ld_convert.specs.Account.{Comes, StopsTask, ComparedAs}
use Rattle.ld_convert.specs.Sides.{sides_by, sides_in, UnfoldsAs}
use Rattle.ld_convert.specs.Turned.{TurnedAs, same_parts}
use Rattle.ld_convert.specs.declared.job.Compared.{Compared}
use Rattle.ld_convert.specs.declared.job.Compared.TheVariants as compared
use Rattle.ld_convert.specs.declared.sides.Sides.{Sides}
use Rattle.ld_convert.specs.declared.turning.Led.{Led}
use Rattle.ld_convert.specs.declared.turning.Turned.TheVariants as turned
use Rattle.ld_convert.proofs.Agreeing.{both_tests, value_passes, high_passes, nesting_passes}
use Rattle.ld_convert.proofs.Spending.{comes_then, comes_end, or_else_out, or_else_then, or_else_out_then, or_else_passes}
use Rattle.ld_convert.proofs.Carrying.{Carries, carries_stop, first_stops}
use Rattle.ld_convert.proofs.Ready.{tree_later}
use Rattle.ld_convert.proofs.Unfoldings.{comes_now, no_step}

-- two terms of other items have other trees
pub not_equal : (items : List Item) (a b : TermId) (same : Bool) → IsTermAt items a → IsTermAt items b → (IsTrue same ↔ (item_at items a ≡ item_at items b)) → same ≡ false
    → equals (tree_at items a) (tree_at items b) ≡ false
not_equal items a b same h g iff e =
    other_trees (tree_at items a) (tree_at items b)
    (λ is. both_tests (iff.1 ((stands_later items items a (extends_refl items) h).item ∙ ap One is ∙ sym (stands_later items items b (extends_refl items) g).item)) e)

same_fault : {E X Y : Type 0} {e f : E} → ◌≡◌ {A = Answer E X} (Fails e) (Fails f) → ◌≡◌ {A = Answer E Y} (Fails e) (Fails f)
same_fault h = cc

-- what fails at once doesn't stop
fails_on : {E : Type 0} (X : Type 0) (e : E) (K L : Pairs) (old new : Work) (s : Stop) (P : Stop → Type 0) → P stop.Memory → StopsTask {E = E} {X = X} (fails e) K L old new s → P s
fails_on X e K L old new stop.Spent P p h = absurd (let l = h.none (Fails e) K 0 (refl, refl, refl) in omega (arith, l))
fails_on X e K L old new stop.High P p h = absurd (cc (h.answers.is.0))
fails_on X e K L old new stop.Nested P p h = absurd (cc (h.answers.is.0))
fails_on X e K L old new stop.Memory P p h = p

-- a task that goes on after a fault stops where the first does
or_else_stops : {E F X : Type 0} (p : Task E X) (q : Task F X) (K L : Pairs) (old new : Work) (s : Stop) → StopsTask p K L old new s → StopsTask (or_else p q) K L old new s
or_else_stops p q K L old new stop.Spent h = or_else_out p q K old new h
or_else_stops p q K L old new stop.High h = or_else_passes p q High High K L old new h high_passes
or_else_stops p q K L old new stop.Nested h = or_else_passes p q Nested Nested K L old new h nesting_passes
or_else_stops p q K L old new stop.Memory h = tt

module _ (env : Env) (compare : Tree → Tree → Task Apart (Unit {0})) (a b : Tree) where
  -- the comparison of the parts stops
  parts_stop : (ss : List Side) (ps : Option (List Part)) (K L : Pairs) (old new : Work) (s : Stop) → StopsTask (same_parts env compare ps a b) K L old new s
      → StopsTask (spec.by_heads env compare false ss ps a b) K L old new s
  parts_stop [] None K L old new s h = fails_on (Unit {0}) (apart a b 0) K L old new s (StopsTask (spec.by_heads env compare false [] None a b) K L old new) tt h
  parts_stop (x ∷ ss) None K L old new s h = fails_on (Unit {0}) (apart a b 0) K L old new s (StopsTask (spec.by_heads env compare false (x ∷ ss) None a b) K L old new) tt h
  parts_stop [] (Some ps) K L old new s h = first_stops (all_same env compare ps) (λ _. gives None) K L old new s h
  parts_stop (x ∷ ss) (Some ps) K L old new s h =
      or_else_stops (spec.by_parts env compare ps) (spec.by_unfolding env compare (x ∷ ss) a b) K L old new s
      (first_stops (all_same env compare ps) (λ _. gives None) K L old new s h)

  -- all parts are the same
  parts_give : (ps : List Part) (K L : Pairs) (old new : Work) → Comes (all_same env compare ps) K (Gives tt) L old new → Comes (spec.by_parts env compare ps) K (Gives None) L old new
  parts_give ps K L old new h = comes_then (all_same env compare ps) (λ _. gives None) tt K L L (Gives None) old new new h (comes_now None L new)

  parts_same : (ss : List Side) (ps : Option (List Part)) (K L : Pairs) (old new : Work) → Comes (same_parts env compare ps a b) K (Gives tt) L old new
      → Comes (spec.by_heads env compare false ss ps a b) K (Gives None) L old new
  parts_same ss None K L old new h = absurd (cc (h.answers.is.0))
  parts_same [] (Some ps) K L old new h = parts_give ps K L old new h
  parts_same (x ∷ ss) (Some ps) K L old new h =
      or_else_passes (spec.by_parts env compare ps) (spec.by_unfolding env compare (x ∷ ss) a b) (Gives None) (Gives None) K L old new (parts_give ps K L old new h) value_passes

  -- two are apart, and no side is to be unfolded
  parts_fail : (ps : List Part) (f : Apart) (K L : Pairs) (old new : Work) → Comes (all_same env compare ps) K (Fails f) L old new → Comes (spec.by_parts env compare ps) K (Fails f) L old new
  parts_fail ps f K L old new h = comes_end (all_same env compare ps) (λ _. gives None) (Fails f) (Fails f) K L old new h fault

  parts_apart : (ps : Option (List Part)) (f : Apart) (K L : Pairs) (old new : Work) → Comes (same_parts env compare ps a b) K (Fails f) L old new
      → Comes (spec.by_heads env compare false [] ps a b) K (Fails f) L old new
  parts_apart None f K L old new h = record {
    steps = h.steps;
    answers = record {
      is = (same_fault h.answers.is.0, h.answers.is.1, h.answers.is.2);
      only = λ s M m g. (g.0 ∙ sym (same_fault h.answers.is.0), g.1 ∙ sym h.answers.is.1, g.2 ∙ sym h.answers.is.2);
    };
    takes = h.takes;
  }
  parts_apart (Some ps) f K L old new h = parts_fail ps f K L old new h

  -- two are apart, and sides are left to be unfolded
  after_parts : (x : Side) (ss : List Side) (ps : Option (List Part)) (f : Apart) (K M : Pairs) (old mid : Work) → Comes (same_parts env compare ps a b) K (Fails f) M old mid
      → Carries (spec.by_heads env compare false (x ∷ ss) ps a b) (spec.by_unfolding env compare (x ∷ ss) a b) K M old mid
  after_parts x ss None f K M old mid h =
      subst (λ N. Carries (spec.by_heads env compare false (x ∷ ss) None a b) (spec.by_unfolding env compare (x ∷ ss) a b) K N old mid) (sym h.answers.is.1)
      (no_step (spec.by_unfolding env compare (x ∷ ss) a b) K old mid h.steps h.takes h.answers.is.2)
  after_parts x ss (Some ps) f K M old mid h = record {
    comes = λ r L new t. or_else_then (spec.by_parts env compare ps) (spec.by_unfolding env compare (x ∷ ss) a b) f K M L r old mid new (parts_fail ps f K M old mid h) t;
    out = λ new t. or_else_out_then (spec.by_parts env compare ps) (spec.by_unfolding env compare (x ∷ ss) a b) f K M old mid new (parts_fail ps f K M old mid h) t;
  }

  after_apart : (ss : List Side) (left right : Bool) (ps : Option (List Part)) (f : Apart) (K M : Pairs) (old mid : Work) → (left || right) ≡ true → sides_by left right ≡ ss
      → Comes (same_parts env compare ps a b) K (Fails f) M old mid → Carries (spec.by_heads env compare false ss ps a b) (spec.by_unfolding env compare ss a b) K M old mid
  after_apart [] true true ps f K M old mid some e h = absurd (cc)
  after_apart [] true false ps f K M old mid some e h = absurd (cc)
  after_apart [] false true ps f K M old mid some e h = absurd (cc)
  after_apart [] false false ps f K M old mid some e h = absurd (cc)
  after_apart (x ∷ ss) left right ps f K M old mid some e h = after_parts x ss ps f K M old mid h

  unfolding_gives : (ss : List Side) (pair : Tree × Tree) (K : Pairs) (mid new : Work) → Comes (unfolded env ss a b) K (Gives pair) K mid new
      → Comes (spec.by_unfolding env compare ss a b) K (Gives (Some pair)) K mid new
  unfolding_gives ss pair K mid new h =
      comes_then (unfolded env ss a b) (λ pair. gives (Some pair)) pair K K K (Gives (Some pair)) mid new new h (comes_now (Some pair) K new)

  unfolding_stops : (ss : List Side) (K : Pairs) (mid new : Work) (s : Stop) → StopsTask (unfolded env ss a b) K K mid new s → StopsTask (spec.by_unfolding env compare ss a b) K K mid new s
  unfolding_stops ss K mid new s h = first_stops (unfolded env ss a b) (λ pair. gives (Some pair)) K K mid new s h

-- what the two come to, where they aren't equal
pub heads_stop : (env : Env) (compare : Tree → Tree → Task Apart (Unit {0})) (a b : Tree) (K L : Pairs) (old new : Work) (s : Stop) → equals a b ≡ false
    → StopsTask (same_parts env compare (parts_of a b) a b) K L old new s → StopsTask (spec.heads_turn env compare a b) K L old new s
heads_stop env compare a b K L old new s e h =
    subst (λ x. StopsTask (spec.by_heads env compare x (sides env a b) (parts_of a b) a b) K L old new s) (sym e) (parts_stop env compare a b (sides env a b) (parts_of a b) K L old new s h)

heads_same : (env : Env) (compare : Tree → Tree → Task Apart (Unit {0})) (a b : Tree) (K L : Pairs) (old new : Work) → equals a b ≡ false
    → Comes (same_parts env compare (parts_of a b) a b) K (Gives tt) L old new → Comes (spec.heads_turn env compare a b) K (Gives None) L old new
heads_same env compare a b K L old new e h =
    subst (λ x. Comes (spec.by_heads env compare x (sides env a b) (parts_of a b) a b) K (Gives None) L old new) (sym e) (parts_same env compare a b (sides env a b) (parts_of a b) K L old new h)

no_sides : (left right : Bool) → (left || right) ≡ false → sides_by left right ≡ []
no_sides true right e = absurd (cc)
no_sides false true e = absurd (cc)
no_sides false false e = refl

heads_apart : (env : Env) (compare : Tree → Tree → Task Apart (Unit {0})) (a b : Tree) (s : Sides) (f : Apart) (K L : Pairs) (old new : Work) → equals a b ≡ false
    → sides_in s ≡ sides env a b → (s.left || s.right) ≡ false → Comes (same_parts env compare (parts_of a b) a b) K (Fails f) L old new
    → Comes (spec.heads_turn env compare a b) K (Fails f) L old new
heads_apart env compare a b s f K L old new e is none h =
    subst (λ x. Comes (spec.by_heads env compare x (sides env a b) (parts_of a b) a b) K (Fails f) L old new) (sym e)
    (subst (λ x. Comes (spec.by_heads env compare false x (parts_of a b) a b) K (Fails f) L old new) (sym (no_sides s.left s.right none) ∙ is)
    (parts_apart env compare a b (parts_of a b) f K L old new h))

-- two are apart, and sides are unfolded
heads_carry : (env : Env) (compare : Tree → Tree → Task Apart (Unit {0})) (a b : Tree) (s : Sides) (f : Apart) (K M : Pairs) (old mid : Work) → equals a b ≡ false
    → sides_in s ≡ sides env a b → (s.left || s.right) ≡ true → Comes (same_parts env compare (parts_of a b) a b) K (Fails f) M old mid
    → Carries (spec.heads_turn env compare a b) (spec.by_unfolding env compare (sides_in s) a b) K M old mid
heads_carry env compare a b s f K M old mid e is some h =
    subst (λ x. Carries (spec.by_heads env compare x (sides env a b) (parts_of a b) a b) (spec.by_unfolding env compare (sides_in s) a b) K M old mid) (sym e)
    (subst (λ x. Carries (spec.by_heads env compare false x (parts_of a b) a b) (spec.by_unfolding env compare (sides_in s) a b) K M old mid) is
    (after_apart env compare a b (sides_in s) s.left s.right (parts_of a b) f K M old mid some refl h))

heads_unfolded : (env : Env) (compare : Tree → Tree → Task Apart (Unit {0})) (a b : Tree) (bound : ℕ) (items : List Item) (known : Known) (s : Sides) (f : Apart) (l : Led)
    (K M : Pairs) (old mid new : Work) → equals a b ≡ false → sides_in s ≡ sides env a b → (s.left || s.right) ≡ true
    → Comes (same_parts env compare (parts_of a b) a b) K (Fails f) M old mid → UnfoldsAs env s a b bound items known M mid new (Ok l)
    → TurnedAs (spec.heads_turn env compare a b) a b bound items known K M old new (Ok (turned.Next l))
heads_unfolded env compare a b bound items known s f l K M old mid new e is some h u =
    let pair : Tree × Tree = (tree_at items l.left, tree_at items l.right) in
    ((heads_carry env compare a b s f K M old mid e is some h).comes (Gives (Some pair)) M new (unfolding_gives env compare a b (sides_in s) pair M mid new u.0), u.1)

heads_unfolding_stops : (env : Env) (compare : Tree → Tree → Task Apart (Unit {0})) (a b : Tree) (s : Sides) (f : Apart) (t : Stop)
    (K M : Pairs) (old mid new : Work) → equals a b ≡ false → sides_in s ≡ sides env a b → (s.left || s.right) ≡ true
    → Comes (same_parts env compare (parts_of a b) a b) K (Fails f) M old mid → StopsTask (unfolded env (sides_in s) a b) M M mid new t
    → StopsTask (spec.heads_turn env compare a b) K M old new t
heads_unfolding_stops env compare a b s f t K M old mid new e is some h u =
    carries_stop (spec.heads_turn env compare a b) (spec.by_unfolding env compare (sides_in s) a b) K M M old mid new t
    (heads_carry env compare a b s f K M old mid e is some h) (unfolding_stops env compare a b (sides_in s) M mid new t u)

-- the sides by the entries of the derivation
pub sides_known : (env entries : Env) (a b : Tree) (s : Sides) → entries ≡ env → sides_in s ≡ sides entries a b → sides_in s ≡ sides env a b
sides_known env entries a b s e is = is ∙ ap (λ x. sides x a b) e

-- what unfolding is of two terms, in terms of what was there before the parts were compared
pub unfolds_here : (items mid later : List Item) (j k : List Kept) (known : Known) (a b : TermId) (s : Sides) (K : Pairs) (old new : Work) (r : Result Led Stop) → Goes items mid j k
    → IsTermAt items a → IsTermAt items b
    → UnfoldsAs (known_of mid k).env s (tree_at mid a) (tree_at mid b) (length (known_of mid k).env) later known K old new r
    → UnfoldsAs (known_of items j).env s (tree_at items a) (tree_at items b) (length (known_of items j).env) later known K old new r
unfolds_here items mid later j k known a b s K old new r g h i u =
    subst (λ env. UnfoldsAs env s (tree_at items a) (tree_at items b) (length env) later known K old new r) g.adds.env
    (subst (λ x. UnfoldsAs (known_of mid k).env s (tree_at items a) x (length (known_of mid k).env) later known K old new r) (tree_later items mid j k b g i)
    (subst (λ x. UnfoldsAs (known_of mid k).env s x (tree_at mid b) (length (known_of mid k).env) later known K old new r) (tree_later items mid j k a g h) u))

-- what two terms come to whose parts were compared
pub done_same : (env : Env) (compare : Tree → Tree → Task Apart (Unit {0})) (a b : Tree) (bound : ℕ) (items : List Item) (known : Known) (K L : Pairs) (old new : Work) (r : Compared) (e : EqId)
    → equals a b ≡ false → r ≡ compared.Same e → ComparedAs (same_parts env compare (parts_of a b) a b) a b bound items known K L old new (Ok r)
    → TurnedAs (spec.heads_turn env compare a b) a b bound items known K L old new (Ok (turned.Done r))
done_same env compare a b bound items known K L old new r e differ is h =
    let P : Compared → Type 0 = λ x. ComparedAs (same_parts env compare (parts_of a b) a b) a b bound items known K L old new (Ok x) in
    let Q : Compared → Type 0 = λ x. TurnedAs (spec.heads_turn env compare a b) a b bound items known K L old new (Ok (turned.Done x)) in
    let g = subst P is h in
    subst Q (sym is) (heads_same env compare a b K L old new differ g.0, g.1)

apart_of : (env : Env) (compare : Tree → Tree → Task Apart (Unit {0})) (a b : Tree) (bound : ℕ) (items : List Item) (known : Known) (K L : Pairs) (old new : Work) (r : Compared) (left right : TermId) (under : ℕ)
    → r ≡ compared.Apart left right under → ComparedAs (same_parts env compare (parts_of a b) a b) a b bound items known K L old new (Ok r)
    → ComparedAs (same_parts env compare (parts_of a b) a b) a b bound items known K L old new (Ok (compared.Apart left right under))
apart_of env compare a b bound items known K L old new r left right under is h =
    let P : Compared → Type 0 = λ x. ComparedAs (same_parts env compare (parts_of a b) a b) a b bound items known K L old new (Ok x) in
    subst P is h

pub done_apart : (env : Env) (compare : Tree → Tree → Task Apart (Unit {0})) (a b : Tree) (bound : ℕ) (items : List Item) (known : Known) (s : Sides) (K L : Pairs) (old new : Work)
    (r : Compared) (left right : TermId) (under : ℕ) → equals a b ≡ false → sides_in s ≡ sides env a b → (s.left || s.right) ≡ false → r ≡ compared.Apart left right under
    → ComparedAs (same_parts env compare (parts_of a b) a b) a b bound items known K L old new (Ok r)
    → TurnedAs (spec.heads_turn env compare a b) a b bound items known K L old new (Ok (turned.Done r))
done_apart env compare a b bound items known s K L old new r left right under differ ss none is h =
    let Q : Compared → Type 0 = λ x. TurnedAs (spec.heads_turn env compare a b) a b bound items known K L old new (Ok (turned.Done x)) in
    let g = apart_of env compare a b bound items known K L old new r left right under is h in
    subst Q (sym is) (heads_apart env compare a b s (apart (tree_at items left) (tree_at items right) under) K L old new differ ss none g.0, (g.1, g.2))

-- and whose sides were unfolded
pub done_unfolded : (env : Env) (compare : Tree → Tree → Task Apart (Unit {0})) (a b : Tree) (bound : ℕ) (mid items : List Item) (half known : Known) (s : Sides) (K L M : Pairs) (old between new : Work)
    (r : Compared) (left right : TermId) (under : ℕ) (l : Led) → equals a b ≡ false → sides_in s ≡ sides env a b → (s.left || s.right) ≡ true → r ≡ compared.Apart left right under → M ≡ L
    → ComparedAs (same_parts env compare (parts_of a b) a b) a b bound mid half K L old between (Ok r) → UnfoldsAs env s a b bound items known L between new (Ok l)
    → TurnedAs (spec.heads_turn env compare a b) a b bound items known K M old new (Ok (turned.Next l))
done_unfolded env compare a b bound mid items half known s K L M old between new r left right under l differ ss some is same h u =
    let Q : Pairs → Type 0 = λ N. TurnedAs (spec.heads_turn env compare a b) a b bound items known K N old new (Ok (turned.Next l)) in
    let g = apart_of env compare a b bound mid half K L old between r left right under is h in
    subst Q (sym same) (heads_unfolded env compare a b bound items known s (apart (tree_at mid left) (tree_at mid right) under) l K L old between new differ ss some g.0 u)

pub unfolded_stops : (env : Env) (compare : Tree → Tree → Task Apart (Unit {0})) (a b : Tree) (bound : ℕ) (mid : List Item) (half : Known) (s : Sides) (K L M : Pairs) (old between new : Work)
    (r : Compared) (left right : TermId) (under : ℕ) (f : Stop) → equals a b ≡ false → sides_in s ≡ sides env a b → (s.left || s.right) ≡ true → r ≡ compared.Apart left right under → M ≡ L
    → ComparedAs (same_parts env compare (parts_of a b) a b) a b bound mid half K L old between (Ok r) → StopsTask (unfolded env (sides_in s) a b) L L between new f
    → StopsTask (spec.heads_turn env compare a b) K M old new f
unfolded_stops env compare a b bound mid half s K L M old between new r left right under f differ ss some is same h u =
    let Q : Pairs → Type 0 = λ N. StopsTask (spec.heads_turn env compare a b) K N old new f in
    let g = apart_of env compare a b bound mid half K L old between r left right under is h in
    subst Q (sym same) (heads_unfolding_stops env compare a b s (apart (tree_at mid left) (tree_at mid right) under) f K L old between new differ ss some g.0 u)
