-- The shown term is read as the term, by induction on the term. An arrow's variable has no name: then the term doesn't use it.
use Rattle.std.proofs.Common.{◌≡◌, ℕ, zero, suc, ◌+◌, ◌-◌, ◌<◌, ◌==◌, Bool, true, false, ◌&&◌, not, min, nat_lt, List, [], ◌∷◌, length, map, position, Option, Some, None, refl, ap, ◌∙◌, sym, subst, arith}
use Rattle.std.specs.Prelude.{slice_get, slice_index_or, ◌^◌, Result, Ok, Err}
use Rattle.std.specs.Str.{bytes_eq}
use Rattle.std.proofs.lemmas.Bool.{false≢true}
use Rattle.std.proofs.lemmas.Bool.Decides.{nat_tests}
use Rattle.std.proofs.lemmas.Option.{slice_get-get_or, slice_get_within}
use Rattle.ld_terms.specs.Tree as tree
use Rattle.ld_terms.specs.Tree.{Tree, Trees, Var, App, Lam, Pi, Const, Nil, ◌▸◌, count}
use Rattle.ld_terms.specs.Item.{height, greatest_height}
use Rattle.fb_parse.specs.Grammar.{Surface, Surfaces, Star, Box_, Name, Inst, Apply, Fun, All, Arrow, none, more}
use Rattle.fb_write.specs.Canonical.{nowhere}
use Rattle.fb_scope.specs.State.{State, bound, numbers}
use Rattle.fb_scope.specs.Resolve.{is_named, variables, resolve, found_in, as_entry, instance_of, made_under, shared}
use Rattle.fb_scope.specs.declared.resolve.Found.TheVariants as stands
use Rattle.fb_scope.specs.Names.{NameFault, ◌>>=◌, named, implied_of, with_arguments, number, given, tree_of, listed, applied}
use Rattle.fb_show.specs.Display.{level_name, avoids, all_avoid, behind, instance, product, shown, all_shown, display}
use Rattle.fb_show.specs.Display as show
use Rattle.fb_show.specs.Formed.{IsFormed, AreFormed, AreDistinct, level_names}
use Rattle.fb_show.specs.Laws.{ReadsAsShown}
use Rattle.fb_show.proofs.Levels.{levels_differ, levels_apart, bytes_same, bytes_differ}
use Rattle.fb_show.proofs.Places.{place_here, place_later, no_place, name_place}

-- whether a variable has a name
abbrev is_seen : List Bool → ℕ → Bool
is_seen [] i = false
is_seen (b ∷ bs) zero = b
is_seen (b ∷ bs) (suc i) = is_seen bs i

-- each variable of a term has a name
abbrev mutual
  pub AreSeen : List Bool → Tree → Type 0
  AreSeen bs tree.Star = Unit {0}
  AreSeen bs tree.Box = Unit {0}
  AreSeen bs (Var i) = is_seen bs i ≡ true
  AreSeen bs (App f u) = AreSeen bs f × AreSeen bs u
  AreSeen bs (Lam a m) = AreSeen bs a × AreSeen (true ∷ bs) m
  AreSeen bs (Pi a b) = AreSeen bs a × AreSeen (true ∷ bs) b
  AreSeen bs (Const k us) = AllSeen bs us

  pub AllSeen : List Bool → Trees → Type 0
  AllSeen bs Nil = Unit {0}
  AllSeen bs (us ▸ u) = AllSeen bs us × AreSeen bs u

both_true : (x y : Bool) → (x && y) ≡ true → (x ≡ true) × (y ≡ true)
both_true true true h = (refl, refl)
both_true true false h = absurd (false≢true h)
both_true false y h = absurd (false≢true h)

-- names that the term doesn't use may go
abbrev SeenBut : (k : ℕ) → List Bool → List Bool → Type 0
SeenBut k bs cs = (i : ℕ) → (i ≡ k → ⊥) → is_seen bs i ≡ true → is_seen cs i ≡ true

under : (k : ℕ) (bs cs : List Bool) → SeenBut k bs cs → SeenBut (suc k) (true ∷ bs) (true ∷ cs)
under k bs cs h zero n s = refl
under k bs cs h (suc i) n s = h i (λ e. n (ap suc e)) s

other_variable : (j k : ℕ) → not (j == k) ≡ true → j ≡ k → ⊥
other_variable j k h e = let same : (j == k) ≡ true = grind (arith, nat_tests) in false≢true (sym (ap not same) ∙ h)

mutual
  hidden : (t : Tree) (k : ℕ) (bs cs : List Bool) → SeenBut k bs cs → AreSeen bs t → avoids t k ≡ true → AreSeen cs t
  hidden tree.Star k bs cs h s a = tt
  hidden tree.Box k bs cs h s a = tt
  hidden (Var i) k bs cs h s a = h i (other_variable i k a) s
  hidden (App f u) k bs cs h s a = let p = both_true (avoids f k) (avoids u k) a in (hidden f k bs cs h s.0 p.0, hidden u k bs cs h s.1 p.1)
  hidden (Lam b m) k bs cs h s a = let p = both_true (avoids b k) (avoids m (suc k)) a in (hidden b k bs cs h s.0 p.0, hidden m (suc k) (true ∷ bs) (true ∷ cs) (under k bs cs h) s.1 p.1)
  hidden (Pi b m) k bs cs h s a = let p = both_true (avoids b k) (avoids m (suc k)) a in (hidden b k bs cs h s.0 p.0, hidden m (suc k) (true ∷ bs) (true ∷ cs) (under k bs cs h) s.1 p.1)
  hidden (Const c us) k bs cs h s a = all_hidden us k bs cs h s a

  all_hidden : (us : Trees) (k : ℕ) (bs cs : List Bool) → SeenBut k bs cs → AllSeen bs us → all_avoid us k ≡ true → AllSeen cs us
  all_hidden Nil k bs cs h s a = tt
  all_hidden (us ▸ u) k bs cs h s a = let p = both_true (all_avoid us k) (avoids u k) a in (all_hidden us k bs cs h s.0 p.0, hidden u k bs cs h s.1 p.1)

without_first : (bs : List Bool) (t : Tree) → AreSeen (true ∷ bs) t → avoids t 0 ≡ true → AreSeen (false ∷ bs) t
without_first bs t s a = hidden t 0 (true ∷ bs) (false ∷ bs) later s a
  where
    later : SeenBut 0 (true ∷ bs) (false ∷ bs)
    later zero n s = absurd (n refl)
    later (suc i) n s = s

-- The variables of so many levels: each has the name of its level, or none.
data IsLevels (name : ℕ → List ℕ) : ℕ → List Bool → List (Option (List ℕ)) → Type 0 where
  no_level : IsLevels name 0 [] []
  level : {d : ℕ} {bs : List Bool} {vs : List (Option (List ℕ))} → IsLevels name d bs vs → IsLevels name (suc d) (true ∷ bs) (Some (name d) ∷ vs)
  unnamed : {d : ℕ} {bs : List Bool} {vs : List (Option (List ℕ))} → IsLevels name d bs vs → IsLevels name (suc d) (false ∷ bs) (None ∷ vs)

seen_within : {name : ℕ → List ℕ} {d : ℕ} {bs : List Bool} {vs : List (Option (List ℕ))} → IsLevels name d bs vs → (i : ℕ) → is_seen bs i ≡ true → i < d
seen_within no_level i s = absurd (false≢true s)
seen_within (level l) zero s = omega arith
seen_within (level l) (suc i) s = let lt = seen_within l i s in omega (arith, lt)
seen_within (unnamed l) zero s = absurd (false≢true s)
seen_within (unnamed l) (suc i) s = let lt = seen_within l i s in omega (arith, lt)

-- a name of a level stands for the level's variable
module _ (names : List (List ℕ)) where
  level_found : {d : ℕ} {bs : List Bool} {vs : List (Option (List ℕ))} → IsLevels (level_name names) d bs vs → d < 2 ^ 64 → (i : ℕ) → is_seen bs i ≡ true →
      position (is_named (level_name names (d - suc i))) vs ≡ Some i
  level_found no_level b i s = absurd (false≢true s)
  level_found (level {d = d} {vs = vs} l) b zero s =
      let e : suc d - 1 ≡ d = omega arith in
      place_here (is_named (level_name names (suc d - 1))) (Some (level_name names d)) vs (ap (λ v. bytes_eq (level_name names v) (level_name names d)) e ∙ bytes_same (level_name names d))
  level_found (level {d = d} {vs = vs} l) b (suc i) s =
      let lt = seen_within l i s in
      let e : suc d - suc (suc i) ≡ d - suc i = omega arith in
      let differ = bytes_differ (level_name names (d - suc i)) (level_name names d)
      (λ q. let m : d - suc i ≡ d = levels_differ names (d - suc i) d (omega (arith, b)) (omega (arith, b)) q in absurd (omega (arith, m, lt))) in
      subst (λ v. position (is_named (level_name names v)) (Some (level_name names d) ∷ vs) ≡ Some (suc i)) (sym e)
      (place_later (is_named (level_name names (d - suc i))) (Some (level_name names d)) vs i differ (level_found l (omega (arith, b)) i s))
  level_found (unnamed l) b zero s = absurd (false≢true s)
  level_found (unnamed {d = d} {vs = vs} l) b (suc i) s =
      let e : suc d - suc (suc i) ≡ d - suc i = omega arith in
      subst (λ v. position (is_named (level_name names v)) (None ∷ vs) ≡ Some (suc i)) (sym e)
      (place_later (is_named (level_name names (d - suc i))) None vs i refl (level_found l (omega (arith, b)) i s))

  entry_no_variable : {d : ℕ} {bs : List Bool} {vs : List (Option (List ℕ))} (k : ℕ) (x : List ℕ) → IsLevels (level_name names) d bs vs → d < 2 ^ 64 →
      slice_get names k ≡ Some x → position (is_named x) vs ≡ None
  entry_no_variable k x no_level b at = refl
  entry_no_variable k x (level {d = d} {vs = vs} l) b at =
      no_place (is_named x) (Some (level_name names d)) vs (bytes_differ x (level_name names d) (λ q. levels_apart names k d (omega (arith, b)) (at ∙ ap Some q)))
      (entry_no_variable k x l (omega (arith, b)) at)
  entry_no_variable k x (unnamed {vs = vs} l) b at = no_place (is_named x) None vs refl (entry_no_variable k x l (omega (arith, b)) at)

-- one step behind another
bind_ok : {E A B : Type 0} (r : Result A E) (f : A → Result B E) (x : A) (q : Result B E) → r ≡ Ok x → f x ≡ q → (r >>= f) ≡ q
bind_ok r f x q e h = ap (λ v. v >>= f) e ∙ h

bind_onto : {E A B C : Type 0} (r : Result A E) (f : A → Result B E) (g : A → Result C E) (x : B) (y : C) → ((a : A) → f a ≡ Ok x → g a ≡ Ok y) → (r >>= f) ≡ Ok x → (r >>= g) ≡ Ok y
bind_onto (Ok a) f g x y h e = h a e
bind_onto (Err b) f g x y h e = absurd cc

module _ (s : State) (names : List (List ℕ)) where
  applied_behind : (us : Surfaces) (a : Surface) (t0 t u : Tree) → applied s names t0 us ≡ Ok t → tree_of s names a ≡ Ok u → applied s names t0 (behind us a) ≡ Ok (App t u)
  applied_behind none a t0 t u e h = let same : t0 ≡ t = cc in bind_ok (tree_of s names a) (λ v. Ok (App t0 v)) u (Ok (App t u)) h (ap (λ w. Ok (App w u)) same)
  applied_behind (more b us) a t0 t u e h =
      bind_onto (tree_of s names b) (λ v. applied s names (App t0 v) us) (λ v. applied s names (App t0 v) (behind us a)) t (App t u) (λ v p. applied_behind us a (App t0 v) t u p h) e

  one_applied : (f a : Surface) (t u : Tree) → tree_of s names f ≡ Ok t → tree_of s names a ≡ Ok u → tree_of s names (Apply nowhere f (more a none)) ≡ Ok (App t u)
  one_applied f a t u e h = bind_ok (tree_of s names f) (λ v. applied s names v (more a none)) t (Ok (App t u)) e (applied_behind none a t t u refl h)

  applied_read : (f a : Surface) (t u : Tree) → tree_of s names f ≡ Ok t → tree_of s names a ≡ Ok u → tree_of s names (show.applied f a) ≡ Ok (App t u)
  applied_read (Apply at g us) a t u e h =
      bind_onto (tree_of s names g) (λ v. applied s names v us) (λ v. applied s names v (behind us a)) t (App t u) (λ v p. applied_behind us a v t u p h) e
  applied_read (Star at) a t u e h = one_applied (Star at) a t u e h
  applied_read (Box_ at) a t u e h = one_applied (Box_ at) a t u e h
  applied_read (Name at x) a t u e h = one_applied (Name at x) a t u e h
  applied_read (Inst at x us) a t u e h = one_applied (Inst at x us) a t u e h
  applied_read (Fun at x b m) a t u e h = one_applied (Fun at x b m) a t u e h
  applied_read (All at x b m) a t u e h = one_applied (All at x b m) a t u e h
  applied_read (Arrow at b m) a t u e h = one_applied (Arrow at b m) a t u e h

  listed_behind : (us : Surfaces) (a : Surface) (ts vs : Trees) (u : Tree) → listed s names ts us ≡ Ok vs → tree_of s names a ≡ Ok u → listed s names ts (behind us a) ≡ Ok (vs ▸ u)
  listed_behind none a ts vs u e h = let same : ts ≡ vs = cc in bind_ok (tree_of s names a) (λ v. Ok (ts ▸ v)) u (Ok (vs ▸ u)) h (ap (λ w. Ok (w ▸ u)) same)
  listed_behind (more b us) a ts vs u e h =
      bind_onto (tree_of s names b) (λ v. listed s names (ts ▸ v) us) (λ v. listed s names (ts ▸ v) (behind us a)) vs (vs ▸ u) (λ v p. listed_behind us a (ts ▸ v) vs u p h) e

  two_read : (r : Result Tree NameFault) (q : Result Tree NameFault) (f : Tree → Tree → Tree) (t u : Tree) → r ≡ Ok t → q ≡ Ok u → (r >>= λ v. q >>= λ w. Ok (f v w)) ≡ Ok (f t u)
  two_read r q f t u e h = bind_ok r (λ v. q >>= λ w. Ok (f v w)) t (Ok (f t u)) e (bind_ok q (λ w. Ok (f t w)) u (Ok (f t u)) h refl)

  product_read : (c : Bool) (x : List ℕ) (a b : Surface) (t u : Tree) → tree_of s names a ≡ Ok t → (c ≡ false → tree_of (bound (Some x) s) names b ≡ Ok u) →
      (c ≡ true → tree_of (bound None s) names b ≡ Ok u) → tree_of s names (product c x a b) ≡ Ok (Pi t u)
  product_read true x a b t u e used unused = two_read (tree_of s names a) (tree_of (bound None s) names b) Pi t u e (unused refl)
  product_read false x a b t u e used unused = two_read (tree_of s names a) (tree_of (bound (Some x) s) names b) Pi t u e (used refl)

  instance_read : (x : List ℕ) (k n : ℕ) (us : Surfaces) (ts : Trees) → ((inst : Bool) → resolve s names x n inst ≡ Ok (stands.Const k 0)) → number us ≡ n → n < 4_294_967_296 →
      listed s names Nil us ≡ Ok ts → tree_of s names (instance x us) ≡ Ok (Const k ts)
  instance_read x k n none ts found e l h =
      let same : Nil ≡ ts = cc in
      let at : resolve s names x 0 false ≡ Ok (stands.Const k 0) = subst (λ m. resolve s names x m false ≡ Ok (stands.Const k 0)) (sym e) (found false) in
      ap (λ r. named nowhere x r >>= λ f. Ok (with_arguments f (implied_of s f))) at ∙ ap (λ v. Ok (Const k v)) same
  instance_read x k n (more a us) ts found e l h =
      let at : resolve s names x (given (more a us)) true ≡ Ok (stands.Const k 0) =
      (let m : given (more a us) ≡ n = min_of (number (more a us)) n e l in subst (λ m. resolve s names x m true ≡ Ok (stands.Const k 0)) (sym m) (found true)) in
      ap (λ r. named nowhere x r >>= λ f. listed s names (implied_of s f) (more a us) >>= λ vs. Ok (with_arguments f vs)) at
      ∙ bind_ok (listed s names Nil (more a us)) (λ vs. Ok (Const k vs)) ts (Ok (Const k ts)) h refl
    where
      min_of : (m n : ℕ) → m ≡ n → n < 4_294_967_296 → min m 4_294_967_295 ≡ n
      min_of m n e l = omega arith

all_given : (k p still : ℕ) → instance_of k p still p ≡ Ok (stands.Const k 0)
all_given k p still =
    let e : nat_lt p p ≡ false = grind (arith, nat_tests) in
    let f : nat_lt still (p - p) ≡ false = grind (arith, nat_tests) in
    let g : p - p ≡ 0 = omega arith in
    rw (e, f) (ap (λ v. Ok (stands.Const k v)) g)

number_behind : (us : Surfaces) (a : Surface) → number (behind us a) ≡ suc (number us)
number_behind none a = refl
number_behind (more b us) a = ap suc (number_behind us a)

-- what is known of the variables of a scope
record Sees (names : List (List ℕ)) (params : List ℕ) (s : State) (d : ℕ) (bs : List Bool) (vs : List (Option (List ℕ))) : Type 0 where
  variables : variables s ≡ vs
  levels : IsLevels (level_name names) d bs vs
  made : map length s.marks ≡ params

module _ (names : List (List ℕ)) (params : List ℕ) (distinct : AreDistinct names) (few : (k n : ℕ) → slice_get params k ≡ Some n → n < 4_294_967_296) (all : length names ≡ length params) where
  one_more : {s : State} {d : ℕ} {bs : List Bool} {vs : List (Option (List ℕ))} → Sees names params s d bs vs →
      Sees names params (bound (Some (level_name names d)) s) (suc d) (true ∷ bs) (Some (level_name names d) ∷ vs)
  one_more {d = d} h = record { variables = ap (λ v. Some (level_name names d) ∷ v) h.variables; levels = level h.levels; made = h.made }

  one_unnamed : {s : State} {d : ℕ} {bs : List Bool} {vs : List (Option (List ℕ))} → Sees names params s d bs vs → Sees names params (bound None s) (suc d) (false ∷ bs) (None ∷ vs)
  one_unnamed h = record { variables = ap (λ v. None ∷ v) h.variables; levels = unnamed h.levels; made = h.made }

  made_length : (s : State) (k n : ℕ) → map length s.marks ≡ params → slice_get params k ≡ Some n → length (made_under s k) ≡ n
  made_length s k n e at = length_at s.marks k n (ap (λ v. slice_get v k) e ∙ at)
    where
      length_at : (marks : List (List ℕ)) (k n : ℕ) → slice_get (map length marks) k ≡ Some n → length (slice_index_or marks k []) ≡ n
      length_at [] k n e = absurd cc
      length_at (m ∷ ms) zero n e = cc
      length_at (m ∷ ms) (suc k) n e = length_at ms k n e

  entry_name : (k n : ℕ) → slice_get params k ≡ Some n → slice_get names k ≡ Some (slice_index_or names k [])
  entry_name k n at = slice_get-get_or names k [] (let l = slice_get_within params k n at in omega (arith, l, all))

  entry_resolves : {s : State} {d : ℕ} {bs : List Bool} {vs : List (Option (List ℕ))} → Sees names params s d bs vs → d < 2 ^ 64 → (k n : ℕ) → slice_get params k ≡ Some n → (inst : Bool) →
      resolve s names (slice_index_or names k []) n inst ≡ Ok (stands.Const k 0)
  entry_resolves {s} {d} {bs} {vs} h b k n at inst =
      let x = slice_index_or names k [] in
      let named = entry_name k n at in
      let none : position (is_named x) (variables s) ≡ None = ap (position (is_named x)) h.variables ∙ entry_no_variable names k x h.levels b named in
      ap (found_in s names x n inst) none ∙ ap (as_entry s n) (name_place names k x distinct named)
      ∙ ap (λ p. instance_of k p (shared (made_under s k) (numbers s.flags)) n) (made_length s k n h.made at) ∙ all_given k n (shared (made_under s k) (numbers s.flags))

  variable_resolves : {s : State} {d : ℕ} {bs : List Bool} {vs : List (Option (List ℕ))} → Sees names params s d bs vs → d < 2 ^ 64 → (i : ℕ) → is_seen bs i ≡ true →
      resolve s names (level_name names (d - suc i)) 0 false ≡ Ok (stands.Var i)
  variable_resolves {s} {d} h b i seen =
      let x = level_name names (d - suc i) in
      ap (found_in s names x 0 false) (ap (position (is_named x)) h.variables ∙ level_found names h.levels b i seen)

  mutual
    reads : {s : State} {d : ℕ} {bs : List Bool} {vs : List (Option (List ℕ))} (t : Tree) → Sees names params s d bs vs → d + height t < 2 ^ 64 → IsFormed params d t → AreSeen bs t →
        tree_of s names (display names d t) ≡ Ok t
    reads tree.Star h b f seen = refl
    reads tree.Box h b f seen = refl
    reads {s} {d} (Var i) h b f seen = ap (λ r. named nowhere (level_name names (d - suc i)) r >>= λ f. Ok (with_arguments f (implied_of s f))) (variable_resolves h (omega (arith, b)) i seen)
    reads {s} {d} (App m u) h b f seen = applied_read s names (display names d m) (display names d u) m u (reads m h (omega (arith, b)) f.0 seen.0) (reads u h (omega (arith, b)) f.1 seen.1)
    reads {s} {d} (Lam a m) h b f seen = two_read s names (tree_of s names (display names d a)) (tree_of (bound (Some (level_name names d)) s) names (display names (suc d) m)) Lam a m
        (reads a h (omega (arith, b)) f.0 seen.0) (reads m (one_more h) (omega (arith, b)) f.1 seen.1)
    reads {s} {d} {bs} (Pi a m) h b f seen = product_read s names (avoids m 0) (level_name names d) (display names d a) (display names (suc d) m) a m
        (reads a h (omega (arith, b)) f.0 seen.0) (λ e. reads m (one_more h) (omega (arith, b)) f.1 seen.1) (λ e. reads m (one_unnamed h) (omega (arith, b)) f.1 (without_first bs m seen.1 e))
    reads {s} {d} (Const k us) h b f seen = let p = all_read us h (omega (arith, b)) f.1 seen in
        instance_read s names (slice_index_or names k []) k (count us) (all_shown (level_name names) names d us) us (entry_resolves h (omega (arith, b)) k (count us) f.0) p.1 (few k (count us) f.0) p.0

    all_read : {s : State} {d : ℕ} {bs : List Bool} {vs : List (Option (List ℕ))} (us : Trees) → Sees names params s d bs vs → d + greatest_height us < 2 ^ 64 → AreFormed params d us → AllSeen bs us →
        (listed s names Nil (all_shown (level_name names) names d us) ≡ Ok us) × (number (all_shown (level_name names) names d us) ≡ count us)
    all_read Nil h b f seen = (refl, refl)
    all_read {s} {d} (us ▸ u) h b f seen = let p = all_read us h (omega (arith, b)) f.0 seen.0 in (
      listed_behind s names (all_shown (level_name names) names d us) (display names d u) Nil us u p.0 (reads u h (omega (arith, b)) f.1 seen.1),
      number_behind (all_shown (level_name names) names d us) (display names d u) ∙ ap suc p.1,
    )

-- each variable of a formed term has a name, where all have
abbrev trues : ℕ → List Bool
trues zero = []
trues (suc d) = true ∷ trues d

all_levels : (names : List (List ℕ)) (d : ℕ) → IsLevels (level_name names) d (trues d) (level_names names d)
all_levels names zero = no_level
all_levels names (suc d) = level (all_levels names d)

trues_seen : (d i : ℕ) → i < d → is_seen (trues d) i ≡ true
trues_seen zero i l = absurd (omega (arith, l))
trues_seen (suc d) zero l = refl
trues_seen (suc d) (suc i) l = trues_seen d i (omega (arith, l))

mutual
  formed_seen : (params : List ℕ) (d : ℕ) (t : Tree) → IsFormed params d t → AreSeen (trues d) t
  formed_seen params d tree.Star f = tt
  formed_seen params d tree.Box f = tt
  formed_seen params d (Var i) f = trues_seen d i f
  formed_seen params d (App m u) f = (formed_seen params d m f.0, formed_seen params d u f.1)
  formed_seen params d (Lam a m) f = (formed_seen params d a f.0, formed_seen params (suc d) m f.1)
  formed_seen params d (Pi a m) f = (formed_seen params d a f.0, formed_seen params (suc d) m f.1)
  formed_seen params d (Const k us) f = all_formed_seen params d us f.1

  all_formed_seen : (params : List ℕ) (d : ℕ) (us : Trees) → AreFormed params d us → AllSeen (trues d) us
  all_formed_seen params d Nil f = tt
  all_formed_seen params d (us ▸ u) f = (all_formed_seen params d us f.0, formed_seen params d u f.1)

pub reads_as_shown : ReadsAsShown
reads_as_shown s names params d t distinct n b f =
    reads names params distinct n.few n.entries t (record { variables = n.variables; levels = all_levels names d; made = n.made }) b f (formed_seen params d t f)
