-- The list of an instance along its arguments.
use Rattle.std.proofs.Common.{◌≡◌, ◌<◌, ◌≤◌, ◌+◌, ◌-◌, ℕ, zero, suc, List, [], ◌∷◌, length, get_or, drop, Result, Ok, Err, IsOk, ⊎_elim, refl, sym, ap, subst, ◌∙◌, arith}
use Rattle.std.proofs.lemmas.Bool.{cases_lt}
use Rattle.std.proofs.lemmas.List.{drop_more}
use Rattle.fb_parse.specs.declared.tree.Tree as code
use Rattle.fb_parse.specs.Grammar.{Surfaces, none, more}
use Rattle.fb_parse.specs.View.{view, views}
use Rattle.fb_scope.specs.State.{State}
use Rattle.ld_terms.specs.Tree.{Tree, Trees, App, Var, Const, ◌▸◌}
use Rattle.ld_terms.specs.Item.{One, Many, IsSmall}
use Rattle.book_top.specs.declared.status.TextFault.{TextFault}
use Rattle.book_top.specs.declared.names.NameStop.{NameStop}
use Rattle.book_top.specs.declared.names.NameStop.TheVariants as stop
use Rattle.book_top.specs.Names.{tree_of, applied, listed, number, implied, ◌>>=◌}
use Rattle.book_top.specs.Built.{read, read_list, Reads}
use Rattle.book_top.proofs.Binds.{ok_first, ok_read}

-- The names of a list are read as those of an application of anything to its trees.

one_read : (r : Result Tree TextFault) (k : Tree → Result Tree TextFault) (l : Tree → Result Trees TextFault) (g : Trees → Tree) (q : Result (Unit {0}) NameStop)
    → ((u : Tree) → Reads (k u) q → Reads (l u >>= (λ vs. Ok (g vs))) q) → Reads (r >>= k) q → Reads ((r >>= l) >>= (λ vs. Ok (g vs))) q
one_read (Ok u) k l g q rest h = rest u h
one_read (Err e) k l g q rest h = h

abbrev as_read : Tree → Result Tree TextFault
as_read t = Ok t

all_read : (t u : Tree) (q : Result (Unit {0}) NameStop) → Reads (as_read t) q → Reads (as_read u) q
all_read t u (Ok x) h = refl
all_read t u (Err (stop.Text f)) h = absurd (cc)
all_read t u (Err stop.Memory) h = tt

pub reads_listed : (s : State) (names : List (List ℕ)) (t : Tree) (ts : Trees) (us : Surfaces) (g : Trees → Tree) (q : Result (Unit {0}) NameStop)
    → Reads (applied s names t us) q → Reads (listed s names ts us >>= (λ vs. Ok (g vs))) q
reads_listed s names t ts none g q h = all_read t (g ts) q h
reads_listed s names t ts (more a us) g q h =
    one_read (tree_of s names a) (λ u. applied s names (App t u) us) (λ u. listed s names (ts ▸ u) us) g q
    (λ u k. reads_listed s names (App t u) (ts ▸ u) us g q k) h

module _ (s : State) (names : List (List ℕ)) where
  -- The list of ts with these arguments behind is that of vs with those from a place on.
  abbrev pub ListsOn : (ts vs : Trees) → (us : List code.Tree) → (i : ℕ) → Type 0
  ListsOn ts vs us i = listed s names ts (views us) ≡ listed s names vs (views (drop i us))

  -- the argument at the place
  lists_next : (ts vs : Trees) (us : List code.Tree) (i : ℕ) (a : code.Tree) → i < length us → a ≡ get_or us i a → ListsOn ts vs us i
      → listed s names ts (views us) ≡ tree_of s names (view a) >>= (λ u. listed s names (vs ▸ u) (views (drop (i + 1) us)))
  lists_next ts vs us i a l at e =
      let next : drop i us ≡ a ∷ drop (i + 1) us = drop_more us i a l ∙ ap (λ x. x ∷ drop (i + 1) us) (sym at) in
      e ∙ ap (λ xs. listed s names vs (views xs)) next

  pub lists_behind : (ts vs : Trees) (u : Tree) (us : List code.Tree) (i : ℕ) (a : code.Tree) → i < length us → a ≡ get_or us i a → ListsOn ts vs us i
      → tree_of s names (view a) ≡ Ok u → ListsOn ts (vs ▸ u) us (i + 1)
  lists_behind ts vs u us i a l at e is =
      lists_next ts vs us i a l at e ∙ ap (λ r. r >>= (λ u. listed s names (vs ▸ u) (views (drop (i + 1) us)))) is

  pub element_ok : (ts vs : Trees) (us : List code.Tree) (i : ℕ) (a : code.Tree) → i < length us → a ≡ get_or us i a → ListsOn ts vs us i
      → IsOk (listed s names ts (views us)) → IsOk (tree_of s names (view a))
  element_ok ts vs us i a l at e ok =
      ok_first (tree_of s names (view a)) (λ u. listed s names (vs ▸ u) (views (drop (i + 1) us))) (subst IsOk (lists_next ts vs us i a l at e) ok)

-- there are as many arguments as the code has
pub number_views : (us : List code.Tree) → number (views us) ≡ length us
number_views [] = refl
number_views (u ∷ us) = ap suc (number_views us)

-- A front of a small list is small, and so is its last tree.
pub front_small : (us : Trees) (u : Tree) → IsSmall (Many (us ▸ u)) → IsSmall (Many us)
front_small us u h = record { height = omega (arith, h.height); index = omega (arith, h.index) }

-- so is the list of a small instance
pub arguments_small : (k : ℕ) (us : Trees) → IsSmall (One (Const k us)) → IsSmall (Many us)
arguments_small k us h = record { height = omega (arith, h.height); index = h.index }

pub implied_small : (v m n : ℕ) → m ≤ n → IsSmall (Many (implied v n)) → IsSmall (Many (implied v m))
implied_small v m zero le h = let same : zero ≡ m = omega arith in subst (λ k. IsSmall (Many (implied v k))) same h
implied_small v m (suc n) le h =
    ⊎_elim
    (λ (l : m < suc n). implied_small v m n (omega arith) (front_small (implied v n) (Var (v - suc n)) h))
    (λ (l : suc n ≤ m). let same : suc n ≡ m = omega arith in subst (λ k. IsSmall (Many (implied v k))) same h)
    (cases_lt m (suc n))

behind : (r : Result Tree TextFault) (g : Tree → Result Trees TextFault) (ts : Trees) → ((u : Tree) → IsOk (g u) → IsSmall (Many (read_list (g u))) → IsSmall (Many ts))
    → IsOk (r >>= g) → IsSmall (Many (read_list (r >>= g))) → IsSmall (Many ts)
behind (Ok u) g ts k ok h = k u ok h
behind (Err e) g ts k ok h = absurd (cc)

pub list_small : (s : State) (names : List (List ℕ)) (ts : Trees) (us : Surfaces) → IsOk (listed s names ts us) → IsSmall (Many (read_list (listed s names ts us))) → IsSmall (Many ts)
list_small s names ts none ok h = h
list_small s names ts (more a us) ok h =
    behind (tree_of s names a) (λ u. listed s names (ts ▸ u) us) ts (λ u k l. front_small ts u (list_small s names (ts ▸ u) us k l)) ok h

-- the list that is built, behind an argument
pub element_small : (s : State) (names : List (List ℕ)) (ts vs : Trees) (us : List code.Tree) (i : ℕ) (a : code.Tree) → i < length us → a ≡ get_or us i a → ListsOn s names ts vs us i
    → IsOk (listed s names ts (views us)) → IsSmall (Many (read_list (listed s names ts (views us)))) → IsSmall (Many (vs ▸ read (tree_of s names (view a))))
element_small s names ts vs us i a l at e ok small =
    let u : Tree = read (tree_of s names (view a)) in
    let on : listed s names ts (views us) ≡ listed s names (vs ▸ u) (views (drop (i + 1) us)) =
    lists_behind s names ts vs u us i a l at e (ok_read (tree_of s names (view a)) (element_ok s names ts vs us i a l at e ok)) in
    let P : Result Trees TextFault → Type 0 = λ r. IsSmall (Many (read_list r)) in
    list_small s names (vs ▸ u) (views (drop (i + 1) us)) (subst IsOk on ok) (subst P on small)

pub list_read : (r : Result Trees TextFault) → IsOk r → r ≡ Ok (read_list r)
list_read (Ok us) ok = refl
list_read (Err e) ok = absurd (cc)

-- an instance whose list is read
pub constant_read : (k : ℕ) (r : Result Trees TextFault) → IsOk r → read (r >>= (λ ts. Ok (Const k ts))) ≡ Const k (read_list r)
constant_read k (Ok us) ok = refl
constant_read k (Err e) ok = absurd (cc)
