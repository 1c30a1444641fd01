-- An application along its arguments.
use Rattle.std.proofs.Common.{◌≡◌, ◌<◌, ◌≤◌, ◌+◌, ℕ, List, ◌∷◌, length, get_or, drop, Bor, Result, Ok, Err, IsOk, refl, sym, ap, subst, ◌∙◌, arith}
use Rattle.std.proofs.lemmas.List.{drop_more}
use Rattle.std.proofs.Math.ListN.{drop_of_length-le}
use Rattle.fb_parse.specs.declared.tree.Tree as code
use Rattle.fb_parse.specs.declared.tree.Form.TheVariants as form
use Rattle.fb_parse.specs.Grammar.{Surfaces, none, more}
use Rattle.fb_parse.specs.View.{view, views}
use Rattle.fb_scope.specs.State.{State}
use Rattle.ld_terms.specs.Tree.{Tree, App}
use Rattle.ld_terms.specs.Item.{One, IsSmall}
use Rattle.book_top.specs.declared.status.TextFault.{TextFault}
use Rattle.book_top.specs.declared.names.NameStop.{NameStop}
use Rattle.book_top.specs.Names.{tree_of, applied, ◌>>=◌}
use Rattle.book_top.specs.Built.{read, Reads}
use Rattle.book_top.proofs.Binds.{ok_first, ok_value, ok_read, reads_first, apply_read}

module _ (s : State) (names : List (List ℕ)) where
  -- An application of f to these arguments is one of g to those from a place on.
  abbrev pub GoesOn : (f g : Tree) → (us : List code.Tree) → (i : ℕ) → Type 0
  GoesOn f g us i = applied s names f (views us) ≡ applied s names g (views (drop i us))

  -- the argument at the place
  pub goes_next : (f g : Tree) (us : List code.Tree) (i : ℕ) (a : code.Tree) → i < length us → a ≡ get_or us i a → GoesOn f g us i
      → applied s names f (views us) ≡ tree_of s names (view a) >>= (λ u. applied s names (App g u) (views (drop (i + 1) us)))
  goes_next f g us i a l at e =
      let next : drop i us ≡ a ∷ drop (i + 1) us = drop_more us i a l ∙ ap (λ x. x ∷ drop (i + 1) us) (sym at) in
      e ∙ ap (λ xs. applied s names g (views xs)) next

  pub goes_behind : (f g u : Tree) (us : List code.Tree) (i : ℕ) (a : code.Tree) → i < length us → a ≡ get_or us i a → GoesOn f g us i
      → tree_of s names (view a) ≡ Ok u → GoesOn f (App g u) us (i + 1)
  goes_behind f g u us i a l at e is = goes_next f g us i a l at e ∙ ap (λ r. r >>= (λ u. applied s names (App g u) (views (drop (i + 1) us)))) is

  pub goes_end : (f g : Tree) (us : List code.Tree) (i : ℕ) → length us ≤ i → GoesOn f g us i → applied s names f (views us) ≡ Ok g
  goes_end f g us i l e = e ∙ ap (λ xs. applied s names g (views xs)) (drop_of_length-le us l)

  pub argument_ok : (f g : Tree) (us : List code.Tree) (i : ℕ) (a : code.Tree) → i < length us → a ≡ get_or us i a → GoesOn f g us i
      → IsOk (applied s names f (views us)) → IsOk (tree_of s names (view a))
  argument_ok f g us i a l at e ok =
      ok_first (tree_of s names (view a)) (λ u. applied s names (App g u) (views (drop (i + 1) us))) (subst IsOk (goes_next f g us i a l at e) ok)

  -- names of arguments

  pub arguments_unread : (f g : Tree) (us : List code.Tree) (i : ℕ) (a : code.Tree) (z : NameStop) → i < length us → a ≡ get_or us i a → GoesOn f g us i
      → Reads (tree_of s names (view a)) (Err z) → Reads (applied s names f (views us)) (Err z)
  arguments_unread f g us i a z l at e h =
      let P : Result Tree TextFault → Type 0 = λ r. Reads r (Err z) in
      subst P (sym (goes_next f g us i a l at e)) (reads_first (tree_of s names (view a)) (λ u. applied s names (App g u) (views (drop (i + 1) us))) z h)

  pub arguments_next : (f g : Tree) (us : List code.Tree) (i : ℕ) (a : code.Tree) → i < length us → a ≡ get_or us i a → GoesOn f g us i
      → IsOk (tree_of s names (view a)) → (h : Tree) × GoesOn f h us (i + 1)
  arguments_next f g us i a l at e ok =
      let v = ok_value (tree_of s names (view a)) ok in (App g v.0, goes_behind f g v.0 us i a l at e v.1)

  pub arguments_end : (f g : Tree) (us : List code.Tree) (i : ℕ) → length us ≤ i → GoesOn f g us i → IsOk (applied s names f (views us))
  arguments_end f g us i l e = subst IsOk (sym (goes_end f g us i l e)) refl

-- A function of a small application is small.
function_small : (f u : Tree) → IsSmall (One (App f u)) → IsSmall (One f)
function_small f u h = record { height = omega (arith, h.height); index = omega (arith, h.index) }

behind : (r : Result Tree TextFault) (g : Tree → Result Tree TextFault) (f : Tree) → ((u : Tree) → IsOk (g u) → IsSmall (One (read (g u))) → IsSmall (One f))
    → IsOk (r >>= g) → IsSmall (One (read (r >>= g))) → IsSmall (One f)
behind (Ok u) g f k ok h = k u ok h
behind (Err e) g f k ok h = absurd (cc)

pub head_small : (s : State) (names : List (List ℕ)) (f : Tree) (us : Surfaces) → IsOk (applied s names f us) → IsSmall (One (read (applied s names f us))) → IsSmall (One f)
head_small s names f none ok h = h
head_small s names f (more a us) ok h =
    behind (tree_of s names a) (λ u. applied s names (App f u) us) f (λ u k l. function_small f u (head_small s names (App f u) us k l)) ok h

-- the application that is built, behind an argument
pub argument_small : (s : State) (names : List (List ℕ)) (f g : Tree) (us : List code.Tree) (i : ℕ) (a : code.Tree) → i < length us → a ≡ get_or us i a → GoesOn s names f g us i
    → IsOk (applied s names f (views us)) → IsSmall (One (read (applied s names f (views us)))) → IsSmall (One (App g (read (tree_of s names (view a)))))
argument_small s names f g us i a l at e ok small =
    let u : Tree = read (tree_of s names (view a)) in
    let on : applied s names f (views us) ≡ applied s names (App g u) (views (drop (i + 1) us)) =
    goes_behind s names f g u us i a l at e (ok_read (tree_of s names (view a)) (argument_ok s names f g us i a l at e ok)) in
    let P : Result Tree TextFault → Type 0 = λ r. IsSmall (One (read r)) in
    head_small s names (App g u) (views (drop (i + 1) us)) (subst IsOk on ok) (subst P on small)

front : (r : Result Tree TextFault) (g : Tree → Result Tree TextFault) → ((t : Tree) → IsOk (g t) → IsSmall (One (read (g t))) → IsSmall (One t))
    → IsOk (r >>= g) → IsSmall (One (read (r >>= g))) → IsSmall (One (read r))
front (Ok t) g k ok h = k t ok h
front (Err e) g k ok h = absurd (cc)

-- an application, from its function on
pub head_read : (s : State) (names : List (List ℕ)) (t f : code.Tree) (us : Bor (List code.Tree)) → t.form.now ≡ form.Apply f us → IsOk (tree_of s names (view t))
    → tree_of s names (view t) ≡ applied s names (read (tree_of s names (view f))) (views us.now)
head_read s names t f us is ok =
    let e = apply_read s names t f us is in
    e ∙ ap (λ r. r >>= (λ g. applied s names g (views us.now))) (ok_read (tree_of s names (view f)) (ok_first (tree_of s names (view f)) (λ g. applied s names g (views us.now)) (subst IsOk e ok)))

pub function_read_small : (s : State) (names : List (List ℕ)) (t f : code.Tree) (us : Bor (List code.Tree)) → t.form.now ≡ form.Apply f us → IsOk (tree_of s names (view t))
    → IsSmall (One (read (tree_of s names (view t)))) → IsSmall (One (read (tree_of s names (view f))))
function_read_small s names t f us is ok small =
    let e = apply_read s names t f us is in
    let P : Result Tree TextFault → Type 0 = λ r. IsSmall (One (read r)) in
    front (tree_of s names (view f)) (λ g. applied s names g (views us.now)) (λ g k h. head_small s names g (views us.now) k h) (subst IsOk e ok) (subst P e small)
