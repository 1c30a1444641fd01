-- One reading and then another: whether both read, and what they give.
use Rattle.std.proofs.Common.{◌≡◌, List, ℕ, true, false, Result, Ok, Err, IsOk, IsErrAnd, Bor, refl, sym, ap, subst, ◌∙◌}
use Rattle.fb_parse.specs.declared.tree.Form.TheVariants as form
use Rattle.fb_parse.specs.declared.tree.Tree.{Tree}
use Rattle.fb_parse.specs.View.{view, views, form_view}
use Rattle.fb_parse.specs.Grammar.{Surfaces}
use Rattle.fb_parse.proofs.Views.{view_inst, view_apply}
use Rattle.fb_scope.specs.State.{State}
use Rattle.fb_scope.specs.Resolve.{resolve}
use Rattle.fb_scope.specs.declared.resolve.Found.{Found}
use Rattle.ld_terms.specs.Tree as tree
use Rattle.book_top.specs.declared.status.TextFault.{TextFault}
use Rattle.book_top.specs.declared.names.NameStop.{NameStop}
use Rattle.book_top.specs.declared.names.NameStop.TheVariants as stop
use Rattle.book_top.specs.Names.{tree_of, applied, listed, named, implied_of, with_arguments, given, ◌>>=◌}
use Rattle.book_top.specs.Built.{read, Reads}

pub bind_ok : {A B : Type 0} (r : Result A TextFault) (g : A → Result B TextFault) (b : B) → r >>= g ≡ Ok b → (a : A) × (r ≡ Ok a) × (g a ≡ Ok b)
bind_ok (Ok a) g b e = (a, refl, e)
bind_ok (Err f) g b e = absurd (cc)

pub ok_first : {A B : Type 0} (r : Result A TextFault) (g : A → Result B TextFault) → IsOk (r >>= g) → IsOk r
ok_first (Ok a) g ok = refl
ok_first (Err f) g ok = cc

pub ok_value : {A : Type 0} (r : Result A TextFault) → IsOk r → (a : A) × (r ≡ Ok a)
ok_value (Ok a) ok = (a, refl)
ok_value (Err f) ok = absurd (cc)

pub ok_read : (r : Result tree.Tree TextFault) → IsOk r → r ≡ Ok (read r)
ok_read (Ok a) ok = refl
ok_read (Err f) ok = absurd (cc)

-- a fault of what is read first is one of the whole
pub reads_first : {A B : Type 0} (r : Result A TextFault) (g : A → Result B TextFault) (s : NameStop) → Reads r (Err s) → Reads (r >>= g) (Err s)
reads_first r g (stop.Text f) e = ap (λ q. q >>= g) e
reads_first r g stop.Memory e = tt

-- a fault at a residual
pub unread : {A : Type 0} (r : Result A TextFault) (f : TextFault) (q : Result (Unit {0}) NameStop) → r ≡ Err f → IsErrAnd q (λ s. s ≡ stop.Text f) → Reads r q
unread r f (Ok u) e h = absurd h
unread r f (Err s) e h = let P : NameStop → Type 0 = λ z. Reads r (Err z) in subst P (sym h) e

pub unread_by : {A : Type 0} (r : Result A TextFault) (s : NameStop) (q : Result (Unit {0}) NameStop) → Reads r (Err s) → IsErrAnd q (λ z. z ≡ s) → Reads r q
unread_by r s (Ok u) e h = absurd h
unread_by r s (Err z) e h = let P : NameStop → Type 0 = λ z. Reads r (Err z) in subst P (sym h) e

-- a name, an instance and an application, as they are read
pub name_read : (s : State) (names : List (List ℕ)) (t : Tree) (x : Bor (List ℕ)) (n : List ℕ) (r : Result Found TextFault) → t.form.now ≡ form.Name x
    → n ≡ x.now → r ≡ named t.span n (resolve s names n 0 false) → tree_of s names (view t) ≡ r >>= (λ f. Ok (with_arguments f (implied_of s f)))
name_read s names t x n r e is stands =
    ap (λ g. tree_of s names (form_view t.span g)) e
    ∙ ap (λ m. named t.span m (resolve s names m 0 false) >>= (λ f. Ok (with_arguments f (implied_of s f)))) (sym is)
    ∙ ap (λ q. q >>= (λ f. Ok (with_arguments f (implied_of s f)))) (sym stands)

-- what an instance is, of what its name stands for
abbrev pub instance_of : State → List (List ℕ) → Surfaces → Found → Result tree.Tree TextFault
instance_of s names us f = listed s names (implied_of s f) us >>= (λ ts. Ok (with_arguments f ts))

pub inst_read : (s : State) (names : List (List ℕ)) (t : Tree) (x : Bor (List ℕ)) (us : Bor (List Tree)) (n : List ℕ) (g : ℕ) (r : Result Found TextFault) → t.form.now ≡ form.Inst x us
    → n ≡ x.now → g ≡ given (views us.now) → r ≡ named t.span n (resolve s names n g true) → tree_of s names (view t) ≡ r >>= instance_of s names (views us.now)
inst_read s names t x us n g r e is many stands =
    ap (λ y. tree_of s names (form_view t.span y)) e
    ∙ ap (tree_of s names) (view_inst t.span x us)
    ∙ ap (λ m. named t.span m (resolve s names m (given (views us.now)) true) >>= instance_of s names (views us.now)) (sym is)
    ∙ ap (λ j. named t.span n (resolve s names n j true) >>= instance_of s names (views us.now)) (sym many)
    ∙ ap (λ q. q >>= instance_of s names (views us.now)) (sym stands)

pub apply_read : (s : State) (names : List (List ℕ)) (t f : Tree) (us : Bor (List Tree)) → t.form.now ≡ form.Apply f us
    → tree_of s names (view t) ≡ tree_of s names (view f) >>= (λ g. applied s names g (views us.now))
apply_read s names t f us e = ap (λ g. tree_of s names (form_view t.span g)) e ∙ ap (tree_of s names) (view_apply t.span f us)

-- an application is read where its arguments are, whatever its function is
pub reads_arguments : (r : Result tree.Tree TextFault) (g : tree.Tree → Result tree.Tree TextFault) (q : Result (Unit {0}) NameStop) → IsOk r → ((t : tree.Tree) → Reads (g t) q) → Reads (r >>= g) q
reads_arguments (Ok t) g q ok h = h t
reads_arguments (Err f) g q ok h = absurd (cc)
