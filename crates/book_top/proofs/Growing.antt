-- With an item that is accepted, a legal book is legal again.
use Rattle.std.proofs.Common.{◌≡◌, ◌≢◌, ◌<◌, ◌≤◌, ℕ, suc, Bool, true≢false, get_or, List, [], ◌∷◌, length, position, Option, Some, None, Result, Ok, Err, refl, sym, subst, ◌∙◌, arith}
use Rattle.std.proofs.lemmas.List.Elements.{All-cons}
use Rattle.std.specs.Str.{bytes_eq}
use Rattle.std.specs.List.{position_or_len}
use Rattle.std.proofs.lemmas.Grind.{common_steps}
use Rattle.std.proofs.lemmas.List.Sums.{fails_before_first}
use Rattle.std.proofs.lemmas.Slice.Eq.{bytes_eq-Decides}
use Rattle.ld_terms.specs.Entry.{Env, IsFresh, HasBody}
use Rattle.ld_terms.specs.Tree.{Tree}
use Rattle.ld_terms.specs.Derivable.{◌⨾◌⊢◌∶◌}
use Rattle.ld_terms.specs.Known.{Note}
use Rattle.fb_base.specs.declared.places.Span.{Span}
use Rattle.fb_parse.specs.Items.{SurfaceItem, SurfaceKind}
use Rattle.fb_parse.specs.Items as item
use Rattle.book_top.specs.declared.status.TextFault.{TextFault}
use Rattle.book_top.specs.Book.{Book, Reading, Flag, Prim, Line, names_of, closed, with_item}
use Rattle.book_top.specs.Names.{reading_of, tree_of, ◌>>=◌}
use Rattle.book_top.specs.Verdict.{Verdicts, Accepted, text_refused, at_depth, entry_free, name_free, read_here, read_item}
use Rattle.book_top.specs.Spells.{item_book, Accepts, none, more}
use Rattle.book_top.specs.Rightness.{IsLegalBook, HasDerivation}
use Rattle.book_top.specs.Growing.{BooksGrow}
use Rattle.book_top.proofs.Rightness.{verdict_derivable, closed_legal}

-- a name that isn't found among the names is fresh
not_found : (p : List ℕ → Bool) (xs : List (List ℕ)) → position p xs ≡ None → length xs ≤ position_or_len p xs
not_found p xs e = grind (arith, common_steps)

fresh_at : (env : Env) (a : List ℕ) → ((k : ℕ) → k < length (names_of env) → get_or (names_of env) k a ≡ a → ⊥) → IsFresh a env
fresh_at [] a free = λ k d l. absurd (omega arith)
fresh_at (e ∷ env) a free = All-cons (λ x. x.name ≢ a) e env (λ p. free 0 (omega arith) p) (fresh_at env a (λ k l p. free (suc k) (omega arith) p))

fresh_by : (env : Env) (a : List ℕ) → position (bytes_eq a) (names_of env) ≡ None → IsFresh a env
fresh_by env a e =
    fresh_at env a
    (λ k l is. let n = not_found (bytes_eq a) (names_of env) e in
    true≢false (sym ((bytes_eq-Decides a (get_or (names_of env) k a)).1 (sym is)) ∙ fails_before_first (bytes_eq a) (names_of env) k a (omega (arith, l, n))))

entry_none : (at : Span) (o : Option ℕ) → entry_free at o ≡ Ok tt → o ≡ None
entry_none at None h = refl
entry_none at (Some k) h = absurd (cc)

-- what was read, in order
bind_ok : {E A B : Type 0} (q : Result A E) (f : A → Result B E) (x : B) → (q >>= f) ≡ Ok x → (y : A) × (q ≡ Ok y) × (f y ≡ Ok x)
bind_ok (Ok y) f x h = (y, refl, h)
bind_ok (Err e) f x h = absurd (cc)

text_ok : {A : Type 0} (q : Result A TextFault) (x : A) → text_refused q ≡ Ok x → q ≡ Ok x
text_ok (Ok y) x h = cc
text_ok (Err f) x h = absurd (cc)

abbrev IsEntry : Reading → Type 0
IsEntry (Flag type) = ⊥
IsEntry (Prim type) = Unit {0}
IsEntry (Line body type) = Unit {0}

ok_same : {x y : Reading} → ◌≡◌ {A = Result Reading TextFault} (Ok x) (Ok y) → y ≡ x
ok_same e = cc

no_flag : (o : Result Tree TextFault) (r : Reading) → (o >>= λ t. Ok (Flag t)) ≡ Ok r → IsEntry r → ⊥
no_flag (Ok t) r h e = subst IsEntry (ok_same h) e
no_flag (Err f) r h e = absurd (cc)

-- the name of what is read as an entry is fresh
name_fresh : (b : Book) (i : SurfaceItem) (k : SurfaceKind) (r : Reading) → name_free b i k ≡ Ok tt → reading_of b.scope (names_of b.env) i.span k ≡ Ok r → IsEntry r → IsFresh i.name b.env
name_fresh b i (item.Flag a) r free h e = absurd (no_flag (tree_of b.scope (names_of b.env) a) r h e)
name_fresh b i (item.Prim a) r free h e = fresh_by b.env i.name (entry_none i.name_span (position (bytes_eq i.name) (names_of b.env)) free)
name_fresh b i (item.Line body a) r free h e = fresh_by b.env i.name (entry_none i.name_span (position (bytes_eq i.name) (names_of b.env)) free)

entry_fresh : (b : Book) (i : SurfaceItem) (r : Reading) → read_item b i ≡ Ok r → IsEntry r → IsFresh i.name b.env
entry_fresh b i r h e =
    let c = closed i.bars b in
    let p = bind_ok (at_depth b i) (λ deep. read_here c i) r h in
    let q = bind_ok (name_free c i i.kind) (λ free. text_refused (reading_of c.scope (names_of c.env) i.span i.kind)) r p.2 in
    name_fresh c i i.kind r q.1 (text_ok (reading_of c.scope (names_of c.env) i.span i.kind) r q.2) e

-- what the item adds
legal_with : (b : Book) (name : List ℕ) (r : Reading) → IsLegalBook b → (IsEntry r → IsFresh name b.env) → HasDerivation b r → IsLegalBook (with_item name r b)
legal_with b name (Flag type) l fresh h = ◌⨾◌⊢◌∶◌.weak h.is_sort l h.typed
legal_with b name (Prim type) l fresh h = ◌⨾◌⊢◌∶◌.def_prim h.is_sort refl (fresh tt) l h.typed
legal_with b name (Line body type) l fresh h = ◌⨾◌⊢◌∶◌.def HasBody.defined (fresh tt) l h

one_reading : (b : Book) (i : SurfaceItem) (r q : Reading) → read_item b i ≡ Ok r → read_item b i ≡ Ok q → q ≡ r
one_reading b i r q e f = cc

with_one : (b : Book) (i : SurfaceItem) (r : Reading) (n : ℕ) → IsLegalBook b → read_item b i ≡ Ok r → Verdicts b i Accepted n → IsLegalBook (item_book i r b)
with_one b i r n l e h =
    let d = verdict_derivable.derivable b i n l h in
    legal_with (closed i.bars b) i.name r (closed_legal i.bars b l) (entry_fresh b i r e)
    (subst (HasDerivation (closed i.bars b)) (one_reading b i r d.reading e d.read) d.derivation)

all_legal : {budget cost : ℕ} {start end : Book} {items : List SurfaceItem} {notes : List Note} → IsLegalBook start → Accepts budget start items notes end cost → IsLegalBook end
all_legal l none = l
all_legal {start = b} l (more {i = i} {n = n} r e v few rest) = all_legal (with_one b i r n l e v.is) rest

pub books_grow : BooksGrow
books_grow = record { with_one = with_one; with_all = λ budget items notes b cost h. all_legal ◌⨾◌⊢◌∶◌.sort h }
