-- The pieces of a writable term are read as it, spans aside.
use Rattle.std.proofs.Common.{◌≡◌, ℕ, ◌+◌, ◌≤◌, Bool, true, false, List, ◌∷◌, length, refl, ap, ◌∙◌, sym}
use Rattle.std.specs.Prelude.{codes}
use Rattle.std.proofs.lemmas.Bool.{false≢true}
use Rattle.fb_base.specs.declared.places.Span.{Span}
use Rattle.fb_lex.specs.declared.tokens.Kind.TheVariants as k
use Rattle.fb_lex.specs.TokenList.{Lexeme}
use Rattle.fb_parse.specs.Grammar.{Surface, Surfaces, Star, Box_, Name, Inst, Apply, Fun, All, Arrow, none, more, span, applied, Term, App, Atoms, Atom, Terms, MoreTerms}
use Rattle.fb_write.specs.Canonical.{is_open_ended, is_compound, nowhere, bare, all_bare}
use Rattle.fb_write.specs.Writable.{inside, IsWritable, AreWritable, AreArguments}
use Rattle.fb_write.proofs.Pieces.{Piece, piece, gap, placed}
use Rattle.fb_write.proofs.Spelled.{opened, inner, closed, term_pieces, more_pieces, args_pieces}

-- A front of the tokens is the tree, spans aside, and the pieces of the rest are left.
pub record TermBack (l n : ℕ) (ts : List Lexeme) (t : Surface) (rest : List Piece) : Type 0 where
  pub tree : Surface
  pub start : ℕ
  pub end : ℕ
  pub at : ℕ
  pub reads : Term l n ts tree start end (placed at rest)
  pub same : bare tree ≡ bare t

pub record AppBack (l n : ℕ) (ts : List Lexeme) (t : Surface) (rest : List Piece) : Type 0 where
  pub tree : Surface
  pub start : ℕ
  pub end : ℕ
  pub at : ℕ
  pub reads : App l n ts tree start end (placed at rest)
  pub same : bare tree ≡ bare t

pub record AtomBack (l n : ℕ) (ts : List Lexeme) (t : Surface) (rest : List Piece) : Type 0 where
  pub tree : Surface
  pub start : ℕ
  pub end : ℕ
  pub at : ℕ
  pub reads : Atom l n ts tree start end (placed at rest)
  pub same : bare tree ≡ bare t

record AtomsBack (l n b : ℕ) (ts : List Lexeme) (us : Surfaces) (rest : List Piece) : Type 0 where
  pub trees : Surfaces
  pub end : ℕ
  pub at : ℕ
  pub reads : Atoms l n b ts trees end (placed at rest)
  pub same : all_bare trees ≡ all_bare us

pub record MoreBack (l n b : ℕ) (ts : List Lexeme) (us : Surfaces) (rest : List Piece) : Type 0 where
  pub trees : Surfaces
  pub end : ℕ
  pub at : ℕ
  pub reads : MoreTerms l n b ts trees end (placed at rest)
  pub same : all_bare trees ≡ all_bare us

-- The tree is read back wherever it stands: as a term, and without parentheses of its own as an application or an atom, if it is one.
pub record IsBack (n : ℕ) (t : Surface) : Type 0 where
  pub term : (l q : ℕ) (sp : Bool) (rest : List Piece) → TermBack l n (placed q (term_pieces sp t rest)) t rest
  pub app : is_open_ended t ≡ false → (l q : ℕ) (sp : Bool) (rest : List Piece) → AppBack l n (placed q (term_pieces sp t rest)) t rest
  pub atom : is_compound t ≡ false → (l q : ℕ) (sp : Bool) (rest : List Piece) → AtomBack l n (placed q (term_pieces sp t rest)) t rest

pub two : {A B C : Type 0} (f : A → B → C) {a b : A} {c d : B} → a ≡ b → c ≡ d → f a c ≡ f b d
two f {a} {b} {c} {d} p q = ap (λ v. f v c) p ∙ ap (f b) q

app_of_atom : {l n : ℕ} {ts : List Lexeme} {t : Surface} {rest : List Piece} → AtomBack l n ts t rest → AppBack l n ts t rest
app_of_atom h = record { tree = h.tree; start = h.start; end = h.end; at = h.at; reads = App.atoms h.reads Atoms.no_more; same = h.same }

term_of_app : {l n : ℕ} {ts : List Lexeme} {t : Surface} {rest : List Piece} → n ≤ 500 → AppBack l n ts t rest → TermBack l n ts t rest
term_of_app le h = record { tree = h.tree; start = h.start; end = h.end; at = h.at; reads = Term.app (λ b. le) h.reads; same = h.same }

is_atom : {n : ℕ} {t : Surface} → n ≤ 500 → ((l q : ℕ) (sp : Bool) (rest : List Piece) → AtomBack l n (placed q (term_pieces sp t rest)) t rest) → IsBack n t
is_atom le h = record {
  term = λ l q sp rest. term_of_app le (app_of_atom (h l q sp rest));
  app = λ e l q sp rest. app_of_atom (h l q sp rest);
  atom = λ e. h;
}

is_app : {n : ℕ} {t : Surface} → n ≤ 500 → is_compound t ≡ true → ((l q : ℕ) (sp : Bool) (rest : List Piece) → AppBack l n (placed q (term_pieces sp t rest)) t rest) → IsBack n t
is_app le c h = record {
  term = λ l q sp rest. term_of_app le (h l q sp rest);
  app = λ e. h;
  atom = λ e. absurd (false≢true (sym e ∙ c));
}

is_term : {n : ℕ} {t : Surface} → is_open_ended t ≡ true → is_compound t ≡ true → ((l q : ℕ) (sp : Bool) (rest : List Piece) → TermBack l n (placed q (term_pieces sp t rest)) t rest) → IsBack n t
is_term o c h = record { term = h; app = λ e. absurd (false≢true (sym e ∙ o)); atom = λ e. absurd (false≢true (sym e ∙ c)) }

enclosed : {n : ℕ} {t : Surface} → IsBack (n + 1) t → (l q : ℕ) (sp : Bool) (rest : List Piece) → AtomBack l n (placed q (opened true sp (term_pieces false t (closed true rest)))) t rest
enclosed h l q sp rest =
    let b = h.term l (q + length (gap sp) + length (codes "(")) false (closed true rest) in
    record { tree = b.tree; start = q + length (gap sp); end = b.at + length (gap false) + length (codes ")"); at = b.at + length (gap false) + length (codes ")"); reads = Atom.parentheses b.reads; same = b.same }

atom_of : {n : ℕ} (c : Bool) {t : Surface} → is_compound t ≡ c → IsBack (inside c n) t → (l q : ℕ) (sp : Bool) (rest : List Piece) →
    AtomBack l n (placed q (opened c sp (term_pieces (inner c sp) t (closed c rest)))) t rest
atom_of true e h l q sp rest = enclosed h l q sp rest
atom_of false e h l q sp rest = h.atom e l q sp rest

left_of : {n : ℕ} (c : Bool) {t : Surface} → is_open_ended t ≡ c → IsBack (inside c n) t → (l q : ℕ) (sp : Bool) (rest : List Piece) →
    AppBack l n (placed q (opened c sp (term_pieces (inner c sp) t (closed c rest)))) t rest
left_of true e h l q sp rest = app_of_atom (enclosed h l q sp rest)
left_of false e h l q sp rest = h.app e l q sp rest

applied_bare : (s : Span) (f : Surface) (xs : Surfaces) (g a : Surface) (us : Surfaces) → bare f ≡ bare g → all_bare xs ≡ all_bare (more a us) → bare (applied s f xs) ≡ Apply nowhere (bare g) (all_bare (more a us))
applied_bare s f none g a us p q = cc
applied_bare s f (more x xs) g a us p q = two (Apply nowhere) p q

mutual
  pub term_back : {n : ℕ} {t : Surface} → IsWritable n t → IsBack n t
  term_back (IsWritable.star le) = is_atom le (λ l q sp rest.
      record { tree = Star (span (q + length (gap sp)) (q + length (gap sp) + 1)); start = q + length (gap sp); end = q + length (gap sp) + 1; at = q + length (gap sp) + 1; reads = Atom.star; same = refl })
  term_back (IsWritable.box le) = is_atom le (λ l q sp rest.
      record { tree = Box_ (span (q + length (gap sp)) (q + length (gap sp) + 3)); start = q + length (gap sp); end = q + length (gap sp) + 3; at = q + length (gap sp) + 3; reads = Atom.box; same = refl })
  term_back (IsWritable.named {x = x} le i) = is_atom le (λ l q sp rest.
      let s = q + length (gap sp) in
      record { tree = Name (span s (s + length x)) x; start = s; end = s + length x; at = s + length x; reads = Atom.named; same = refl })
  term_back (IsWritable.instance {x = x} {a = a} {us = us} le i h hs) = is_atom le (λ l q sp rest.
      let s = q + length (gap sp) in
      let first = (term_back h).term l (s + length x + length (gap false) + 1) false (more_pieces us (closed true rest)) in
      let others = more_back hs l first.at first.end (closed true rest) in
      let e = others.at + length (gap false) + 1 in
      record {
        tree = Inst (span s e) x (more first.tree others.trees);
        start = s;
        end = e;
        at = e;
        reads = Atom.instance (Terms.terms first.reads others.reads);
        same = ap (Inst nowhere x) (two more first.same others.same);
      })
  term_back (IsWritable.apply {s = s} {f = f} {a = a} {us = us} le h hs) = is_app le refl (λ l q sp rest.
      let head = atom_of (is_compound f) refl (term_back h) l q sp (args_pieces (more a us) rest) in
      let args = args_back hs l head.at head.end rest in
      record {
        tree = applied (span head.start args.end) head.tree args.trees;
        start = head.start;
        end = args.end;
        at = args.at;
        reads = App.atoms head.reads args.reads;
        same = applied_bare (span head.start args.end) head.tree args.trees f a us head.same args.same;
      })
  term_back (IsWritable.fun {x = x} {a = a} {m = m} le i h hs) = is_term refl refl (λ l q sp rest.
      let s = q + length (gap sp) in
      let domain = (term_back h).term l (s + 3 + 1 + length x + 1 + 1) true (piece true k.Dot (codes ".") ∷ term_pieces true m rest) in
      let body = (term_back hs).term l (domain.at + 1 + 1) true rest in
      record {
        tree = Fun (span s body.end) x domain.tree body.tree;
        start = s;
        end = body.end;
        at = body.at;
        reads = Term.fun (λ b. le) domain.reads body.reads;
        same = two (Fun nowhere x) domain.same body.same;
      })
  term_back (IsWritable.all {x = x} {a = a} {b = m} le i h hs) = is_term refl refl (λ l q sp rest.
      let s = q + length (gap sp) in
      let domain = (term_back h).term l (s + 3 + 1 + length x + 1 + 1) true (piece true k.Dot (codes ".") ∷ term_pieces true m rest) in
      let body = (term_back hs).term l (domain.at + 1 + 1) true rest in
      record {
        tree = All (span s body.end) x domain.tree body.tree;
        start = s;
        end = body.end;
        at = body.at;
        reads = Term.all (λ b. le) domain.reads body.reads;
        same = two (All nowhere x) domain.same body.same;
      })
  term_back (IsWritable.arrow {a = a} {b = m} le h hs) = is_term refl refl (λ l q sp rest.
      let left = left_of (is_open_ended a) refl (term_back h) l q sp (piece true k.Arrow (codes "->") ∷ term_pieces true m rest) in
      let range = (term_back hs).term l (left.at + 1 + 2) true rest in
      record {
        tree = Arrow (span left.start range.end) left.tree range.tree;
        start = left.start;
        end = range.end;
        at = range.at;
        reads = Term.arrow (λ b. le) left.reads range.reads;
        same = two (Arrow nowhere) left.same range.same;
      })

  pub more_back : {n : ℕ} {us : Surfaces} → AreWritable n us → (l q b : ℕ) (rest : List Piece) → MoreBack l n b (placed q (more_pieces us rest)) us rest
  more_back AreWritable.nothing l q b rest = record { trees = none; end = b; at = q; reads = MoreTerms.no_more_terms; same = refl }
  more_back (AreWritable.term {us = us} h hs) l q b rest =
      let first = (term_back h).term l (q + length (gap false) + 1) true (more_pieces us rest) in
      let others = more_back hs l first.at first.end rest in
      record { trees = more first.tree others.trees; end = others.end; at = others.at; reads = MoreTerms.comma first.reads others.reads; same = two more first.same others.same }

  args_back : {n : ℕ} {us : Surfaces} → AreArguments n us → (l q b : ℕ) (rest : List Piece) → AtomsBack l n b (placed q (args_pieces us rest)) us rest
  args_back AreArguments.no_argument l q b rest = record { trees = none; end = b; at = q; reads = Atoms.no_more; same = refl }
  args_back (AreArguments.argument {a = a} {us = us} h hs) l q b rest =
      let first = atom_of (is_compound a) refl (term_back h) l q true (args_pieces us rest) in
      let others = args_back hs l first.at first.end rest in
      record { trees = more first.tree others.trees; end = others.end; at = others.at; reads = Atoms.one_more first.reads others.reads; same = two more first.same others.same }
