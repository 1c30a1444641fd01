-- The grammar of tokens with others in place of the end.
use Rattle.std.proofs.Common.{◌≡◌, ℕ, true, List, [], ◌∷◌, ◌++◌, refl}
use Rattle.std.proofs.lemmas.Bool.{false≢true}
use Rattle.fb_lex.specs.declared.tokens.Kind.{Kind}
use Rattle.fb_lex.specs.declared.tokens.Kind.TheVariants as k
use Rattle.fb_lex.specs.TokenList.{Lexeme, sign}
use Rattle.fb_parse.specs.Grammar.{Surface, Surfaces, Term, App, Atoms, Atom, Terms, MoreTerms}
use Rattle.fb_parse.specs.Items.{SurfaceArg, SurfaceBody, SurfaceKind, SurfaceItem, ends_line, IsArg, MoreArgs, IsArgs, IsFilling, IsWay, IsBody, IsEntry, IsItem, IsLines}
use Rattle.fb_write.specs.Joined.{go_on, BooksJoin}

mutual
  term_on : {l n : ℕ} {ts r : List Lexeme} {a : Surface} {s e : ℕ} (m : List Lexeme) → Term l n ts a s e r → Term l n (go_on m ts) a s e (go_on m r)
  term_on m (Term.fun f p q) = Term.fun f (term_on m p) (term_on m q)
  term_on m (Term.all f p q) = Term.all f (term_on m p) (term_on m q)
  term_on m (Term.arrow f p q) = Term.arrow f (app_on m p) (term_on m q)
  term_on m (Term.app f p) = Term.app f (app_on m p)

  app_on : {l n : ℕ} {ts r : List Lexeme} {a : Surface} {s e : ℕ} (m : List Lexeme) → App l n ts a s e r → App l n (go_on m ts) a s e (go_on m r)
  app_on m (App.atoms p q) = App.atoms (atom_on m p) (atoms_on m q)

  atoms_on : {l n b : ℕ} {ts r : List Lexeme} {xs : Surfaces} {e : ℕ} (m : List Lexeme) → Atoms l n b ts xs e r → Atoms l n b (go_on m ts) xs e (go_on m r)
  atoms_on m Atoms.no_more = Atoms.no_more
  atoms_on m (Atoms.one_more p q) = Atoms.one_more (atom_on m p) (atoms_on m q)

  atom_on : {l n : ℕ} {ts r : List Lexeme} {a : Surface} {s e : ℕ} (m : List Lexeme) → Atom l n ts a s e r → Atom l n (go_on m ts) a s e (go_on m r)
  atom_on m Atom.star = Atom.star
  atom_on m Atom.box = Atom.box
  atom_on m Atom.named = Atom.named
  atom_on m (Atom.instance p) = Atom.instance (terms_on m p)
  atom_on m (Atom.parentheses p) = Atom.parentheses (term_on m p)

  terms_on : {l n : ℕ} {ts r : List Lexeme} {xs : Surfaces} {s e : ℕ} (m : List Lexeme) → Terms l n ts xs s e r → Terms l n (go_on m ts) xs s e (go_on m r)
  terms_on m (Terms.terms p q) = Terms.terms (term_on m p) (more_terms_on m q)

  more_terms_on : {l n b : ℕ} {ts r : List Lexeme} {xs : Surfaces} {e : ℕ} (m : List Lexeme) → MoreTerms l n b ts xs e r → MoreTerms l n b (go_on m ts) xs e (go_on m r)
  more_terms_on m MoreTerms.no_more_terms = MoreTerms.no_more_terms
  more_terms_on m (MoreTerms.comma p q) = MoreTerms.comma (term_on m p) (more_terms_on m q)

arg_on : {l : ℕ} {ts r : List Lexeme} {a : SurfaceArg} (m : List Lexeme) → IsArg l ts a r → IsArg l (go_on m ts) a (go_on m r)
arg_on m IsArg.hole = IsArg.hole
arg_on m (IsArg.given p) = IsArg.given (term_on m p)

more_args_on : {l : ℕ} {ts r : List Lexeme} {xs : List SurfaceArg} (m : List Lexeme) → MoreArgs l ts xs r → MoreArgs l (go_on m ts) xs (go_on m r)
more_args_on m MoreArgs.no_more_args = MoreArgs.no_more_args
more_args_on m (MoreArgs.comma p q) = MoreArgs.comma (arg_on m p) (more_args_on m q)

filling_on : {l : ℕ} {ts r : List Lexeme} {xs : List SurfaceArg} (m : List Lexeme) → IsFilling l ts xs r → IsFilling l (go_on m ts) xs (go_on m r)
filling_on m IsFilling.nothing = IsFilling.nothing
filling_on m (IsFilling.listed (IsArgs.args p q)) = IsFilling.listed (IsArgs.args (arg_on m p) (more_args_on m q))

way_on : {l : ℕ} {ts r : List Lexeme} {b : SurfaceBody} (m : List Lexeme) → IsWay l ts b r → IsWay l (go_on m ts) b (go_on m r)
way_on m (IsWay.intro g) = IsWay.intro g
way_on m (IsWay.elimination g p q) = IsWay.elimination g (term_on m p) (terms_on m q)
way_on m (IsWay.same g p) = IsWay.same g (term_on m p)
way_on m (IsWay.fill g p) = IsWay.fill g (filling_on m p)

body_on : {l : ℕ} {ts r : List Lexeme} {b : SurfaceBody} (m : List Lexeme) → IsBody l ts b r → IsBody l (go_on m ts) b (go_on m r)
body_on m (IsBody.plain p) = IsBody.plain (term_on m p)
body_on m (IsBody.by p) = IsBody.by (way_on m p)

entry_on : {l : ℕ} {ts r : List Lexeme} {kind : SurfaceKind} {e : ℕ} (m : List Lexeme) → IsEntry l ts kind e r → IsEntry l (go_on m ts) kind e (go_on m r)
entry_on m (IsEntry.primitive p) = IsEntry.primitive (term_on m p)
entry_on m (IsEntry.line p q) = IsEntry.line (body_on m p) (term_on m q)

item_on : {l b : ℕ} {ts r : List Lexeme} {i : SurfaceItem} (m : List Lexeme) → IsItem l b ts i r → IsItem l b (go_on m ts) i (go_on m r)
item_on m (IsItem.flag p) = IsItem.flag (term_on m p)
item_on m (IsItem.entry p) = IsItem.entry (entry_on m p)

-- behind an item stands its line feed still, or the new one
behind_item : {l b : ℕ} {ts : List Lexeme} {i : SurfaceItem} {is : List SurfaceItem} (t f s e : ℕ) (us vs : List Lexeme) (kind : Kind) → ends_line kind ≡ true →
    IsItem l b ts i (go_on (sign k.Newline t f ∷ us) (sign kind s e ∷ vs)) → IsLines l b (go_on (sign k.Newline t f ∷ us) (sign kind s e ∷ vs)) is [] → IsLines l b ts (i ∷ is) []
behind_item t f s e us vs k.Newline h p q = IsLines.item p refl q
behind_item t f s e us vs k.End h p q = IsLines.item p refl q
behind_item t f s e us vs _ h p q = absurd (false≢true h)

lines_on : {l b : ℕ} {ts us r : List Lexeme} {is others : List SurfaceItem} (t f : ℕ) → IsLines l 0 us others [] → IsLines l b ts is r → IsLines l b (go_on (sign k.Newline t f ∷ us) ts) (is ++ others) []
lines_on t f h IsLines.end = IsLines.next_line h
lines_on t f h (IsLines.bar p) = IsLines.bar (lines_on t f h p)
lines_on t f h (IsLines.next_line p) = IsLines.next_line (lines_on t f h p)
lines_on {us = us} t f h (IsLines.item {s = s} {e = e} {kind = kind} {us = vs} p g q) = behind_item t f s e us vs kind g (item_on (sign k.Newline t f ∷ us) p) (lines_on t f h q)

pub books_join : BooksJoin
books_join l s e ts us items others p q = lines_on s e q p
