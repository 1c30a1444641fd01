-- A reading with no term nested too deeply before one place has none before an earlier place.
use Rattle.std.proofs.Common.{ℕ, ◌≤◌, List, arith}
use Rattle.fb_lex.specs.TokenList.{Lexeme}
use Rattle.fb_parse.specs.Grammar.{Surface, Surfaces, Fits, Term, App, Atoms, Atom, Terms, MoreTerms}
use Rattle.fb_parse.specs.Items.{SurfaceArg, SurfaceBody, SurfaceKind, SurfaceItem, IsArg, MoreArgs, IsArgs, IsFilling, IsWay, IsBody, IsEntry, IsItem, IsLines}

fits_before : {l m n at : ℕ} → m ≤ l → Fits l n at → Fits m n at
fits_before h f = λ b. f (omega (arith, h, b))

mutual
  pub term_before : {l m n : ℕ} {ts r : List Lexeme} {a : Surface} {s e : ℕ} → m ≤ l → Term l n ts a s e r → Term m n ts a s e r
  term_before h (Term.fun f p q) = Term.fun (fits_before h f) (term_before h p) (term_before h q)
  term_before h (Term.all f p q) = Term.all (fits_before h f) (term_before h p) (term_before h q)
  term_before h (Term.arrow f p q) = Term.arrow (fits_before h f) (app_before h p) (term_before h q)
  term_before h (Term.app f p) = Term.app (fits_before h f) (app_before h p)

  app_before : {l m n : ℕ} {ts r : List Lexeme} {a : Surface} {s e : ℕ} → m ≤ l → App l n ts a s e r → App m n ts a s e r
  app_before h (App.atoms p q) = App.atoms (atom_before h p) (atoms_before h q)

  atoms_before : {l m n b : ℕ} {ts r : List Lexeme} {xs : Surfaces} {e : ℕ} → m ≤ l → Atoms l n b ts xs e r → Atoms m n b ts xs e r
  atoms_before h Atoms.no_more = Atoms.no_more
  atoms_before h (Atoms.one_more p q) = Atoms.one_more (atom_before h p) (atoms_before h q)

  atom_before : {l m n : ℕ} {ts r : List Lexeme} {a : Surface} {s e : ℕ} → m ≤ l → Atom l n ts a s e r → Atom m n ts a s e r
  atom_before h Atom.star = Atom.star
  atom_before h Atom.box = Atom.box
  atom_before h Atom.named = Atom.named
  atom_before h (Atom.instance p) = Atom.instance (terms_before h p)
  atom_before h (Atom.parentheses p) = Atom.parentheses (term_before h p)

  terms_before : {l m n : ℕ} {ts r : List Lexeme} {xs : Surfaces} {s e : ℕ} → m ≤ l → Terms l n ts xs s e r → Terms m n ts xs s e r
  terms_before h (Terms.terms p q) = Terms.terms (term_before h p) (more_terms_before h q)

  more_terms_before : {l m n b : ℕ} {ts r : List Lexeme} {xs : Surfaces} {e : ℕ} → m ≤ l → MoreTerms l n b ts xs e r → MoreTerms m n b ts xs e r
  more_terms_before h MoreTerms.no_more_terms = MoreTerms.no_more_terms
  more_terms_before h (MoreTerms.comma p q) = MoreTerms.comma (term_before h p) (more_terms_before h q)

arg_before : {l m : ℕ} {ts r : List Lexeme} {a : SurfaceArg} → m ≤ l → IsArg l ts a r → IsArg m ts a r
arg_before h IsArg.hole = IsArg.hole
arg_before h (IsArg.given p) = IsArg.given (term_before h p)

more_args_before : {l m : ℕ} {ts r : List Lexeme} {xs : List SurfaceArg} → m ≤ l → MoreArgs l ts xs r → MoreArgs m ts xs r
more_args_before h MoreArgs.no_more_args = MoreArgs.no_more_args
more_args_before h (MoreArgs.comma p q) = MoreArgs.comma (arg_before h p) (more_args_before h q)

args_before : {l m : ℕ} {ts r : List Lexeme} {xs : List SurfaceArg} → m ≤ l → IsArgs l ts xs r → IsArgs m ts xs r
args_before h (IsArgs.args p q) = IsArgs.args (arg_before h p) (more_args_before h q)

filling_before : {l m : ℕ} {ts r : List Lexeme} {xs : List SurfaceArg} → m ≤ l → IsFilling l ts xs r → IsFilling m ts xs r
filling_before h IsFilling.nothing = IsFilling.nothing
filling_before h (IsFilling.listed p) = IsFilling.listed (args_before h p)

way_before : {l m : ℕ} {ts r : List Lexeme} {b : SurfaceBody} → m ≤ l → IsWay l ts b r → IsWay m ts b r
way_before h (IsWay.intro g) = IsWay.intro g
way_before h (IsWay.elimination g p q) = IsWay.elimination g (term_before h p) (terms_before h q)
way_before h (IsWay.same g p) = IsWay.same g (term_before h p)
way_before h (IsWay.fill g p) = IsWay.fill g (filling_before h p)

body_before : {l m : ℕ} {ts r : List Lexeme} {b : SurfaceBody} → m ≤ l → IsBody l ts b r → IsBody m ts b r
body_before h (IsBody.plain p) = IsBody.plain (term_before h p)
body_before h (IsBody.by p) = IsBody.by (way_before h p)

entry_before : {l m : ℕ} {ts r : List Lexeme} {kind : SurfaceKind} {e : ℕ} → m ≤ l → IsEntry l ts kind e r → IsEntry m ts kind e r
entry_before h (IsEntry.primitive p) = IsEntry.primitive (term_before h p)
entry_before h (IsEntry.line p q) = IsEntry.line (body_before h p) (term_before h q)

item_before : {l m b : ℕ} {ts r : List Lexeme} {i : SurfaceItem} → m ≤ l → IsItem l b ts i r → IsItem m b ts i r
item_before h (IsItem.flag p) = IsItem.flag (term_before h p)
item_before h (IsItem.entry p) = IsItem.entry (entry_before h p)

pub lines_before : {l m b : ℕ} {ts r : List Lexeme} {is : List SurfaceItem} → m ≤ l → IsLines l b ts is r → IsLines m b ts is r
lines_before h IsLines.end = IsLines.end
lines_before h (IsLines.bar p) = IsLines.bar (lines_before h p)
lines_before h (IsLines.next_line p) = IsLines.next_line (lines_before h p)
lines_before h (IsLines.item p g q) = IsLines.item (item_before h p) g (lines_before h q)
