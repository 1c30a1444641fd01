-- A term that some tokens of a text give is writable: each of its parts at the nesting that its canonical text gives it, which is at
-- most the one in that text.
use Rattle.std.proofs.Common.{ℕ, ◌<◌, ◌≤◌, List, arith}
use Rattle.fb_base.specs.declared.places.Span.{Span}
use Rattle.fb_lex.specs.TokenList.{Lexeme}
use Rattle.fb_parse.specs.Grammar.{Surface, Surfaces, Star, Box_, Name, Inst, Apply, Fun, All, Arrow, none, more, applied, Term, App, Atoms, Atom, Terms, MoreTerms}
use Rattle.fb_write.specs.Canonical.{is_open_ended, is_compound}
use Rattle.fb_write.specs.Writable.{inside, IsWritable, AreWritable, AreArguments}
use Rattle.fb_write.proofs.Names.{AreGiven}
use Rattle.fb_write.proofs.Less.{inside_within, inside_from, writable_less}

-- where an application starts, a token does
atom_start : {l n : ℕ} {ts r : List Lexeme} {a : Surface} {s e : ℕ} → AreGiven l ts → Atom l n ts a s e r → s < l
atom_start g Atom.star = g.0
atom_start g Atom.box = g.0
atom_start g Atom.named = g.0
atom_start g (Atom.instance p) = g.0
atom_start g (Atom.parentheses p) = g.0

app_start : {l n : ℕ} {ts r : List Lexeme} {a : Surface} {s e : ℕ} → AreGiven l ts → App l n ts a s e r → s < l
app_start g (App.atoms p u) = atom_start g p

-- one atom, or an application
one_or_more : {n : ℕ} (s : Span) (f : Surface) (xs : Surfaces) → n ≤ 500 → IsWritable (inside (is_compound f) n) f → AreArguments n xs →
    IsWritable (inside (is_open_ended (applied s f xs)) n) (applied s f xs)
one_or_more s (Star at) none l h hs = h
one_or_more s (Box_ at) none l h hs = h
one_or_more s (Name at x) none l h hs = h
one_or_more s (Inst at x us) none l h hs = h
one_or_more {n} s (Apply at f us) none l h hs = writable_less (omega arith) h
one_or_more s (Fun at x a m) none l h hs = h
one_or_more s (All at x a m) none l h hs = h
one_or_more s (Arrow at a m) none l h hs = h
one_or_more s f (more a us) l h hs = IsWritable.apply l h hs

-- Each part that is read is writable, and what is left is given.
mutual
  pub term_given : {l n : ℕ} {ts r : List Lexeme} {a : Surface} {s e : ℕ} → AreGiven l ts → Term l n ts a s e r → IsWritable n a × AreGiven l r
  term_given g (Term.fun f p q) =
      let domain = term_given g.1.2.1 p in
      let body = term_given domain.1.1 q in
      (IsWritable.fun (f g.0) g.1.1 domain.0 body.0, body.1)
  term_given g (Term.all f p q) =
      let domain = term_given g.1.2.1 p in
      let body = term_given domain.1.1 q in
      (IsWritable.all (f g.0) g.1.1 domain.0 body.0, body.1)
  term_given g (Term.arrow f p q) =
      let le = f (app_start g p) in
      let left = app_given le g p in
      let range = term_given left.1.1 q in
      (IsWritable.arrow le left.0 range.0, range.1)
  term_given {n = n} {a = a} g (Term.app f p) =
      let le = f (app_start g p) in
      let one = app_given le g p in
      (writable_less (inside_from (is_open_ended a) n) one.0, one.1)

  app_given : {l n : ℕ} {ts r : List Lexeme} {a : Surface} {s e : ℕ} → n ≤ 500 → AreGiven l ts → App l n ts a s e r → IsWritable (inside (is_open_ended a) n) a × AreGiven l r
  app_given le g (App.atoms {f = f} {xs = xs} p q) =
      let head = atom_given le g p in
      let args = atoms_given le head.1 q in
      (one_or_more _ f xs le head.0 args.0, args.1)

  atoms_given : {l n b : ℕ} {ts r : List Lexeme} {xs : Surfaces} {e : ℕ} → n ≤ 500 → AreGiven l ts → Atoms l n b ts xs e r → AreArguments n xs × AreGiven l r
  atoms_given le g Atoms.no_more = (AreArguments.no_argument, g)
  atoms_given le g (Atoms.one_more p q) =
      let first = atom_given le g p in
      let others = atoms_given le first.1 q in
      (AreArguments.argument first.0 others.0, others.1)

  atom_given : {l n : ℕ} {ts r : List Lexeme} {a : Surface} {s e : ℕ} → n ≤ 500 → AreGiven l ts → Atom l n ts a s e r → IsWritable (inside (is_compound a) n) a × AreGiven l r
  atom_given le g Atom.star = (IsWritable.star le, g.1)
  atom_given le g Atom.box = (IsWritable.box le, g.1)
  atom_given le g Atom.named = (IsWritable.named le g.1, g.2)
  atom_given le g (Atom.instance (Terms.terms p q)) =
      let first = term_given g.2.1 p in
      let others = more_given first.1 q in
      (IsWritable.instance le g.1 first.0 others.0, others.1.1)
  atom_given {n = n} {a = a} le g (Atom.parentheses p) =
      let one = term_given g.1 p in
      (writable_less (inside_within (is_compound a) n) one.0, one.1.1)

  pub more_given : {l n b : ℕ} {ts r : List Lexeme} {xs : Surfaces} {e : ℕ} → AreGiven l ts → MoreTerms l n b ts xs e r → AreWritable n xs × AreGiven l r
  more_given g MoreTerms.no_more_terms = (AreWritable.nothing, g)
  more_given g (MoreTerms.comma p q) =
      let first = term_given g.1 p in
      let others = more_given first.1 q in
      (AreWritable.term first.0 others.0, others.1)
