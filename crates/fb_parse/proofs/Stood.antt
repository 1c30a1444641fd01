-- The spans and names of a tree lie in its text, since the tokens of the text lie one behind the other.
use Rattle.std.proofs.Common.{◌≡◌, ℕ, ◌-◌, ◌<◌, ◌≤◌, true, false, List, [], ◌∷◌, length, drop, Option, Some, refl, arith, length-drop}
use Rattle.std.specs.List.{AllByRecursion}
use Rattle.std.proofs.lemmas.Bool.{false≢true}
use Rattle.std.proofs.lemmas.List.{length-take}
use Rattle.fb_base.specs.declared.places.Span.{Span}
use Rattle.fb_lex.specs.declared.tokens.Kind.{Kind}
use Rattle.fb_lex.specs.declared.tokens.Kind.TheVariants as k
use Rattle.fb_lex.specs.declared.tokens.Token.{Token}
use Rattle.fb_lex.specs.Tokens.{IsName, is_end, is_name, end_of, between, IsNext}
use Rattle.fb_lex.specs.TokenList.{Lexeme, sign, name, seen, lexeme, TokensBehind, Ending}
use Rattle.fb_lex.proofs.Placed.{IsPlaced}
use Rattle.fb_lex.proofs.NextPlaced.{name_is, next_placed}
use Rattle.fb_lex.proofs.Names.{token_name}
use Rattle.fb_parse.specs.Grammar.{Surface, Surfaces, none, more, span, applied, Term, App, Atoms, Atom, Terms, MoreTerms}
use Rattle.fb_parse.specs.Items.{SurfaceArg, SurfaceBody, SurfaceKind, SurfaceItem, IsArg, MoreArgs, IsArgs, IsFilling, IsWay, IsBody, IsEntry, IsItem, IsLines}
use Rattle.fb_parse.specs.Standing.{IsNameBytes, LiesIn, HoldsName, count, TermStands, TermsStand, ArgStands, ArgsStand, BodyStands, KindStands, ItemStands, ItemsStand}
use Rattle.fb_parse.specs.Texts.{IsTermText, IsBookText}
use Rattle.fb_parse.specs.Laws.{ItemNamesAreSpelled}

-- from a place on, the tokens lie one behind the other in the text, and the names are those of their spans
abbrev Placed : List ℕ → ℕ → List Lexeme → Type 0
Placed text from [] = from ≤ length text
Placed text from (sign kind s e ∷ ts) = (from ≤ s) × (s ≤ e) × Placed text e ts
Placed text from (name x s e ∷ ts) = (from ≤ s) × (s ≤ e) × Placed text e ts × IsNameBytes x × (x ≡ between text s e)

placed_within : (text : List ℕ) (from : ℕ) (ts : List Lexeme) → Placed text from ts → from ≤ length text
placed_within text from [] p = p
placed_within text from (sign kind s e ∷ ts) p = let rest = placed_within text e ts p.2 in omega (arith, p.0, p.1, rest)
placed_within text from (name x s e ∷ ts) p = let rest = placed_within text e ts p.2 in omega (arith, p.0, p.1, rest)

between_length : (text : List ℕ) (s e : ℕ) → s ≤ e → e ≤ length text → length (between text s e) ≡ e - s
between_length text s e p q = omega (arith, length-take (e - s) (drop s text), length-drop s text)

name_bytes : (text : List ℕ) (prev : Option Token) (t : Token) → end_of prev ≤ length text → IsNext text prev t → IsPlaced text (end_of prev) t → is_name t.kind ≡ true → is_end t.kind ≡ false
    → IsNameBytes (between text t.span.start t.span.end)
name_bytes text prev t from n p named other =
    let l = between_length text t.span.start t.span.end p.ordered p.within in
    let w = p.wide other in
    let s = p.short named in
    record { spelled = token_name text prev t from n (name_is t.kind named); some = omega (arith, l, w); short = omega (arith, l, s); utf8 = p.utf8 named }

name_no_end : (kind : Kind) → is_name kind ≡ true → is_end kind ≡ false
name_no_end k.End h = absurd (false≢true h)
name_no_end _ h = refl

placed_lexeme : (text : List ℕ) (kind : Kind) (s e from : ℕ) (ts : List Lexeme) → from ≤ s → s ≤ e → (is_name kind ≡ true → IsNameBytes (between text s e)) → Placed text e ts → Placed text from (lexeme text kind s e ∷ ts)
placed_lexeme text k.Name s e from ts p q n r = (p, q, r, n refl, refl)
placed_lexeme text _ s e from ts p q n r = (p, q, r)

placed_seen : (text : List ℕ) (prev : Option Token) (t : Token) (ts : List Lexeme) → end_of prev ≤ length text → IsNext text prev t → IsPlaced text (end_of prev) t
    → Placed text t.span.end ts → Placed text (end_of prev) (seen text t ∷ ts)
placed_seen text prev t ts from n p r =
    placed_lexeme text t.kind t.span.start t.span.end (end_of prev) ts p.behind p.ordered (λ named. name_bytes text prev t from n p named (name_no_end t.kind named)) r

pub tokens_placed : {text : List ℕ} {prev : Option Token} {ts : List Lexeme} {e : Ending} → end_of prev ≤ length text → TokensBehind text prev ts e → Placed text (end_of prev) ts
tokens_placed {text} {prev} within (TokensBehind.last {t = t} n h) = let p = next_placed text prev t within n in placed_seen text prev t [] within n p p.within
tokens_placed {text} {prev} within (TokensBehind.more {t = t} n h r) = let p = next_placed text prev t within n in placed_seen text prev t _ within n p (tokens_placed {prev = Some t} p.within r)
tokens_placed within (TokensBehind.fault i) = within

-- A part from one place to another, what it says, and the tokens behind it.
record Stood (text : List ℕ) (from s e : ℕ) (P : Type 0) (rest : List Lexeme) : Type 0 where
  behind : from ≤ s
  ordered : s ≤ e
  within : e ≤ length text
  part : P
  next : Placed text e rest

lies : (text : List ℕ) (s e : ℕ) → s ≤ e → e ≤ length text → LiesIn text (span s e)
lies text s e p q = record { ordered = p; within = q }

applied_stands : (text : List ℕ) (s : Span) (f : Surface) (xs : Surfaces) → LiesIn text s → TermStands text f → TermsStand text xs → TermStands text (applied s f xs)
applied_stands text s f none p q r = q
applied_stands text s f (more x xs) p q r = (p, q, r, omega arith)

mutual
  term_stands : {text : List ℕ} {from l n : ℕ} {ts rest : List Lexeme} {a : Surface} {s e : ℕ} → Term l n ts a s e rest → Placed text from ts → Stood text from s e (TermStands text a) rest
  term_stands {text} (Term.fun {s = s} {e5 = e5} f t u) p =
      let x = p.2 in
      let c = x.2 in
      let a = term_stands t c.2 in
      let d = a.next in
      let b = term_stands u d.2 in
      let le : s ≤ e5 = omega (arith, p.1, x.0, x.1, c.0, c.1, a.behind, a.ordered, d.0, d.1, b.behind, b.ordered) in
      record { behind = p.0; ordered = le; within = b.within; part = (lies text _ _ le b.within, x.3, a.part, b.part); next = b.next }
  term_stands {text} (Term.all {s = s} {e5 = e5} f t u) p =
      let x = p.2 in
      let c = x.2 in
      let a = term_stands t c.2 in
      let d = a.next in
      let b = term_stands u d.2 in
      let le : s ≤ e5 = omega (arith, p.1, x.0, x.1, c.0, c.1, a.behind, a.ordered, d.0, d.1, b.behind, b.ordered) in
      record { behind = p.0; ordered = le; within = b.within; part = (lies text _ _ le b.within, x.3, a.part, b.part); next = b.next }
  term_stands {text} (Term.arrow {s = s} {e2 = e2} f t u) p =
      let a = app_stands t p in
      let d = a.next in
      let b = term_stands u d.2 in
      let le : s ≤ e2 = omega (arith, a.ordered, d.0, d.1, b.behind, b.ordered) in
      record { behind = a.behind; ordered = le; within = b.within; part = (lies text _ _ le b.within, a.part, b.part); next = b.next }
  term_stands (Term.app f t) p = app_stands t p

  app_stands : {text : List ℕ} {from l n : ℕ} {ts rest : List Lexeme} {a : Surface} {s e : ℕ} → App l n ts a s e rest → Placed text from ts → Stood text from s e (TermStands text a) rest
  app_stands {text} {s = s} {e = e} (App.atoms {f = f} {xs = xs} t us) p =
      let a = atom_stands t p in
      let b = atoms_stand us a.next in
      let le : s ≤ e = omega (arith, a.ordered, b.ordered) in
      record { behind = a.behind; ordered = le; within = b.within; part = applied_stands text (span s e) f xs (lies text s e le b.within) a.part b.part; next = b.next }

  atoms_stand : {text : List ℕ} {b l n : ℕ} {ts rest : List Lexeme} {xs : Surfaces} {e : ℕ} → Atoms l n b ts xs e rest → Placed text b ts → Stood text b b e (TermsStand text xs) rest
  atoms_stand {text} {b} {ts = ts} Atoms.no_more p = record { behind = omega arith; ordered = omega arith; within = placed_within text b ts p; part = tt; next = p }
  atoms_stand (Atoms.one_more t us) p =
      let a = atom_stands t p in
      let r = atoms_stand us a.next in
      record { behind = omega arith; ordered = omega (arith, a.behind, a.ordered, r.ordered); within = r.within; part = (a.part, r.part); next = r.next }

  atom_stands : {text : List ℕ} {from l n : ℕ} {ts rest : List Lexeme} {a : Surface} {s e : ℕ} → Atom l n ts a s e rest → Placed text from ts → Stood text from s e (TermStands text a) rest
  atom_stands {text} (Atom.star {s = s} {e = e} {rest = rest}) p = let w = placed_within text e rest p.2 in record { behind = p.0; ordered = p.1; within = w; part = lies text s e p.1 w; next = p.2 }
  atom_stands {text} (Atom.box {s = s} {e = e} {rest = rest}) p = let w = placed_within text e rest p.2 in record { behind = p.0; ordered = p.1; within = w; part = lies text s e p.1 w; next = p.2 }
  atom_stands {text} (Atom.named {s = s} {e = e} {rest = rest}) p = let w = placed_within text e rest p.2 in record { behind = p.0; ordered = p.1; within = w; part = (lies text s e p.1 w, p.3); next = p.2 }
  atom_stands {text} (Atom.instance {s = s} {e3 = e3} {rest = rest} t) p =
      let c = p.2 in
      let r = terms_stand t c.2 in
      let d = r.next in
      let w = placed_within text e3 rest d.2 in
      let le : s ≤ e3 = omega (arith, p.1, c.0, c.1, r.behind, r.ordered, d.0, d.1) in
      record { behind = p.0; ordered = le; within = w; part = (lies text _ e3 le w, p.3, r.part.0, r.part.1); next = d.2 }
  atom_stands {text} (Atom.parentheses {e2 = e2} {rest = rest} t) p =
      let r = term_stands t p.2 in
      let d = r.next in
      let w = placed_within text e2 rest d.2 in
      record { behind = p.0; ordered = omega (arith, p.1, r.behind, r.ordered, d.0, d.1); within = w; part = r.part; next = d.2 }

  terms_stand : {text : List ℕ} {from l n : ℕ} {ts rest : List Lexeme} {xs : Surfaces} {s e : ℕ} → Terms l n ts xs s e rest → Placed text from ts → Stood text from s e (TermsStand text xs × (0 < count xs)) rest
  terms_stand (Terms.terms t us) p =
      let a = term_stands t p in
      let r = more_stand us a.next in
      record { behind = a.behind; ordered = omega (arith, a.ordered, r.ordered); within = r.within; part = ((a.part, r.part), omega arith); next = r.next }

  more_stand : {text : List ℕ} {b l n : ℕ} {ts rest : List Lexeme} {xs : Surfaces} {e : ℕ} → MoreTerms l n b ts xs e rest → Placed text b ts → Stood text b b e (TermsStand text xs) rest
  more_stand {text} {b} {ts = ts} MoreTerms.no_more_terms p = record { behind = omega arith; ordered = omega arith; within = placed_within text b ts p; part = tt; next = p }
  more_stand (MoreTerms.comma t us) p =
      let a = term_stands t p.2 in
      let r = more_stand us a.next in
      record { behind = omega arith; ordered = omega (arith, p.0, p.1, a.behind, a.ordered, r.ordered); within = r.within; part = (a.part, r.part); next = r.next }

-- Items.
-- A part that says something, and the tokens behind it from some place on.
record Left (text : List ℕ) (from : ℕ) (P : Type 0) (rest : List Lexeme) : Type 0 where
  end : ℕ
  behind : from ≤ end
  part : P
  next : Placed text end rest

arg_stands : {text : List ℕ} {from l : ℕ} {ts rest : List Lexeme} {a : SurfaceArg} → IsArg l ts a rest → Placed text from ts → Left text from (ArgStands text a) rest
arg_stands {text} (IsArg.hole {s = s} {e = e} {rest = rest}) p = record { end = e; behind = omega (arith, p.0, p.1); part = lies text s e p.1 (placed_within text e rest p.2); next = p.2 }
arg_stands (IsArg.given t) p = let a = term_stands t p in record { end = _; behind = omega (arith, a.behind, a.ordered); part = a.part; next = a.next }

arg_before : {text : List ℕ} {from s e : ℕ} (x : SurfaceArg) (xs : List SurfaceArg) {mid rest : List Lexeme} → from ≤ s → s ≤ e → (a : Left text e (ArgStands text x) mid) → Left text a.end (ArgsStand text xs) rest → Left text from (ArgsStand text (x ∷ xs)) rest
arg_before x xs p q a r = record { end = r.end; behind = omega (arith, p, q, a.behind, r.behind); part = (a.part, r.part); next = r.next }

more_args_stand : {text : List ℕ} {l : ℕ} (from : ℕ) {ts rest : List Lexeme} {xs : List SurfaceArg} → MoreArgs l ts xs rest → Placed text from ts → Left text from (ArgsStand text xs) rest
more_args_stand from MoreArgs.no_more_args p = record { end = from; behind = omega arith; part = tt; next = p }
more_args_stand {text} from (MoreArgs.comma {e = e} {us = mid} {a = x} {xs = xs} t us) p =
    let a : Left text e (ArgStands text x) mid = arg_stands t p.2 in
    arg_before x xs p.0 p.1 a (more_args_stand a.end us a.next)

args_stand : {text : List ℕ} {from l : ℕ} {ts rest : List Lexeme} {xs : List SurfaceArg} → IsArgs l ts xs rest → Placed text from ts → Left text from (ArgsStand text xs) rest
args_stand (IsArgs.args t us) p =
    let a = arg_stands t p in
    let r = more_args_stand a.end us a.next in
    record { end = r.end; behind = omega (arith, a.behind, r.behind); part = (a.part, r.part); next = r.next }

filling_stands : {text : List ℕ} {from l : ℕ} {ts rest : List Lexeme} {xs : List SurfaceArg} → IsFilling l ts xs rest → Placed text from ts → Left text from (ArgsStand text xs) rest
filling_stands {from = from} IsFilling.nothing p = record { end = from; behind = omega arith; part = tt; next = p }
filling_stands (IsFilling.listed {e1 = e1} t) p =
    let a = args_stand t p.2 in
    let d = a.next in
    record { end = e1; behind = omega (arith, p.0, p.1, a.behind, d.0, d.1); part = a.part; next = d.2 }

holds : (text : List ℕ) (s e : ℕ) (x : List ℕ) (rest : List Lexeme) (from : ℕ) → Placed text from (name x s e ∷ rest) → HoldsName text (span s e) x
holds text s e x rest from p = record { lies = lies text s e p.1 (placed_within text e rest p.2); bytes = p.4; name = p.3 }

way_stands : {text : List ℕ} {from l : ℕ} {ts rest : List Lexeme} {b : SurfaceBody} → IsWay l ts b rest → Placed text from ts → Left text from (BodyStands text b) rest
way_stands {text} (IsWay.intro {e = e} {s1 = s1} {e1 = e1} {x = x} {rest = rest} o) p =
    let c = p.2 in
    record { end = e1; behind = omega (arith, p.0, p.1, c.0, c.1); part = holds text s1 e1 x rest e c; next = c.2 }
way_stands (IsWay.elimination o t us) p =
    let a = term_stands t p.2 in
    let d = a.next in
    let r = terms_stand us d.2 in
    let n = r.part.1 in
    record { end = _; behind = omega (arith, p.0, p.1, a.behind, a.ordered, d.0, d.1, r.behind, r.ordered); part = ((a.part, r.part.0), omega (arith, n)); next = r.next }
way_stands (IsWay.same o t) p = let a = term_stands t p.2 in record { end = _; behind = omega (arith, p.0, p.1, a.behind, a.ordered); part = a.part; next = a.next }
way_stands {text} (IsWay.fill {e = e} {s1 = s1} {e1 = e1} {c = x} {ts = ts} o t) p =
    let c = p.2 in
    let a = filling_stands t c.2 in
    record { end = a.end; behind = omega (arith, p.0, p.1, c.0, c.1, a.behind); part = (holds text s1 e1 x ts e c, a.part); next = a.next }

body_stands : {text : List ℕ} {from l : ℕ} {ts rest : List Lexeme} {b : SurfaceBody} → IsBody l ts b rest → Placed text from ts → Left text from (BodyStands text b) rest
body_stands (IsBody.plain t) p = let a = term_stands t p in record { end = _; behind = omega (arith, a.behind, a.ordered); part = a.part; next = a.next }
body_stands (IsBody.by w) p = let a = way_stands w p.2 in record { end = a.end; behind = omega (arith, p.0, p.1, a.behind); part = a.part; next = a.next }

entry_stands : {text : List ℕ} {from l e : ℕ} {ts rest : List Lexeme} {kind : SurfaceKind} → IsEntry l ts kind e rest → Placed text from ts → Stood text from from e (KindStands text kind) rest
entry_stands (IsEntry.primitive t) p =
    let c = p.2 in
    let a = term_stands t c.2 in
    record { behind = omega arith; ordered = omega (arith, p.0, p.1, c.0, c.1, a.behind, a.ordered); within = a.within; part = a.part; next = a.next }
entry_stands (IsEntry.line b t) p =
    let r = body_stands b p in
    let c = r.next in
    let a = term_stands t c.2 in
    record { behind = omega arith; ordered = omega (arith, r.behind, c.0, c.1, a.behind, a.ordered); within = a.within; part = (r.part, a.part); next = a.next }

item_stands : {text : List ℕ} {from l b : ℕ} {ts rest : List Lexeme} {i : SurfaceItem} → IsItem l b ts i rest → Placed text from ts → Left text from (ItemStands text i) rest
item_stands {text} (IsItem.flag {s = s} {e = e} {s1 = s1} {e1 = e1} {s2 = s2} {e2 = e2} {e4 = e4} {x = x} {ts = ts} {rest = rest} t) p =
    let n = p.2 in
    let c = n.2 in
    let a = term_stands t c.2 in
    let d = a.next in
    let le : s ≤ e4 = omega (arith, p.1, n.0, n.1, c.0, c.1, a.behind, a.ordered, d.0, d.1) in
    record {
      end = e4;
      behind = omega (arith, p.0, le);
      part = record { lies = lies text s e4 le (placed_within text e4 rest d.2); name = holds text s1 e1 x (sign k.Colon s2 e2 ∷ ts) e n; kind = a.part };
      next = d.2;
    }
item_stands {text} {from} (IsItem.entry {s = s} {e = e} {s1 = s1} {e1 = e1} {e2 = e2} {x = x} {ts = ts} t) p =
    let c = p.2 in
    let a = entry_stands t c.2 in
    let le : s ≤ e2 = omega (arith, p.1, c.0, c.1, a.ordered) in
    record {
      end = e2;
      behind = omega (arith, p.0, le);
      part = record { lies = lies text s e2 le a.within; name = holds text s e x (sign k.Assign s1 e1 ∷ ts) from p; kind = a.part };
      next = a.next;
    }

lines_stand : (text : List ℕ) {l b : ℕ} (from : ℕ) {ts rest : List Lexeme} {is : List SurfaceItem} → IsLines l b ts is rest → Placed text from ts → ItemsStand text is
lines_stand text from IsLines.end p = tt
lines_stand text from (IsLines.bar {e = e} r) p = lines_stand text e r p.2
lines_stand text from (IsLines.next_line {e = e} r) p = lines_stand text e r p.2
lines_stand text from (IsLines.item t q r) p = let a = item_stands t p in (a.part, lines_stand text a.end r a.next)

pub term_text_stands : {text : List ℕ} {a : Surface} → IsTermText text a → TermStands text a
term_text_stands h = let p = h.parses 0 in (term_stands p.last.2 (tokens_placed (omega arith) h.are)).part

pub book_text_stands : {text : List ℕ} {items : List SurfaceItem} → IsBookText text items → ItemsStand text items
book_text_stands {text} h = lines_stand text 0 (h.parses 0) (tokens_placed (omega arith) h.are)

names_spelled : (text : List ℕ) (items : List SurfaceItem) → ItemsStand text items → AllByRecursion (λ i. IsName i.name) items
names_spelled text [] h = tt
names_spelled text (i ∷ items) h = (h.0.name.name.spelled, names_spelled text items h.1)

pub item_names_are_spelled : ItemNamesAreSpelled
item_names_are_spelled text items h = names_spelled text items (book_text_stands h)
