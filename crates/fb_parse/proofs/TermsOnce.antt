-- A list of tokens is one term at most: two readings from its front, each before a token that may stand behind it, are of the same
-- tree and leave the same rest. The first token tells which form stands there.
use Rattle.std.proofs.Common.{◌≡◌, ℕ, true, false, List, ◌∷◌, refl, ap, ◌∙◌, sym, subst}
use Rattle.std.proofs.lemmas.Bool.{false≢true}
use Rattle.fb_lex.specs.declared.tokens.Kind.{Kind}
use Rattle.fb_lex.specs.declared.tokens.Kind.TheVariants as k
use Rattle.fb_lex.specs.TokenList.{Lexeme, sign}
use Rattle.fb_parse.specs.Grammar.{Surface, Surfaces, Inst, Fun, All, Arrow, more, span, applied, Term, App, Atoms, Atom, Terms, MoreTerms}
use Rattle.fb_parse.specs.Parts.{begins_atom, behind_atom, behind_app, behind_term, behind_terms}
use Rattle.fb_parse.proofs.Single.{tails}
use Rattle.fb_parse.proofs.Shapes.{atom_first, app_first, term_to_app, atom_not_behind_app}
use Rattle.fb_parse.proofs.Pieces.{atoms_first}
use Rattle.fb_parse.proofs.Listed.{more_first}

-- the same tree between the same places, and the same rest
pub record SameTree (a b : Surface) (s t e f : ℕ) (r q : List Lexeme) : Type 0 where
  pub tree : a ≡ b
  pub start : s ≡ t
  pub end : e ≡ f
  pub rest : r ≡ q

pub record SameTrees (xs ys : Surfaces) (e f : ℕ) (r q : List Lexeme) : Type 0 where
  pub trees : xs ≡ ys
  pub end : e ≡ f
  pub rest : r ≡ q

-- a sign's end, and the rest behind it
pub sign_ends : {kind other : Kind} {s t e f : ℕ} {us vs : List Lexeme} → sign kind s e ∷ us ≡ sign other t f ∷ vs → (e ≡ f) × (us ≡ vs)
sign_ends h = (cc, cc)

-- readings of an equal list
pub term_at : {l n : ℕ} {us vs r : List Lexeme} {a : Surface} {s e : ℕ} → us ≡ vs → Term l n vs a s e r → Term l n us a s e r
term_at {l} {n} {us} {vs} {r} {a} {s} {e} h t = subst (λ v. Term l n v a s e r) (sym h) t

pub terms_at : {l n : ℕ} {us vs r : List Lexeme} {xs : Surfaces} {s e : ℕ} → us ≡ vs → Terms l n vs xs s e r → Terms l n us xs s e r
terms_at {l} {n} {us} {vs} {r} {xs} {s} {e} h t = subst (λ v. Terms l n v xs s e r) (sym h) t

atoms_at : {l n b c : ℕ} {us vs r : List Lexeme} {xs : Surfaces} {e : ℕ} → b ≡ c → us ≡ vs → Atoms l n c vs xs e r → Atoms l n b us xs e r
atoms_at {l} {n} {b} {c} {us} {vs} {r} {xs} {e} g h t = subst (λ v. Atoms l n v us xs e r) (sym g) (subst (λ v. Atoms l n c v xs e r) (sym h) t)

more_at : {l n b c : ℕ} {us vs r : List Lexeme} {xs : Surfaces} {e : ℕ} → b ≡ c → us ≡ vs → MoreTerms l n c vs xs e r → MoreTerms l n b us xs e r
more_at {l} {n} {b} {c} {us} {vs} {r} {xs} {e} g h t = subst (λ v. MoreTerms l n v us xs e r) (sym g) (subst (λ v. MoreTerms l n c v xs e r) (sym h) t)

-- no application begins so
no_app : {l n : ℕ} {r : List Lexeme} {a : Surface} {s e : ℕ} (kind : Kind) {t f : ℕ} {us : List Lexeme} → begins_atom kind ≡ false → App l n (sign kind t f ∷ us) a s e r → ⊥
no_app kind h a = false≢true (sym h ∙ app_first a)

-- an arrow goes on with an application
no_arrow : {s e : ℕ} {us q : List Lexeme} → sign k.Arrow s e ∷ us ≡ q → behind_term q ≡ true → ⊥
no_arrow h x = false≢true (ap behind_term h ∙ x)

fun_same : {x : List ℕ} {a b m n : Surface} {s e f : ℕ} → a ≡ b → m ≡ n → e ≡ f → Fun (span s e) x a m ≡ Fun (span s f) x b n
fun_same p q r = rw (p, q, r) refl

all_same : {x : List ℕ} {a b m n : Surface} {s e f : ℕ} → a ≡ b → m ≡ n → e ≡ f → All (span s e) x a m ≡ All (span s f) x b n
all_same p q r = rw (p, q, r) refl

arrow_same : {a b m n : Surface} {s t e f : ℕ} → a ≡ b → m ≡ n → s ≡ t → e ≡ f → Arrow (span s e) a m ≡ Arrow (span t f) b n
arrow_same p q r t = rw (p, q, r, t) refl

applied_same : {f g : Surface} {xs ys : Surfaces} {s t e d : ℕ} → f ≡ g → xs ≡ ys → s ≡ t → e ≡ d → applied (span s e) f xs ≡ applied (span t d) g ys
applied_same p q r t = rw (p, q, r, t) refl

inst_same : {x : List ℕ} {xs ys : Surfaces} {s e f : ℕ} → xs ≡ ys → e ≡ f → Inst (span s e) x xs ≡ Inst (span s f) x ys
inst_same p q = rw (p, q) refl

pub more_same : {a b : Surface} {xs ys : Surfaces} → a ≡ b → xs ≡ ys → more a xs ≡ more b ys
more_same p q = rw (p, q) refl

mutual
  pub term_once : {l m n : ℕ} {ts r q : List Lexeme} {a b : Surface} {s t e f : ℕ} → Term l n ts a s e r → Term m n ts b t f q →
      behind_term r ≡ true → behind_term q ≡ true → SameTree a b s t e f r q
  term_once (Term.fun g p u) (Term.fun h v w) x y =
      let domain = term_once p v refl refl in
      let body = term_once u (term_at (tails domain.rest) w) x y in
      record { tree = fun_same domain.tree body.tree body.end; start = refl; end = body.end; rest = body.rest }
  term_once (Term.fun g p u) (Term.arrow h v w) x y = absurd (no_app k.Fun refl v)
  term_once (Term.fun g p u) (Term.app h v) x y = absurd (no_app k.Fun refl v)
  term_once (Term.all g p u) (Term.all h v w) x y =
      let domain = term_once p v refl refl in
      let body = term_once u (term_at (tails domain.rest) w) x y in
      record { tree = all_same domain.tree body.tree body.end; start = refl; end = body.end; rest = body.rest }
  term_once (Term.all g p u) (Term.arrow h v w) x y = absurd (no_app k.All refl v)
  term_once (Term.all g p u) (Term.app h v) x y = absurd (no_app k.All refl v)
  term_once (Term.arrow g p u) (Term.fun h v w) x y = absurd (no_app k.Fun refl p)
  term_once (Term.arrow g p u) (Term.all h v w) x y = absurd (no_app k.All refl p)
  term_once (Term.arrow g p u) (Term.arrow h v w) x y =
      let domain = app_once p v refl refl in
      let range = term_once u (term_at (tails domain.rest) w) x y in
      record { tree = arrow_same domain.tree range.tree domain.start range.end; start = domain.start; end = range.end; rest = range.rest }
  term_once (Term.arrow g p u) (Term.app h v) x y = absurd (no_arrow ((app_once p v refl (term_to_app _ y)).rest) y)
  term_once (Term.app g p) (Term.fun h v w) x y = absurd (no_app k.Fun refl p)
  term_once (Term.app g p) (Term.all h v w) x y = absurd (no_app k.All refl p)
  term_once (Term.app g p) (Term.arrow h v w) x y = absurd (no_arrow (sym ((app_once p v (term_to_app _ x) refl).rest)) x)
  term_once (Term.app g p) (Term.app h v) x y = app_once p v (term_to_app _ x) (term_to_app _ y)

  pub app_once : {l m n : ℕ} {ts r q : List Lexeme} {a b : Surface} {s t e f : ℕ} → App l n ts a s e r → App m n ts b t f q →
      behind_app r ≡ true → behind_app q ≡ true → SameTree a b s t e f r q
  app_once (App.atoms p u) (App.atoms v w) x y =
      let head = atom_once p v (atoms_first u x) (atoms_first w y) in
      let args = atoms_once u (atoms_at head.end head.rest w) x y in
      record { tree = applied_same head.tree args.trees head.start args.end; start = head.start; end = args.end; rest = args.rest }

  atoms_once : {l m n b : ℕ} {ts r q : List Lexeme} {xs ys : Surfaces} {e f : ℕ} → Atoms l n b ts xs e r → Atoms m n b ts ys f q →
      behind_app r ≡ true → behind_app q ≡ true → SameTrees xs ys e f r q
  atoms_once Atoms.no_more Atoms.no_more x y = record { trees = refl; end = refl; rest = refl }
  atoms_once Atoms.no_more (Atoms.one_more v w) x y = absurd (atom_not_behind_app _ (atom_first v) x)
  atoms_once (Atoms.one_more p u) Atoms.no_more x y = absurd (atom_not_behind_app _ (atom_first p) y)
  atoms_once (Atoms.one_more p u) (Atoms.one_more v w) x y =
      let first = atom_once p v (atoms_first u x) (atoms_first w y) in
      let others = atoms_once u (atoms_at first.end first.rest w) x y in
      record { trees = more_same first.tree others.trees; end = others.end; rest = others.rest }

  atom_once : {l m n : ℕ} {ts r q : List Lexeme} {a b : Surface} {s t e f : ℕ} → Atom l n ts a s e r → Atom m n ts b t f q →
      behind_atom r ≡ true → behind_atom q ≡ true → SameTree a b s t e f r q
  atom_once Atom.star Atom.star x y = record { tree = refl; start = refl; end = refl; rest = refl }
  atom_once Atom.box Atom.box x y = record { tree = refl; start = refl; end = refl; rest = refl }
  atom_once Atom.named Atom.named x y = record { tree = refl; start = refl; end = refl; rest = refl }
  atom_once Atom.named (Atom.instance v) x y = absurd (false≢true x)
  atom_once (Atom.instance p) Atom.named x y = absurd (false≢true y)
  atom_once (Atom.instance p) (Atom.instance v) x y =
      let args = terms_once p v refl refl in
      let close = sign_ends args.rest in
      record { tree = inst_same args.trees close.0; start = refl; end = close.0; rest = close.1 }
  atom_once (Atom.parentheses p) (Atom.parentheses v) x y =
      let inner = term_once p v refl refl in
      let close = sign_ends inner.rest in
      record { tree = inner.tree; start = refl; end = close.0; rest = close.1 }

  pub terms_once : {l m n : ℕ} {ts r q : List Lexeme} {xs ys : Surfaces} {s t e f : ℕ} → Terms l n ts xs s e r → Terms m n ts ys t f q →
      behind_terms r ≡ true → behind_terms q ≡ true → SameTrees xs ys e f r q
  terms_once (Terms.terms p u) (Terms.terms v w) x y =
      let first = term_once p v (more_first u x) (more_first w y) in
      let others = more_once u (more_at first.end first.rest w) x y in
      record { trees = more_same first.tree others.trees; end = others.end; rest = others.rest }

  more_once : {l m n b : ℕ} {ts r q : List Lexeme} {xs ys : Surfaces} {e f : ℕ} → MoreTerms l n b ts xs e r → MoreTerms m n b ts ys f q →
      behind_terms r ≡ true → behind_terms q ≡ true → SameTrees xs ys e f r q
  more_once MoreTerms.no_more_terms MoreTerms.no_more_terms x y = record { trees = refl; end = refl; rest = refl }
  more_once MoreTerms.no_more_terms (MoreTerms.comma v w) x y = absurd (false≢true x)
  more_once (MoreTerms.comma p u) MoreTerms.no_more_terms x y = absurd (false≢true y)
  more_once (MoreTerms.comma p u) (MoreTerms.comma v w) x y =
      let first = term_once p v (more_first u x) (more_first w y) in
      let others = more_once u (more_at first.end first.rest w) x y in
      record { trees = more_same first.tree others.trees; end = others.end; rest = others.rest }
