-- A list of tokens is one book at most: two readings of an item from its front, each before a token that may stand behind it, are of
-- the same item and leave the same rest; and a line ends where its item does.
use Rattle.std.proofs.Common.{◌≡◌, ℕ, true, false, List, ◌∷◌, codes, refl, ap, ◌∙◌, sym, subst}
use Rattle.std.specs.Str.{bytes_eq}
use Rattle.std.proofs.lemmas.Bool.{false≢true}
use Rattle.fb_lex.specs.declared.tokens.Kind.{Kind}
use Rattle.fb_lex.specs.declared.tokens.Kind.TheVariants as k
use Rattle.fb_lex.specs.TokenList.{Lexeme, sign}
use Rattle.fb_base.specs.declared.places.Span.{Span}
use Rattle.fb_parse.specs.Grammar.{Surface, span, Term}
use Rattle.fb_parse.specs.Items.{SurfaceArg, Given, SurfaceBody, Plain, Elim, Same, Fill, SurfaceKind, Flag, Prim, Line, SurfaceItem, IsArg, MoreArgs, IsArgs, IsFilling, IsWay, IsBody, IsEntry, IsItem, IsLines}
use Rattle.fb_parse.specs.Parts.{begins_term, behind_term, behind_terms}
use Rattle.fb_parse.specs.ItemParts.{begins_item}
use Rattle.fb_parse.proofs.Single.{tails}
use Rattle.fb_parse.proofs.Shapes.{term_first, terms_to_term}
use Rattle.fb_parse.proofs.LineRules.{item_not, ends_behind}
use Rattle.fb_parse.proofs.TermsOnce.{sign_ends, term_at, terms_at, term_once, terms_once, more_same}

-- readings of an equal list
args_at : {l : ℕ} {us vs r : List Lexeme} {xs : List SurfaceArg} → us ≡ vs → MoreArgs l vs xs r → MoreArgs l us xs r
args_at {l} {us} {vs} {r} {xs} h t = subst (λ v. MoreArgs l v xs r) (sym h) t

lines_at : {l b : ℕ} {us vs r : List Lexeme} {is : List SurfaceItem} → us ≡ vs → IsLines l b vs is r → IsLines l b us is r
lines_at {l} {b} {us} {vs} {r} {is} h t = subst (λ v. IsLines l b v is r) (sym h) t

-- no term begins so
no_term : {l n : ℕ} {r : List Lexeme} {a : Surface} {s e : ℕ} (kind : Kind) {t f : ℕ} {us : List Lexeme} → begins_term kind ≡ false → Term l n (sign kind t f ∷ us) a s e r → ⊥
no_term kind h a = false≢true (sym h ∙ term_first a)

-- nor an item
no_item : {l b : ℕ} {r : List Lexeme} {i : SurfaceItem} (kind : Kind) {t f : ℕ} {us : List Lexeme} → begins_item kind ≡ false → IsItem l b (sign kind t f ∷ us) i r → ⊥
no_item kind h i = false≢true (sym h ∙ item_not i)

-- Arguments.
given_same : {a b : Surface} → a ≡ b → Given a ≡ Given b
given_same p = ap Given p

args_same : {a b : SurfaceArg} {xs ys : List SurfaceArg} → a ≡ b → xs ≡ ys → (a ∷ xs) ≡ (b ∷ ys)
args_same p q = rw (p, q) refl

arg_once : {l m : ℕ} {ts r q : List Lexeme} {a b : SurfaceArg} → IsArg l ts a r → IsArg m ts b q → behind_term r ≡ true → behind_term q ≡ true → (a ≡ b) × (r ≡ q)
arg_once IsArg.hole IsArg.hole x y = (refl, refl)
arg_once IsArg.hole (IsArg.given v) x y = absurd (no_term k.Hole refl v)
arg_once (IsArg.given p) IsArg.hole x y = absurd (no_term k.Hole refl p)
arg_once (IsArg.given p) (IsArg.given v) x y = let same = term_once p v x y in (given_same same.tree, same.rest)

args_behind : {l : ℕ} {ts r : List Lexeme} {xs : List SurfaceArg} → MoreArgs l ts xs r → behind_terms r ≡ true → behind_term ts ≡ true
args_behind MoreArgs.no_more_args x = terms_to_term _ x
args_behind (MoreArgs.comma a m) x = refl

more_args_once : {l m : ℕ} {ts r q : List Lexeme} {xs ys : List SurfaceArg} → MoreArgs l ts xs r → MoreArgs m ts ys q → behind_terms r ≡ true → behind_terms q ≡ true → (xs ≡ ys) × (r ≡ q)
more_args_once MoreArgs.no_more_args MoreArgs.no_more_args x y = (refl, refl)
more_args_once MoreArgs.no_more_args (MoreArgs.comma v w) x y = absurd (false≢true x)
more_args_once (MoreArgs.comma p u) MoreArgs.no_more_args x y = absurd (false≢true y)
more_args_once (MoreArgs.comma p u) (MoreArgs.comma v w) x y =
    let first = arg_once p v (args_behind u x) (args_behind w y) in
    let others = more_args_once u (args_at first.1 w) x y in
    (args_same first.0 others.0, others.1)

args_once : {l m : ℕ} {ts r q : List Lexeme} {xs ys : List SurfaceArg} → IsArgs l ts xs r → IsArgs m ts ys q → behind_terms r ≡ true → behind_terms q ≡ true → (xs ≡ ys) × (r ≡ q)
args_once (IsArgs.args p u) (IsArgs.args v w) x y =
    let first = arg_once p v (args_behind u x) (args_behind w y) in
    let others = more_args_once u (args_at first.1 w) x y in
    (args_same first.0 others.0, others.1)

filling_once : {l m : ℕ} {ts r q : List Lexeme} {xs ys : List SurfaceArg} → IsFilling l ts xs r → IsFilling m ts ys q → behind_terms r ≡ true → behind_terms q ≡ true → (xs ≡ ys) × (r ≡ q)
filling_once IsFilling.nothing IsFilling.nothing x y = (refl, refl)
filling_once IsFilling.nothing (IsFilling.listed v) x y = absurd (false≢true x)
filling_once (IsFilling.listed p) IsFilling.nothing x y = absurd (false≢true y)
filling_once (IsFilling.listed p) (IsFilling.listed v) x y = let same = args_once p v refl refl in (same.0, tails same.1)

-- Bodies.
not_both : {word : List ℕ} (u v : List ℕ) → bytes_eq u v ≡ false → bytes_eq v v ≡ true → word ≡ u → word ≡ v → ⊥
not_both u v n s p q = false≢true (sym n ∙ ap (λ x. bytes_eq x v) (sym p ∙ q) ∙ s)

way_once : {l m : ℕ} {ts r q : List Lexeme} {a b : SurfaceBody} → IsWay l ts a r → IsWay m ts b q → behind_terms r ≡ true → behind_terms q ≡ true → (a ≡ b) × (r ≡ q)
way_once (IsWay.intro g) (IsWay.intro h) x y = (refl, refl)
way_once (IsWay.intro g) (IsWay.elimination h v w) x y = absurd (not_both (codes "intro") (codes "elim") refl refl g h)
way_once (IsWay.intro g) (IsWay.same h v) x y = absurd (not_both (codes "intro") (codes "same") refl refl g h)
way_once (IsWay.intro g) (IsWay.fill h v) x y = absurd (not_both (codes "intro") (codes "use") refl refl g h)
way_once (IsWay.elimination g p u) (IsWay.intro h) x y = absurd (not_both (codes "elim") (codes "intro") refl refl g h)
way_once (IsWay.elimination g p u) (IsWay.elimination h v w) x y =
    let head = term_once p v refl refl in
    let args = terms_once u (terms_at (tails head.rest) w) x y in
    (ap Elim (more_same head.tree args.trees), args.rest)
way_once (IsWay.elimination g p u) (IsWay.same h v) x y = absurd (not_both (codes "elim") (codes "same") refl refl g h)
way_once (IsWay.elimination g p u) (IsWay.fill h v) x y = absurd (not_both (codes "elim") (codes "use") refl refl g h)
way_once (IsWay.same g p) (IsWay.intro h) x y = absurd (not_both (codes "same") (codes "intro") refl refl g h)
way_once (IsWay.same g p) (IsWay.elimination h v w) x y = absurd (not_both (codes "same") (codes "elim") refl refl g h)
way_once (IsWay.same g p) (IsWay.same h v) x y = let one = term_once p v (terms_to_term _ x) (terms_to_term _ y) in (ap Same one.tree, one.rest)
way_once (IsWay.same g p) (IsWay.fill h v) x y = absurd (not_both (codes "same") (codes "use") refl refl g h)
way_once (IsWay.fill g p) (IsWay.intro h) x y = absurd (not_both (codes "use") (codes "intro") refl refl g h)
way_once (IsWay.fill g p) (IsWay.elimination h v w) x y = absurd (not_both (codes "use") (codes "elim") refl refl g h)
way_once (IsWay.fill g p) (IsWay.same h v) x y = absurd (not_both (codes "use") (codes "same") refl refl g h)
way_once (IsWay.fill {s1 = s} {e1 = e} {c = c} g p) (IsWay.fill h v) x y = let one = filling_once p v x y in (ap (Fill (span s e) c) one.0, one.1)

body_once : {l m : ℕ} {ts r q : List Lexeme} {a b : SurfaceBody} → IsBody l ts a r → IsBody m ts b q → behind_terms r ≡ true → behind_terms q ≡ true → (a ≡ b) × (r ≡ q)
body_once (IsBody.plain p) (IsBody.plain v) x y = let one = term_once p v (terms_to_term _ x) (terms_to_term _ y) in (ap Plain one.tree, one.rest)
body_once (IsBody.plain p) (IsBody.by v) x y = absurd (no_term k.By refl p)
body_once (IsBody.by p) (IsBody.plain v) x y = absurd (no_term k.By refl v)
body_once (IsBody.by p) (IsBody.by v) x y = way_once p v x y

no_body : {l s e : ℕ} {us r : List Lexeme} {b : SurfaceBody} → IsBody l (sign k.Prim s e ∷ us) b r → ⊥
no_body (IsBody.plain p) = no_term k.Prim refl p

-- Items.
abbrev item : (bars : ℕ) (x : List ℕ) (of whole : Span) → SurfaceKind → SurfaceItem
item bars x of whole kind = record { bars = bars; name = x; name_span = of; span = whole; kind = kind }

line_same : {a b : SurfaceBody} {t u : Surface} → a ≡ b → t ≡ u → Line a t ≡ Line b u
line_same p q = rw (p, q) refl

-- the same kind of entry up to the same place, and the same rest
record SameEntry (a b : SurfaceKind) (e f : ℕ) (r q : List Lexeme) : Type 0 where
  pub kind : a ≡ b
  pub end : e ≡ f
  pub rest : r ≡ q

entry_once : {l m : ℕ} {ts r q : List Lexeme} {a b : SurfaceKind} {e f : ℕ} → IsEntry l ts a e r → IsEntry m ts b f q → behind_term r ≡ true → behind_term q ≡ true → SameEntry a b e f r q
entry_once (IsEntry.primitive p) (IsEntry.primitive v) x y = let one = term_once p v x y in record { kind = ap Prim one.tree; end = one.end; rest = one.rest }
entry_once (IsEntry.primitive p) (IsEntry.line v w) x y = absurd (no_body v)
entry_once (IsEntry.line p u) (IsEntry.primitive v) x y = absurd (no_body p)
entry_once (IsEntry.line p u) (IsEntry.line v w) x y =
    let body = body_once p v refl refl in
    let of = term_once u (term_at (tails body.1) w) x y in
    record { kind = line_same body.0 of.tree; end = of.end; rest = of.rest }

flag_same : {bars : ℕ} {x : List ℕ} {of : Span} {a b : Surface} {s e f : ℕ} → a ≡ b → e ≡ f → item bars x of (span s e) (Flag a) ≡ item bars x of (span s f) (Flag b)
flag_same p q = rw (p, q) refl

entry_same : {bars : ℕ} {x : List ℕ} {of : Span} {a b : SurfaceKind} {s e f : ℕ} → a ≡ b → e ≡ f → item bars x of (span s e) a ≡ item bars x of (span s f) b
entry_same p q = rw (p, q) refl

item_once : {l m b : ℕ} {ts r q : List Lexeme} {i j : SurfaceItem} → IsItem l b ts i r → IsItem m b ts j q → behind_term r ≡ true → behind_term q ≡ true → (i ≡ j) × (r ≡ q)
item_once (IsItem.flag p) (IsItem.flag v) x y =
    let of = term_once p v refl refl in
    let close = sign_ends of.rest in
    (flag_same of.tree close.0, close.1)
item_once (IsItem.entry p) (IsItem.entry v) x y = let one = entry_once p v x y in (entry_same one.kind one.end, one.rest)

-- Lines.
items_same : {i j : SurfaceItem} {is js : List SurfaceItem} → i ≡ j → is ≡ js → (i ∷ is) ≡ (j ∷ js)
items_same p q = rw (p, q) refl

pub lines_once : {l m b : ℕ} {ts r q : List Lexeme} {is js : List SurfaceItem} → IsLines l b ts is r → IsLines m b ts js q → is ≡ js
lines_once IsLines.end IsLines.end = refl
lines_once IsLines.end (IsLines.item v g w) = absurd (no_item k.End refl v)
lines_once (IsLines.bar p) (IsLines.bar v) = lines_once p v
lines_once (IsLines.bar p) (IsLines.item v g w) = absurd (no_item k.Bar refl v)
lines_once (IsLines.next_line p) (IsLines.next_line v) = lines_once p v
lines_once (IsLines.next_line p) (IsLines.item v g w) = absurd (no_item k.Newline refl v)
lines_once (IsLines.item p h u) IsLines.end = absurd (no_item k.End refl p)
lines_once (IsLines.item p h u) (IsLines.bar v) = absurd (no_item k.Bar refl p)
lines_once (IsLines.item p h u) (IsLines.next_line v) = absurd (no_item k.Newline refl p)
lines_once (IsLines.item p h u) (IsLines.item v g w) =
    let one = item_once p v (ends_behind _ h) (ends_behind _ g) in
    items_same one.0 (lines_once u (lines_at one.1 w))
