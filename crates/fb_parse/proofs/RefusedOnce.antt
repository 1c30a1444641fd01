-- A text is refused in one way at most, apart from want of memory: of two places in it one comes first, and what is said of the
-- later one, that the tokens before it begin what is to be read, contradicts what is said of the first.
use Rattle.std.proofs.Common.{◌≡◌, ◌≢◌, ℕ, suc, ◌<◌, ◌≤◌, false, List, [], ◌∷◌, ◌++◌, length, Option, Some, refl, ap, ◌∙◌, sym, subst, arith, append_assoc}
use Rattle.fb_lex.specs.declared.tokens.Token.{Token}
use Rattle.fb_lex.specs.declared.tokens.LexFault.{LexFault}
use Rattle.fb_lex.specs.Tokens.{IsNext, is_end, end_of}
use Rattle.fb_lex.specs.TokenList.{Lexeme, seen, Tokens, Faulty, Reads}
use Rattle.fb_lex.proofs.NextPlaced.{next_placed}
use Rattle.fb_lex.proofs.TokensOnce.{next_once, one_token_list}
use Rattle.fb_parse.specs.declared.fault.ParseFault.{ParseFault}
use Rattle.fb_parse.specs.declared.fault.ParseFault.TheVariants.{Lex, Syntax, Deep, ManyItems, Memory}
use Rattle.fb_parse.specs.Texts.{IsTerm, IsBook, BeginsTerm, BeginsBook, StartsWith, Refuses}
use Rattle.fb_parse.specs.Laws.{OneRefusalOfTerms, OneRefusalOfBooks}
use Rattle.fb_parse.proofs.TextsOnce.{Front, read_front}
use Rattle.fb_parse.proofs.Limits.{term_before, lines_before}

-- The tokens up to t, with t, are a front of those up to u, and t starts earlier.
record Earlier (text : List ℕ) (ts us : List Lexeme) (t u : Token) : Type 0 where
  pub front : Front text us ts t
  pub starts : t.span.start < u.span.start

-- Of two tokens of a text one comes first.
data Order (text : List ℕ) (ts us : List Lexeme) (t u : Token) : Type 0 where
  here : ts ≡ us → t ≡ u → Order text ts us t u
  before : Earlier text ts us t u → Order text ts us t u
  behind : Earlier text us ts u t → Order text ts us t u

-- no token starts before an earlier one
later : {text : List ℕ} {t u : Token} {ts : List Lexeme} → Reads text t ts u → t.span.start ≤ t.span.end → t.span.end ≤ length text → t.span.start ≤ u.span.start
later {text} {t} Reads.here ordered within = omega arith
later {text} (Reads.next {t = t} {u = w} g n r) ordered within =
    let placed = next_placed text (Some t) w within n in
    omega (arith, ordered, placed.behind, later r placed.ordered placed.within)

-- a token that isn't the last comes before those behind it
before_others : {text : List ℕ} {first w u : Token} {more : List Lexeme} {prev : Option Token} → end_of prev ≤ length text → IsNext text prev first → is_end first.kind ≡ false → IsNext text (Some first) w → Reads text w more u →
    Earlier text [] (seen text first ∷ more) first u
before_others {text} {first} {w} {u} {more} {prev} within n g i r =
    let here = next_placed text prev first within n in
    let next = next_placed text (Some first) w here.within i in
    record { front = (more, refl); starts = omega (arith, here.wide g, next.behind, later r next.ordered next.within) }

behind_first : {text : List ℕ} {x : Lexeme} {ts us : List Lexeme} {t u : Token} → Order text ts us t u → Order text (x ∷ ts) (x ∷ us) t u
behind_first {x = x} (Order.here p q) = Order.here (ap (λ v. x ∷ v) p) q
behind_first {x = x} (Order.before e) = Order.before (record { front = (e.front.0, ap (λ v. x ∷ v) e.front.1); starts = e.starts })
behind_first {x = x} (Order.behind e) = Order.behind (record { front = (e.front.0, ap (λ v. x ∷ v) e.front.1); starts = e.starts })

order : {text : List ℕ} {first t : Token} {ts : List Lexeme} {u : Token} {us : List Lexeme} {prev : Option Token} → Reads text first ts t → Reads text first us u → end_of prev ≤ length text → IsNext text prev first → Order text ts us t u
order Reads.here Reads.here within n = Order.here refl refl
order Reads.here (Reads.next h j s) within n = Order.before (before_others within n h j s)
order (Reads.next g i r) Reads.here within n = Order.behind (before_others within n g i r)
order {text} {u = u} {prev = prev} (Reads.next {t = first} g i r) (Reads.next {ts = others} h j s) within n =
    let placed = next_placed text prev first within n in
    behind_first (order r (subst (λ v. Reads text v others u) (next_once j i) s) placed.within i)

order_of : {text : List ℕ} {ts us : List Lexeme} {t u : Token} → StartsWith text ts t → StartsWith text us u → Order text ts us t u
order_of {text} {ts} {us} {t} {u} a b = order a.reads (subst (λ v. Reads text v us u) (next_once b.next a.next) b.reads) (omega arith) a.next

-- What begins with some tokens begins with fewer, and before an earlier limit.
record Shrinks (Begins : (most limit : ℕ) → List Lexeme → Type 0) : Type 0 where
  pub fewer : (most limit : ℕ) (front more : List Lexeme) → Begins most limit (front ++ more) → Begins most limit front
  pub before : (most limit earlier : ℕ) (front : List Lexeme) → earlier ≤ limit → Begins most limit front → Begins most earlier front

-- With the token t the tokens stop to begin what is to be read with a term at t.
record Stops (text : List ℕ) (Begins : (most limit : ℕ) → List Lexeme → Type 0) (ts : List Lexeme) (t : Token) : Type 0 where
  pub at : StartsWith text ts t
  pub begun : Begins 100_000 t.span.start ts
  pub not_on : Begins 100_000 (suc t.span.start) (ts ++ seen text t ∷ []) → ⊥

module _ (text : List ℕ) {Begins : (most limit : ℕ) → List Lexeme → Type 0} (shrinks : Shrinks Begins) where
  -- what begins with tokens begins with each front of them
  at_front : (most l : ℕ) (tokens ts : List Lexeme) (t : Token) → Front text tokens ts t → Begins most l tokens → Begins most l (ts ++ seen text t ∷ [])
  at_front most l tokens ts t f b = shrinks.fewer most l (ts ++ seen text t ∷ []) f.0 (subst (Begins most l) f.1 b)

  not_before : {ts us : List Lexeme} {t u : Token} → Earlier text ts us t u → Stops text Begins ts t → Stops text Begins us u → ⊥
  not_before {ts} {us} {t} {u} e a b = a.not_on (shrinks.before 100_000 u.span.start (suc t.span.start) (ts ++ seen text t ∷ []) (omega (arith, e.starts)) (at_front 100_000 u.span.start us ts t e.front b.begun))

  one_place : {ts us : List Lexeme} {t u : Token} → Stops text Begins ts t → Stops text Begins us u → (ts ≡ us) × (t ≡ u)
  one_place a b = elim (order_of a.at b.at) [ here p q ↦ (p, q) | before e ↦ absurd (not_before e a b) | behind e ↦ absurd (not_before e b a) ]

  -- no place comes before a fault of the tokens
  not_before_fault : {ts us : List Lexeme} {t : Token} {f : LexFault} → Stops text Begins ts t → Tokens text us (Faulty f) → ((limit : ℕ) → Begins 100_000 limit us) → ⊥
  not_before_fault {ts} {us} {t} a p b = a.not_on (at_front 100_000 (suc t.span.start) us ts t (read_front a.at.next a.at.reads p) (b (suc t.span.start)))

  at_syntax : {ts : List Lexeme} {t : Token} → StartsWith text ts t → ((limit : ℕ) → Begins 100_000 limit ts) → ((most limit : ℕ) → Begins most limit (ts ++ seen text t ∷ []) → ⊥) → Stops text Begins ts t
  at_syntax {ts} {t} s b n = record { at = s; begun = b t.span.start; not_on = n 100_000 (suc t.span.start) }

  at_deep : {ts : List Lexeme} {t : Token} → StartsWith text ts t → Begins 100_000 t.span.start (ts ++ seen text t ∷ []) → ((most : ℕ) → Begins most (suc t.span.start) (ts ++ seen text t ∷ []) → ⊥) → Stops text Begins ts t
  at_deep {ts} {t} s b n = record { at = s; begun = shrinks.fewer 100_000 t.span.start ts (seen text t ∷ []) b; not_on = n 100_000 }

  at_item : {ts : List Lexeme} {t : Token} → StartsWith text ts t → ((limit : ℕ) → Begins 100_000 limit ts) → ((limit : ℕ) → Begins 100_000 limit (ts ++ seen text t ∷ []) → ⊥) → Stops text Begins ts t
  at_item {ts} {t} s b n = record { at = s; begun = b t.span.start; not_on = n (suc t.span.start) }

  -- the tokens up to one place, which is two
  same_front : {ts us : List Lexeme} {t u : Token} → (ts ≡ us) × (t ≡ u) → (us ++ seen text u ∷ []) ≡ (ts ++ seen text t ∷ [])
  same_front {ts} {us} {t} {u} p = sym (ap (λ v. v ++ seen text t ∷ []) p.0 ∙ ap (λ v. us ++ seen text v ∷ []) p.1)

  syntax_deep : {ts us : List Lexeme} {t u : Token} → (ts ≡ us) × (t ≡ u) → ((most limit : ℕ) → Begins most limit (ts ++ seen text t ∷ []) → ⊥) → Begins 100_000 u.span.start (us ++ seen text u ∷ []) → ⊥
  syntax_deep {ts} {us} {t} {u} p n b = n 100_000 u.span.start (subst (Begins 100_000 u.span.start) (same_front p) b)

  syntax_item : {ts us : List Lexeme} {t u : Token} → (ts ≡ us) × (t ≡ u) → ((most limit : ℕ) → Begins most limit (ts ++ seen text t ∷ []) → ⊥) → ((limit : ℕ) → Begins 100_001 limit (us ++ seen text u ∷ [])) → ⊥
  syntax_item p n b = n 100_001 0 (subst (Begins 100_001 0) (same_front p) (b 0))

  deep_item : {ts us : List Lexeme} {t u : Token} → (ts ≡ us) × (t ≡ u) → ((most : ℕ) → Begins most (suc t.span.start) (ts ++ seen text t ∷ []) → ⊥) → ((limit : ℕ) → Begins 100_001 limit (us ++ seen text u ∷ [])) → ⊥
  deep_item {ts} {us} {t} p n b = n 100_001 (subst (Begins 100_001 (suc t.span.start)) (same_front p) (b (suc t.span.start)))

  other_way : {ts us : List Lexeme} {t u : Token} → (ts ≡ us) × (t ≡ u) → (us ≡ ts) × (u ≡ t)
  other_way p = (sym p.0, sym p.1)

  refused_once : {f g : ParseFault} → Refuses text Begins f → Refuses text Begins g → f ≢ Memory → g ≢ Memory → f ≡ g
  refused_once Refuses.memory s n m = absurd (n refl)
  refused_once (Refuses.lex p b) Refuses.memory n m = absurd (m refl)
  refused_once (Refuses.lex {ts = ts} {f = f} p b) (Refuses.lex {ts = us} {f = g} q c) n m = faults (one_token_list text ts us (Faulty f) (Faulty g) p q).1
    where
      faults : {x y : LexFault} → Faulty x ≡ Faulty y → Lex x ≡ Lex y
      faults h = cc
  refused_once (Refuses.lex p b) (Refuses.syntax s c o) n m = absurd (not_before_fault (at_syntax s c o) p b)
  refused_once (Refuses.lex p b) (Refuses.deep s c o) n m = absurd (not_before_fault (at_deep s c o) p b)
  refused_once (Refuses.lex p b) (Refuses.many_items s i c o) n m = absurd (not_before_fault (at_item s i o) p b)
  refused_once (Refuses.syntax s b o) Refuses.memory n m = absurd (m refl)
  refused_once (Refuses.syntax s b o) (Refuses.lex q c) n m = absurd (not_before_fault (at_syntax s b o) q c)
  refused_once (Refuses.syntax s b o) (Refuses.syntax t c w) n m = ap (λ v. Syntax v.span.start) (one_place (at_syntax s b o) (at_syntax t c w)).1
  refused_once (Refuses.syntax s b o) (Refuses.deep t c w) n m = absurd (syntax_deep (one_place (at_syntax s b o) (at_deep t c w)) o c)
  refused_once (Refuses.syntax s b o) (Refuses.many_items t i c w) n m = absurd (syntax_item (one_place (at_syntax s b o) (at_item t i w)) o c)
  refused_once (Refuses.deep s b o) Refuses.memory n m = absurd (m refl)
  refused_once (Refuses.deep s b o) (Refuses.lex q c) n m = absurd (not_before_fault (at_deep s b o) q c)
  refused_once (Refuses.deep s b o) (Refuses.syntax t c w) n m = absurd (syntax_deep (other_way (one_place (at_deep s b o) (at_syntax t c w))) w b)
  refused_once (Refuses.deep s b o) (Refuses.deep t c w) n m = ap (λ v. Deep v.span.start) (one_place (at_deep s b o) (at_deep t c w)).1
  refused_once (Refuses.deep s b o) (Refuses.many_items t i c w) n m = absurd (deep_item (one_place (at_deep s b o) (at_item t i w)) o c)
  refused_once (Refuses.many_items s i b o) Refuses.memory n m = absurd (m refl)
  refused_once (Refuses.many_items s i b o) (Refuses.lex q c) n m = absurd (not_before_fault (at_item s i o) q c)
  refused_once (Refuses.many_items s i b o) (Refuses.syntax t c w) n m = absurd (syntax_item (other_way (one_place (at_item s i o) (at_syntax t c w))) w b)
  refused_once (Refuses.many_items s i b o) (Refuses.deep t c w) n m = absurd (deep_item (other_way (one_place (at_item s i o) (at_deep t c w))) w b)
  refused_once (Refuses.many_items s i b o) (Refuses.many_items t j c w) n m = ap (λ v. ManyItems v.span.start) (one_place (at_item s i o) (at_item t j w)).1

terms_shrink : Shrinks BeginsTerm
terms_shrink = record {
  fewer = λ most l front more b. record { more = more ++ b.more; tree = b.tree; parses = subst (λ v. IsTerm l v b.tree) (append_assoc front more b.more) b.parses };
  before = λ most l m front h b.
      record { more = b.more; tree = b.tree; parses = record { start = b.parses.start; end = b.parses.end; last = (b.parses.last.0, b.parses.last.1, term_before h b.parses.last.2) } };
}

books_shrink : Shrinks BeginsBook
books_shrink = record {
  fewer = λ most l front more b. record { more = more ++ b.more; items = b.items; parses = subst (λ v. IsBook l v b.items) (append_assoc front more b.more) b.parses; few = b.few };
  before = λ most l m front h b. record { more = b.more; items = b.items; parses = lines_before h b.parses; few = b.few };
}

pub one_refusal_of_terms : OneRefusalOfTerms
one_refusal_of_terms text f g r s n m = refused_once text terms_shrink r s n m

pub one_refusal_of_books : OneRefusalOfBooks
one_refusal_of_books text f g r s n m = refused_once text books_shrink r s n m
