-- A text is one term at most, or one book, and is then refused for want of memory alone: its tokens are the only ones, and those that
-- a fault speaks of are a front of them.
use Rattle.std.proofs.Common.{◌≡◌, ℕ, suc, List, [], ◌∷◌, ◌++◌, Option, Some, refl, ap, ◌∙◌, sym, subst}
use Rattle.std.proofs.lemmas.Bool.{false≢true}
use Rattle.fb_lex.specs.declared.tokens.Token.{Token}
use Rattle.fb_lex.specs.declared.tokens.LexFault.{LexFault}
use Rattle.fb_lex.specs.Tokens.{IsNext, is_end}
use Rattle.fb_lex.specs.TokenList.{Lexeme, seen, Tokens, TokensBehind, Ending, Whole, Faulty, Reads}
use Rattle.fb_lex.proofs.TokensOnce.{next_once, no_fault_next, one_token_list}
use Rattle.fb_parse.specs.declared.fault.ParseFault.{ParseFault}
use Rattle.fb_parse.specs.declared.fault.ParseFault.TheVariants.{Memory}
use Rattle.fb_parse.specs.Texts.{IsTerm, IsBook, BeginsTerm, BeginsBook, Refuses}
use Rattle.fb_parse.specs.Laws.{OneReadingAsTerm, OneReadingAsBook, OneTerm, OneBook, TermsAreNotRefused, BooksAreNotRefused}
use Rattle.fb_parse.proofs.TermsOnce.{term_once}
use Rattle.fb_parse.proofs.ItemsOnce.{lines_once}

pub one_reading_as_term : OneReadingAsTerm
one_reading_as_term l m ts a b p q = (term_once p.last.2 q.last.2 refl refl).tree

pub one_reading_as_book : OneReadingAsBook
one_reading_as_book l m ts items others p q = lines_once p q

pub one_term : OneTerm
one_term text a b p q =
    let same = (one_token_list text p.tokens q.tokens Whole Whole p.are q.are).0 in
    one_reading_as_term 0 0 p.tokens a b (p.parses 0) (subst (λ v. IsTerm 0 v b) (sym same) (q.parses 0))

pub one_book : OneBook
one_book text items others p q =
    let same = (one_token_list text p.tokens q.tokens Whole Whole p.are q.are).0 in
    one_reading_as_book 0 0 p.tokens items others (p.parses 0) (subst (λ v. IsBook 0 v others) (sym same) (q.parses 0))

-- The tokens of a text that are read up to t, with t, are a front of all its tokens.
abbrev pub Front : (text : List ℕ) → (tokens ts : List Lexeme) → Token → Type 0
Front text tokens ts t = (more : List Lexeme) × (tokens ≡ (ts ++ seen text t ∷ []) ++ more)

pub read_front : {text : List ℕ} {first t : Token} {ts tokens : List Lexeme} {prev : Option Token} {e : Ending} → IsNext text prev first → Reads text first ts t → TokensBehind text prev tokens e → Front text tokens ts t
read_front {text} n Reads.here (TokensBehind.last m h) = ([], ap (λ v. seen text v ∷ []) (next_once m n))
read_front {text} n Reads.here (TokensBehind.more {ts = behind} m h k) = (behind, ap (λ v. seen text v ∷ behind) (next_once m n))
read_front n Reads.here (TokensBehind.fault f) = absurd (no_fault_next n f)
read_front n (Reads.next g i r) (TokensBehind.last m h) = absurd (false≢true (sym g ∙ ap (λ v. is_end v.kind) (next_once n m) ∙ h))
read_front {text} {e = e} n (Reads.next {t = first} g i r) (TokensBehind.more {ts = behind} m h k) =
    let same = next_once m n in
    let front = read_front i r (subst (λ v. TokensBehind text (Some v) behind e) same k) in
    (front.0, ap (λ v. seen text v ∷ behind) same ∙ ap (λ v. seen text first ∷ v) front.1)
read_front n (Reads.next g i r) (TokensBehind.fault f) = absurd (no_fault_next n f)

whole_faulty : {text : List ℕ} {ts us : List Lexeme} {f : LexFault} → Tokens text ts Whole → Tokens text us (Faulty f) → ⊥
whole_faulty {text} {ts} {us} {f} p q = let same = (one_token_list text ts us Whole (Faulty f) p q).1 in cc

-- What each front of the tokens begins is refused for want of memory alone.
never_refused : (text : List ℕ) (Begins : (most limit : ℕ) → List Lexeme → Type 0) (tokens : List Lexeme) {f : ParseFault} → Tokens text tokens Whole →
    ((limit : ℕ) (front more : List Lexeme) → tokens ≡ front ++ more → Begins 100_000 limit front) → Refuses text Begins f → f ≡ Memory
never_refused text Begins tokens p h Refuses.memory = refl
never_refused text Begins tokens p h (Refuses.lex faulty b) = absurd (whole_faulty p faulty)
never_refused text Begins tokens p h (Refuses.syntax s b n) = let front = read_front s.next s.reads p in absurd (n 100_000 0 (h 0 _ front.0 front.1))
never_refused text Begins tokens p h (Refuses.deep {t = t} s b n) = let front = read_front s.next s.reads p in absurd (n 100_000 (h (suc t.span.start) _ front.0 front.1))
never_refused text Begins tokens p h (Refuses.many_items s i b n) = let front = read_front s.next s.reads p in absurd (n 0 (h 0 _ front.0 front.1))

pub terms_are_not_refused : TermsAreNotRefused
terms_are_not_refused text a f p r =
    never_refused text BeginsTerm p.tokens p.are (λ l front more e. record { more = more; tree = a; parses = subst (λ v. IsTerm l v a) e (p.parses l) }) r

pub books_are_not_refused : BooksAreNotRefused
books_are_not_refused text items f p r =
    never_refused text BeginsBook p.tokens p.are (λ l front more e. record { more = more; items = items; parses = subst (λ v. IsBook l v items) e (p.parses l); few = p.few }) r
