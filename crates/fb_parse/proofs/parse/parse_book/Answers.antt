use Rattle.std.proofs.Common.{◌≤◌, ℕ, List, length, None, Result, Ok, Err, MatchResult, IfOk}
use Rattle.fb_lex.specs.declared.tokens.Token.{Token}
use Rattle.fb_lex.specs.Tokens.{IsNext}
use Rattle.fb_parse.specs.declared.fault.ParseFault.{ParseFault}
use Rattle.fb_parse.specs.declared.tree.Book.{Book}
use Rattle.fb_parse.specs.ItemView.{items_view}
use Rattle.fb_parse.specs.Lines.{LinesAre, LinesFail}
use Rattle.fb_parse.specs.Standing.{ItemsStand}
use Rattle.fb_parse.specs.Texts.{IsBookText, BeginsBook, Refuses}
use Rattle.fb_parse.proofs.LineRules.{book_text, book_fails, fault_at_once}
use Rattle.fb_parse.proofs.Stood.{book_text_stands}
use Rattle.fb_parse.proofs.parse.parse_book.Goals as goal

-- the lines from the first token on are the book, or their fault is the book's
whole : (text : List ℕ) (t : Token) → IsNext text None t → (r : Result Book ParseFault) →
    MatchResult r (λ b. LinesAre text 0 t (items_view text b.items.now) × (length b.items.now ≤ 100_000)) (LinesFail text 0 100_000 t) →
    MatchResult r (λ b. IsBookText text (items_view text b.items.now)) (Refuses text BeginsBook)
whole text t n (Ok b) h = book_text text t b.items.now n h.0 h.1
whole text t n (Err f) h = book_fails text t n h

-- the items of a book say what they should of its text
stand : (text : List ℕ) (r : Result Book ParseFault) → MatchResult r (λ b. IsBookText text (items_view text b.items.now)) (Refuses text BeginsBook) → IfOk r (λ b. ItemsStand text (items_view text b.items.now))
stand text (Ok b) h = book_text_stands h
stand text (Err f) h = tt

pub returns-in-Ok : goal.returns-in-Ok
returns-in-Ok c =
    let exact = whole c.args.text.now c.in-Ok.first c.in-Ok.ensures.exact c.lines.result c.lines.ensures in
    record { exact = exact; stands = stand c.args.text.now c.lines.result exact }

pub returns-in-Err : goal.returns-in-Err
returns-in-Err c = record { exact = fault_at_once c.args.text.now c.in-Err.ensures.exact; stands = tt }
