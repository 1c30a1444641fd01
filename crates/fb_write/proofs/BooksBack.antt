-- The laws of items and books.
use Rattle.std.proofs.Common.{◌≡◌, ℕ, suc, ◌+◌, false, List, [], ◌∷◌, ◌++◌, length, Some, None, refl, ap, ◌∙◌, sym, subst, arith, length-append}
use Rattle.std.proofs.lemmas.List.{drop_at}
use Rattle.std.specs.Prelude.{codes}
use Rattle.fb_lex.specs.declared.tokens.Kind.TheVariants as k
use Rattle.fb_lex.specs.TokenList.{sign, TokensBehind, Whole}
use Rattle.fb_parse.specs.Items.{SurfaceItem}
use Rattle.fb_parse.specs.Texts.{IsBook}
use Rattle.fb_parse.proofs.TextsOnce.{one_reading_as_book}
use Rattle.fb_write.specs.Canonical.{items_text, bare_items}
use Rattle.fb_write.specs.Writable.{AreWritableItems}
use Rattle.fb_write.specs.Joined.{go_on, line_feed_at}
use Rattle.fb_write.specs.ReadBack.{ItemsReadBack, BooksGoOn}
use Rattle.fb_write.proofs.Pieces.{placed, lexed}
use Rattle.fb_write.proofs.ItemPieces.{items_pieces, items_spelled, items_lex}
use Rattle.fb_write.proofs.ItemsBack.{items_back}
use Rattle.fb_write.proofs.Linked.{texts_join}
use Rattle.fb_write.proofs.LinkedBooks.{books_join}

count_bare : (is : List SurfaceItem) → length (bare_items is) ≡ length is
count_bare [] = refl
count_bare (i ∷ is) = ap suc (count_bare is)

same_count : (is js : List SurfaceItem) → bare_items is ≡ bare_items js → length is ≡ length js
same_count is js e = sym (count_bare is) ∙ ap length e ∙ count_bare js

-- the same items at each limit
at_each_limit : {is : List SurfaceItem} (w : AreWritableItems is) (q l : ℕ) → IsBook l (placed q (items_pieces is)) (items_back w 0 q).trees
at_each_limit {is} w q l =
    let ts = placed q (items_pieces is) in
    subst (IsBook l ts) (one_reading_as_book l 0 ts (items_back w l q).trees (items_back w 0 q).trees (items_back w l q).reads (items_back w 0 q).reads) (items_back w l q).reads

pub items_read_back : ItemsReadBack
items_read_back is w few =
    let ps = items_pieces is in
    let text : items_text is ≡ Rattle.fb_write.proofs.Pieces.pieces_text ps = sym (items_spelled w) in
    let back = items_back w 0 0 in
    record {
      more = back.trees;
      reads = record { tokens = placed 0 ps; are = lexed (items_lex w false) (items_text is) [] 0 None text refl text refl; parses = at_each_limit w 0; few = omega (arith, few, same_count back.trees is back.same) };
      same = back.same;
    }

pub books_go_on : BooksGoOn
books_go_on text items others h w few =
    let ps = items_pieces others in
    let n = length text in
    let front = text ++ codes "\n" in
    let whole = front ++ items_text others in
    let spelled : whole ≡ front ++ Rattle.fb_write.proofs.Pieces.pieces_text ps = ap (λ v. front ++ v) (sym (items_spelled w)) in
    let len : length front ≡ n + 1 = length-append text (codes "\n") in
    let us = placed (n + 1) ps in
    let behind : TokensBehind whole (Some (line_feed_at n)) us Whole =
    lexed (items_lex w false) whole front (n + 1) (Some (line_feed_at n)) spelled len (drop_at front (items_text others) (n + 1) len ∙ sym (items_spelled w)) refl in
    let back = items_back w 0 (n + 1) in
    record {
      more = back.trees;
      reads = record {
        tokens = go_on (sign k.Newline n (n + 1) ∷ us) h.tokens;
        are = texts_join text (items_text others) h.tokens us Whole h.are behind;
        parses = λ l. books_join l n (n + 1) h.tokens us items back.trees (h.parses l) (at_each_limit w (n + 1) l);
        few = omega (arith, few, same_count back.trees others back.same, length-append items back.trees);
      };
      same = back.same;
    }
