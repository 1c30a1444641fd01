-- The laws of terms.
use Rattle.std.proofs.Common.{◌≡◌, ℕ, ◌+◌, false, List, [], length, None, refl, ◌∙◌, sym, subst, arith}
use Rattle.std.proofs.lemmas.List.{append-nil}
use Rattle.fb_parse.specs.Grammar.{Surface}
use Rattle.fb_parse.specs.Texts.{IsTerm}
use Rattle.fb_parse.proofs.TextsOnce.{one_reading_as_term}
use Rattle.fb_write.specs.Canonical.{term_text}
use Rattle.fb_write.specs.ReadBack.{GivenTermsAreWritable, TermsReadBack}
use Rattle.fb_write.proofs.Pieces.{Lexes, pieces_text, placed, lexed}
use Rattle.fb_write.proofs.Spelled.{term_pieces, term_spelled, term_lexes, Goes}
use Rattle.fb_write.proofs.Regained.{TermBack, term_back}
use Rattle.fb_write.proofs.Names.{tokens_given}
use Rattle.fb_write.proofs.Given.{term_given}

pub given_terms_are_writable : GivenTermsAreWritable
given_terms_are_writable text a h = (term_given (tokens_given {prev = None} (omega arith) h.are) (h.parses (length text + 1)).last.2).0

pub at_end : Goes []
at_end = record { apart = refl; lexes = λ b. Lexes.nothing }

whole : {l : ℕ} {ts : List Rattle.fb_lex.specs.TokenList.Lexeme} {a : Surface} → (b : TermBack l 1 ts a []) → IsTerm l ts b.tree
whole b = record { start = b.start; end = b.end; last = (b.at, b.at, b.reads) }

pub terms_read_back : TermsReadBack
terms_read_back a w =
    let ps = term_pieces false a [] in
    let ts = placed 0 ps in
    let text : term_text a ≡ pieces_text ps = sym (term_spelled a false [] ∙ append-nil (term_text a)) in
    let back = λ (l : ℕ). (term_back w).term l 0 false [] in
    record {
      tree = (back 0).tree;
      reads = record {
        tokens = ts;
        are = lexed (term_lexes w false false [] refl at_end) (term_text a) [] 0 None text refl text refl;
        parses = λ l. subst (IsTerm l ts) (one_reading_as_term l 0 ts (back l).tree (back 0).tree (whole (back l)) (whole (back 0))) (whole (back l));
      };
      same = (back 0).same;
    }
