-- For the callers of a writer: what is written stays written as terms and records are added.
use Rattle.std.proofs.Common.{ℕ, zero, suc, List, [], ◌∷◌, length, take, ap, sym, ◌∙◌, arith}
use Rattle.std.proofs.lemmas.List.{take-take}
use Rattle.ld_terms.specs.Item.{Item}
use Rattle.ld_terms.specs.Item as item
use Rattle.ld_terms.specs.Bank.{Extends}
use Rattle.ld_terms.specs.Known.{Known, nothing}
use Rattle.ld_terms.specs.Record.{State, start, final}
use Rattle.ld_record.specs.declared.record.Kept.{Kept}
use Rattle.ld_record.specs.Kept.{known_of, with_kept, AreSound, IsSound, Begins}
use Rattle.ld_record.proofs.Growing.{known_later}
use Rattle.ld_record.proofs.Keeping.{begins_no_longer}
use Rattle.dr_text.specs.declared.terms.Terms.{Terms}
use Rattle.dr_text.specs.declared.writer.Writer.{Writer}
use Rattle.dr_text.specs.Written.{IsWritten, Matches}

sound_front : (items : List Item) (known : Known) (ks : List Kept) (i : ℕ) → AreSound items known ks → AreSound items known (take i ks)
sound_front items known ks zero h = tt
sound_front items known [] (suc i) h = tt
sound_front items known (k ∷ ks) (suc i) h = (h.0, sound_front items (with_kept items known k) ks i h.1)

matches_later : (old new : List Item) (terms : Terms) (s : State) → Extends old new → Matches old terms s → Matches new terms s
matches_later old new terms s grown h = record {
  all = h.all;
  each = λ t n at. let was = h.each t n at in record {
    live = omega (arith, was.live, grown.longer);
    there = was.there;
    is = was.is ∙ ap item.tree (sym (grown.kept t was.live));
  };
}

-- with more terms in the bank
pub written_later : (old new : List Item) (kept : List Kept) (writer : Writer) (content : List ℕ) → Extends old new → IsSound old kept
    → IsWritten old kept writer content → IsWritten new kept writer content
written_later old new kept writer content grown sound w = record {
  records = w.records;
  spelled = w.spelled;
  stand = w.stand;
  within = w.within;
  known = w.known ∙ sym (known_later old new (take writer.written kept) grown (record { all = sound_front old nothing kept writer.written sound.all }));
  matches = matches_later old new writer.terms (final start w.records) grown w.matches;
}

-- with more records kept
pub written_more : (items : List Item) (old new : List Kept) (writer : Writer) (content : List ℕ) → Begins old new
    → IsWritten items old writer content → IsWritten items new writer content
written_more items old new writer content begins w = record {
  records = w.records;
  spelled = w.spelled;
  stand = w.stand;
  within = omega (arith, w.within, begins_no_longer old new begins);
  known = w.known ∙ ap (known_of items) (sym (ap (take writer.written) begins.front) ∙ take-take writer.written (length old) new w.within);
  matches = w.matches;
}
