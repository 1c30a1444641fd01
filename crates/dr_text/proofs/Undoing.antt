-- Where a chunk isn't written whole, the numbers that were given out for it are forgotten, and the writer stands for what it stood for.
use Rattle.std.proofs.Common.{◌≡◌, ◌≢◌, ◌<◌, ◌+◌, zero, inl, inr, ℕ, suc, List, [], ◌∷◌, length, take, Option, Some, None, Result, Ok, Err, IfOk, OnOk, OnErr, refl, ap, sym, ◌∙◌, arith, get_or}
use Rattle.std.proofs.lemmas.Bool.{cases_eq}
use Rattle.ld_terms.specs.Item.{Item}
use Rattle.ld_terms.specs.Record.{State, start, final}
use Rattle.ld_terms.specs.declared.bank.TermId.{TermId}
use Rattle.ld_record.specs.Kept.{known_of}
use Rattle.dr_text.specs.declared.terms.Terms.{Terms}
use Rattle.dr_text.specs.declared.writer.Writer.{Writer}
use Rattle.dr_text.specs.Written.{number_in, KeepsNumbers, HasSameNumbers, Forgets, Matches, IsUndone}

pub keeps_none : (terms : Terms) → KeepsNumbers terms terms
keeps_none terms = record { longer = omega arith; same = λ t n at below. at }

pub keeps_then : (x y z : Terms) → KeepsNumbers x y → KeepsNumbers y z → KeepsNumbers x z
keeps_then x y z f g = record {
  longer = omega (arith, f.longer, g.longer);
  same = λ t n at below. f.same t n (g.same t n at (omega (arith, f.longer, below))) below;
}

pub keeps_same : (old new : Terms) → HasSameNumbers old new → KeepsNumbers old new
keeps_same old new h = record { longer = omega (arith, h.count); same = λ t n at below. sym (h.same t) ∙ at }

some_same : (n m : ℕ) → Some n ≡ Some m → n ≡ m
some_same n m e = cc

-- the next number goes to a term
pub keeps_one : (old new : Terms) (t : TermId) → number_in new.numbers.items t ≡ Some old.written
    → ((u : TermId) → u.0 ≢ t.0 → number_in new.numbers.items u ≡ number_in old.numbers.items u) → new.written ≡ suc old.written → KeepsNumbers old new
keeps_one old new t at others count = record {
  longer = omega (arith, count);
  same = λ u n there below. elim (cases_eq u.0 t.0) as (λ _. number_in old.numbers.items u ≡ Some n) [
    | inl same ↦ absurd (omega (arith, below, some_same old.written n (sym at ∙ sym (ap (λ i. get_or new.numbers.items i None) same) ∙ there)))
    | inr other ↦ sym (others u other) ∙ there
  ];
}

pub keeps_result : {E : Type 0} (old new : Terms) (t : TermId) (r : Result ℕ E) → IfOk r (λ n. n ≡ old.written) → IfOk r (λ n. number_in new.numbers.items t ≡ Some n)
    → OnOk r ((u : TermId) → u.0 ≢ t.0 → number_in new.numbers.items u ≡ number_in old.numbers.items u) → OnOk r (new.written ≡ suc old.written)
    → OnErr r (HasSameNumbers old new) → KeepsNumbers old new
keeps_result old new t (Ok n) is at others count same = keeps_one old new t (at ∙ ap Some is) others count
keeps_result old new t (Err e) is at others count same = keeps_same old new same

-- a number of the table stands at a place of it
pub in_table : (numbers : List (Option ℕ)) (i n : ℕ) → get_or numbers i None ≡ Some n → i < length numbers
in_table [] i n at = absurd (none_some n at)
  where
    none_some : (n : ℕ) → None ≡ Some n → ⊥
    none_some n e = cc
in_table (m ∷ numbers) zero n at = omega arith
in_table (m ∷ numbers) (suc i) n at = let below = in_table numbers i n at in omega (arith, below)

-- the numbers before one place more are below the count
pub below_more : (old new : List (Option ℕ)) (place count : ℕ) → ((n : ℕ) → get_or new place None ≡ Some n → n < count)
    → ((i n : ℕ) → get_or new i None ≡ Some n → get_or old i None ≡ Some n) → ((i n : ℕ) → i < place → get_or old i None ≡ Some n → n < count)
    → (i n : ℕ) → i < place + 1 → get_or new i None ≡ Some n → n < count
below_more old new place count here kept before i n within at = elim (cases_eq i place) as (λ _. n < count) [
  | inl same ↦ here n (sym (ap (λ j. get_or new j None) same) ∙ at)
  | inr other ↦ before i n (omega (arith, within, other)) (kept i n at)
]

matches_left : (items : List Item) (old mid new : Terms) (s : State) → KeepsNumbers old mid → Forgets old.written mid new → Matches items old s → Matches items new s
matches_left items old mid new s keeps forgets h = record {
  all = h.all ∙ sym forgets.left;
  each = λ t n at. let was = forgets.each t n at in h.each t n (keeps.same t n was.1 was.0);
}

-- the writer after a chunk that wasn't written whole
pub undone : (old mid new : Writer) (before : List ℕ) → KeepsNumbers old.terms mid.terms → Forgets old.terms.written mid.terms new.terms → new.written ≡ old.written
    → IsUndone old new before before
undone old mid new before keeps forgets count = record {
  nothing = refl;
  count = count;
  stays = λ items kept content w. record {
    records = w.records;
    spelled = w.spelled;
    stand = w.stand;
    within = omega (arith, w.within, count);
    known = w.known ∙ ap (λ n. known_of items (take n kept)) (sym count);
    matches = matches_left items old.terms mid.terms new.terms (final start w.records) keeps forgets w.matches;
  };
}
