-- Words that are text, by their places and as a list.
use Rattle.std.proofs.Common.{◌≡◌, ◌<◌, ◌+◌, ℕ, suc, subst, arith, inl, inr, List, [], ◌∷◌, length, get_or, All, IsUtf8}
use Rattle.std.specs.Borrow.{Bor}
use Rattle.std.proofs.lemmas.Bool.{cases_lt}
use Rattle.std.proofs.lemmas.List.{get_or_default}
use Rattle.book_top.specs.Words.{texts}
use Rattle.book_top.proofs.Arranged.{AreUtf8}

abbrev IsText : Bor (List ℕ) → Type 0
IsText w = IsUtf8 w.now

-- one more word
pub one_more : (words : List (Bor (List ℕ))) (i : ℕ) (e : Bor (List ℕ)) → i < length words → IsText (get_or words i e) → ((k : ℕ) (d : Bor (List ℕ)) → k < i → IsText (get_or words k d))
    → (k : ℕ) (d : Bor (List ℕ)) → k < i + 1 → IsText (get_or words k d)
one_more words i e within h before k d lt = elim (cases_lt k i) [
  | inl l ↦ before k d l
  | inr ge ↦
      let is : i ≡ k = omega arith in
      subst (λ j. IsText (get_or words j d)) is (subst IsText (get_or_default words i e d within) h)
]

pub each_word : (words : List (Bor (List ℕ))) → All (λ w. IsUtf8 w.now) words → AreUtf8 (texts words)
each_word [] h = tt
each_word (w ∷ ws) h = (h 0 w (omega arith), each_word ws (λ k d lt. h (suc k) d (omega arith)))
