use Rattle.std.proofs.Common.{ℕ, List, Bor, IsUtf8, ◌<◌, slice_index_or}
use Rattle.book_top.proofs.words.are_texts.Given as goal

-- the words so far are text
abbrev pub invariant-loop-word : goal.invariant-loop-word
invariant-loop-word l = (k : ℕ) (d : Bor (List ℕ)) → k < l.word-index → IsUtf8 (slice_index_or l.words k d).now
