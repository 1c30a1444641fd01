-- The text of a shown term, cut where it is long.
use Rattle.std.specs.Prelude.{◌≡◌, ℕ, zero, suc, ◌&&◌, nat_le, nat_lt, if◌then◌else◌}
use Rattle.std.specs.Prelude.{List, ◌++◌, length, take, reverse, codes, slice_index_or}
use Rattle.ld_terms.specs.Tree.{Tree}
use Rattle.fb_write.specs.Canonical.{term_text}
use Rattle.fb_scope.specs.State.{State, flag_names}
use Rattle.fb_show.specs.Display.{named_level, shown}

-- the greatest place up to n at which a character begins
abbrev pub cut_at : List ℕ → ℕ → ℕ
cut_at text zero = 0
cut_at text (suc n) =
    if nat_le 128 (slice_index_or text (suc n) 0) && nat_lt (slice_index_or text (suc n) 0) 192 then cut_at text n else suc n

-- the text, or its longest front of at most so many bytes that ends between two characters, and then three dots
abbrev pub cut : (most : ℕ) → List ℕ → List ℕ
cut most text = if nat_le (length text) most then text else take (cut_at text most) text ++ codes "..."

-- the names of the open flags, outermost first
abbrev pub own_names : State → List (List ℕ)
own_names s = reverse (flag_names s.flags)

-- the text of a term under so many variables, the first of which are the open flags
abbrev pub shown_text : (own names : List (List ℕ)) → (depth : ℕ) → Tree → List ℕ
shown_text own names d t = term_text (shown (named_level own names) names d t)

-- The text was appended, up to a limit of bytes in all.
pub record Filled (limit : ℕ) (old new text : List ℕ) : Type 0 where
  pub filled : new ≡ take limit (old ++ text)
