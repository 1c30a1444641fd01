-- Whether two trees are found the same at once.
use Rattle.std.specs.Prelude.{◌≡◌, true, false, ◌||◌, length, Option, Some, None}
use Rattle.ld_terms.specs.Tree.{Tree}
use Rattle.ld_terms.specs.Tests.{equals}
use Rattle.ld_terms.specs.Known.{Known}
use Rattle.ld_record.specs.declared.record.EqId.{EqId}
use Rattle.ld_reduce.specs.Cost.{Equates}
use Rattle.ld_reduce.specs.Task.{Pairs}
use Rattle.ld_convert.specs.Known.{is_known}

-- equal trees or a known pair, with an equality of the two; or none of these
abbrev pub FoundAtOnce : Known → Pairs → (a b : Tree) → Option EqId → Type 0
FoundAtOnce known K a b None = (equals a b || is_known K a b) ≡ false
FoundAtOnce known K a b (Some e) = ((equals a b || is_known K a b) ≡ true) × Equates known e a b (length known.env)
