-- The terms of each record of a derivation name entries that are there, with as many arguments as parameters: each is the
-- term or the type of a judgement, or a side of an equality.
use Rattle.std.proofs.Common.{◌<◌, ℕ, zero, suc, List, [], ◌∷◌, length, take, get_or, subst, arith}
use Rattle.ld_terms.specs.Tree.{Tree}
use Rattle.ld_terms.specs.Item.{Item}
use Rattle.ld_terms.specs.Bank.{tree_at}
use Rattle.ld_terms.specs.Known.{Known}
use Rattle.ld_terms.specs.Named.{IsNamed}
use Rattle.ld_record.specs.declared.record.Kept.{Kept}
use Rattle.ld_record.specs.declared.record.Kept.TheVariants.{Context, Equal, Node, Entry, Flag}
use Rattle.ld_record.specs.Kept.{with_kept, known_after, judgement_of, Fits, AreSound}
use Rattle.ld_record.proofs.Named.{AreAllNamed, equal_named, named_by, kept_named}
use Rattle.dr_text.specs.Written.{HasNamedTerms}

-- the terms of one record
record_named : (items : List Item) (known : Known) (k : Kept) → AreAllNamed known → Fits items known k → HasNamedTerms items known k
record_named items known (Context c t) all fits =
    let N : Tree → Type 0 = λ u. IsNamed known.env u in subst N fits.judged.term (all.judgements fits.judged.number fits.judged.live).0
record_named items known (Equal left right rule) all fits = equal_named known (tree_at items left) (tree_at items right) rule all fits.follows
record_named items known (Node judge rule) all fits = named_by known (judgement_of items known judge) rule all fits.follows
record_named items known (Entry name j prim) all fits = tt
record_named items known (Flag j) all fits = tt

-- the terms of each record, over what is known before it
pub names_at : (items : List Item) (known : Known) (ks : List Kept) (i : ℕ) (d : Kept) → AreAllNamed known → AreSound items known ks → i < length ks → HasNamedTerms items (known_after items known (take i ks)) (get_or ks i d)
names_at items known [] i d all sound h = absurd (omega arith)
names_at items known (k ∷ ks) zero d all sound h = record_named items known k all sound.0
names_at items known (k ∷ ks) (suc i) d all sound h =
    names_at items (with_kept items known k) ks i d (kept_named items known k all sound.0) sound.1 (omega arith)
