use Rattle.std.proofs.Common.{◌∙◌, ℕ, ap, refl, sym, subst, arith}
use Rattle.std.proofs.lemmas.Result.{on_ok_weaker}
use Rattle.ld_terms.specs.Derivable.{IsSort}
use Rattle.ld_terms.specs.Known.{Known, nothing, Judgement, no_judgement, judgement_at, with_node, with_flag}
use Rattle.ld_record.specs.Growth.{Knows}
use Rattle.ld_record.specs.Kept.{known_of, FitsFlag}
use Rattle.dr_text.specs.Written.{last_judgement}
use Rattle.dr_text.proofs.tests.flagged.Goals as goal

abbrev first : Known
first = with_node nothing no_judgement

fits_first : FitsFlag first (record { 0 = 0 })
fits_first = record { live = omega arith; may = record { over = refl; sort = IsSort.box } }

-- a flag leaves the judgement
knows_first : (s : Judgement) → Knows (with_flag first s) (record { 0 = 0 }) (last_judgement (with_flag first s))
knows_first s = record { live = omega arith; is = refl }

pub flag-requires-clause-fits : goal.flag-requires-clause-fits
flag-requires-clause-fits c =
    let P : Known → Type 0 = λ k. FitsFlag k c.args.j in
    let Q : ℕ → Type 0 = λ n. FitsFlag first (record { 0 = n }) in
    subst P (sym c.requires.known) (subst Q (sym c.requires.number) fits_first)

pub returns-clause-number : goal.returns-clause-number
returns-clause-number c =
    let s = judgement_at (known_of c.args.bank.now c.args.deriv.now) c.args.j.0 in
    let P : Known → Type 0 = λ k. Knows k c.args.j (last_judgement k) in
    let Q : ℕ → Type 0 = λ n. Knows (with_flag first s) (record { 0 = n }) (last_judgement (with_flag first s)) in
    on_ok_weaker c.flag.result
    (λ known. subst P (sym (known ∙ ap (λ (k : Known). with_flag k s) c.requires.known)) (subst Q (sym c.requires.number) (knows_first s)))
    c.flag.ensures.known
