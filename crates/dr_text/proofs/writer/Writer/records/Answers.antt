use Rattle.std.proofs.Common.{◌≡◌, ℕ, length, refl, subst, arith}
use Rattle.dr_text.specs.Written.{Carries}
use Rattle.dr_text.proofs.Carrying.{fits_of, has_terms, carries_none, carries_more}
use Rattle.dr_text.proofs.Undoing.{keeps_none, keeps_then}
use Rattle.dr_text.proofs.writer.Writer.records.Goals as goal

pub loop-place-init : goal.loop-place-init
loop-place-init c = (carries_none c.args.bank.now c.args.deriv.now c.args.self.now.terms c.args.out.now.items c.args.self.now.written, refl, keeps_none c.args.self.now.terms)

pub push_kept-requires : goal.push_kept-requires
push_kept-requires c =
    has_terms c.args.bank.now _ _ (fits_of c.args.bank.now c.args.deriv.now c.loop-place.place _ c.requires.sound (omega arith) c.kept.ensures)

pub loop-place-preserved : goal.loop-place-preserved
loop-place-preserved c = (
  carries_more c.args.bank.now c.args.deriv.now c.args.self.now.terms c.loop-place.self.terms c.push_kept.new.terms
      c.args.out.now.items c.loop-place.out.items c.push_kept.new.out.items c.args.self.now.written c.loop-place.place c.kept.result.now
      (omega arith) c.kept.ensures c.requires.sound c.loop-place.invariant.0 (c.in_ok-push_kept.ensures.writes),
  c.loop-place.invariant.1,
  keeps_then c.args.self.now.terms c.loop-place.self.terms c.push_kept.new.terms c.loop-place.invariant.2 c.push_kept.ensures.keeps,
)

pub returns-clause-carries : goal.returns-clause-carries
returns-clause-carries c =
    let all : c.loop-place.place ≡ length c.args.deriv.now = omega arith in
    let P : ℕ → Type 0 = λ k. Carries c.args.bank.now c.args.deriv.now c.args.self.now.terms c.loop-place.self.terms
    c.args.out.now.items c.loop-place.out.items c.args.self.now.written k in
    subst P all c.loop-place.invariant.0
