use Rattle.std.proofs.Common.{◌≡◌, ◌∙◌, ◌++◌, ◌∷◌, [], Ok, Err, length, ap, sym, arith}
use Rattle.std.proofs.lemmas.List.{length_push}
use Rattle.ld_env.specs.Named.{named}
use Rattle.ld_env.specs.declared.env.EnvFault.{EnvFault}
use Rattle.ld_env.proofs.CallerLemmas.{length-env_of}
use Rattle.ld_terms.specs.Known.{Known, judgement_at, line_entry}
use Rattle.ld_record.specs.Kept.{known_of}
use Rattle.ld_samples.proofs.Sampled.{line_fits, line_live}
use Rattle.ld_samples.proofs.lines.line.Goals as goal

no_fault : {A : Type 0} (x : A) (e : EnvFault) → Ok x ≡ Err e → ⊥
no_fault x e h = cc

pub entry-requires-clause-fits : goal.entry-requires-clause-fits
entry-requires-clause-fits c =
    line_fits c.args.bank.now c.args.env.now (known_of c.args.bank.now c.args.deriv.now) (known_of c.args.bank.now c.lift_by_def.new.self) c.in_ok-second.second c.in_ok-first.first c.in_ok-over.over
    (judgement_at (known_of c.args.bank.now c.args.deriv.now) c.args.j.0) c.len.result (c.in_ok-first.ensures ∙ sym c.in_ok-second.ensures) (omega (arith, ap length c.in_ok-second.ensures)) (omega (arith, ap length c.in_ok-second.ensures))
    (λ h. no_fault _ _ (c.in_ok-push.ensures.taken.1 h)) c.requires.env c.lift_by_def.ensures.adds c.len.ensures c.in_ok-over.ensures.number

pub returns-clause-live : goal.returns-clause-live
returns-clause-live c = line_live c.args.bank.now c.args.env.now c.push.new.self c.in_ok-first.first c.args.entry c.requires.live c.requires.judged.there c.in_ok-push.ensures.ok

pub lift_by_def-requires-clause-sound : goal.lift_by_def-requires-clause-sound
lift_by_def-requires-clause-sound c = c.requires.sound

pub lift_by_def-requires-clause-live : goal.lift_by_def-requires-clause-live
lift_by_def-requires-clause-live c = c.requires.judged.live

pub lift_by_def-requires-clause-from : goal.lift_by_def-requires-clause-from
lift_by_def-requires-clause-from c = omega (arith, c.requires.judged.entries)

pub lift_by_def-requires-clause-to : goal.lift_by_def-requires-clause-to
lift_by_def-requires-clause-to c = omega (arith, c.len.ensures, length-env_of c.args.bank.now c.args.env.now, ap length c.requires.env)

pub push-requires : goal.push-requires
push-requires c = record { room = c.requires.room }

pub entry-requires-clause-sound : goal.entry-requires-clause-sound
entry-requires-clause-sound c = c.lift_by_def.ensures.sound

pub returns-clause-sound : goal.returns-clause-sound
returns-clause-sound c = c.entry.ensures.sound

pub returns-clause-added : goal.returns-clause-added
returns-clause-added c =
    ap (λ (q : Known). q.env) c.in_ok-entry.ensures.known
    ∙ (λ i. c.lift_by_def.ensures.adds.env i ++ line_entry (c.in_ok-second.ensures i) (c.in_ok-over.ensures.number.is i) ∷ [])

pub returns-clause-one : goal.returns-clause-one
returns-clause-one c = omega (arith, ap length c.in_ok-push.ensures.ok, length_push c.args.env.now (named c.in_ok-first.first c.args.entry))
