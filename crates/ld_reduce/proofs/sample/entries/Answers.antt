use Rattle.std.proofs.Common.{length, ap, ◌∙◌, sym, refl, arith}
use Rattle.ld_env.specs.Entries.{env_of}
use Rattle.ld_samples.specs.Samples as judged
use Rattle.ld_samples.proofs.Sampled.{none_live}
use Rattle.ld_reduce.proofs.Sampled.{is_of_closed, is_of_binary, lines_are}
use Rattle.ld_reduce.proofs.sample.entries.Goals as goal

pub line-requires-clause-sound : goal.line-requires-clause-sound
line-requires-clause-sound c = c.requires.sound

pub line-requires-clause-room : goal.line-requires-clause-room
line-requires-clause-room c = omega (arith, ap length c.requires.none)

pub line-requires-clause-env : goal.line-requires-clause-env
line-requires-clause-env c = ap (env_of c.args.bank.now) c.requires.none ∙ sym c.requires.judged.none

pub line-requires-clause-live : goal.line-requires-clause-live
line-requires-clause-live c = none_live c.args.bank.now c.args.env.now c.requires.none

pub line-requires-clause-judged : goal.line-requires-clause-judged
line-requires-clause-judged c =
    is_of_closed _ _ _ c.args.terms.product c.args.terms.over c.args.judges.product judged.product c.requires.judged.product_is refl refl
    c.in_ok-product.ensures.params c.in_ok-product.ensures.body c.in_ok-product.ensures.of c.requires.terms.product_is c.requires.terms.over_is

pub line-requires-2-clause-sound : goal.line-requires-2-clause-sound
line-requires-2-clause-sound c = c.line.ensures.sound

pub line-requires-2-clause-room : goal.line-requires-2-clause-room
line-requires-2-clause-room c = omega (arith, ap length c.requires.none, c.in_ok-line.ensures.one)

pub line-requires-2-clause-env : goal.line-requires-2-clause-env
line-requires-2-clause-env c = c.in_ok-line.ensures.env

pub line-requires-2-clause-live : goal.line-requires-2-clause-live
line-requires-2-clause-live c = c.in_ok-line.ensures.live

pub line-requires-2-clause-judged : goal.line-requires-2-clause-judged
line-requires-2-clause-judged c =
    is_of_closed _ _ _ c.args.terms.identity c.args.terms.product c.args.judges.identity judged.identity (c.in_ok-line.ensures.kept c.args.judges.identity judged.identity c.requires.judged.identity_is) refl refl
    c.in_ok-identity.ensures.params c.in_ok-identity.ensures.body c.in_ok-identity.ensures.of c.requires.terms.identity_is c.requires.terms.product_is

pub line-requires-3-clause-sound : goal.line-requires-3-clause-sound
line-requires-3-clause-sound c = c.line-2.ensures.sound

pub line-requires-3-clause-room : goal.line-requires-3-clause-room
line-requires-3-clause-room c = omega (arith, ap length c.requires.none, c.in_ok-line.ensures.one, c.in_ok-line-2.ensures.one)

pub line-requires-3-clause-env : goal.line-requires-3-clause-env
line-requires-3-clause-env c = c.in_ok-line-2.ensures.env

pub line-requires-3-clause-live : goal.line-requires-3-clause-live
line-requires-3-clause-live c = c.in_ok-line-2.ensures.live

pub line-requires-3-clause-judged : goal.line-requires-3-clause-judged
line-requires-3-clause-judged c =
    let behind = c.in_ok-line-2.ensures.kept c.args.judges.outer_variable judged.outer_variable (c.in_ok-line.ensures.kept c.args.judges.outer_variable judged.outer_variable c.requires.judged.outer_variable_is) in
    is_of_binary _ _ _ c.args.terms.outer c.args.terms.star c.args.judges.outer_variable behind
    c.in_ok-variable.ensures.params c.in_ok-variable.ensures.body c.in_ok-variable.ensures.of c.requires.terms.outer_is c.requires.terms.star_is

pub returns-clause-lines : goal.returns-clause-lines
returns-clause-lines c =
    let same = c.in_ok-line.ensures.kept c.args.judges.identity judged.identity c.requires.judged.identity_is in
    let behind = c.in_ok-line-2.ensures.kept c.args.judges.outer_variable judged.outer_variable (c.in_ok-line.ensures.kept c.args.judges.outer_variable judged.outer_variable c.requires.judged.outer_variable_is) in
    lines_are _ _ _ _ _ _ _ c.requires.judged.none c.in_ok-line.ensures.added c.in_ok-line-2.ensures.added c.in_ok-line-3.ensures.added
    c.requires.judged.product_is.is same.is behind.is

pub returns-clause-sound : goal.returns-clause-sound
returns-clause-sound c = c.line-3.ensures.sound

pub returns-clause-env : goal.returns-clause-env
returns-clause-env c = c.in_ok-line-3.ensures.env

pub returns-clause-live : goal.returns-clause-live
returns-clause-live c = c.in_ok-line-3.ensures.live
