use Rattle.std.proofs.Common.{refl, length, ap, ◌∙◌, sym, arith}
use Rattle.ld_terms.specs.Derivable.{IsSort}
use Rattle.ld_env.specs.Entries.{env_of}
use Rattle.ld_samples.specs.Samples as judged
use Rattle.ld_samples.proofs.Sampled.{none_live}
use Rattle.ld_convert.proofs.Sampled.{is_of_unary, is_primitive_of_unary, lines_are}
use Rattle.ld_convert.proofs.sample.entries.Goals as goal

pub primitive-requires-clause-sound : goal.primitive-requires-clause-sound
primitive-requires-clause-sound c = c.requires.sound

pub primitive-requires-clause-room : goal.primitive-requires-clause-room
primitive-requires-clause-room c = omega (arith, ap length c.requires.none)

pub primitive-requires-clause-env : goal.primitive-requires-clause-env
primitive-requires-clause-env c = ap (env_of c.args.bank.now) c.requires.none ∙ sym c.requires.judged.none

pub primitive-requires-clause-live : goal.primitive-requires-clause-live
primitive-requires-clause-live c = none_live c.args.bank.now c.args.env.now c.requires.none

pub primitive-requires-clause-judged : goal.primitive-requires-clause-judged
primitive-requires-clause-judged c =
    is_primitive_of_unary _ _ _ c.args.terms.star c.args.terms.star c.args.judges.inner_sort judged.inner_sort c.requires.judged.inner_sort_is refl refl IsSort.box
    c.in_ok-given.ensures.params c.in_ok-given.ensures.body c.in_ok-given.ensures.of c.requires.terms.star_is c.requires.terms.star_is

pub line-requires-clause-sound : goal.line-requires-clause-sound
line-requires-clause-sound c = c.primitive.ensures.sound

pub line-requires-clause-room : goal.line-requires-clause-room
line-requires-clause-room c = omega (arith, ap length c.requires.none, c.in_ok-primitive.ensures.one)

pub line-requires-clause-env : goal.line-requires-clause-env
line-requires-clause-env c = c.in_ok-primitive.ensures.env

pub line-requires-clause-live : goal.line-requires-clause-live
line-requires-clause-live c = c.in_ok-primitive.ensures.live

pub line-requires-clause-judged : goal.line-requires-clause-judged
line-requires-clause-judged c =
    is_of_unary _ _ _ c.args.terms.star c.args.terms.over c.args.terms.star c.args.judges.inner_sort judged.inner_sort
    (c.in_ok-primitive.ensures.kept c.args.judges.inner_sort judged.inner_sort c.requires.judged.inner_sort_is) refl refl
    c.in_ok-sort.ensures.params c.in_ok-sort.ensures.body c.in_ok-sort.ensures.of c.requires.terms.star_is c.requires.terms.star_is c.requires.terms.over_is

pub line-requires-2-clause-sound : goal.line-requires-2-clause-sound
line-requires-2-clause-sound c = c.line.ensures.sound

pub line-requires-2-clause-room : goal.line-requires-2-clause-room
line-requires-2-clause-room c = omega (arith, ap length c.requires.none, c.in_ok-primitive.ensures.one, c.in_ok-line.ensures.one)

pub line-requires-2-clause-env : goal.line-requires-2-clause-env
line-requires-2-clause-env c = c.in_ok-line.ensures.env

pub line-requires-2-clause-live : goal.line-requires-2-clause-live
line-requires-2-clause-live c = c.in_ok-line.ensures.live

pub line-requires-2-clause-judged : goal.line-requires-2-clause-judged
line-requires-2-clause-judged c =
    let typed = c.in_ok-line.ensures.kept c.args.judges.variable judged.variable (c.in_ok-primitive.ensures.kept c.args.judges.variable judged.variable c.requires.judged.variable_is) in
    is_of_unary _ _ _ c.args.terms.inner c.args.terms.star c.args.terms.star c.args.judges.variable judged.variable typed refl refl
    c.in_ok-variable.ensures.params c.in_ok-variable.ensures.body c.in_ok-variable.ensures.of c.requires.terms.star_is c.requires.terms.inner_is c.requires.terms.star_is

pub returns-clause-lines : goal.returns-clause-lines
returns-clause-lines c =
    let behind = c.in_ok-primitive.ensures.kept c.args.judges.inner_sort judged.inner_sort c.requires.judged.inner_sort_is in
    let typed = c.in_ok-line.ensures.kept c.args.judges.variable judged.variable (c.in_ok-primitive.ensures.kept c.args.judges.variable judged.variable c.requires.judged.variable_is) in
    lines_are _ _ _ _ _ _ _ c.requires.judged.none c.in_ok-primitive.ensures.added c.in_ok-line.ensures.added c.in_ok-line-2.ensures.added
    c.requires.judged.inner_sort_is.is behind.is typed.is

pub returns-clause-sound : goal.returns-clause-sound
returns-clause-sound c = c.line-2.ensures.sound

pub returns-clause-env : goal.returns-clause-env
returns-clause-env c = c.in_ok-line-2.ensures.env

pub returns-clause-live : goal.returns-clause-live
returns-clause-live c = c.in_ok-line-2.ensures.live
