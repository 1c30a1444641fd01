use Rattle.std.proofs.Common.{◌<◌, refl, arith}
use Rattle.ld_terms.specs.Tree.{App, Const, Nil}
use Rattle.ld_terms.specs.Named.{IsNamed}
use Rattle.ld_terms.specs.Item.{One}
use Rattle.ld_record.proofs.Sampled.{holds_later}
use Rattle.ld_reduce.proofs.Going.{term_of}
use Rattle.ld_reduce.proofs.Sampled.{over_lines}
use Rattle.ld_reduce.proofs.tests.sample_application.Goals as goal

pub returns-clause-named : goal.returns-clause-named
returns-clause-named c =
    let first : 1 < 3 = omega arith in
    let second : 0 < 3 = omega arith in
    over_lines (λ e x. IsNamed e x) _ _ _ c.in_ok-term.term (App (Const 1 Nil) (Const 0 Nil)) c.in_ok-lines.ensures.kept c.in_ok-term.ensures c.in_ok-lines.ensures.lines
    ((first, refl, tt), (second, refl, tt))

pub lines-requires-clause-none : goal.lines-requires-clause-none
lines-requires-clause-none c = c.requires.none

pub lines-requires-clause-no_records : goal.lines-requires-clause-no_records
lines-requires-clause-no_records c = c.requires.no_records

pub returns-clause-sound : goal.returns-clause-sound
returns-clause-sound c = c.in_ok-lines.ensures.sound

pub returns-clause-env : goal.returns-clause-env
returns-clause-env c = c.in_ok-lines.ensures.env

pub returns-clause-live : goal.returns-clause-live
returns-clause-live c = c.in_ok-lines.ensures.live

pub returns-clause-term : goal.returns-clause-term
returns-clause-term c =
    term_of c.lines.new.bank c.in_ok-term.term (App (Const 1 Nil) (Const 0 Nil))
    (holds_later c.application.new.bank c.lines.new.bank c.in_ok-term.term (One (App (Const 1 Nil) (Const 0 Nil))) c.in_ok-lines.ensures.kept c.in_ok-term.ensures)
