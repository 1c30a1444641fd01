use Rattle.std.proofs.Common.{◌≡◌, ◌<◌, refl, is_some, true, arith}
use Rattle.ld_terms.specs.Tree.{Const, Var, Nil, ◌▸◌}
use Rattle.ld_terms.specs.Named.{IsNamed}
use Rattle.ld_reduce.specs.Heads.{delta_step}
use Rattle.ld_terms.specs.Item.{One}
use Rattle.ld_record.proofs.Sampled.{holds_later}
use Rattle.ld_reduce.proofs.Going.{term_of}
use Rattle.ld_reduce.proofs.Sampled.{over_lines}
use Rattle.ld_reduce.proofs.tests.sample_instance.Goals as goal

pub returns-clause-named : goal.returns-clause-named
returns-clause-named c =
    let there : 2 < 3 = omega arith in
    over_lines (λ e x. IsNamed e x) _ _ _ c.in_ok-term.term (Const 2 (Nil ▸ Var 5 ▸ Var 6)) c.in_ok-lines.ensures.kept c.in_ok-term.ensures c.in_ok-lines.ensures.lines (there, refl, ((tt, tt), tt))

pub returns-clause-head : goal.returns-clause-head
returns-clause-head c =
    over_lines (λ e x. is_some (delta_step e x) ≡ true) _ _ _ c.in_ok-term.term (Const 2 (Nil ▸ Var 5 ▸ Var 6)) c.in_ok-lines.ensures.kept c.in_ok-term.ensures c.in_ok-lines.ensures.lines refl

pub lines-requires-clause-none : goal.lines-requires-clause-none
lines-requires-clause-none c = c.requires.none

pub lines-requires-clause-no_records : goal.lines-requires-clause-no_records
lines-requires-clause-no_records c = c.requires.no_records

pub returns-clause-sound : goal.returns-clause-sound
returns-clause-sound c = c.in_ok-lines.ensures.sound

pub returns-clause-env : goal.returns-clause-env
returns-clause-env c = c.in_ok-lines.ensures.env

pub returns-clause-live : goal.returns-clause-live
returns-clause-live c = c.in_ok-lines.ensures.live

pub returns-clause-term : goal.returns-clause-term
returns-clause-term c =
    term_of c.lines.new.bank c.in_ok-term.term (Const 2 (Nil ▸ Var 5 ▸ Var 6))
    (holds_later c.instance.new.bank c.lines.new.bank c.in_ok-term.term (One (Const 2 (Nil ▸ Var 5 ▸ Var 6))) c.in_ok-lines.ensures.kept c.in_ok-term.ensures)
