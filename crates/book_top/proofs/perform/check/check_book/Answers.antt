use Rattle.std.proofs.Common.{Err, List, ℕ, IsTrue, ap, sym, subst}
use Rattle.book_top.specs.Command.{Check}
use Rattle.book_top.specs.Check.{IsFetched}
use Rattle.book_top.proofs.BookChecks.{unfetched, checked}
use Rattle.book_top.proofs.Performing.{performed}
use Rattle.book_top.proofs.perform.check.check_book.Goals as goal

pub returns-in-Ok : goal.returns-in-Ok
returns-in-Ok g c =
    let old = g.D.Desk.seen c.args.desk.now in
    let mid = g.D.Desk.seen c.fetch.new.desk in
    let later = g.D.Desk.seen c.check_text-status.new.desk in
    let asked = c.args.asked in
    let F : List ℕ → Type 0 = λ text. IsFetched old.files asked.book.now text in
    let there = λ (told : IsTrue old.tells_files). subst F (sym c.deref-text.ensures.value) (c.in-Ok.ensures.bytes told) in
    let said = c.check_text-status.ensures in
    performed (Check asked.book.now asked.out.now asked.budget) old later (g.D.Desk.seen c.say.new.desk) _ c.check_text-status.result
    c.say.result
    (checked old mid later asked.book.now asked.out.now c.deref-text.result.now asked.budget c.check_text-status.result
    c.fetch.ensures.same there
    c.fetch.ensures.never_falls said.checks said.may said.others said.said said.tells_said said.tells_files said.sound_stays
    said.never_falls said.desk said.never)
    c.say.ensures.only c.say.ensures.same c.say.ensures.said c.say.ensures.never_falls c.say.ensures.desk c.say.ensures.sound

pub returns-in-Err : goal.returns-in-Err
returns-in-Err g c =
    let old = g.D.Desk.seen c.args.desk.now in
    let mid = g.D.Desk.seen c.fetch.new.desk in
    let asked = c.args.asked in
    performed (Check asked.book.now asked.out.now asked.budget) old mid (g.D.Desk.seen c.say-in-Err.new.desk) _ c.in-Err.status
    c.say-in-Err.result
    (unfetched old mid asked.book.now asked.out.now _ asked.budget c.in-Err.status c.fetch.ensures.same c.fetch.ensures.never_falls
    c.in-Err.ensures.stopped
    (λ is. c.in-Err.ensures.desk (ap Err is)) (λ is told sound. c.in-Err.ensures.absent (ap Err is) told sound))
    c.say-in-Err.ensures.only c.say-in-Err.ensures.same c.say-in-Err.ensures.said c.say-in-Err.ensures.never_falls
    c.say-in-Err.ensures.desk c.say-in-Err.ensures.sound
