use Rattle.std.proofs.Common.{◌-◌, ◌==◌, min, length, refl, ap, ◌∙◌, sym, ◌++◌, rules}
use Rattle.fb_base.specs.declared.mem.Calls.{Calls}
use Rattle.fb_base.proofs.CountedCalls.{wrong_call, none_to_fail}
use Rattle.fb_base.proofs.mem.MemDeskDesk.say.Goals as goal

pub returns-in_ok-append-in-Some-clause-says : goal.returns-in_ok-append-in-Some-clause-says
returns-in_ok-append-in-Some-clause-says c =
    let counts = c.went_wrong.ensures.counts in
    record {
      call = wrong_call _ _ _ c.went_wrong.ensures.fault refl refl (ap (λ (calls : Calls). length calls.fails.items == 0) counts)
          (ap (λ (calls : Calls). calls.faults) counts) c.went_wrong.ensures.never_falls;
      same = rw counts refl;
      all = search rules;
      front = λ _ _. (min c.in-Some.count (length c.args.bytes.now - 1), c.in_ok-append-in-Some.ensures.ok ∙ ap (λ part. c.args.self.now.said ++ part) c.part_of.ensures);
      not_failed = λ _ sound _. none_to_fail c.args.self.now.calls c.in-Some.count (sym c.in-Some.ensures) sound;
    }
