use Rattle.std.proofs.Common.{◌-◌, ◌==◌, min, length, refl, ap, sym, rules, List, subst, Option, ℕ, []}
use Rattle.std.specs.Prelude.{unwrap_or}
use Rattle.fb_base.specs.declared.mem.Calls.{Calls}
use Rattle.fb_base.proofs.CountedCalls.{wrong_call, right_call, none_to_fail, some_and}
use Rattle.fb_base.specs.MemFiles.{LastGrows}
use Rattle.fb_base.proofs.Files.{grown_name, grown_content, grown_others}
use Rattle.fb_base.proofs.mem.MemDeskDesk.append.Goals as goal

pub returns-in_ok-append_to_last-in-None-clause-appends : goal.returns-in_ok-append_to_last-in-None-clause-appends
returns-in_ok-append_to_last-in-None-clause-appends c =
    let counts = c.went_well.ensures in
    let grows = c.in_ok-append_to_last-in-None.ensures.ok in
    record {
      call = right_call _ _ _ refl refl (ap (λ (calls : Calls). length calls.fails.items == 0) counts) (ap (λ (calls : Calls). calls.faults) counts);
      said = refl;
      started = refl;
      target = grown_name _ _ _ grows;
      others = λ _. grown_others _ _ _ grows;
      all = λ _. grown_content _ _ _ grows;
      front = search rules;
      not_failed = search rules;
    }

pub returns-in_ok-append_to_last-in-Some-clause-appends : goal.returns-in_ok-append_to_last-in-Some-clause-appends
returns-in_ok-append_to_last-in-Some-clause-appends c =
    let counts = c.went_wrong.ensures.counts in
    let grows = subst (LastGrows c.args.self.now.files.items c.append_to_last-in-Some.new.files.items) c.part_of.ensures c.in_ok-append_to_last-in-Some.ensures.ok in
    record {
      call = wrong_call _ _ _ c.went_wrong.ensures.fault refl refl (ap (λ (calls : Calls). length calls.fails.items == 0) counts)
          (ap (λ (calls : Calls). calls.faults) counts) c.went_wrong.ensures.never_falls;
      said = refl;
      started = refl;
      target = grown_name _ _ _ grows;
      others = λ _. grown_others _ _ _ grows;
      all = search rules;
      front = λ _ _. (min c.in-Some.count (length c.args.bytes.now - 1), grown_content _ _ _ grows);
      not_failed = λ _ sound _. none_to_fail c.args.self.now.calls c.in-Some.count (sym c.in-Some.ensures) sound;
    }

pub returns-in_ok-append_to_last-in-Some-clause-fails : goal.returns-in_ok-append_to_last-in-Some-clause-fails
returns-in_ok-append_to_last-in-Some-clause-fails c =
    let grows = subst (LastGrows c.args.self.now.files.items c.append_to_last-in-Some.new.files.items) c.part_of.ensures c.in_ok-append_to_last-in-Some.ensures.ok in
    λ _. some_and _ _ _ (sym c.in-Some.ensures) (ap (λ (content : Option (List ℕ)). unwrap_or content []) (grown_content _ _ _ grows))
