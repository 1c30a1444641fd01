use Rattle.std.proofs.Common.{◌==◌, length, refl, ap, sym, inl, inr, rules, arith}
use Rattle.std.proofs.lemmas.Grind.{common_steps}
use Rattle.fb_base.specs.declared.mem.Calls.{Calls}
use Rattle.fb_base.proofs.CountedCalls.{right_call, wrong_call, none_to_fail, some_and}
use Rattle.fb_base.proofs.Files.{pushed_name, pushed_content, pushed_others}
use Rattle.fb_base.proofs.mem.MemDeskDesk.start.Goals as goal

pub returns-in_ok-push_empty-in-None-clause-starts : goal.returns-in_ok-push_empty-in-None-clause-starts
returns-in_ok-push_empty-in-None-clause-starts c =
    let counts = c.went_well.ensures in
    let pushed = c.in_ok-push_empty-in-None.ensures.ok in
    record {
      call = right_call _ _ _ refl refl (ap (λ (calls : Calls). length calls.fails.items == 0) counts) (ap (λ (calls : Calls). calls.faults) counts);
      said = refl;
      others = λ _. pushed_others _ _ _ pushed;
      started = refl;
      empty = λ _. (pushed_name _ _ _ pushed, pushed_content _ _ _ pushed);
      stopped = search rules;
      partly = search rules;
      not_failed = search rules;
    }

pub returns-in-Some-eq0-clause-starts : goal.returns-in-Some-eq0-clause-starts
returns-in-Some-eq0-clause-starts c =
    let counts = c.went_wrong.ensures.counts in
    record {
      call = wrong_call _ _ _ c.went_wrong.ensures.fault refl refl (ap (λ (calls : Calls). length calls.fails.items == 0) counts)
          (ap (λ (calls : Calls). calls.faults) counts) c.went_wrong.ensures.never_falls;
      said = refl;
      others = λ _ _ _. refl;
      started = search rules;
      empty = search rules;
      stopped = λ _. refl;
      partly = λ _ _. inl refl;
      not_failed = λ _ sound _. none_to_fail c.args.self.now.calls c.in-Some-eq0.field-0 (sym c.in-Some-eq0.ensures) sound;
    }

pub returns-in_ok-push_empty-in-Some-clause-starts : goal.returns-in_ok-push_empty-in-Some-clause-starts
returns-in_ok-push_empty-in-Some-clause-starts c =
    let counts = c.went_wrong-in-Some.ensures.counts in
    let pushed = c.in_ok-push_empty-in-Some.ensures.ok in
    record {
      call = wrong_call _ _ _ c.went_wrong-in-Some.ensures.fault refl refl (ap (λ (calls : Calls). length calls.fails.items == 0) counts)
          (ap (λ (calls : Calls). calls.faults) counts) c.went_wrong-in-Some.ensures.never_falls;
      said = refl;
      others = λ _. pushed_others _ _ _ pushed;
      started = search rules;
      empty = search rules;
      stopped = λ _. refl;
      partly = λ _ _. inr (pushed_content _ _ _ pushed);
      not_failed = λ _ sound _. none_to_fail c.args.self.now.calls c.in-Some.field-0 (sym c.in-Some.ensures) sound;
    }

pub returns-in_ok-push_empty-in-Some-clause-fails : goal.returns-in_ok-push_empty-in-Some-clause-fails
returns-in_ok-push_empty-in-Some-clause-fails c =
    λ _. some_and _ c.in-Some.field-0 _ (sym c.in-Some.ensures) (let content = pushed_content _ _ _ c.in_ok-push_empty-in-Some.ensures.ok in grind (arith, common_steps, content))
