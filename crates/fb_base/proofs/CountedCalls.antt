-- How the calls on a desk in memory end: those that go well, and those that are to fail.
use Rattle.std.proofs.Common.{◌≡◌, ℕ, ◌≤◌, ◌==◌, IsTrue, List, [], ◌∷◌, length, Option, Some, Ok, Err, IsErrOf, sym, arith, subst}
use Rattle.std.proofs.lemmas.Grind.{common_steps}
use Rattle.std.specs.Prelude.{find, option_map}
use Rattle.std.specs.Option.{IsSomeAnd}
use Rattle.fb_base.specs.Desk.{Seen, Rose, IsCall, counted}
use Rattle.fb_base.specs.MemDesk.{next_failing}
use Rattle.fb_base.specs.declared.desk.DeskFault.{DeskFault}
use Rattle.fb_base.specs.declared.desk.DeskFault.TheVariants.{Failed, Memory}
use Rattle.fb_base.specs.declared.mem.Calls.{Calls}

-- a counted fault is seen
pub rose : (before : ℕ) → Rose before (counted before)
rose before = grind arith

failing_none : (fails : List (ℕ × ℕ)) (number count : ℕ) → option_map (λ (f : ℕ × ℕ). f.1) (find (λ f. f.0 == number) fails) ≡ Some count
    → IsTrue (length fails == 0) → ⊥
failing_none [] number count found none = cc
failing_none (f ∷ fs) number count found none = grind (arith, common_steps)

-- A sound desk has no call that is to fail.
pub none_to_fail : (calls : Calls) (count : ℕ) → next_failing calls ≡ Some count → IsTrue (length calls.fails.items == 0) → ⊥
none_to_fail calls count = failing_none calls.fails.items calls.number count

-- Nothing is both failed and out of memory.
no_memory : (T : Type 0) (fault : DeskFault) → fault ≡ Failed → IsErrOf {T = T} (Err fault) Memory → ⊥
no_memory T fault failed ran_out = grind (arith, common_steps)

-- a call that failed, as each caller sees it
pub wrong_call : {T : Type 0} (old new : Seen) (fault : DeskFault) → fault ≡ Failed → new.tells_files ≡ old.tells_files → new.tells_said ≡ old.tells_said
    → new.sound ≡ old.sound → new.faults ≡ counted old.faults → old.faults ≤ new.faults → IsCall {T = T} old new (Err fault)
wrong_call {T} old new fault failed files said sound count never = record {
  tells_files = files;
  tells_said = said;
  sound = sound;
  never_falls = never;
  failed = λ _. subst (Rose old.faults) (sym count) (rose old.faults);
  memory = λ ran_out. absurd (no_memory T fault failed ran_out);
}

well_not_failed : (T : Type 0) (value : T) → IsErrOf (Ok value) Failed → ⊥
well_not_failed T value failed = grind (arith, common_steps)

well_no_memory : (T : Type 0) (value : T) → IsErrOf (Ok value) Memory → ⊥
well_no_memory T value failed = grind (arith, common_steps)

-- a call that went well, as each caller sees it
pub right_call : {T : Type 0} (old new : Seen) (value : T) → new.tells_files ≡ old.tells_files → new.tells_said ≡ old.tells_said
    → new.sound ≡ old.sound → new.faults ≡ old.faults → IsCall old new (Ok value)
right_call {T} old new value files said sound count = record {
  tells_files = files;
  tells_said = said;
  sound = sound;
  never_falls = omega arith;
  failed = λ failed. absurd (well_not_failed T value failed);
  memory = λ failed. absurd (well_no_memory T value failed);
}

-- what holds of the value that is there
pub some_and : {T : Type 0} (o : Option T) (v : T) (P : T → Type 0) → o ≡ Some v → P v → IsSomeAnd o P
some_and o v P e p = rw e p
