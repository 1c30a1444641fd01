-- The items of an abstraction, whole: over a primitive A, the term fun x : A . x, read for its type without a step.
use Rattle.std.proofs.Common.{true, false, [], ◌∷◌, arith, refl}
use Rattle.ld_terms.specs.Tree.{Tree, Star, Var, Lam, Pi, Const, Nil, ◌▸◌}
use Rattle.ld_terms.specs.Entry.{Entry, Env, Primitive}
use Rattle.ld_terms.specs.Item.{IsSmall, One}
use Rattle.ld_reduce.specs.Task as task
use Rattle.ld_reduce.specs.Task.{Gives, Pairs}
use Rattle.ld_infer.specs.declared.failure.RuleName.TheVariants.{Abst}
use Rattle.ld_infer.specs.Reading.{found, SortOf, Types}
use Rattle.fb_steps.specs.Items.{Flag, Intro, Line, Plain}
use Rattle.fb_steps.specs.Work as work
use Rattle.fb_steps.specs.Work.{Done}
use Rattle.fb_steps.specs.Steps.{steps_of}

abbrev a_type : Entry
a_type = record { name = 65 ∷ []; params = Nil; body = Primitive; type = Star }

abbrev entries : Env
entries = a_type ∷ []

abbrev a : Tree
a = Const 0 Nil

small_star : IsSmall (One Star)
small_star = record { height = omega arith; index = omega arith }

small_a : IsSmall (One a)
small_a = record { height = omega arith; index = omega arith }

sort_read : SortOf entries Nil 1 (Abst, 1) a [] (Gives Star) [] 0
sort_read =
    task.◌>>=◌.goes_on (found Star false) [] 0 0
    (task.◌>>=◌.goes_on tt [] 0 0 (refl, refl, refl) (task.◌>>=◌.goes_on Star [] 0 0 (task.formed.small small_star refl refl refl) (refl, refl, refl) refl) refl)
    (refl, refl, refl) refl

body_read : Types entries (Nil ▸ a) 1 (Abst, 1) (Var 0) [] (Gives (found a true)) [] 0
body_read = task.◌>>=◌.goes_on a [] 0 0 (task.formed.small small_a refl refl refl) (refl, refl, refl) refl

-- by three items, with no step left
pub identity_items : steps_of entries Nil (Lam a (Var 0)) (Pi a a) [] 0 0 (Done 2)
    (Flag 0 a ∷ Line 1 1 (Plain (Var 0)) a (Var 0) ∷ Line 0 2 (Intro 1) (Pi a a) (Lam a (Var 0)) ∷ []) [] 0 2
identity_items =
    work.◌>>=◌.goes_on Star [] [] _ 0 0 0 (work.reads.answered (Gives Star) sort_read (omega arith) refl refl refl)
    (work.◌>>=◌.goes_on (found a true) [] [] _ 0 0 0 (work.reads.answered (Gives (found a true)) body_read (omega arith) refl refl refl)
    (work.◌>>=◌.goes_on tt [] (Flag 0 a ∷ []) _ 0 0 0 (refl, refl, refl, refl, refl)
    (work.◌>>=◌.goes_on 1 [] (Line 1 1 (Plain (Var 0)) a (Var 0) ∷ []) (Line 0 2 (Intro 1) (Pi a a) (Lam a (Var 0)) ∷ []) 0 0 1 (refl, refl, refl, refl, refl)
    (refl, refl, refl, refl, refl) refl refl) refl refl) refl refl) refl refl
