-- Turns one after another, up to the answer of a comparison.
use Rattle.std.proofs.Common.{◌≡◌, ◌≤◌, ◌<◌, ◌+◌, ◌-◌, ◌||◌, ◌*◌, ℕ, suc, Bool, true, false, Option, None, Some, List, length, refl, sym, ap, subst, arith}
use Rattle.ld_terms.specs.Tree.{Tree}
use Rattle.ld_terms.specs.Entry.{Env}
use Rattle.ld_terms.specs.Tests.{equals}
use Rattle.ld_terms.specs.Item.{Item}
use Rattle.ld_terms.specs.Bank.{tree_at}
use Rattle.ld_terms.specs.declared.bank.TermId.{TermId}
use Rattle.ld_env.specs.Named.{Named}
use Rattle.ld_record.specs.declared.record.Kept.{Kept}
use Rattle.ld_record.specs.Kept.{known_of}
use Rattle.ld_reduce.specs.Task.{Pairs, Answer, Gives, Fails, High, Nested, Task, Answers, Ends, fault, high, nesting}
use Rattle.ld_reduce.specs.Work.{Work}
use Rattle.ld_reduce.specs.Cost.{Goes}
use Rattle.ld_reduce.specs.declared.stop.Stop.{Stop}
use Rattle.ld_reduce.specs.declared.stop.Stop.TheVariants as stop
use Rattle.ld_convert.specs.Apart.{Apart, apart}
use Rattle.ld_convert.specs.Known.{is_known}
use Rattle.ld_convert.specs.Compares.{Turns, turn, comparison, compare_within, Compares, remember}
use Rattle.ld_convert.specs.Laws.{AnswersOnce}
use Rattle.ld_convert.specs.Pairs.{pairs_of}
use Rattle.ld_convert.specs.Account.{Comes, RunsOut, StopsTask}
use Rattle.ld_convert.specs.Turned.{IsReady, IsTurned, IsShallowTurn, AreSpentLess, answer_of, unless, next_turn}
use Rattle.ld_convert.specs.declared.job.Job.{Job}
use Rattle.ld_convert.specs.declared.job.Compared.{Compared}
use Rattle.ld_convert.specs.declared.job.Compared.TheVariants as compared
use Rattle.ld_convert.specs.declared.turning.Turned.{Turned}
use Rattle.ld_convert.specs.declared.turning.Turned.TheVariants as turned
use Rattle.ld_convert.proofs.Agreeing.{gives_injective, fails_injective, some_injective, none_some, no_value}
use Rattle.ld_convert.proofs.Spending.{takes_all}
use Rattle.ld_convert.proofs.Carrying.{Carries}
use Rattle.ld_convert.proofs.Once.{turns_once, comparison_once, within_once}

-- a task with at most one answer has the one that comes
pub only_answer : {E X : Type 0} (p : Task E X) (K : Pairs) (r : Answer E X) (L : Pairs) (n : ℕ) → AnswersOnce p → p K r L n → Answers p K r L n
only_answer p K r L n once h = record { is = h; only = λ s M m g. let o = once K M L s r m n g h in (o.answer, o.known, o.steps) }

module _ (env : Env) (compare : Tree → Tree → Task Apart (Unit {0})) (hc : (a b : Tree) → AnswersOnce (compare a b)) where
  answers_turns : (a b : Tree) → AnswersOnce (Turns env compare a b)
  answers_turns a b K L M r s n m p q = turns_once env compare hc p q

  next_is : (a b : Tree) (K : Pairs) (t : Bool) (r : Answer Apart (Option (Tree × Tree))) (L : Pairs) (n : ℕ) → (equals a b || is_known K a b) ≡ t → unless t (turn env compare a b) K r L n
      → next_turn env compare a b K r L n
  next_is a b K t r L n e h = subst (λ x. unless x (turn env compare a b) K r L n) (sym e) h

  was_next : (a b : Tree) (K : Pairs) (t : Bool) (r : Answer Apart (Option (Tree × Tree))) (L : Pairs) (n : ℕ) → (equals a b || is_known K a b) ≡ t → next_turn env compare a b K r L n
      → unless t (turn env compare a b) K r L n
  was_next a b K t r L n e h = subst (λ x. unless x (turn env compare a b) K r L n) e h

  -- one turn more of two that are the same at once
  pub next_now : (a b : Tree) (K : Pairs) (w : Work) → (equals a b || is_known K a b) ≡ true → Comes (next_turn env compare a b) K (Gives None) K w w
  next_now a b K w e = record {
    steps = 0;
    answers = record { is = next_is a b K true (Gives None) K 0 e (refl, refl, refl); only = λ s L m h. was_next a b K true s L m e h };
    takes = record { left = omega arith; spent = omega arith };
  }

  -- and of two that aren't
  pub next_comes : (a b : Tree) (K L : Pairs) (r : Answer Apart (Option (Tree × Tree))) (old new : Work) → (equals a b || is_known K a b) ≡ false → Comes (turn env compare a b) K r L old new
      → Comes (next_turn env compare a b) K r L old new
  next_comes a b K L r old new e h = record {
    steps = h.steps;
    answers = record { is = next_is a b K false r L h.steps e h.answers.is; only = λ s M m t. h.answers.only s M m (was_next a b K false s M m e t) };
    takes = h.takes;
  }

  pub next_stops : (a b : Tree) (K L : Pairs) (old new : Work) (s : Stop) → (equals a b || is_known K a b) ≡ false → StopsTask (turn env compare a b) K L old new s
      → StopsTask (next_turn env compare a b) K L old new s
  next_stops a b K L old new stop.Spent e h = record { none = λ r M n t. h.none r M n (was_next a b K false r M n e t); left = h.left; takes = h.takes }
  next_stops a b K L old new stop.High e h = next_comes a b K L High old new e h
  next_stops a b K L old new stop.Nested e h = next_comes a b K L Nested old new e h
  next_stops a b K L old new stop.Memory e h = tt

  -- the two are the same at once
  pub turns_now : (a b : Tree) (K : Pairs) (w : Work) → (equals a b || is_known K a b) ≡ true → Comes (Turns env compare a b) K (Gives tt) K w w
  turns_now a b K w e = record {
    steps = 0;
    answers = only_answer (Turns env compare a b) K (Gives tt) K 0 (answers_turns a b) (Turns.same e);
    takes = record { left = omega arith; spent = omega arith };
  }

  -- a turn that leaves nothing to be compared
  pub turns_last : (a b : Tree) (K L : Pairs) (old new : Work) → Comes (next_turn env compare a b) K (Gives None) L old new → Comes (Turns env compare a b) K (Gives tt) L old new
  turns_last a b K L old new h = record {
    steps = h.steps;
    answers = only_answer (Turns env compare a b) K (Gives tt) L h.steps (answers_turns a b) (by (equals a b || is_known K a b) refl);
    takes = h.takes;
  }
    where
      by : (t : Bool) → (equals a b || is_known K a b) ≡ t → Turns env compare a b K (Gives tt) L h.steps
      by true e =
          let w = was_next a b K true (Gives None) L h.steps e h.answers.is in
          subst (λ x. Turns env compare a b K (Gives tt) x h.steps) (sym w.1) (subst (λ n. Turns env compare a b K (Gives tt) K n) (sym w.2) (Turns.same e))
      by false e = Turns.last e (was_next a b K false (Gives None) L h.steps e h.answers.is)

  -- a turn that ends without a value
  pub turns_stop : (a b : Tree) (K L : Pairs) (s : Answer Apart (Option (Tree × Tree))) (r : Answer Apart (Unit {0})) (old new : Work) → Comes (next_turn env compare a b) K s L old new
      → Ends s r → Comes (Turns env compare a b) K r L old new
  turns_stop a b K L s r old new h end = record {
    steps = h.steps;
    answers = only_answer (Turns env compare a b) K r L h.steps (answers_turns a b) (by (equals a b || is_known K a b) refl);
    takes = h.takes;
  }
    where
      by : (t : Bool) → (equals a b || is_known K a b) ≡ t → Turns env compare a b K r L h.steps
      by true e = absurd (no_value (subst (λ v. Ends v r) (was_next a b K true s L h.steps e h.answers.is).0 end))
      by false e = Turns.stop s e (was_next a b K false s L h.steps e h.answers.is) end

  -- a turn that runs out
  pub turns_out : (a b : Tree) (K : Pairs) (old new : Work) → RunsOut (next_turn env compare a b) K old new → RunsOut (Turns env compare a b) K old new
  turns_out a b K old new h = record { none = λ r L n t. late a b K r L n h.none t; left = h.left; takes = h.takes }
    where
      late : (a b : Tree) (K : Pairs) (r : Answer Apart (Unit {0})) (L : Pairs) (n : ℕ)
          → ((s : Answer Apart (Option (Tree × Tree))) (M : Pairs) (m : ℕ) → next_turn env compare a b K s M m → old.left < m) → Turns env compare a b K r L n → old.left < n
      late a b K r L n none (Turns.same e) = none (Gives None) K 0 (next_is a b K true (Gives None) K 0 e (refl, refl, refl))
      late a b K r L n none (Turns.last e t) = none (Gives None) L n (next_is a b K false (Gives None) L n e t)
      late a b K r L n none (Turns.stop s e t end) = none s L n (next_is a b K false s L n e t)
      late a b K r L n none (Turns.again pair m i j e t w sum) =
          let l = none (Gives (Some pair)) m i (next_is a b K false (Gives (Some pair)) m i e t) in
          omega (arith, sum, l)

  -- a turn that leaves a new pair
  pub turns_next : (a b : Tree) (pair : Tree × Tree) (K M : Pairs) (old mid : Work) → Comes (next_turn env compare a b) K (Gives (Some pair)) M old mid
      → Carries (Turns env compare a b) (Turns env compare pair.0 pair.1) K M old mid
  turns_next a b pair K M old mid h = record {
    comes = λ r L new t. record {
      steps = h.steps + t.steps;
      answers = only_answer (Turns env compare a b) K r L (h.steps + t.steps) (answers_turns a b) (by (equals a b || is_known K a b) r L t.steps refl t.answers.is);
      takes = record { left = omega (arith, h.takes.left, t.takes.left); spent = omega (arith, h.takes.spent, t.takes.spent) };
    };
    out = λ new t. record { none = λ r L n w. late a b K r L n h.answers.only t.none w; left = t.left; takes = takes_all old mid new h.steps h.takes t.takes };
  }
    where
      by : (t : Bool) (r : Answer Apart (Unit {0})) (L : Pairs) (n : ℕ) → (equals a b || is_known K a b) ≡ t → Turns env compare pair.0 pair.1 M r L n → Turns env compare a b K r L (h.steps + n)
      by true r L n e w = absurd (none_some (gives_injective (sym (was_next a b K true (Gives (Some pair)) M h.steps e h.answers.is).0)))
      by false r L n e w = Turns.again pair M h.steps n e (was_next a b K false (Gives (Some pair)) M h.steps e h.answers.is) w refl

      late : (a b : Tree) (K : Pairs) (r : Answer Apart (Unit {0})) (L : Pairs) (n : ℕ)
          → ((s : Answer Apart (Option (Tree × Tree))) (N : Pairs) (m : ℕ) → next_turn env compare a b K s N m → (s ≡ Gives (Some pair)) × (N ≡ M) × (m ≡ h.steps))
          → ((r : Answer Apart (Unit {0})) (L : Pairs) (n : ℕ) → Turns env compare pair.0 pair.1 M r L n → mid.left < n) → Turns env compare a b K r L n → old.left < n
      late a b K r L n only none (Turns.same e) = absurd (none_some (gives_injective (only (Gives None) K 0 (next_is a b K true (Gives None) K 0 e (refl, refl, refl))).0))
      late a b K r L n only none (Turns.last e t) = absurd (none_some (gives_injective (only (Gives None) L n (next_is a b K false (Gives None) L n e t)).0))
      late a b K r L n only none (Turns.stop s e t end) = absurd (no_value (subst (λ v. Ends v r) (only s L n (next_is a b K false s L n e t)).0 end))
      late a b K r L n only none (Turns.again pair' m i j e t w sum) =
          let o = only (Gives (Some pair')) m i (next_is a b K false (Gives (Some pair')) m i e t) in
          let at = subst (λ p. Turns env compare p.0 p.1 m r L j) (some_injective (gives_injective o.0)) w in
          let l = none r L j (subst (λ k. Turns env compare pair.0 pair.1 k r L j) o.1 at) in
          omega (arith, sum, o.2, l, h.takes.left)

  pub turns_stops : (a b : Tree) (K L : Pairs) (old new : Work) (s : Stop) → StopsTask (next_turn env compare a b) K L old new s → StopsTask (Turns env compare a b) K L old new s
  turns_stops a b K L old new stop.Spent h = turns_out a b K old new h
  turns_stops a b K L old new stop.High h = turns_stop a b K L High High old new h high
  turns_stops a b K L old new stop.Nested h = turns_stop a b K L Nested Nested old new h nesting
  turns_stops a b K L old new stop.Memory h = tt

  -- the whole comparison, from its turns
  pub comparison_comes : (a b : Tree) (K L : Pairs) (r : Answer Apart (Unit {0})) (old new : Work) → Comes (Turns env compare a b) K r L old new
      → Comes (comparison env compare a b) K r (remember (equals a b || is_known K a b) r a b L) old new
  comparison_comes a b K L r old new h = record {
    steps = h.steps;
    answers = only_answer (comparison env compare a b) K r (remember (equals a b || is_known K a b) r a b L) h.steps (comparison_once env compare hc a b)
        (record { found = L; turns = h.answers.is; remembers = refl });
    takes = h.takes;
  }

  pub comparison_out : (a b : Tree) (K : Pairs) (old new : Work) → RunsOut (Turns env compare a b) K old new → RunsOut (comparison env compare a b) K old new
  comparison_out a b K old new h = record { none = λ r L n c. h.none r c.found n c.turns; left = h.left; takes = h.takes }

-- the comparison at a nesting up to 1,000
pub at_nesting : (env : Env) (nest : ℕ) (a b : Tree) (P : Task Apart (Unit {0}) → Type 0) → nest ≤ 1000 → P (comparison env (Compares env (nest + 1)) a b) → P (Compares env nest a b)
at_nesting env nest a b P le p = subst (λ k. P (compare_within k env a b)) less p
  where
    less : suc (1001 - (nest + 1)) ≡ 1001 - nest
    less = omega (arith, le)

-- the comparison at a nesting that is passed
pub at_most_nested : (env : Env) (nest : ℕ) (a b : Tree) (K : Pairs) (w : Work) → 1000 < nest → nest ≤ 1001 → Comes (Compares env nest a b) K Nested K w w
at_most_nested env nest a b K w more most = subst (λ k. Comes (compare_within k env a b) K Nested K w w) none
    (record { steps = 0; answers = record { is = (refl, refl, refl); only = λ s L m h. h }; takes = record { left = omega arith; spent = omega arith } })
  where
    none : 0 ≡ 1001 - nest
    none = omega (arith, more, most)

pub parts_once : (env : Env) (nest : ℕ) (a b : Tree) → AnswersOnce (Compares env (nest + 1) a b)
parts_once env nest a b = within_once (1001 - (nest + 1)) env a b

-- what turns have come to: their answer, or two trees that are left to be compared
abbrev pub answered : List Item → Compared → Answer Apart (Unit {0})
answered items (compared.Same e) = Gives tt
answered items (compared.Apart l r under) = Fails (apart (tree_at items l) (tree_at items r) under)

abbrev pub HasCome : List Item → Env → (nest : ℕ) → (a b : Tree) → (K L : Pairs) → (old new : Work) → Turned → Type 0
HasCome items env nest a b K L old new (turned.Done c) = Comes (Turns env (Compares env (nest + 1)) a b) K (answered items c) L old new
HasCome items env nest a b K L old new (turned.Next l) =
    Carries (Turns env (Compares env (nest + 1)) a b) (Turns env (Compares env (nest + 1)) (tree_at items l.left) (tree_at items l.right)) K L old new

-- what holds between two turns
pub record TurnsGoing (items later : List Item) (kept grown : List Kept) (entries : List Named) (a b : TermId) (nest : ℕ) (job now : Job) (t : Turned) : Type 0 where
  pub goes : Goes items later kept grown
  pub ready : IsReady later grown entries now.known
  pub most : now.budget.left ≤ job.budget.left
  pub shallow : IsShallowTurn nest t
  pub turned : IsTurned later (known_of later grown) (tree_at items a) (tree_at items b) (length (known_of items kept).env) t
  pub come : HasCome later (known_of items kept).env nest (tree_at items a) (tree_at items b) (pairs_of items job.known) (pairs_of later now.known) job.budget now.budget t

-- one more while there is a pair to be compared
abbrev pub weight : Turned → ℕ
weight (turned.Done c) = 0
weight (turned.Next l) = 1

-- what a turn has come to, for the turns
pub come_next : (items : List Item) (env : Env) (nest : ℕ) (a b : Tree) (K L : Pairs) (old new : Work) (t : Turned) → Comes (next_turn env (Compares env (nest + 1)) a b) K (answer_of items t) L old new
    → HasCome items env nest a b K L old new t
come_next items env nest a b K L old new (turned.Done (compared.Same e)) h = turns_last env (Compares env (nest + 1)) (parts_once env nest) a b K L old new h
come_next items env nest a b K L old new (turned.Done (compared.Apart l r under)) h =
    turns_stop env (Compares env (nest + 1)) (parts_once env nest) a b K L (Fails (apart (tree_at items l) (tree_at items r) under)) (Fails (apart (tree_at items l) (tree_at items r) under)) old new h fault
come_next items env nest a b K L old new (turned.Next l) h =
    turns_next env (Compares env (nest + 1)) (parts_once env nest) a b (tree_at items l.left, tree_at items l.right) K L old new h

-- the same for two that lead to them, by what comes of the rest
pub come_on : (items later : List Item) (env : Env) (nest : ℕ) (a b c d : Tree) (K M L : Pairs) (old mid new : Work) (t : Turned)
    → Carries (Turns env (Compares env (nest + 1)) a b) (Turns env (Compares env (nest + 1)) c d) K M old mid → HasCome later env nest c d M L mid new t → HasCome later env nest a b K L old new t
come_on items later env nest a b c d K M L old mid new (turned.Done x) f h = f.comes (answered later x) L new h
come_on items later env nest a b c d K M L old mid new (turned.Next l) f h = record { comes = λ r N w t. f.comes r N w (h.comes r N w t); out = λ w t. f.out w (h.out w t) }

gives_fails : {E X : Type 0} {x : X} {e : E} → ◌≡◌ {A = Answer E X} (Gives x) (Fails e) → ⊥
gives_fails h = cc

fails_gives : {E X : Type 0} {x : X} {e : E} → ◌≡◌ {A = Answer E X} (Fails e) (Gives x) → ⊥
fails_gives h = cc

some_none : {X : Type 0} {y : X} → Some y ≡ None → ⊥
some_none e = cc

-- An answer says what a turn comes to but for the equalities.
pub come_as : (items : List Item) (env : Env) (nest : ℕ) (a b : Tree) (K L : Pairs) (old new : Work) (t s : Turned) → answer_of items t ≡ answer_of items s → HasCome items env nest a b K L old new s
    → HasCome items env nest a b K L old new t
come_as items env nest a b K L old new (turned.Done (compared.Same e)) (turned.Done (compared.Same f)) is h = h
come_as items env nest a b K L old new (turned.Done (compared.Same e)) (turned.Done (compared.Apart l r u)) is h = absurd (gives_fails is)
come_as items env nest a b K L old new (turned.Done (compared.Same e)) (turned.Next s) is h = absurd (none_some (gives_injective is))
come_as items env nest a b K L old new (turned.Done (compared.Apart l r u)) (turned.Done (compared.Same f)) is h = absurd (fails_gives is)
come_as items env nest a b K L old new (turned.Done (compared.Apart l r u)) (turned.Done (compared.Apart l' r' u')) is h =
    subst (λ d. Comes (Turns env (Compares env (nest + 1)) a b) K (Fails d) L old new) (sym (fails_injective is)) h
come_as items env nest a b K L old new (turned.Done (compared.Apart l r u)) (turned.Next s) is h = absurd (fails_gives is)
come_as items env nest a b K L old new (turned.Next t) (turned.Done (compared.Same f)) is h = absurd (some_none (gives_injective is))
come_as items env nest a b K L old new (turned.Next t) (turned.Done (compared.Apart l r u)) is h = absurd (gives_fails is)
come_as items env nest a b K L old new (turned.Next t) (turned.Next s) is h =
    subst (λ p. Carries (Turns env (Compares env (nest + 1)) a b) (Turns env (Compares env (nest + 1)) p.0 p.1) K L old new) (sym (some_injective (gives_injective is))) h

pub shallow_as : (items : List Item) (nest : ℕ) (t s : Turned) → answer_of items t ≡ answer_of items s → IsShallowTurn nest s → IsShallowTurn nest t
shallow_as items nest (turned.Done (compared.Same e)) s is h = tt
shallow_as items nest (turned.Done (compared.Apart l r u)) (turned.Done (compared.Same f)) is h = absurd (fails_gives is)
shallow_as items nest (turned.Done (compared.Apart l r u)) (turned.Done (compared.Apart l' r' u')) is h = let same = ap (λ (x : Apart). x.under) (fails_injective is) in omega (arith, same, h)
shallow_as items nest (turned.Done (compared.Apart l r u)) (turned.Next s) is h = absurd (fails_gives is)
shallow_as items nest (turned.Next t) s is h = tt

pub less_as : (items : List Item) (old new : Work) (t s : Turned) → answer_of items t ≡ answer_of items s → AreSpentLess old new s → AreSpentLess old new t
less_as items old new (turned.Done c) s is h = tt
less_as items old new (turned.Next t) (turned.Done (compared.Same f)) is h = absurd (some_none (gives_injective is))
less_as items old new (turned.Next t) (turned.Done (compared.Apart l r u)) is h = absurd (gives_fails is)
less_as items old new (turned.Next t) (turned.Next s) is h = h

-- after one turn more there is less to be made
pub lighter : (old new : Work) (t : Turned) → new.left ≤ old.left → AreSpentLess old new t → 2 * new.left + weight t < 2 * old.left + 1
lighter old new (turned.Done c) most h = omega (arith, most)
lighter old new (turned.Next l) most h = omega (arith, h)
