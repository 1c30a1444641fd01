-- A comparison has at most one answer, known pairs and number of steps.
use Rattle.std.specs.Prelude.{ℕ, zero, suc, ◌+◌, ◌-◌, Bool, true, false, ◌||◌, List, [], ◌∷◌, refl, Option, Some, None}
use Rattle.std.proofs.Common.{sym, ◌∙◌, ap, subst}
use Rattle.ld_terms.specs.Tree.{Tree}
use Rattle.ld_terms.specs.Entry.{Env}
use Rattle.ld_terms.specs.Tests.{equals}
use Rattle.ld_reduce.specs.Task.{Pairs, Answer, Gives, Fails, Nested, Task, gives, Ends, ◌>>=◌, faults_by}
use Rattle.ld_reduce.specs.Heads.{Unfold, reaches, beta_step, BetaHead}
use Rattle.ld_reduce.proofs.Once.{runs_once, unfold_once}
use Rattle.ld_convert.specs.Apart.{Apart, apart, below, Part, parts_of}
use Rattle.ld_convert.specs.Known.{is_known}
use Rattle.ld_convert.specs.Laws.{Agree, AnswersOnce, ComparesOnce}
use Rattle.ld_convert.specs.Compares as c
use Rattle.ld_convert.specs.Compares.{Turns, turn, heads_turn, comparison, compare_within, remember}
use Rattle.ld_convert.proofs.Agreeing.{gives_injective, some_injective, none_some, both_tests, no_value, ends_agree, at_once, gives_once, reaches_once, bind_once, faults_once, or_else_once}

unfolded_once : (env : Env) (ss : List c.Side) (a b : Tree) → AnswersOnce (c.unfolded env ss a b)
unfolded_once env [] a b = gives_once (a, b)
unfolded_once env (c.Left ∷ ss) a b =
    bind_once (reaches (Unfold env a)) (λ u. c.unfolded env ss u b) (reaches_once (Unfold env a) (unfold_once env a)) (λ u. unfolded_once env ss u b)
unfolded_once env (c.Right ∷ ss) a b =
    bind_once (reaches (Unfold env b)) (λ v. c.unfolded env ss a v) (reaches_once (Unfold env b) (unfold_once env b)) (λ v. unfolded_once env ss a v)

by_unfolding_once : (env : Env) (ss : List c.Side) (a b : Tree) → AnswersOnce (c.unfolded env ss a b >>= λ pair. gives (Some pair))
by_unfolding_once env ss a b = bind_once (c.unfolded env ss a b) (λ pair. gives (Some pair)) (unfolded_once env ss a b) (λ pair. gives_once (Some pair))

module _ (env : Env) (compare : Tree → Tree → Task Apart (Unit {0})) (hc : (a b : Tree) → AnswersOnce (compare a b)) where
  all_same_once : (ps : List Part) → AnswersOnce (c.all_same env compare ps)
  all_same_once [] = gives_once tt
  all_same_once (p ∷ ps) =
      bind_once (faults_by (below p.under) (compare p.left p.right)) (λ _. c.all_same env compare ps)
      (faults_once (below p.under) (compare p.left p.right) (hc p.left p.right)) (λ _. all_same_once ps)

  by_parts_once : (ps : List Part) → AnswersOnce (c.by_parts env compare ps)
  by_parts_once ps = bind_once (c.all_same env compare ps) (λ _. gives None) (all_same_once ps) (λ _. gives_once None)

  pub heads_once : (equal : Bool) (ss : List c.Side) (ps : Option (List Part)) (a b : Tree) → AnswersOnce (c.by_heads env compare equal ss ps a b)
  heads_once true ss ps a b = gives_once None
  heads_once false [] None a b = at_once (Fails (apart a b 0)) 0
  heads_once false [] (Some ps) a b = by_parts_once ps
  heads_once false (s ∷ ss) None a b = by_unfolding_once env (s ∷ ss) a b
  heads_once false (s ∷ ss) (Some ps) a b =
      or_else_once (c.by_parts env compare ps) (c.by_unfolding env compare (s ∷ ss) a b) (by_parts_once ps) (by_unfolding_once env (s ∷ ss) a b)

  turn_once : (a b : Tree) → AnswersOnce (turn env compare a b)
  turn_once a b =
      bind_once (reaches (BetaHead a)) (λ u. reaches (BetaHead b) >>= λ v. heads_turn env compare u v)
      (reaches_once (BetaHead a) (runs_once beta_step a))
      (λ u. bind_once (reaches (BetaHead b)) (λ v. heads_turn env compare u v)
      (reaches_once (BetaHead b) (runs_once beta_step b))
      (λ v. heads_once (equals u v) (c.sides env u v) (parts_of u v) u v))

  pub turns_once : {a b : Tree} {K K1 K2 : Pairs} {r1 r2 : Answer Apart (Unit {0})} {n1 n2 : ℕ} →
      Turns env compare a b K r1 K1 n1 → Turns env compare a b K r2 K2 n2 → Agree r1 r2 K1 K2 n1 n2
  turns_once (Turns.same e) (Turns.same e') = record { answer = refl; known = refl; steps = refl }
  turns_once (Turns.same e) (Turns.last e' t) = absurd (both_tests e e')
  turns_once (Turns.same e) (Turns.stop s e' t h) = absurd (both_tests e e')
  turns_once (Turns.same e) (Turns.again pair b i j e' t w q) = absurd (both_tests e e')
  turns_once (Turns.last e t) (Turns.same e') = absurd (both_tests e' e)
  turns_once (Turns.last {a = a} {b = b} {K = K} {K' = K1} {n = n1} e t) (Turns.last {K' = K2} {n = n2} e' t') =
      let s = turn_once a b K K1 K2 (Gives None) (Gives None) n1 n2 t t' in record { answer = refl; known = s.known; steps = s.steps }
  turns_once (Turns.last {a = a} {b = b} {K = K} {K' = K1} {n = n1} e t) (Turns.stop {K' = K2} {r = r} {n = n2} s e' t' h) =
      absurd (no_value (subst (λ v. Ends v r) (sym (turn_once a b K K1 K2 (Gives None) s n1 n2 t t').answer) h))
  turns_once (Turns.last {a = a} {b = b} {K = K} {K' = K1} {n = n1} e t) (Turns.again pair m i j e' t' w q) =
      absurd (none_some (gives_injective (turn_once a b K K1 m (Gives None) (Gives (Some pair)) n1 i t t').answer))
  turns_once (Turns.stop s e t h) (Turns.same e') = absurd (both_tests e' e)
  turns_once (Turns.stop {a = a} {b = b} {K = K} {K' = K1} {r = r} {n = n1} s e t h) (Turns.last {K' = K2} {n = n2} e' t') =
      absurd (no_value (subst (λ v. Ends v r) (turn_once a b K K1 K2 s (Gives None) n1 n2 t t').answer h))
  turns_once (Turns.stop {a = a} {b = b} {K = K} {K' = K1} {r = r} {n = n1} s e t h) (Turns.stop {K' = K2} {n = n2} s' e' t' h') =
      let q = turn_once a b K K1 K2 s s' n1 n2 t t' in record { answer = ends_agree (subst (λ v. Ends v r) q.answer h) h'; known = q.known; steps = q.steps }
  turns_once (Turns.stop {a = a} {b = b} {K = K} {K' = K1} {r = r} {n = n1} s e t h) (Turns.again pair m i j e' t' w q) =
      absurd (no_value (subst (λ v. Ends v r) (turn_once a b K K1 m s (Gives (Some pair)) n1 i t t').answer h))
  turns_once (Turns.again pair m i j e t w q) (Turns.same e') = absurd (both_tests e' e)
  turns_once (Turns.again {a = a} {b = b} {K = K} pair m i j e t w q) (Turns.last {K' = K2} {n = n2} e' t') =
      absurd (none_some (sym (gives_injective (turn_once a b K m K2 (Gives (Some pair)) (Gives None) i n2 t t').answer)))
  turns_once (Turns.again {a = a} {b = b} {K = K} pair m i j e t w q) (Turns.stop {K' = K2} {r = r} {n = n2} s e' t' h) =
      absurd (no_value (subst (λ v. Ends v r) (sym (turn_once a b K m K2 (Gives (Some pair)) s i n2 t t').answer) h))
  turns_once (Turns.again {a = a} {b = b} {K = K} {K' = K1} {r = r} pair m i j e t w q) (Turns.again pair' m' i' j' e' t' w' q') =
      let s = turn_once a b K m m' (Gives (Some pair)) (Gives (Some pair')) i i' t t' in
      let at = subst (λ p. Turns env compare p.0 p.1 m r K1 j) (some_injective (gives_injective s.answer)) w in
      let v = turns_once (subst (λ k. Turns env compare pair'.0 pair'.1 k r K1 j) s.known at) w' in
      record { answer = v.answer; known = v.known; steps = q ∙ ap (λ k. k + j) s.steps ∙ ap (λ k. i' + k) v.steps ∙ sym q' }

  pub comparison_once : (a b : Tree) → AnswersOnce (comparison env compare a b)
  comparison_once a b K K1 K2 r1 r2 n1 n2 h h' =
      let s = turns_once h.turns h'.turns in
      record {
        answer = s.answer;
        known =
            h.remembers ∙ ap (λ r. remember (equals a b || is_known K a b) r a b h.found) s.answer
            ∙ ap (remember (equals a b || is_known K a b) r2 a b) s.known ∙ sym h'.remembers;
        steps = s.steps;
      }

-- a comparison has at most one answer, known pairs and number of steps
pub within_once : (left : ℕ) (env : Env) (a b : Tree) → AnswersOnce (compare_within left env a b)
within_once zero env a b = at_once Nested 0
within_once (suc left) env a b = comparison_once env (compare_within left env) (within_once left env) a b

pub compares_once : ComparesOnce
compares_once = record { once = λ env nesting a b. within_once (1001 - nesting) env a b }
