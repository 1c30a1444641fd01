-- The whole comparison, from its turns; and the turns, from each.
use Rattle.std.proofs.Common.{◌≡◌, ◌≤◌, ◌+◌, ◌||◌, ◌∷◌, [], ℕ, true, false, List, Option, None, Some, Result, Ok, Err, length, inl, inr, refl, sym, ap, subst, arith}
use Rattle.std.proofs.lemmas.List.Elements.{All-append, All-cons, All-nil}
use mathlib.Core.Path.{subst₂}
use Rattle.ld_terms.specs.Tree.{Tree}
use Rattle.ld_terms.specs.Entry.{Env}
use Rattle.ld_terms.specs.Tests.{equals}
use Rattle.ld_terms.specs.Item.{Item}
use Rattle.ld_terms.specs.Bank.{tree_at, IsTermAt}
use Rattle.ld_terms.specs.Known.{Known}
use Rattle.ld_terms.specs.declared.bank.TermId.{TermId}
use Rattle.ld_env.specs.Named.{Named}
use Rattle.ld_record.specs.declared.record.EqId.{EqId}
use Rattle.ld_record.specs.declared.record.Kept.{Kept}
use Rattle.ld_record.specs.Kept.{known_of}
use Rattle.ld_reduce.specs.Task.{Pairs, Answer, Gives, Fails, High, Nested}
use Rattle.ld_reduce.specs.Work.{Work}
use Rattle.ld_reduce.specs.Cost.{Equates, Goes}
use Rattle.ld_reduce.specs.declared.stop.Stop.{Stop}
use Rattle.ld_reduce.specs.declared.stop.Stop.TheVariants as stop
use Rattle.ld_reduce.proofs.Going.{goes_trans}
use Rattle.ld_convert.specs.Apart.{Apart, apart}
use Rattle.ld_convert.specs.Known.{is_known, with_pair}
use Rattle.ld_convert.specs.AtOnce.{FoundAtOnce}
use Rattle.ld_convert.specs.Compares.{Turns, turn, comparison, Compares, remember}
use Rattle.ld_convert.specs.Pairs.{pairs_of, IsLivePair, ArePairsLive, IsKeptWith}
use Rattle.ld_convert.specs.Account.{Comes, RunsOut, StopsTask, ComparedAs}
use Rattle.ld_convert.specs.Turned.{IsReady, IsTurned, IsShallowTurn, answer_of, next_turn, TurnedAs}
use Rattle.ld_convert.specs.declared.known.Pair.{Pair}
use Rattle.ld_convert.specs.declared.job.Job.{Job}
use Rattle.ld_convert.specs.declared.job.Compared.{Compared}
use Rattle.ld_convert.specs.declared.job.Compared.TheVariants as compared
use Rattle.ld_convert.specs.declared.turning.Led.{Led}
use Rattle.ld_convert.specs.declared.turning.Turned.{Turned}
use Rattle.ld_convert.specs.declared.turning.Turned.TheVariants as turned
use Rattle.ld_convert.proofs.Ready.{tree_later, ready_later}
use Rattle.ld_convert.proofs.Carrying.{carries_stop}
use Rattle.ld_convert.proofs.AfterTurns.{next_comes, next_stops, turns_now, turns_stops, comparison_comes, comparison_out, at_nesting, parts_once, TurnsGoing, come_next, come_on, come_as, shallow_as}

-- two that are the same at once
pub compare_now : (env : Env) (nest : ℕ) (a b : Tree) (K : Pairs) (w : Work) → nest ≤ 1000 → (equals a b || is_known K a b) ≡ true → Comes (Compares env nest a b) K (Gives tt) K w w
compare_now env nest a b K w le e =
    at_nesting env nest a b (λ p. Comes p K (Gives tt) K w w) le
    (subst (λ t. Comes (comparison env (Compares env (nest + 1)) a b) K (Gives tt) (remember t (Gives tt) a b K) w w) e
    (comparison_comes env (Compares env (nest + 1)) (parts_once env nest) a b K K (Gives tt) w w (turns_now env (Compares env (nest + 1)) (parts_once env nest) a b K w e)))

-- and two that aren't
pub compare_comes : (env : Env) (nest : ℕ) (a b : Tree) (K L : Pairs) (r : Answer Apart (Unit {0})) (old new : Work) → nest ≤ 1000 → (equals a b || is_known K a b) ≡ false
    → Comes (Turns env (Compares env (nest + 1)) a b) K r L old new → Comes (Compares env nest a b) K r (remember false r a b L) old new
compare_comes env nest a b K L r old new le e h =
    at_nesting env nest a b (λ p. Comes p K r (remember false r a b L) old new) le
    (subst (λ t. Comes (comparison env (Compares env (nest + 1)) a b) K r (remember t r a b L) old new) e
    (comparison_comes env (Compares env (nest + 1)) (parts_once env nest) a b K L r old new h))

pub compare_stops : (env : Env) (nest : ℕ) (a b : Tree) (K L : Pairs) (old new : Work) (s : Stop) → nest ≤ 1000 → (equals a b || is_known K a b) ≡ false
    → StopsTask (Turns env (Compares env (nest + 1)) a b) K L old new s → StopsTask (Compares env nest a b) K L old new s
compare_stops env nest a b K L old new stop.Spent le e h =
    at_nesting env nest a b (λ p. RunsOut p K old new) le (comparison_out env (Compares env (nest + 1)) (parts_once env nest) a b K old new h)
compare_stops env nest a b K L old new stop.High le e h = compare_comes env nest a b K L High old new le e h
compare_stops env nest a b K L old new stop.Nested le e h = compare_comes env nest a b K L Nested old new le e h
compare_stops env nest a b K L old new stop.Memory le e h = tt

-- what is answered, but for a pair that becomes known
pub compare_apart : (env : Env) (nest : ℕ) (a b : Tree) (items : List Item) (known : Known) (K L : Pairs) (old new : Work) (c : Compared) (l r : TermId) (under : ℕ) → nest ≤ 1000
    → (equals a b || is_known K a b) ≡ false → c ≡ compared.Apart l r under
    → ComparedAs (Turns env (Compares env (nest + 1)) a b) a b (length env) items known K L old new (Ok c) → ComparedAs (Compares env nest a b) a b (length env) items known K L old new (Ok c)
compare_apart env nest a b items known K L old new c l r under le e is h =
    let P : Compared → Type 0 = λ x. ComparedAs (Turns env (Compares env (nest + 1)) a b) a b (length env) items known K L old new (Ok x) in
    let Q : Compared → Type 0 = λ x. ComparedAs (Compares env nest a b) a b (length env) items known K L old new (Ok x) in
    let t = subst P is h in
    subst Q (sym is) (compare_comes env nest a b K L (Fails (apart (tree_at items l) (tree_at items r) under)) old new le e t.0, t.1, t.2)

-- the pair that is found the same is known from then on
pub compare_same : (env : Env) (nest : ℕ) (a b a' b' : Tree) (items : List Item) (known : Known) (K L M : Pairs) (old new : Work) (c : Compared) (e : EqId) → nest ≤ 1000
    → (equals a b || is_known K a b) ≡ false → c ≡ compared.Same e → a' ≡ a → b' ≡ b → M ≡ with_pair (is_known L a' b') L a' b'
    → ComparedAs (Turns env (Compares env (nest + 1)) a b) a b (length env) items known K L old new (Ok c)
    → Comes (Compares env nest a b) K (Gives tt) M old new × Equates known e a b (length env)
compare_same env nest a b a' b' items known K L M old new c e le apart is left right now h =
    let P : Compared → Type 0 = λ x. ComparedAs (Turns env (Compares env (nest + 1)) a b) a b (length env) items known K L old new (Ok x) in
    let t = subst P is h in
    let here = subst₂ (λ x y. M ≡ with_pair (is_known L x y) L x y) left right now in
    (subst (λ N. Comes (Compares env nest a b) K (Gives tt) N old new) (sym here) (compare_comes env nest a b K L (Gives tt) old new le apart t.0), t.1)

-- what a turn answers, where the two aren't the same at once
pub next_answers : (env : Env) (nest : ℕ) (a b : Tree) (items : List Item) (known : Known) (K L : Pairs) (old new : Work) (r : Result Turned Stop) → (equals a b || is_known K a b) ≡ false
    → TurnedAs (turn env (Compares env (nest + 1)) a b) a b (length env) items known K L old new r → TurnedAs (next_turn env (Compares env (nest + 1)) a b) a b (length env) items known K L old new r
next_answers env nest a b items known K L old new (Ok t) e h = (next_comes env (Compares env (nest + 1)) (parts_once env nest) a b K L (answer_of items t) old new e h.0, h.1)
next_answers env nest a b items known K L old new (Err s) e h = next_stops env (Compares env (nest + 1)) (parts_once env nest) a b K L old new s e h

-- whether the two are the same at once
pub not_found : (known : Known) (K : Pairs) (a b : Tree) (o : Option EqId) → ((e : EqId) → o ≡ Some e → ⊥) → FoundAtOnce known K a b o → (equals a b || is_known K a b) ≡ false
not_found known K a b None n h = h
not_found known K a b (Some e) n h = absurd (n e refl)

pub found : (known : Known) (K : Pairs) (a b : Tree) (o : Option EqId) (e : EqId) → o ≡ Some e → FoundAtOnce known K a b o → FoundAtOnce known K a b (Some e)
found known K a b o e is h = subst (FoundAtOnce known K a b) is h

-- known pairs with one more are live
pub kept_live : (items : List Item) (known : Known) (n : ℕ) (ps qs : List Pair) (p : Pair) → ArePairsLive items known n ps → IsLivePair items known n p → IsKeptWith ps qs p → ArePairsLive items known n qs
kept_live items known n ps qs p h live (inl same) = subst (ArePairsLive items known n) (sym same) h
kept_live items known n ps qs p h live (inr more) =
    subst (ArePairsLive items known n) (sym more) (record { each = All-append (IsLivePair items known n) ps (p ∷ []) h.each (All-cons (IsLivePair items known n) p [] live (All-nil (IsLivePair items known n))) })

-- one turn after others
pub going_next : (items mid : List Item) (kept grown : List Kept) (entries : List Named) (a b : TermId) (nest : ℕ) (job now : Job) (t : Turned) (l : Led) → t ≡ turned.Next l
    → TurnsGoing items mid kept grown entries a b nest job now t → TurnsGoing items mid kept grown entries a b nest job now (turned.Next l)
going_next items mid kept grown entries a b nest job now t l is g = subst (TurnsGoing items mid kept grown entries a b nest job now) is g

module _ (items mid later : List Item) (kept grown : List Kept) (entries : List Named) (a b : TermId) (nest : ℕ) (job now : Job) (l : Led) (g : TurnsGoing items mid kept grown entries a b nest job now (turned.Next l)) where
  -- what is asked of the next turn, over the entries that were there
  here : (P : Env → Type 0) → P (known_of mid grown).env → P (known_of items kept).env
  here P h = subst P g.goes.adds.env h

  pub turn_stops : (L : Pairs) (new : Work) (s : Stop)
      → StopsTask (next_turn (known_of mid grown).env (Compares (known_of mid grown).env (nest + 1)) (tree_at mid l.left) (tree_at mid l.right)) (pairs_of mid now.known) L now.budget new s
      → StopsTask (Turns (known_of items kept).env (Compares (known_of items kept).env (nest + 1)) (tree_at items a) (tree_at items b)) (pairs_of items job.known) L job.budget new s
  turn_stops L new s h =
      let env = (known_of items kept).env in
      let compare = Compares env (nest + 1) in
      let x = tree_at mid l.left in
      let y = tree_at mid l.right in
      carries_stop (Turns env compare (tree_at items a) (tree_at items b)) (Turns env compare x y) (pairs_of items job.known) (pairs_of mid now.known) L job.budget now.budget new s g.come
      (turns_stops env compare (parts_once env nest) x y (pairs_of mid now.known) L now.budget new s
      (here (λ v. StopsTask (next_turn v (Compares v (nest + 1)) x y) (pairs_of mid now.known) L now.budget new s) h))

  pub turn_goes_on : (more final : List Kept) (after : Job) (next r : Turned) → IsTermAt items a → IsTermAt items b → Goes mid later grown more → IsReady later more entries after.known
      → after.budget.left ≤ now.budget.left → IsShallowTurn nest next
      → TurnedAs (next_turn (known_of mid grown).env (Compares (known_of mid grown).env (nest + 1)) (tree_at mid l.left) (tree_at mid l.right)) (tree_at mid l.left) (tree_at mid l.right)
      (length (known_of mid grown).env) later (known_of later more) (pairs_of mid now.known) (pairs_of later after.known) now.budget after.budget (Ok next)
      → answer_of later r ≡ answer_of later next → IsTurned later (known_of later final) (tree_at later a) (tree_at later b) (length (known_of later more).env) r → Goes later later more final
      → TurnsGoing items later kept final entries a b nest job after r
  turn_goes_on more final after next r at_a at_b goes ready most shallow answer followed turned last =
      let env = (known_of items kept).env in
      let compare = Compares env (nest + 1) in
      let x = tree_at mid l.left in
      let y = tree_at mid l.right in
      let K = pairs_of items job.known in
      let M = pairs_of mid now.known in
      let L = pairs_of later after.known in
      let so_far = goes_trans items mid later kept grown more g.goes goes in
      let come = here (λ v. Comes (next_turn v (Compares v (nest + 1)) x y) M (answer_of later next) L now.budget after.budget) answer.0 in
      record {
        goes = goes_trans items later later kept more final so_far last;
        ready = ready_later later later more final entries after.known last ready;
        most = omega (arith, most, g.most);
        shallow = shallow_as later nest r next followed shallow;
        turned =
            subst (λ n. IsTurned later (known_of later final) (tree_at items a) (tree_at items b) n r) (ap length so_far.adds.env)
            (subst₂ (λ t u. IsTurned later (known_of later final) t u (length (known_of later more).env) r) (tree_later items later kept more a so_far at_a) (tree_later items later kept more b so_far at_b) turned);
        come =
            come_as later env nest (tree_at items a) (tree_at items b) K L job.budget after.budget r next followed
            (come_on mid later env nest (tree_at items a) (tree_at items b) x y K M L job.budget now.budget after.budget next g.come
            (come_next later env nest x y M L now.budget after.budget next come));
      }
