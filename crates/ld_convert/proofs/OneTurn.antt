-- One turn, from the head forms of the two and what these come to.
use Rattle.std.proofs.Common.{◌≡◌, ◌+◌, ℕ, List, Option, Result, refl, Ok, Err, length, subst}
use mathlib.Core.Path.{subst₂}
use Rattle.ld_terms.specs.Tree.{Tree}
use Rattle.ld_terms.specs.Entry.{Env}
use Rattle.ld_terms.specs.Item.{Item}
use Rattle.ld_terms.specs.Bank.{tree_at, IsTermAt}
use Rattle.ld_terms.specs.Known.{Known}
use Rattle.ld_terms.specs.declared.bank.TermId.{TermId}
use Rattle.ld_record.specs.declared.record.EqId.{EqId}
use Rattle.ld_record.specs.declared.record.Kept.{Kept}
use Rattle.ld_record.specs.Kept.{known_of}
use Rattle.ld_reduce.specs.Task.{Pairs, Gives, Task, ◌>>=◌}
use Rattle.ld_reduce.specs.Heads.{Way, BetaHead, beta_step, reaches}
use Rattle.ld_reduce.specs.Work.{Work}
use Rattle.ld_reduce.specs.Cost as cost
use Rattle.ld_reduce.specs.Cost.{Goes}
use Rattle.ld_reduce.specs.Laws.{Once}
use Rattle.ld_reduce.specs.declared.stop.Stop.{Stop}
use Rattle.ld_reduce.specs.declared.stop.Stop.TheVariants as stop
use Rattle.ld_reduce.proofs.Going.{goes_trans}
use Rattle.ld_reduce.proofs.Once.{runs_once}
use Rattle.ld_reduce.proofs.CallerLemmas.{answers_task}
use Rattle.ld_convert.specs.Apart.{Apart}
use Rattle.ld_convert.specs.Compares.{turn, heads_turn, Compares}
use Rattle.ld_convert.specs.Pairs.{pairs_of, ArePairsLive}
use Rattle.ld_convert.specs.Account.{Comes, StopsTask}
use Rattle.ld_convert.specs.Turned.{answer_of, TurnedAs}
use Rattle.ld_convert.specs.declared.known.Pair.{Pair}
use Rattle.ld_convert.specs.declared.turning.Turned.{Turned}
use Rattle.ld_convert.proofs.Ready.{tree_later, pairs_stay}
use Rattle.ld_convert.proofs.Carrying.{Carries, carries_trans, carries_then, carries_stop, first_stops}

-- what a call with a budget answers, as a task
pub reached : {E : Type 0} (way : Way) (K : Pairs) (from : Tree) (bound : ℕ) (items : List Item) (known : Known) (old new : Work) (p : TermId × EqId) → Once way
    → cost.Answers way from bound items known old new (Ok p) → Comes {E = E} (reaches way) K (Gives (tree_at items p.0)) K old new
reached {E = E} way K from bound items known old new p once h =
    let t = answers_task E way K from bound items known old new (Ok p) once h in
    record { steps = t.steps; answers = t.answers; takes = t.takes }

pub reach_stops : (E : Type 0) (way : Way) (K : Pairs) (from : Tree) (bound : ℕ) (items : List Item) (known : Known) (old new : Work) (s : Stop) → Once way
    → cost.Answers way from bound items known old new (Err s) → StopsTask {E = E} (reaches way) K K old new s
reach_stops E way K from bound items known old new stop.Spent once h =
    let t = answers_task E way K from bound items known old new (Err stop.Spent) once h in
    record { none = t.none; left = t.left; takes = t.takes }
reach_stops E way K from bound items known old new stop.High once h =
    let t = answers_task E way K from bound items known old new (Err stop.High) once h in
    record { steps = t.steps; answers = t.answers; takes = t.takes }
reach_stops E way K from bound items known old new stop.Nested once h = absurd h
reach_stops E way K from bound items known old new stop.Memory once h = tt

module _ (env : Env) (nest : ℕ) (a b x y : Tree) (K : Pairs) (old mid later : Work) where
  -- after the first head form
  pub after_first : Comes {E = Apart} (reaches (BetaHead a)) K (Gives x) K old mid
      → Carries (turn env (Compares env (nest + 1)) a b) (reaches (BetaHead b) >>= λ v. heads_turn env (Compares env (nest + 1)) x v) K K old mid
  after_first h = carries_then (reaches (BetaHead a)) (λ u. reaches (BetaHead b) >>= λ v. heads_turn env (Compares env (nest + 1)) u v) x K K old mid h

  -- after both
  pub after_both : Comes {E = Apart} (reaches (BetaHead a)) K (Gives x) K old mid → Comes {E = Apart} (reaches (BetaHead b)) K (Gives y) K mid later
      → Carries (turn env (Compares env (nest + 1)) a b) (heads_turn env (Compares env (nest + 1)) x y) K K old later
  after_both h k =
      carries_trans (turn env (Compares env (nest + 1)) a b) (reaches (BetaHead b) >>= λ v. heads_turn env (Compares env (nest + 1)) x v) (heads_turn env (Compares env (nest + 1)) x y) K K K old mid later
      (after_first h) (carries_then (reaches (BetaHead b)) (λ v. heads_turn env (Compares env (nest + 1)) x v) y K K mid later k)

  pub first_stop : (s : Stop) → StopsTask {E = Apart} (reaches (BetaHead a)) K K old mid s → StopsTask (turn env (Compares env (nest + 1)) a b) K K old mid s
  first_stop s h = first_stops (reaches (BetaHead a)) (λ u. reaches (BetaHead b) >>= λ v. heads_turn env (Compares env (nest + 1)) u v) K K old mid s h

  pub second_stop : (s : Stop) → Comes {E = Apart} (reaches (BetaHead a)) K (Gives x) K old mid → StopsTask {E = Apart} (reaches (BetaHead b)) K K mid later s
      → StopsTask (turn env (Compares env (nest + 1)) a b) K K old later s
  second_stop s h k =
      carries_stop (turn env (Compares env (nest + 1)) a b) (reaches (BetaHead b) >>= λ v. heads_turn env (Compares env (nest + 1)) x v) K K K old mid later s (after_first h)
      (first_stops (reaches (BetaHead b)) (λ v. heads_turn env (Compares env (nest + 1)) x v) K K mid later s k)

-- what the head forms come to, over the values that are there by then
pub heads_here : (env env' : Env) (nest : ℕ) (x x' y y' : Tree) (items : List Item) (known : Known) (K K' L : Pairs) (old new : Work) (r : Result Turned Stop) → env' ≡ env → x' ≡ x → y' ≡ y → K' ≡ K
    → TurnedAs (heads_turn env' (Compares env' (nest + 1)) x' y') x' y' (length env') items known K' L old new r
    → TurnedAs (heads_turn env (Compares env (nest + 1)) x y) x y (length env) items known K L old new r
heads_here env env' nest x x' y y' items known K K' L old new r e left right k h =
    subst (λ v. TurnedAs (heads_turn v (Compares v (nest + 1)) x y) x y (length v) items known K L old new r) e
    (subst₂ (λ t u. TurnedAs (heads_turn env' (Compares env' (nest + 1)) t u) t u (length env') items known K L old new r) left right
    (subst (λ N. TurnedAs (heads_turn env' (Compares env' (nest + 1)) x' y') x' y' (length env') items known N L old new r) k h))

-- what comes of a task for a turn's result
abbrev pub ComesTurned : Task Apart (Option (Tree × Tree)) → List Item → (K L : Pairs) → (old new : Work) → Result Turned Stop → Type 0
ComesTurned p items K L old new (Ok t) = Comes p K (answer_of items t) L old new
ComesTurned p items K L old new (Err s) = StopsTask p K L old new s

carried : (env : Env) (nest : ℕ) (a b x y : Tree) (items : List Item) (known : Known) (K L : Pairs) (old mid new : Work) (r : Result Turned Stop)
    → Carries (turn env (Compares env (nest + 1)) a b) (heads_turn env (Compares env (nest + 1)) x y) K K old mid
    → TurnedAs (heads_turn env (Compares env (nest + 1)) x y) x y (length env) items known K L mid new r → ComesTurned (turn env (Compares env (nest + 1)) a b) items K L old new r
carried env nest a b x y items known K L old mid new (Ok t) f h = f.comes (answer_of items t) L new h.0
carried env nest a b x y items known K L old mid new (Err s) f h = carries_stop (turn env (Compares env (nest + 1)) a b) (heads_turn env (Compares env (nest + 1)) x y) K K L old mid new s f h

-- the whole turn, from the calls that it makes one after another
module _ (a b d : List Item) (i j k : List Kept) (s t u v : TermId) (e f : EqId) (ps : List Pair) (nest : ℕ) (old mid later : Work) where
  pub turn_answers : (items : List Item) (known : Known) (L : Pairs) (new : Work) (r : Result Turned Stop) → IsTermAt a t → ArePairsLive a (known_of a i) (length (known_of a i).env) ps → Goes a b i j → Goes b d j k
      → cost.Answers (BetaHead (tree_at a s)) (tree_at a s) 0 b (known_of b j) old mid (Ok (u, e)) → cost.Answers (BetaHead (tree_at b t)) (tree_at b t) 0 d (known_of d k) mid later (Ok (v, f))
      → TurnedAs (heads_turn (known_of d k).env (Compares (known_of d k).env (nest + 1)) (tree_at d u) (tree_at d v)) (tree_at d u) (tree_at d v) (length (known_of d k).env) items known (pairs_of d ps) L later new r
      → ComesTurned (turn (known_of a i).env (Compares (known_of a i).env (nest + 1)) (tree_at a s) (tree_at a t)) items (pairs_of a ps) L old new r
  turn_answers items known L new r at live g h first second answer =
      let env = (known_of a i).env in
      let x = tree_at b u in
      let y = tree_at d v in
      let K = pairs_of a ps in
      let both = goes_trans a b d i j k g h in
      let one = reached (BetaHead (tree_at a s)) K (tree_at a s) 0 b (known_of b j) old mid (u, e) (runs_once beta_step (tree_at a s)) first in
      let same = subst (λ z. cost.Answers (BetaHead z) z 0 d (known_of d k) mid later (Ok (v, f))) (tree_later a b i j t g at) second in
      let two = reached (BetaHead (tree_at a t)) K (tree_at a t) 0 d (known_of d k) mid later (v, f) (runs_once beta_step (tree_at a t)) same in
      carried env nest (tree_at a s) (tree_at a t) x y items known K L old later new r (after_both env nest (tree_at a s) (tree_at a t) x y K old mid later one two)
      (heads_here env (known_of d k).env nest x (tree_at d u) y y items known K (pairs_of d ps) L later new r both.adds.env (tree_later b d j k u h first.1.term) refl (pairs_stay a d i k (length env) ps both live) answer)
