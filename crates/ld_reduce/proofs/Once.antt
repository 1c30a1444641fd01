-- The ways at a head have one end each.
use Rattle.std.proofs.Common.{◌≡◌, ℕ, Option, refl, ap, sym, ◌∙◌, subst, arith}
use Rattle.ld_terms.specs.Tree.{Tree}
use Rattle.ld_terms.specs.Entry.{Env}
use Rattle.ld_terms.specs.Item.{One, IsSmall}
use Rattle.ld_reduce.specs.Task.{Pairs, Answer}
use Rattle.ld_reduce.specs.Heads.{Way, Runs, over, more, too_high, BetaHead, Expose, Unfold, unfolded, beta_step, head_step, answer, reaches}
use Rattle.ld_reduce.specs.Laws.{Once, HasOneEnd, WaysOnce}
use Rattle.ld_reduce.proofs.Walks.{one_less}

pub runs_once : (next : Tree → Option Tree) (t : Tree) → Once (Runs next t)
runs_once next t r s n m (over e) (over f) = (refl, refl)
runs_once next t r s n m (over e) (more u f small run) = absurd (cc)
runs_once next t r s n m (over e) (too_high u f h) = absurd (cc)
runs_once next t r s n m (more {n = k} u e small run) w =
    let h = one_less e small w in
    let o = runs_once next u r s k h.rest run h.run in
    (o.0, (let x = o.1 in let y = h.is in omega arith))
runs_once next t r s n m (too_high u e h) (over f) = absurd (cc)
runs_once next t r s n m (too_high u e h) (more v f small run) =
    let same : v ≡ u = cc in
    absurd (h (subst (λ x. IsSmall (One x)) same small))
runs_once next t r s n m (too_high u e h) (too_high v f k) = (refl, refl)

pub unfold_once : (env : Env) (t : Tree) → Once (Unfold env t)
unfold_once env t r s n m (unfolded e small) (unfolded f small') = (cc, refl)
unfold_once env t r s n m (unfolded {u = v} e small) (Unfold.too_high u f h) =
    let same : v ≡ u = cc in
    absurd (h (subst (λ x. IsSmall (One x)) same small))
unfold_once env t r s n m (Unfold.too_high u e h) (unfolded {u = v} f small) =
    let same : v ≡ u = cc in
    absurd (h (subst (λ x. IsSmall (One x)) same small))
unfold_once env t r s n m (Unfold.too_high u e h) (Unfold.too_high v f k) = (refl, refl)

-- hence as a task, of any faults, at most one answer
pub answers_once : {E : Type 0} (way : Way) → Once way → (K L M : Pairs) (r s : Answer E Tree) (n m : ℕ) → reaches way K r L n → reaches way K s M m → (r ≡ s) × (L ≡ M) × (n ≡ m)
answers_once way once K L M r s n m p q =
    let o = once p.0 q.0 n m p.1 q.1 in
    (p.2 ∙ ap answer o.0 ∙ sym q.2, p.3 ∙ sym q.3, o.1)

one_end : (way : Way) → Once way → HasOneEnd way
one_end way once = record { ends = once; answers = answers_once way once }

pub ways_once : WaysOnce
ways_once = record {
  of_beta_head = λ t. one_end (BetaHead t) (runs_once beta_step t);
  of_unfold = λ env t. one_end (Unfold env t) (unfold_once env t);
  of_expose = λ env t. one_end (Expose env t) (runs_once (head_step env) t);
}
