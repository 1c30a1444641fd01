-- Where the sides of two trees are unfolded there is no fault, and each of the two converts to what it leads to.
use Rattle.std.proofs.Common.{◌≡◌, ℕ, Bool, true, false, ◌==◌, List, [], ◌∷◌, Option, None, Some, refl, ap, sym, ◌∙◌, subst}
use Rattle.std.specs.Prelude.{nat_lt, if◌then◌else◌}
use Rattle.ld_terms.specs.Tree.{Tree}
use Rattle.ld_terms.specs.Entry.{Env}
use Rattle.ld_terms.specs.Step.{Converts}
use Rattle.ld_reduce.specs.Task.{Pairs, Answer, Gives, Fails, gives, Ends, fault, high, nesting, ◌>>=◌, goes_on, ends}
use Rattle.ld_reduce.specs.Heads.{Unfold}
use Rattle.ld_convert.specs.Apart.{Apart}
use Rattle.ld_convert.specs.Compares as c
use Rattle.ld_convert.proofs.Agreeing.{gives_injective, some_injective}
use Rattle.ld_convert.proofs.HeadSteps.{reach_no_fault, unfolding_converts}

pub gives_no_fault : {E X : Type 0} {x : X} {s : Answer E X} {e : E} → s ≡ Gives x → s ≡ Fails e → ⊥
gives_no_fault p q = cc

-- what ends with a fault, or without a value
pub stop_fails : {E X Y : Type 0} {s : Answer E X} {r : Answer E Y} {e : E} → Ends s r → r ≡ Fails e → s ≡ Fails e
stop_fails fault p = cc
stop_fails high p = absurd (cc)
stop_fails nesting p = absurd (cc)

pub stop_gives : {E X Y : Type 0} {s : Answer E X} {r : Answer E Y} {y : Y} → Ends s r → r ≡ Gives y → ⊥
stop_gives fault p = cc
stop_gives high p = cc
stop_gives nesting p = cc

-- both convert to the two that are left
abbrev pub LeadsOn : Env → (a b : Tree) → Tree × Tree → Type 0
LeadsOn env a b p = Converts env a p.0 × Converts env b p.1

module _ (env : Env) where
  unfolded_no_fault : (ss : List c.Side) (a b : Tree) (K L : Pairs) (s : Answer Apart (Tree × Tree)) (n : ℕ) (h : Apart) → c.unfolded env ss a b K s L n → s ≡ Fails h → ⊥
  unfolded_no_fault [] a b K L s n h w e = gives_no_fault w.0 e
  unfolded_no_fault (c.Left ∷ ss) a b K L s n h (goes_on x m i j first rest sum) e = unfolded_no_fault ss x b m L s j h rest e
  unfolded_no_fault (c.Left ∷ ss) a b K L s n h (ends f first stop) e = reach_no_fault (Unfold env a) K L f n h first (stop_fails stop e)
  unfolded_no_fault (c.Right ∷ ss) a b K L s n h (goes_on x m i j first rest sum) e = unfolded_no_fault ss a x m L s j h rest e
  unfolded_no_fault (c.Right ∷ ss) a b K L s n h (ends f first stop) e = reach_no_fault (Unfold env b) K L f n h first (stop_fails stop e)

  unfolded_leads : (ss : List c.Side) (a b : Tree) (K L : Pairs) (s : Answer Apart (Tree × Tree)) (n : ℕ) (p : Tree × Tree) → c.unfolded env ss a b K s L n → s ≡ Gives p → LeadsOn env a b p
  unfolded_leads [] a b K L s n p w e = subst (LeadsOn env a b) (gives_injective (sym w.0 ∙ e)) (Converts.same, Converts.same)
  unfolded_leads (c.Left ∷ ss) a b K L s n p (goes_on x m i j first rest sum) e =
      let t = unfolded_leads ss x b m L s j p rest e in
      (Converts.chain (unfolding_converts env a x K m i first) t.0, t.1)
  unfolded_leads (c.Left ∷ ss) a b K L s n p (ends f first stop) e = absurd (stop_gives stop e)
  unfolded_leads (c.Right ∷ ss) a b K L s n p (goes_on x m i j first rest sum) e =
      let t = unfolded_leads ss a x m L s j p rest e in
      (t.0, Converts.chain (unfolding_converts env b x K m i first) t.1)
  unfolded_leads (c.Right ∷ ss) a b K L s n p (ends f first stop) e = absurd (stop_gives stop e)

  -- the same where the two are a new pair

  pub pair_no_fault : (ss : List c.Side) (a b : Tree) (K L : Pairs) (s : Answer Apart (Option (Tree × Tree))) (n : ℕ) (h : Apart)
      → (c.unfolded env ss a b >>= λ pair. gives (Some pair)) K s L n → s ≡ Fails h → ⊥
  pair_no_fault ss a b K L s n h (goes_on x m i j first rest sum) e = gives_no_fault rest.0 e
  pair_no_fault ss a b K L s n h (ends f first stop) e = unfolded_no_fault ss a b K L f n h first (stop_fails stop e)

  pub pair_leads : (ss : List c.Side) (a b : Tree) (K L : Pairs) (s : Answer Apart (Option (Tree × Tree))) (n : ℕ) (p : Tree × Tree)
      → (c.unfolded env ss a b >>= λ pair. gives (Some pair)) K s L n → s ≡ Gives (Some p) → LeadsOn env a b p
  pair_leads ss a b K L s n p (goes_on x m i j first rest sum) e =
      unfolded_leads ss a b K m (Gives x) i p first (ap Gives (some_injective (gives_injective (sym rest.0 ∙ e))))
  pair_leads ss a b K L s n p (ends f first stop) e = absurd (stop_gives stop e)

-- no side is to be unfolded where neither head is a defined constant
pub no_sides : (k l : Option ℕ) → [] ≡ c.sides_of k l → (k ≡ None) × (l ≡ None)
no_sides None None e = (refl, refl)
no_sides (Some k) None e = absurd (cc)
no_sides None (Some l) e = absurd (cc)
no_sides (Some k) (Some l) e = absurd (one_side (k == l) (nat_lt k l) e)
  where
    one_side : (same earlier : Bool) → [] ≡ (if same then c.Left ∷ c.Right ∷ [] else if earlier then c.Right ∷ [] else c.Left ∷ []) → ⊥
    one_side true earlier e = cc
    one_side false true e = cc
    one_side false false e = cc
