-- A comparison ends with two trees apart only where neither they nor the two that were compared are convertible: heads that
-- differ stay so, since they are rigid, and every turn leads to trees that convert.
use Rattle.std.proofs.Common.{◌≡◌, ◌-◌, Ok, ℕ, zero, suc, Bool, true, false, List, [], ◌∷◌, Option, None, Some, refl, sym, ◌∙◌, subst}
use Rattle.ld_terms.specs.Tree.{Tree}
use Rattle.ld_terms.specs.Entry.{Env, IsScopedEnv}
use Rattle.ld_terms.specs.Step.{Converts}
use Rattle.ld_terms.specs.Item.{Item}
use Rattle.ld_terms.specs.Known.{Known}
use Rattle.ld_terms.specs.Tests.{equals}
use Rattle.ld_laws.proofs.RigidHeads.{heads_alike}
use Rattle.ld_reduce.specs.Task.{Pairs, Answer, Gives, Fails, High, Nested, Task, goes_on, ends, with_fault}
use Rattle.ld_reduce.specs.Heads.{BetaHead, beta_step, head_number}
use Rattle.ld_reduce.specs.Work.{Work}
use Rattle.ld_convert.specs.Apart.{Apart, apart, below, Part, parts_of}
use Rattle.ld_convert.specs.Known.{or_else}
use Rattle.ld_convert.specs.Compares as c
use Rattle.ld_convert.specs.Compares.{Turns, turn, compare_within, Compares}
use Rattle.ld_convert.specs.Account.{ComparedAs}
use Rattle.ld_convert.specs.Apartness.{AreApart, ComparesApart, ShowsApart}
use Rattle.ld_convert.specs.declared.job.Compared.{Compared}
use Rattle.ld_convert.specs.declared.job.Compared.TheVariants as compared
use Rattle.ld_convert.proofs.Agreeing.{gives_injective, some_injective, none_some, fails_injective}
use Rattle.ld_convert.proofs.HeadSteps.{beta_head_converts, reach_no_fault, rigid}
use Rattle.ld_convert.proofs.AlikeParts.{AllConvert, HasParts, alike_has_parts}
use Rattle.ld_convert.proofs.LedOn.{LeadsOn, gives_no_fault, stop_fails, stop_gives, pair_no_fault, pair_leads, no_sides}

-- what was compared isn't so, and the two at which it ended aren't convertible
record Differ (env : Env) (Same : Type 0) (h : Apart) : Type 0 where
  compared : Same → ⊥
  ended : Converts env h.left h.right → ⊥

abbrev EndsApart : Env → (Tree → Tree → Task Apart (Unit {0})) → Type 0
EndsApart env compare = (a b : Tree) (h : Apart) (K L : Pairs) (n : ℕ) → compare a b K (Fails h) L n → Differ env (Converts env a b) h

-- two trees in beta-head form, by what they are compared
record AreHeads (env : Env) (a b : Tree) (ss : List c.Side) (ps : Option (List Part)) : Type 0 where
  sides : ss ≡ c.sides env a b
  parts : ps ≡ parts_of a b
  left : beta_step a ≡ None
  right : beta_step b ≡ None

-- a fault told anew keeps the two
told_anew : (env : Env) (Same : Type 0) (under : ℕ) (e h : Apart) → below under e ≡ h → Differ env Same e → Differ env Same h
told_anew env Same under e h is d =
    let P : Apart → Type 0 = λ x. Converts env x.left x.right → ⊥ in
    record { compared = d.compared; ended = subst P is d.ended }

-- from two trees to those that they lead to
led_apart : (env : Env) (a b : Tree) (p : Tree × Tree) (h : Apart) → LeadsOn env a b p → Differ env (Converts env p.0 p.1) h → Differ env (Converts env a b) h
led_apart env a b p h leads d = record { compared = λ conv. d.compared (Converts.chain (Converts.back leads.0) (Converts.chain conv leads.1)); ended = d.ended }

module _ (env : Env) (scoped : IsScopedEnv env) (compare : Tree → Tree → Task Apart (Unit {0})) (hc : EndsApart env compare) where
  part_apart : (p : Part) (h : Apart) (K L : Pairs) (s : Answer Apart (Unit {0})) (n : ℕ) → compare p.left p.right K s L n → with_fault (below p.under) s ≡ Fails h
      → Differ env (Converts env p.left p.right) h
  part_apart p h K L (Gives x) n w e = absurd (cc)
  part_apart p h K L (Fails f) n w e = told_anew env (Converts env p.left p.right) p.under f h (fails_injective e) (hc p.left p.right f K L n w)
  part_apart p h K L High n w e = absurd (cc)
  part_apart p h K L Nested n w e = absurd (cc)

  all_apart : (ps : List Part) (h : Apart) (K L : Pairs) (s : Answer Apart (Unit {0})) (n : ℕ) → c.all_same env compare ps K s L n → s ≡ Fails h → Differ env (AllConvert env ps) h
  all_apart [] h K L s n w e = absurd (gives_no_fault w.0 e)
  all_apart (p ∷ ps) h K L s n (goes_on x m i j first rest sum) e =
      let d = all_apart ps h m L s j rest e in
      record { compared = λ all. d.compared all.1; ended = d.ended }
  all_apart (p ∷ ps) h K L s n (ends f (t, w, is) stop) e =
      let d = part_apart p h K L t n w (sym is ∙ stop_fails stop e) in
      record { compared = λ all. d.compared all.0; ended = d.ended }

  -- rigid trees that are convertible have parts that are
  rigid_parts : (a b : Tree) (ps : Option (List Part)) → AreHeads env a b [] ps → Converts env a b → HasParts env (parts_of a b)
  rigid_parts a b ps at conv =
      let none = no_sides (head_number env a) (head_number env b) at.sides in
      alike_has_parts (heads_alike env scoped a b (rigid env a at.left none.0) (rigid env b at.right none.1) conv)

  heads_differ : (a b : Tree) → AreHeads env a b [] None → Converts env a b → ⊥
  heads_differ a b at conv = none_some (at.parts ∙ (rigid_parts a b None at conv).are)

  parts_differ : (a b : Tree) (ps : List Part) (h : Apart) → AreHeads env a b [] (Some ps) → Differ env (AllConvert env ps) h → Differ env (Converts env a b) h
  parts_differ a b ps h at d = record {
    compared = λ conv. let parts = rigid_parts a b (Some ps) at conv in d.compared (subst (AllConvert env) (sym (some_injective (at.parts ∙ parts.are))) parts.convert);
    ended = d.ended;
  }

  heads_apart : (equal : Bool) (ss : List c.Side) (ps : Option (List Part)) (a b : Tree) → AreHeads env a b ss ps
      → (h : Apart) (K L : Pairs) (s : Answer Apart (Option (Tree × Tree))) (n : ℕ) → c.by_heads env compare equal ss ps a b K s L n → s ≡ Fails h → Differ env (Converts env a b) h
  heads_apart true ss ps a b at h K L s n w e = absurd (gives_no_fault w.0 e)
  heads_apart false [] None a b at h K L s n w e =
      told_anew env (Converts env a b) 0 (apart a b 0) h (fails_injective (sym w.0 ∙ e)) (record { compared = heads_differ a b at; ended = heads_differ a b at })
  heads_apart false [] (Some ps) a b at h K L s n (goes_on x m i j first rest sum) e = absurd (gives_no_fault rest.0 e)
  heads_apart false [] (Some ps) a b at h K L s n (ends f first stop) e = parts_differ a b ps h at (all_apart ps h K L f n first (stop_fails stop e))
  heads_apart false (x ∷ ss) None a b at h K L s n w e = absurd (pair_no_fault env (x ∷ ss) a b K L s n h w e)
  heads_apart false (x ∷ ss) (Some ps) a b at h K L s n (or_else.first y first is) e = absurd (gives_no_fault is e)
  heads_apart false (x ∷ ss) (Some ps) a b at h K L s n (or_else.high first is) e = absurd (cc)
  heads_apart false (x ∷ ss) (Some ps) a b at h K L s n (or_else.nesting first is) e = absurd (cc)
  heads_apart false (x ∷ ss) (Some ps) a b at h K L s n (or_else.second f m i j first rest sum) e = absurd (pair_no_fault env (x ∷ ss) a b m L s j h rest e)

  parts_no_pair : (ps : List Part) (K L : Pairs) (s : Answer Apart (Option (Tree × Tree))) (n : ℕ) (p : Tree × Tree) → c.by_parts env compare ps K s L n → s ≡ Gives (Some p) → ⊥
  parts_no_pair ps K L s n p (goes_on x m i j first rest sum) e = none_some (gives_injective (sym rest.0 ∙ e))
  parts_no_pair ps K L s n p (ends f first stop) e = stop_gives stop e

  heads_lead : (equal : Bool) (ss : List c.Side) (ps : Option (List Part)) (a b : Tree) (K L : Pairs) (s : Answer Apart (Option (Tree × Tree))) (n : ℕ) (p : Tree × Tree)
      → c.by_heads env compare equal ss ps a b K s L n → s ≡ Gives (Some p) → LeadsOn env a b p
  heads_lead true ss ps a b K L s n p w e = absurd (none_some (gives_injective (sym w.0 ∙ e)))
  heads_lead false [] None a b K L s n p w e = absurd (gives_no_fault e w.0)
  heads_lead false [] (Some ps) a b K L s n p w e = absurd (parts_no_pair ps K L s n p w e)
  heads_lead false (x ∷ ss) None a b K L s n p w e = pair_leads env (x ∷ ss) a b K L s n p w e
  heads_lead false (x ∷ ss) (Some ps) a b K L s n p (or_else.first y first is) e = absurd (parts_no_pair ps K L (Gives y) n p first (sym is ∙ e))
  heads_lead false (x ∷ ss) (Some ps) a b K L s n p (or_else.high first is) e = absurd (cc)
  heads_lead false (x ∷ ss) (Some ps) a b K L s n p (or_else.nesting first is) e = absurd (cc)
  heads_lead false (x ∷ ss) (Some ps) a b K L s n p (or_else.second f m i j first rest sum) e = pair_leads env (x ∷ ss) a b m L s j p rest e

  turn_apart : (a b : Tree) (h : Apart) (K L : Pairs) (s : Answer Apart (Option (Tree × Tree))) (n : ℕ) → turn env compare a b K s L n → s ≡ Fails h → Differ env (Converts env a b) h
  turn_apart a b h K L s n (goes_on u m i j first (goes_on v k i' j' second rest sum') sum) e =
      let p = beta_head_converts env a u K m i first in
      let q = beta_head_converts env b v m k i' second in
      led_apart env a b (u, v) h (p.0, q.0)
      (heads_apart (equals u v) (c.sides env u v) (parts_of u v) u v (record { sides = refl; parts = refl; left = p.1; right = q.1 }) h k L s j' rest e)
  turn_apart a b h K L s n (goes_on u m i j first (ends f second stop) sum) e = absurd (reach_no_fault (BetaHead b) m L f j h second (stop_fails stop e))
  turn_apart a b h K L s n (ends f first stop) e = absurd (reach_no_fault (BetaHead a) K L f n h first (stop_fails stop e))

  turn_leads : (a b : Tree) (K L : Pairs) (s : Answer Apart (Option (Tree × Tree))) (n : ℕ) (p : Tree × Tree) → turn env compare a b K s L n → s ≡ Gives (Some p) → LeadsOn env a b p
  turn_leads a b K L s n p (goes_on u m i j first (goes_on v k i' j' second rest sum') sum) e =
      let t = heads_lead (equals u v) (c.sides env u v) (parts_of u v) u v k L s j' p rest e in
      (Converts.chain (beta_head_converts env a u K m i first).0 t.0, Converts.chain (beta_head_converts env b v m k i' second).0 t.1)
  turn_leads a b K L s n p (goes_on u m i j first (ends f second stop) sum) e = absurd (stop_gives stop e)
  turn_leads a b K L s n p (ends f first stop) e = absurd (stop_gives stop e)

  turns_apart : {a b : Tree} {K L : Pairs} {s : Answer Apart (Unit {0})} {n : ℕ} → Turns env compare a b K s L n → (h : Apart) → s ≡ Fails h → Differ env (Converts env a b) h
  turns_apart (Turns.same e) h is = absurd (cc)
  turns_apart (Turns.last e t) h is = absurd (cc)
  turns_apart (Turns.stop {a = a} {b = b} {K = K} {K' = L} {n = n} s e t stop) h is = turn_apart a b h K L s n t (stop_fails stop is)
  turns_apart (Turns.again {a = a} {b = b} {K = K} p m i j e t rest sum) h is = led_apart env a b p h (turn_leads a b K m (Gives (Some p)) i p t refl) (turns_apart rest h is)

within_apart : (left : ℕ) (env : Env) → IsScopedEnv env → EndsApart env (compare_within left env)
within_apart zero env scoped a b h K L n w = absurd (let is = w.0 in cc)
within_apart (suc left) env scoped a b h K L n w = turns_apart env scoped (compare_within left env) (within_apart left env scoped) w.turns h refl

ends_apart : (env : Env) → IsScopedEnv env → (nesting : ℕ) (a b l r : Tree) (under : ℕ) (K L : Pairs) (n : ℕ) → Compares env nesting a b K (Fails (apart l r under)) L n → AreApart env a b l r
ends_apart env scoped nesting a b l r under K L n w =
    let d = within_apart (1001 - nesting) env scoped a b (apart l r under) K L n w in
    record { compared = d.compared; ended = d.ended }

pub compares_apart : ComparesApart
compares_apart = record { are_apart = ends_apart }

-- what an answer says, in words of the code
pub shows_apart : (env : Env) (nest : ℕ) (a b : Tree) (bound : ℕ) (items : List Item) (known : Known) (K L : Pairs) (old new : Work) (answer : Compared) → IsScopedEnv env
    → ComparedAs (Compares env nest a b) a b bound items known K L old new (Ok answer) → ShowsApart env items a b answer
shows_apart env nest a b bound items known K L old new (compared.Same e) scoped h = tt
shows_apart env nest a b bound items known K L old new (compared.Apart l r under) scoped h = ends_apart env scoped nest a b _ _ under K L h.0.steps h.0.answers.is
