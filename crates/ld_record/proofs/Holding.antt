-- What holds of all that is known: entries are typed over those before them, equalities convert over each number of
-- entries from their bound on, judgements are derivable. An equality that follows by a rule converts.
use Rattle.std.proofs.Common.{◌≡◌, ◌≤◌, ℕ, List, [], ◌∷◌, length, take, map, subst, arith}
use mathlib.Core.Path.{subst₂}
use Rattle.ld_terms.specs.Tree.{Tree, App, Lam, Pi, Const, Trees, Nil, ◌▸◌}
use Rattle.ld_terms.specs.Entry.{Entry, Primitive, Env, EntryAt, IsFresh, HasBody}
use Rattle.ld_terms.specs.Step.{Step, StepIn, Converts}
use Rattle.ld_terms.specs.Derivable as d
use Rattle.ld_terms.specs.Derivable.{IsSort, ◌⨾◌⊢◌∶◌}
use Rattle.ld_terms.specs.Rule.{EqRule}
use Rattle.ld_terms.specs.Known.{Known, Equality, nothing, equality_at, judgement_at, extended, greatest, Equates, IsEqualBy, Judges, bound_at, bound_by}
use Rattle.ld_record.specs.Laws.{IsDerivableIn}
use Rattle.ld_record.proofs.Prefixes.{entry_below, entry_within}

-- an entry over those before it
pub record EntryHolds (Δ : Env) (e : Entry) : Type 0 where
  pub fresh : IsFresh e.name Δ
  pub typed : (M : Tree) → HasBody e.body M → Δ ⨾ e.params ⊢ M ∶ e.type
  pub sorted : e.body ≡ Primitive → (s : Tree) × IsSort s × (Δ ⨾ e.params ⊢ e.type ∶ s)

abbrev pub EqualityHolds : Env → Equality → Type 0
EqualityHolds Δ e = (m : ℕ) → e.bound ≤ m → m ≤ length Δ → Converts (take m Δ) e.left e.right

pub record AllHold (known : Known) : Type 0 where
  pub entries : (k : ℕ) (e : Entry) → EntryAt known.env k e → EntryHolds (take k known.env) e
  pub equalities : (e : ℕ) → EqualityHolds known.env (equality_at known e)
  pub bounds : (e : ℕ) → (equality_at known e).bound ≤ length known.env
  pub nodes : (n : ℕ) → IsDerivableIn known.env (judgement_at known n)

no_entry : (k : ℕ) (e : Entry) → EntryAt [] k e → ⊥
no_entry k e at = cc

pub nothing_holds : AllHold nothing
nothing_holds = record {
  entries = λ k e at. absurd (no_entry k e at);
  equalities = λ e m low high. Converts.same;
  bounds = λ e. omega arith;
  nodes = λ n. record { within = omega arith; derivable = d.sort };
}

-- a part changed by a conversion
congruent : {Δ : Env} (g : Tree → Tree) → ((t u : Tree) → Step Δ t u → Step Δ (g t) (g u)) → {t u : Tree} → Converts Δ t u → Converts Δ (g t) (g u)
congruent g h (Converts.step s) = Converts.step (h _ _ s)
congruent g h Converts.same = Converts.same
congruent g h (Converts.back c) = Converts.back (congruent g h c)
congruent g h (Converts.chain c k) = Converts.chain (congruent g h c) (congruent g h k)

data ConvertsEach (Δ : Env) : Trees → Trees → Type 0 where
  none : ConvertsEach Δ Nil Nil
  more : {us vs : Trees} {u v : Tree} → ConvertsEach Δ us vs → Converts Δ u v → ConvertsEach Δ (us ▸ u) (vs ▸ v)

-- arguments that convert, before some that stay
instance_converts : {Δ : Env} (k : ℕ) (wrap : Trees → Trees) → ((us vs : Trees) → StepIn Δ us vs → StepIn Δ (wrap us) (wrap vs)) → {us vs : Trees}
    → ConvertsEach Δ us vs → Converts Δ (Const k (wrap us)) (Const k (wrap vs))
instance_converts k wrap h ConvertsEach.none = Converts.same
instance_converts k wrap h (ConvertsEach.more {vs = vs} {u = u} each last) =
    Converts.chain
    (instance_converts k (λ us. wrap (us ▸ u)) (λ xs ys s. h (xs ▸ u) (ys ▸ u) (StepIn.before s)) each)
    (congruent (λ t. Const k (wrap (vs ▸ t))) (λ x y s. Step.in_instance (h (vs ▸ x) (vs ▸ y) (StepIn.last s))) last)

module _ (known : Known) (hold : AllHold known) where
  abbrev left : ℕ → Tree
  left e = (equality_at known e).left

  abbrev right : ℕ → Tree
  right e = (equality_at known e).right

  pub equated : (e m : ℕ) (l r : Tree) → Equates known e l r → (equality_at known e).bound ≤ m → m ≤ length known.env → Converts (take m known.env) l r
  equated e m l r h low high = subst₂ (λ x y. Converts (take m known.env) x y) h.0 h.1 (hold.equalities e m low high)

  each_equated : (es : List ℕ) (m : ℕ) → greatest (map (bound_at known) es) ≤ m → m ≤ length known.env → (us vs : Trees) → ConvertsEach (take m known.env) us vs
      → ConvertsEach (take m known.env) (extended us (map left es)) (extended vs (map right es))
  each_equated [] m low high us vs h = h
  each_equated (e ∷ es) m low high us vs h =
      each_equated es m (omega arith) high (us ▸ left e) (vs ▸ right e) (ConvertsEach.more h (hold.equalities e m (omega arith) high))

  pub equal_converts : {l r : Tree} {rule : EqRule} → IsEqualBy known l r rule → (m : ℕ) → bound_by known l rule ≤ m → m ≤ length known.env → Converts (take m known.env) l r
  equal_converts IsEqualBy.refl m low high = Converts.same
  equal_converts (IsEqualBy.sym {l = l} {r = r} {e = e} h) m low high = Converts.back (equated e m r l h low high)
  equal_converts (IsEqualBy.trans {l = l} {r = r} {e = e} {e' = e'} q h k) m low high =
      Converts.chain (equated e m l q h (omega arith) high) (equated e' m q r k (omega arith) high)
  equal_converts IsEqualBy.beta m low high = Converts.step Step.beta
  equal_converts (IsEqualBy.delta {k = k} {e = e} at u c) m low high = Converts.step (Step.delta (entry_below known.env m k e low at) u c)
  equal_converts (IsEqualBy.app {f = f} {g = g} {u = u} {v = v} {e = e} {e' = e'} h k) m low high =
      Converts.chain
      (congruent (λ t. App t u) (λ x y w. Step.in_function w) (equated e m f g h (omega arith) high))
      (congruent (λ t. App g t) (λ x y w. Step.in_argument w) (equated e' m u v k (omega arith) high))
  equal_converts (IsEqualBy.lam {a = a} {b = b} {m = p} {n = q} {e = e} {e' = e'} h k) m low high =
      Converts.chain
      (congruent (λ t. Lam t p) (λ x y w. Step.in_lam_type w) (equated e m a b h (omega arith) high))
      (congruent (λ t. Lam b t) (λ x y w. Step.in_lam_body w) (equated e' m p q k (omega arith) high))
  equal_converts (IsEqualBy.pi {a = a} {b = b} {c = p} {d = q} {e = e} {e' = e'} h k) m low high =
      Converts.chain
      (congruent (λ t. Pi t p) (λ x y w. Step.in_pi_type w) (equated e m a b h (omega arith) high))
      (congruent (λ t. Pi b t) (λ x y w. Step.in_pi_body w) (equated e' m p q k (omega arith) high))
  equal_converts (IsEqualBy.const {k = k} {es = es} h) m low high =
      subst₂ (λ x y. Converts (take m known.env) (Const k x) (Const k y)) h.0 h.1
      (instance_converts k (λ us. us) (λ xs ys w. w) (each_equated es m low high Nil Nil ConvertsEach.none))

  greatest_within : (es : List ℕ) → greatest (map (bound_at known) es) ≤ length known.env
  greatest_within [] = omega arith
  greatest_within (e ∷ es) = omega (arith, greatest_within es, hold.bounds e)

  -- an equality unfolds only entries that are there
  pub bound_within : {l r : Tree} {rule : EqRule} → IsEqualBy known l r rule → bound_by known l rule ≤ length known.env
  bound_within IsEqualBy.refl = omega arith
  bound_within (IsEqualBy.sym {e = e} h) = hold.bounds e
  bound_within (IsEqualBy.trans {e = e} {e' = e'} q h k) = omega (arith, hold.bounds e, hold.bounds e')
  bound_within IsEqualBy.beta = omega arith
  bound_within (IsEqualBy.delta {k = k} {e = e} at u c) = entry_within known.env k e at
  bound_within (IsEqualBy.app {e = e} {e' = e'} h k) = omega (arith, hold.bounds e, hold.bounds e')
  bound_within (IsEqualBy.lam {e = e} {e' = e'} h k) = omega (arith, hold.bounds e, hold.bounds e')
  bound_within (IsEqualBy.pi {e = e} {e' = e'} h k) = omega (arith, hold.bounds e, hold.bounds e')
  bound_within (IsEqualBy.const {es = es} h) = greatest_within es

  -- a judgement by its number
  pub judged : (n m : ℕ) (ctx : Trees) (t u : Tree) → Judges known n m ctx t u → IsDerivableIn known.env (record { entries = m; context = ctx; term = t; type = u })
  judged n m ctx t u h = subst (IsDerivableIn known.env) h (hold.nodes n)
