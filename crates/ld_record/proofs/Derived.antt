-- Each judgement is derivable: what follows from derivable judgements is derivable, and each record keeps what holds.
-- A new entry lies behind all that is known, so that only conversions over all entries meet it.
use Rattle.std.proofs.Common.{◌≡◌, ◌<◌, ◌≤◌, ◌+◌, ◌-◌, ◌∙◌, ℕ, zero, suc, List, [], ◌∷◌, ◌++◌, length, take, ap, sym, subst, arith}
use Rattle.std.specs.Prelude.{◌⊎◌, true, false}
use Rattle.std.proofs.Common.{inl, inr, refl}
use mathlib.Core.Path.{subst₂}
use Rattle.std.proofs.lemmas.List.{length_push, take_all, take-append-le}
use Rattle.std.proofs.lemmas.Option.{slice_get-get_or}
use Rattle.ld_terms.specs.Tree.{Tree, Star, Box, Pi, Trees, Nil, ◌▸◌}
use Rattle.ld_terms.specs.Item.{Item}
use Rattle.ld_terms.specs.Bank.{tree_at}
use Rattle.ld_terms.specs.Entry as named
use Rattle.ld_terms.specs.Entry.{Body, Defined, Primitive, Env, EntryAt, HasBody, defined}
use Rattle.ld_terms.specs.Step.{Converts}
use Rattle.ld_terms.specs.Derivable as d
use Rattle.ld_terms.specs.Derivable.{IsSort, ◌⨾◌⊢◌∶◌, IsLegal}
use Rattle.ld_terms.specs.Rule.{Rule}
use Rattle.ld_terms.specs.Known.{Known, nothing, Equality, no_equality, Judgement, no_judgement, context_at, equality_at, judgement_at, line_entry, primitive_entry, FollowsBy, Equates, bound_by, IsFree, IsOverAll, MayEnd, with_context, with_equality, with_node, with_entry, with_flag}
use Rattle.ld_terms.specs.Record.{Record, State, start, term_at, after, Meets, Stand, final}
use Rattle.ld_record.specs.declared.record.Kept.{Kept}
use Rattle.ld_record.specs.declared.record.Kept.TheVariants as kept
use Rattle.ld_record.specs.Kept as said
use Rattle.ld_record.specs.Kept.{judgement_of, equality_of, entry_by, with_kept, known_of, Fits, FitsEntry, AreSound, IsSound}
use Rattle.ld_record.specs.Follows.{entry_at}
use Rattle.ld_record.specs.Laws.{IsDerivableIn, NodesAreDerivable, EnvironmentIsLegal, KeptNodesAreDerivable}
use Rattle.ld_record.specs.Laws.{EqualitiesHold, EqualitiesAreConvertible, KeptEqualitiesAreConvertible}
use Rattle.ld_record.proofs.Lists.{with_one_more}
use Rattle.ld_record.proofs.Prefixes.{entry_within, take_next, entry_below, entry_or_last, converts_more}
use Rattle.ld_record.proofs.Holding.{EntryHolds, EqualityHolds, AllHold, nothing_holds, equated, equal_converts, bound_within, judged}
use Rattle.ld_record.proofs.Arguments.{arguments_derived}
use Rattle.ld_record.proofs.Rules.{follows_by}
use Rattle.ld_record.proofs.Equals.{equal_by}

-- A judgement that follows by a rule is derivable by the rule.
module _ (known : Known) (hold : AllHold known) where
  abbrev env : Env
  env = known.env

  follows : {m : ℕ} {ctx : Trees} {t u : Tree} {rule : Rule} → FollowsBy known m ctx t u rule → IsDerivableIn env (record { entries = m; context = ctx; term = t; type = u })
  follows FollowsBy.sort = record { within = omega arith; derivable = d.sort }
  follows (FollowsBy.var {m = m} {n = n} {ctx = ctx} {a = a} {s = s} w h) =
      let j = judged known hold n m ctx a s h in
      record { within = j.within; derivable = d.var w j.derivable }
  follows (FollowsBy.weak {m = m} {n = n} {n' = n'} {ctx = ctx} {a = a} {b = b} {c = c} {s = s} w h k) =
      let j = judged known hold n m ctx a b h in
      let i = judged known hold n' m ctx c s k in
      record { within = j.within; derivable = d.weak w j.derivable i.derivable }
  follows (FollowsBy.form {m = m} {n = n} {n' = n'} {ctx = ctx} {a = a} {b = b} {s1 = s1} {s2 = s2} w v h k) =
      let j = judged known hold n m ctx a s1 h in
      let i = judged known hold n' m (ctx ▸ a) b s2 k in
      record { within = j.within; derivable = d.form w v j.derivable i.derivable }
  follows (FollowsBy.appl {m = m} {n = n} {n' = n'} {ctx = ctx} {a = a} {b = b} {f = g} {u = u} h k) =
      let j = judged known hold n m ctx g (Pi a b) h in
      let i = judged known hold n' m ctx u a k in
      record { within = j.within; derivable = d.appl j.derivable i.derivable }
  follows (FollowsBy.abst {m = m} {n = n} {n' = n'} {ctx = ctx} {a = a} {b = b} {p = p} {s = s} w h k) =
      let j = judged known hold n m (ctx ▸ a) p b h in
      let i = judged known hold n' m ctx (Pi a b) s k in
      record { within = i.within; derivable = d.abst w j.derivable i.derivable }
  follows (FollowsBy.conv {m = m} {n = n} {n' = n'} {e = e} {ctx = ctx} {a = a} {b = b} {b' = b'} {s = s} w h k q low) =
      let j = judged known hold n m ctx a b h in
      let i = judged known hold n' m ctx b' s k in
      record { within = j.within; derivable = d.conv w (equated known hold e m b b' q low j.within) j.derivable i.derivable }
  follows (FollowsBy.def {m = m} {n = n} {ctx = ctx} {a = a} {b = b} {body = body} {e = e} h at w) =
      let j = judged known hold n m ctx a b h in
      let g = hold.entries m e at in
      record {
        within = entry_within env m e at;
        derivable = subst (λ Δ. Δ ⨾ ctx ⊢ a ∶ b) (sym (take_next env m e at)) (d.def w g.fresh j.derivable (g.typed body w));
      }
  follows (FollowsBy.def_prim {m = m} {n = n} {ctx = ctx} {a = a} {b = b} {e = e} h at w) =
      let j = judged known hold n m ctx a b h in
      let g = hold.entries m e at in
      let v = g.sorted w in
      record {
        within = entry_within env m e at;
        derivable = subst (λ Δ. Δ ⨾ ctx ⊢ a ∶ b) (sym (take_next env m e at)) (d.def_prim v.1 w g.fresh j.derivable v.2);
      }
  follows (FollowsBy.inst {m = m} {n = n} {k = k} {ns = ns} {ctx = ctx} {us = us} {e = e} h low at w args) =
      let j = judged known hold n m ctx Star Box h in
      record { within = j.within; derivable = d.inst (entry_below env m k e low at) w j.derivable (arguments_derived known hold m ctx ns e.params us args) }
  follows (FollowsBy.inst_prim {m = m} {n = n} {k = k} {ns = ns} {ctx = ctx} {us = us} {e = e} h low at w args) =
      let j = judged known hold n m ctx Star Box h in
      record { within = j.within; derivable = d.inst_prim (entry_below env m k e low at) w j.derivable (arguments_derived known hold m ctx ns e.params us args) }

low_or_last : (m n : ℕ) → m ≤ suc n → (m ≤ n) ⊎ (m ≡ suc n)
low_or_last m n h = grind arith

-- What holds over an environment holds over it with one more entry.
module _ (Δ : Env) (x : named.Entry) where
  longer : length (Δ ++ x ∷ []) ≡ suc (length Δ)
  longer = omega (arith, length_push Δ x)

  whole : take (length Δ) Δ ≡ Δ
  whole = take_all (length Δ) Δ (omega arith)

  equality_more : (e : Equality) → EqualityHolds Δ e → e.bound ≤ length Δ → EqualityHolds (Δ ++ x ∷ []) e
  equality_more e holds within m low high = by_place (low_or_last m (length Δ) (subst (λ n. m ≤ n) longer high))
    where
      by_place : (m ≤ length Δ) ⊎ (m ≡ suc (length Δ)) → Converts (take m (Δ ++ x ∷ [])) e.left e.right
      by_place (inl h) = subst (λ D. Converts D e.left e.right) (sym (take-append-le m Δ (x ∷ []) h)) (holds m low h)
      by_place (inr h) =
          subst (λ D. Converts D e.left e.right) (sym (take_all m (Δ ++ x ∷ []) (omega (arith, longer))))
          (converts_more x (subst (λ D. Converts D e.left e.right) whole (holds (length Δ) within (omega arith))))

  node_more : (j : Judgement) → IsDerivableIn Δ j → IsDerivableIn (Δ ++ x ∷ []) j
  node_more j h = record {
    within = omega (arith, longer, h.within);
    derivable = subst (λ D. D ⨾ j.context ⊢ j.term ∶ j.type) (sym (take-append-le j.entries Δ (x ∷ []) h.within)) h.derivable;
  }

  entries_more : ((k : ℕ) (e : named.Entry) → EntryAt Δ k e → EntryHolds (take k Δ) e) → EntryHolds Δ x
      → (k : ℕ) (e : named.Entry) → EntryAt (Δ ++ x ∷ []) k e → EntryHolds (take k (Δ ++ x ∷ [])) e
  entries_more hold last k e at = by_place (entry_or_last Δ x k e at)
    where
      by_place : EntryAt Δ k e ⊎ ((k ≡ length Δ) × (x ≡ e)) → EntryHolds (take k (Δ ++ x ∷ [])) e
      by_place (inl h) = subst (λ D. EntryHolds D e) (sym (take-append-le k Δ (x ∷ []) (omega (arith, entry_within Δ k e h)))) (hold k e h)
      by_place (inr h) =
          subst₂ (λ k e. EntryHolds (take k (Δ ++ x ∷ [])) e) (sym h.0) h.1
          (subst (λ D. EntryHolds D x) (sym (take-append-le (length Δ) Δ (x ∷ []) (omega arith) ∙ whole)) last)

body_is : {t M : Tree} → HasBody (Defined t) M → t ≡ M
body_is defined = refl

no_body : {M : Tree} → HasBody Primitive M → ⊥
no_body h = elim h [ ]

not_primitive : {t : Tree} → Defined t ≡ Primitive → ⊥
not_primitive h = cc

-- All holds with one more equality, judgement, entry, context and note.
module _ (known : Known) (hold : AllHold known) where
  more_contexts : (ctx : Trees) → AllHold (with_context known ctx)
  more_contexts ctx = record { entries = hold.entries; equalities = hold.equalities; bounds = hold.bounds; nodes = hold.nodes }

  more_equalities : (e : Equality) → EqualityHolds known.env e → e.bound ≤ length known.env → AllHold (with_equality known e)
  more_equalities e h b = record {
    entries = hold.entries;
    equalities = with_one_more (EqualityHolds known.env) no_equality e known.equalities (λ m low high. Converts.same) hold.equalities h;
    bounds = with_one_more (λ e. e.bound ≤ length known.env) no_equality e known.equalities (omega arith) hold.bounds b;
    nodes = hold.nodes;
  }

  more_nodes : (j : Judgement) → IsDerivableIn known.env j → AllHold (with_node known j)
  more_nodes j h = record {
    entries = hold.entries;
    equalities = hold.equalities;
    bounds = hold.bounds;
    nodes = with_one_more (IsDerivableIn known.env) no_judgement j known.nodes (record { within = omega arith; derivable = d.sort }) hold.nodes h;
  }

  more_entries : (x : named.Entry) → EntryHolds known.env x → AllHold (with_entry known x)
  more_entries x h = record {
    entries = entries_more known.env x hold.entries h;
    equalities = λ e. equality_more known.env x (equality_at known e) (hold.equalities e) (hold.bounds e);
    bounds = λ e. omega (arith, longer known.env x, hold.bounds e);
    nodes = λ n. node_more known.env x (judgement_at known n) (hold.nodes n);
  }

  more_flags : (j : Judgement) → AllHold (with_flag known j)
  more_flags j = record { entries = hold.entries; equalities = hold.equalities; bounds = hold.bounds; nodes = hold.nodes }

  -- a judgement over all entries
  over_all : (n : ℕ) → IsOverAll known n → known.env ⨾ (judgement_at known n).context ⊢ (judgement_at known n).term ∶ (judgement_at known n).type
  over_all n h =
      let j = judgement_at known n in
      subst (λ D. D ⨾ j.context ⊢ j.term ∶ j.type) (ap (λ k. take k known.env) h ∙ take_all (length known.env) known.env (omega arith)) (hold.nodes n).derivable

  line_holds : (name : List ℕ) (n : ℕ) → IsFree known name → IsOverAll known n → EntryHolds known.env (line_entry name (judgement_at known n))
  line_holds name n free over = record {
    fresh = free.fresh;
    typed = λ M h. subst (λ t. known.env ⨾ (judgement_at known n).context ⊢ t ∶ (judgement_at known n).type) (body_is h) (over_all n over);
    sorted = λ h. absurd (not_primitive h);
  }

  primitive_holds : (name : List ℕ) (n : ℕ) → IsFree known name → IsOverAll known n → IsSort (judgement_at known n).type → EntryHolds known.env (primitive_entry name (judgement_at known n))
  primitive_holds name n free over sort = record {
    fresh = free.fresh;
    typed = λ M h. absurd (no_body h);
    sorted = λ h. ((judgement_at known n).type, sort, over_all n over);
  }

  -- the judgement that ends a derivation says that its environment is legal
  ended_legal : (n : ℕ) → MayEnd known n → IsLegal known.env
  ended_legal n h =
      subst (λ D. D ⨾ Nil ⊢ Star ∶ Box) (take_all (length known.env) known.env (omega arith)) (judged known hold n (length known.env) Nil Star Box h).derivable

-- each record keeps what holds
holds_after : (s : State) → AllHold s.known → (r : Record) → Meets s r → AllHold (after s r).known
holds_after s hold Record.Star h = hold
holds_after s hold Record.Box h = hold
holds_after s hold (Record.Var i) h = hold
holds_after s hold (Record.App t u) h = hold
holds_after s hold (Record.Lam t u) h = hold
holds_after s hold (Record.Pi t u) h = hold
holds_after s hold (Record.Const k ts) h = hold
holds_after s hold (Record.Context c t) h = more_contexts s.known hold (context_at s.known c ▸ term_at s t)
holds_after s hold (Record.Equal l r rule) h =
    more_equalities s.known hold (record { left = term_at s l; right = term_at s r; bound = bound_by s.known (term_at s l) rule })
    (λ m low high. equal_converts s.known hold h m low high) (bound_within s.known hold h)
holds_after s hold (Record.Node m c t u rule) h =
    more_nodes s.known hold (record { entries = m; context = context_at s.known c; term = term_at s t; type = term_at s u }) (follows s.known hold h)
holds_after s hold (Record.Entry name n) h = more_entries s.known hold (line_entry name (judgement_at s.known n)) (line_holds s.known hold name n h.free h.over)
holds_after s hold (Record.PrimEntry name n) h =
    more_entries s.known hold (primitive_entry name (judgement_at s.known n)) (primitive_holds s.known hold name n h.free h.over h.sort)
holds_after s hold (Record.Flag n) h = more_flags s.known hold (judgement_at s.known n)
holds_after s hold (Record.End n) h = hold

all_hold : (s : State) → AllHold s.known → (rs : List Record) → Stand s rs → AllHold (final s rs).known
all_hold s hold [] h = hold
all_hold s hold (r ∷ rs) h = all_hold (after s r) (holds_after s hold r h.1.meets) rs h.2

pub nodes_are_derivable : NodesAreDerivable
nodes_are_derivable rs h n live = (all_hold start nothing_holds rs h).nodes n

pub environment_is_legal : EnvironmentIsLegal
environment_is_legal rs h n end = ended_legal (final start rs).known (all_hold start nothing_holds rs h) n end

-- the same of kept records
kept_holds : (items : List Item) (known : Known) → AllHold known → (k : Kept) → Fits items known k → AllHold (with_kept items known k)
kept_holds items known hold (kept.Context c t) h = more_contexts known hold (context_at known c.0 ▸ tree_at items t)
kept_holds items known hold (kept.Equal left right step) h =
    let equal = equal_by known (tree_at items left) (tree_at items right) step h.follows in
    more_equalities known hold (equality_of items known left right step) (λ m low high. equal_converts known hold equal m low high) (bound_within known hold equal)
kept_holds items known hold (kept.Node judge step) h =
    more_nodes known hold (judgement_of items known judge) (follows known hold (follows_by known (judgement_of items known judge) step h.follows))
kept_holds items known hold (kept.Entry name j true) h =
    more_entries known hold (primitive_entry name (judgement_at known j.0)) (primitive_holds known hold name j.0 h.may.free h.may.over h.may.sort)
kept_holds items known hold (kept.Entry name j false) h =
    more_entries known hold (line_entry name (judgement_at known j.0)) (line_holds known hold name j.0 h.may.free h.may.over)
kept_holds items known hold (kept.Flag j) h = more_flags known hold (judgement_at known j.0)

all_kept_hold : (items : List Item) (known : Known) → AllHold known → (ks : List Kept) → AreSound items known ks → AllHold (said.known_after items known ks)
all_kept_hold items known hold [] h = hold
all_kept_hold items known hold (k ∷ ks) h = all_kept_hold items (with_kept items known k) (kept_holds items known hold k h.0) ks h.1

pub kept_nodes_are_derivable : KeptNodesAreDerivable
kept_nodes_are_derivable items ks sound n live = (all_kept_hold items nothing nothing_holds ks sound.all).nodes n

-- each equality converts over the entries below its bound, and over all
equalities_hold : (known : Known) → AllHold known → EqualitiesHold known
equalities_hold known hold e live = record {
  within = hold.bounds e;
  below_bound = hold.equalities e (equality_at known e).bound (omega arith) (hold.bounds e);
  over_all =
      subst (λ Δ. Converts Δ (equality_at known e).left (equality_at known e).right) (take_all (length known.env) known.env (omega arith))
      (hold.equalities e (length known.env) (hold.bounds e) (omega arith));
}

pub equalities_are_convertible : EqualitiesAreConvertible
equalities_are_convertible rs h = equalities_hold (final start rs).known (all_hold start nothing_holds rs h)

pub kept_equalities_are_convertible : KeptEqualitiesAreConvertible
kept_equalities_are_convertible items ks sound = equalities_hold (known_of items ks) (all_kept_hold items nothing nothing_holds ks sound.all)

-- A judgement is led over one entry more, by the rule for an entry with a body or for a primitive.
over_next : (Δ : Env) (e : named.Entry) (Γ : Trees) (t u : Tree) → EntryHolds Δ e → Δ ⨾ Γ ⊢ t ∶ u → Δ ++ e ∷ [] ⨾ Γ ⊢ t ∶ u
over_next Δ e Γ t u holds j = by_body e.body refl
  where
    by_body : (b : Body) → e.body ≡ b → Δ ++ e ∷ [] ⨾ Γ ⊢ t ∶ u
    by_body (Defined m) is =
        let has : HasBody e.body m = subst (λ b. HasBody b m) (sym is) defined in
        d.def {e = e} has holds.fresh j (holds.typed m has)
    by_body Primitive is = let sort = holds.sorted is in d.def_prim {e = e} sort.1 is holds.fresh j sort.2

-- what is derivable over the first entries is derivable over some more, and over all
module _ (known : Known) (hold : AllHold known) where
  over_more : (m n : ℕ) (Γ : Trees) (t u : Tree) → m + n ≤ length known.env → take m known.env ⨾ Γ ⊢ t ∶ u → take (m + n) known.env ⨾ Γ ⊢ t ∶ u
  over_more m zero Γ t u within j = let same : m ≡ m + 0 = omega arith in subst (λ k. take k known.env ⨾ Γ ⊢ t ∶ u) same j
  over_more m (suc n) Γ t u within j =
      let below : m + n < length known.env = omega arith in
      let next : suc (m + n) ≡ m + suc n = omega arith in
      let e = entry_at known.env (m + n) in
      let at : EntryAt known.env (m + n) e = slice_get-get_or known.env (m + n) _ below in
      subst (λ k. take k known.env ⨾ Γ ⊢ t ∶ u) next
      (subst (λ Δ. Δ ⨾ Γ ⊢ t ∶ u) (sym (take_next known.env (m + n) e at))
      (over_next (take (m + n) known.env) e Γ t u (hold.entries (m + n) e at) (over_more m n Γ t u (omega arith) j)))

  over_each : (m : ℕ) (Γ : Trees) (t u : Tree) → m ≤ length known.env → take m known.env ⨾ Γ ⊢ t ∶ u → known.env ⨾ Γ ⊢ t ∶ u
  over_each m Γ t u within j =
      let env = known.env in
      subst (λ Δ. Δ ⨾ Γ ⊢ t ∶ u) (take_all (m + (length env - m)) env (omega arith)) (over_more m (length env - m) Γ t u (omega arith) j)

pub kept_over_all : (items : List Item) (ks : List Kept) → IsSound items ks → (m : ℕ) (Γ : Trees) (t u : Tree) → m ≤ length (known_of items ks).env
    → take m (known_of items ks).env ⨾ Γ ⊢ t ∶ u → (known_of items ks).env ⨾ Γ ⊢ t ∶ u
kept_over_all items ks sound = over_each (known_of items ks) (all_kept_hold items nothing nothing_holds ks sound.all)

-- the sides of a kept equality convert over all entries
pub kept_sides_convert : (items : List Item) (ks : List Kept) → IsSound items ks → (e : ℕ) (l r : Tree) → Equates (known_of items ks) e l r → Converts (known_of items ks).env l r
kept_sides_convert items ks sound e l r sides =
    let known = known_of items ks in
    let hold = all_kept_hold items nothing nothing_holds ks sound.all in
    subst (λ Δ. Converts Δ l r) (take_all (length known.env) known.env (omega arith))
    (equated known hold e (length known.env) l r sides (hold.bounds e) (omega arith))
