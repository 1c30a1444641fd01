-- A kept record stands by the rule table: its judgement follows by its rule, what it names is there, an entry may be kept.
use Rattle.std.proofs.Common.{◌≡◌, ◌<◌, ◌+◌, ◌-◌, ℕ, suc, [], length, refl, ap, sym, ◌∙◌, subst, inl, inr, arith}
use Rattle.std.specs.Prelude.{Bool, nat_lt, if◌then◌else◌, List}
use Rattle.std.proofs.lemmas.Bool.{cases_lt}
use Rattle.std.proofs.lemmas.Bool.Decides.{nat_tests}
use Rattle.std.proofs.lemmas.Option.{slice_get-get_or}
use mathlib.Core.Path.{ap₂}
use Rattle.ld_terms.specs.Tree.{Tree, Star, Box, Var, App, Lam, Pi, Const, Trees, Nil, ◌▸◌}
use Rattle.ld_terms.specs.Put.{lift, put, put_below, put_all_below, in_place_below}
use Rattle.ld_terms.specs.Entry.{Body, Defined, Primitive, Env, EntryAt, HasBody, defined}
use Rattle.ld_terms.specs.Rule.{Rule}
use Rattle.ld_terms.specs.Known.{Known, Judgement, judgement_at, no_judgement, primitive_entry, IsNode, FollowsBy}
use Rattle.ld_terms.specs.Record.{State, RuleIsThere}
use Rattle.ld_record.specs.declared.record.JudgeId.{JudgeId}
use Rattle.ld_record.specs.declared.record.Step.{Step}
use Rattle.ld_record.specs.declared.record.Step.TheVariants as step
use Rattle.ld_record.specs.Follows.{numbers_of, rule_of, entry_at, IsDefined, Over, Instance, Follows}
use Rattle.ld_record.specs.Kept.{FitsEntry}

-- nothing put in changes nothing
none_in_place : (below i : ℕ) → in_place_below Nil below i ≡ Var i
none_in_place below i =
    let low : (if nat_lt (i - below) 0 then i - below else i - below + below) ≡ i - below + below = grind (arith, nat_tests) in
    let Sees : Tree → Type 0 = λ t. (if nat_lt i below then Var i else t) ≡ Var i in
    let P : ℕ → Type 0 = λ k. Sees (Var k) in
    subst P (sym low) (either below i)
  where
    either : (below i : ℕ) → (if nat_lt i below then Var i else Var (i - below + below)) ≡ Var i
    either below i =
        elim (cases_lt i below) [
          | inl less ↦ grind (arith, nat_tests)
          | inr more ↦ let e : i - below + below ≡ i = omega arith in grind (arith, nat_tests)
        ]

mutual
  pub put_none : (t : Tree) (below : ℕ) → put_below t Nil below ≡ t
  put_none Star below = refl
  put_none Box below = refl
  put_none (Var i) below = none_in_place below i
  put_none (App f u) below = ap₂ App (put_none f below) (put_none u below)
  put_none (Lam a m) below = ap₂ Lam (put_none a below) (put_none m (suc below))
  put_none (Pi a b) below = ap₂ Pi (put_none a below) (put_none b (suc below))
  put_none (Const k us) below = ap (Const k) (put_none_all us below)

  pub put_none_all : (us : Trees) (below : ℕ) → put_all_below us Nil below ≡ us
  put_none_all Nil below = refl
  put_none_all (us ▸ u) below = ap₂ ◌▸◌ (put_none_all us below) (put_none u below)

-- a judgement is the record of its parts
parts : (q : Judgement) (m : ℕ) (ctx : Trees) (t u : Tree) → q.entries ≡ m → q.context ≡ ctx → q.term ≡ t → q.type ≡ u
    → q ≡ record { entries = m; context = ctx; term = t; type = u }
parts q m ctx t u e c d f =
    ap (λ (x : ℕ). record q { entries = x }) e
    ∙ ap (λ (x : Trees). record q { entries = m; context = x }) c
    ∙ ap (λ (x : Tree). record q { entries = m; context = ctx; term = x }) d
    ∙ ap (λ (x : Tree). record q { entries = m; context = ctx; term = t; type = x }) f

-- an entry that is there
pub entry_there : (env : Env) (k : ℕ) → k < length env → EntryAt env k (entry_at env k)
entry_there env k below = slice_get-get_or env k (primitive_entry [] no_judgement) below

has_body : (b : Body) → IsDefined b → (t : Tree) × HasBody b t
has_body (Defined t) h = (t, defined)
has_body Primitive h = absurd h

module _ (known : Known) where
  abbrev At : ℕ → Judgement
  At n = judgement_at known n

  -- the judgement follows, as it is equal to one that does
  follows_as : (s q : Judgement) (r : Rule) → s ≡ q → FollowsBy known q.entries q.context q.term q.type r → FollowsBy known s.entries s.context s.term s.type r
  follows_as s q r e h =
      let P : Judgement → Type 0 = λ x. FollowsBy known x.entries x.context x.term x.type r in
      subst P (sym e) h

  -- the star that an instance rests on
  star_there : (s : Judgement) (n : JudgeId) (ns : List JudgeId) → Instance known s n ns → At n.0 ≡ record { entries = s.entries; context = s.context; term = Star; type = Box }
  star_there s n ns h = parts (At n.0) s.entries s.context Star Box h.star.entries h.context h.star_term h.star_type

  -- what an instance is
  instance_is : (s : Judgement) (n : JudgeId) (ns : List JudgeId) (h : Instance known s n ns)
      → s ≡ record { entries = s.entries; context = s.context; term = Const h.number h.arguments; type = put (entry_at known.env h.number).type h.arguments }
  instance_is s n ns h = parts s s.entries s.context (Const h.number h.arguments) (put (entry_at known.env h.number).type h.arguments) refl refl h.term h.type

  -- what a judgement over one entry more is
  over_is : (s : Judgement) (n : JudgeId) → Over known s n
      → s ≡ record { entries = suc (At n.0).entries; context = (At n.0).context; term = (At n.0).term; type = (At n.0).type }
  over_is s n h =
      let more : (At n.0).entries + 1 ≡ suc (At n.0).entries = omega arith in
      h.same ∙ ap (λ (k : ℕ). record (At n.0) { entries = k }) more

  -- What follows as a kept record follows by its rule.
  pub follows_by : (s : Judgement) (by : Step) → Follows known s by → FollowsBy known s.entries s.context s.term s.type (rule_of by)
  follows_by s step.Sort h =
      follows_as s (record { entries = 0; context = Nil; term = Star; type = Box }) Rule.Sort
      (parts s 0 Nil Star Box h.entries h.context h.term h.type) FollowsBy.sort
  follows_by s (step.Var n) h =
      let f = At n.0 in
      follows_as s (record { entries = s.entries; context = f.context ▸ f.term; term = Var 0; type = lift f.term 1 0 }) (Rule.Var n.0)
      (parts s s.entries (f.context ▸ f.term) (Var 0) (lift f.term 1 0) refl h.context h.term h.type)
      (FollowsBy.var h.sort (parts f s.entries f.context f.term f.type h.premise.entries refl refl refl))
  follows_by s (step.Weak n m) h =
      let f = At n.0 in
      let g = At m.0 in
      follows_as s (record { entries = s.entries; context = f.context ▸ g.term; term = lift f.term 1 0; type = lift f.type 1 0 }) (Rule.Weak n.0 m.0)
      (parts s s.entries (f.context ▸ g.term) (lift f.term 1 0) (lift f.type 1 0) refl h.context h.term h.type)
      (FollowsBy.weak h.sort (parts f s.entries f.context f.term f.type h.first.entries refl refl refl) (parts g s.entries f.context g.term g.type h.second.entries h.same refl refl))
  follows_by s (step.Form n m) h =
      let f = At n.0 in
      let g = At m.0 in
      follows_as s (record { entries = s.entries; context = s.context; term = Pi f.term g.term; type = g.type }) (Rule.Form n.0 m.0)
      (parts s s.entries s.context (Pi f.term g.term) g.type refl refl h.term h.type)
      (FollowsBy.form h.domain h.range (parts f s.entries s.context f.term f.type h.first.entries h.outer refl refl) (parts g s.entries (s.context ▸ f.term) g.term g.type h.second.entries h.inner refl refl))
  follows_by s (step.Appl n m) h =
      let f = At n.0 in
      let g = At m.0 in
      follows_as s (record { entries = s.entries; context = s.context; term = App f.term g.term; type = put h.range (Nil ▸ g.term) }) (Rule.Appl n.0 m.0)
      (parts s s.entries s.context (App f.term g.term) (put h.range (Nil ▸ g.term)) refl refl h.term h.type)
      (FollowsBy.appl (parts f s.entries s.context f.term (Pi g.type h.range) h.first.entries h.function refl h.product) (parts g s.entries s.context g.term g.type h.second.entries h.argument refl refl))
  follows_by s (step.Abst n m) h =
      let f = At n.0 in
      let g = At m.0 in
      follows_as s (record { entries = s.entries; context = s.context; term = Lam h.domain f.term; type = Pi h.domain f.type }) (Rule.Abst n.0 m.0)
      (parts s s.entries s.context (Lam h.domain f.term) (Pi h.domain f.type) refl refl h.term h.type)
      (FollowsBy.abst h.sort (parts f s.entries (s.context ▸ h.domain) f.term f.type h.first.entries h.inner refl refl) (parts g s.entries s.context (Pi h.domain f.type) g.type h.second.entries h.outer h.product refl))
  follows_by s (step.Conv n m e) h =
      let f = At n.0 in
      let g = At m.0 in
      follows_as s (record { entries = s.entries; context = s.context; term = f.term; type = g.term }) (Rule.Conv n.0 m.0 e.0)
      (parts s s.entries s.context f.term g.term refl refl h.term h.type)
      (FollowsBy.conv h.sort (parts f s.entries s.context f.term f.type h.first.entries h.typed refl refl) (parts g s.entries s.context g.term g.type h.second.entries h.wanted refl refl)
      (h.left, h.right ∙ h.type) h.bound)
  follows_by s (step.Def n) h =
      let f = At n.0 in
      let body = has_body (entry_at known.env f.entries).body h.body in
      follows_as s (record { entries = suc f.entries; context = f.context; term = f.term; type = f.type }) (Rule.Def n.0) (over_is s n h.over)
      (FollowsBy.def (parts f f.entries f.context f.term f.type refl refl refl refl) (entry_there known.env f.entries h.over.there) body.1)
  follows_by s (step.DefPrim n) h =
      let f = At n.0 in
      follows_as s (record { entries = suc f.entries; context = f.context; term = f.term; type = f.type }) (Rule.DefPrim n.0) (over_is s n h.over)
      (FollowsBy.def_prim (parts f f.entries f.context f.term f.type refl refl refl refl) (entry_there known.env f.entries h.over.there) h.body)
  follows_by s (step.Inst n ns) h =
      let i = h.instance in
      let e = entry_at known.env i.number in
      let body = has_body e.body h.body in
      follows_as s (record { entries = s.entries; context = s.context; term = Const i.number i.arguments; type = put e.type i.arguments }) (Rule.Inst n.0 (numbers_of ns)) (instance_is s n ns i)
      (FollowsBy.inst (star_there s n ns i) i.below (entry_there known.env i.number i.there) body.1 i.judged)
  follows_by s (step.InstPrim n ns) h =
      let i = h.instance in
      let e = entry_at known.env i.number in
      follows_as s (record { entries = s.entries; context = s.context; term = Const i.number i.arguments; type = put e.type i.arguments }) (Rule.InstPrim n.0 (numbers_of ns)) (instance_is s n ns i)
      (FollowsBy.inst_prim (star_there s n ns i) i.below (entry_there known.env i.number i.there) h.body i.judged)

  -- an entry that fits is that of a judgement that is there, and may be kept
  pub entry_names : (name : List ℕ) (j : JudgeId) (prim : Bool) → FitsEntry known name j prim → IsNode known j.0
  entry_names name j prim h = h.live

-- the judgements that the rule names are there
pub premises_there : (state : State) (s : Judgement) (by : Step) → Follows state.known s by → RuleIsThere state (rule_of by)
premises_there state s step.Sort h = tt
premises_there state s (step.Var n) h = h.premise.live
premises_there state s (step.Weak n m) h = (h.first.live, h.second.live)
premises_there state s (step.Form n m) h = (h.first.live, h.second.live)
premises_there state s (step.Appl n m) h = (h.first.live, h.second.live)
premises_there state s (step.Abst n m) h = (h.first.live, h.second.live)
premises_there state s (step.Conv n m e) h = (h.first.live, h.second.live, h.live)
premises_there state s (step.Def n) h = h.over.live
premises_there state s (step.DefPrim n) h = h.over.live
premises_there state s (step.Inst n ns) h = (h.instance.star.live, h.instance.live)
premises_there state s (step.InstPrim n ns) h = (h.instance.star.live, h.instance.live)
