-- What a theory keeps true, as its parts change.
use Rattle.std.proofs.Common.{◌≡◌, ◌<◌, ◌≤◌, ◌+◌, ◌^◌, ◌++◌, ◌∷◌, [], ℕ, List, length, take, get_or, set, refl, ap, sym, ◌∙◌, subst, arith, inl, inr, ◌⊎◌, ◌≢◌, Some}
use Rattle.std.proofs.lemmas.List.{get_or_append_left, get_or_at, length_push, length-set, length-take, get_or-set_other, get_or-set_same, get_or-take, take-take, take_all, take_at, take-append-le}
use Rattle.std.proofs.lemmas.Option.{slice_get-get_or}
use Rattle.std.proofs.lemmas.Bool.{cases_lt}
use Rattle.std.proofs.Math.Seq.{map-set_same}
use Rattle.ld_terms.specs.Tree.{Tree, Trees, Star, Box, ◌▸◌}
use Rattle.ld_terms.specs.Item.{Item, tree}
use Rattle.ld_terms.specs.Bank.{Extends, IsTermAt, tree_at}
use Rattle.ld_terms.proofs.Banks.{term_at_later}
use Rattle.ld_terms.specs.Entry as named
use Rattle.ld_terms.specs.declared.bank.TermId.{TermId}
use Rattle.ld_terms.specs.Derivable.{IsSort}
use Rattle.ld_terms.specs.Known.{Known, Judgement, judgement_at, with_entry}
use Rattle.ld_env.specs.Named.{Named}
use Rattle.ld_env.specs.Entries.{env_of, entry_of, IsLiveEntry, AreLive}
use Rattle.ld_env.proofs.CallerLemmas.{env_of-later, live-later, env_of-append, live-push}
use Rattle.ld_record.specs.declared.record.JudgeId.{JudgeId}
use Rattle.ld_record.specs.declared.record.CtxId.{CtxId}
use Rattle.ld_record.specs.declared.record.Kept.{Kept}
use Rattle.ld_record.specs.Kept.{known_of, IsSound}
use Rattle.ld_record.specs.Growth.{Knows, KnowsContext, Adds, over_first}
use Rattle.ld_record.proofs.Growing.{known_later, sound_later}
use Rattle.ld_reduce.specs.Cost.{Goes}
use Rattle.ld_infer.specs.declared.theory.Level.{Level}
use Rattle.ld_infer.specs.declared.variable.Variable.{Variable}
use Rattle.ld_infer.specs.Theory.{types_of, context_of, IsJudgedIn, IsLevel, IsVariable, no_level, no_variable, level_at, variable_at, AreLevels, IsTheory}
use Rattle.ld_infer.proofs.Contexts.{context_of-later, context_of-push, context_of-same}

-- the same of equal parts
level_by : (known : Known) (ctx ctx' : Trees) (l l' : Level) → ctx' ≡ ctx → l' ≡ l → IsLevel known ctx l → IsLevel known ctx' l'
level_by known ctx ctx' l l' e f h =
    let P : Trees → Type 0 = λ x. IsLevel known x l' in
    subst P (sym e) (subst (IsLevel known ctx) (sym f) h)

variable_by : (items : List Item) (known : Known) (ctx ctx' : Trees) (v v' : Variable) → ctx' ≡ ctx → v' ≡ v → IsVariable items known ctx v → IsVariable items known ctx' v'
variable_by items known ctx ctx' v v' e f h =
    let P : Trees → Type 0 = λ x. IsVariable items known x v' in
    subst P (sym e) (subst (IsVariable items known ctx) (sym f) h)

-- a judgement, where contexts and judgements are added
judged_later : (old new : Known) (ctx : Trees) (j : JudgeId) (t : Tree) → Adds old new → IsJudgedIn old ctx j t → IsJudgedIn new ctx j t
judged_later old new ctx j t adds h =
    let node = adds.node j.0 h.live in
    record {
      live = omega (arith, adds.nodes, h.live);
      entries = omega (arith, ap (λ (s : Judgement). s.entries) node, ap length adds.env, h.entries);
      context = ap (λ (s : Judgement). s.context) node ∙ h.context;
      term = ap (λ (s : Judgement). s.term) node ∙ h.term;
    }

level_later : (old new : Known) (ctx : Trees) (l : Level) → Adds old new → IsLevel old ctx l → IsLevel new ctx l
level_later old new ctx l adds h = record {
  there = omega (arith, adds.contexts, h.there);
  is = adds.context l.ctx.0 h.there ∙ h.is;
  star = judged_later old new ctx l.star Star adds h.star;
  box = ap (λ (s : Judgement). s.type) (adds.node l.star.0 h.star.live) ∙ h.box;
}

pub variable_later : (items : List Item) (old new : Known) (ctx : Trees) (v : Variable) → Adds old new → IsVariable items old ctx v → IsVariable items new ctx v
variable_later items old new ctx v adds h = record {
  term = h.term;
  judged = judged_later old new ctx v.sort (tree_at items v.of) adds h.judged;
  sort = subst IsSort (sym (ap (λ (s : Judgement). s.type) (adds.node v.sort.0 h.judged.live))) h.sort;
}

pub levels_later : (items : List Item) (old new : Known) (levels : List Level) (variables : List Variable) → Adds old new → AreLevels items old levels variables → AreLevels items new levels variables
levels_later items old new levels variables adds h = record {
  as_many = h.as_many;
  level = λ i l. level_later old new _ (level_at levels i) adds (h.level i l);
  variable = λ i l. variable_later items old new _ (variable_at variables i) adds (h.variable i l);
}

-- terms are added
levels_over : (old new : List Item) (known : Known) (levels : List Level) (variables : List Variable) → Extends old new → AreLevels old known levels variables → AreLevels new known levels variables
levels_over old new known levels variables e h =
    let live : (i : ℕ) → i < length variables → IsTermAt old (variable_at variables i).of = λ i l. (h.variable i l).term in
    let ctx : (i : ℕ) → context_of new (take i variables) ≡ context_of old (take i variables) = λ i. context_of-later old new variables i e live in
    record {
      as_many = h.as_many;
      level = λ i l. level_by known _ _ (level_at levels i) (level_at levels i) (ctx i) refl (h.level i l);
      variable = λ i l.
          let v = variable_at variables i in
          let was = h.variable i l in
          let P : Tree → Type 0 = IsJudgedIn known (context_of old (take i variables)) v.sort in
          let now : IsVariable new known (context_of old (take i variables)) v = record {
            term = term_at_later old new v.of e was.term;
            judged = subst P (sym (ap tree (e.kept v.of was.term.live))) was.judged;
            sort = was.sort;
          } in
          variable_by new known _ _ v v (ctx i) refl now;
    }

pub theory_later : (old new : List Item) (kept : List Kept) (entries : List Named) (star box : TermId) (levels : List Level) (variables : List Variable)
    → Extends old new → IsTheory old kept entries star box levels variables → IsTheory new kept entries star box levels variables
theory_later old new kept entries star box levels variables e h =
    let same : known_of old kept ≡ known_of new kept = sym (known_later old new kept e h.sound) in
    let Levels : Known → Type 0 = λ k. AreLevels new k levels variables in
    let Room : Known → Type 0 = λ k. length k.env < 2 ^ 32 in
    record {
      sound = sound_later old new kept e h.sound;
      env = env_of-later old new entries e h.live ∙ h.env ∙ ap (λ (k : Known). k.env) same;
      live = live-later old new entries e h.live;
      star = record { live = omega (arith, e.longer, h.star.live); item = e.kept star h.star.live ∙ h.star.item };
      box = record { live = omega (arith, e.longer, h.box.live); item = e.kept box h.box.live ∙ h.box.item };
      levels_are = subst Levels same (levels_over old new (known_of old kept) levels variables e h.levels_are);
      room = subst Room same h.room;
    }

-- contexts and judgements are added
pub theory_adds : (items : List Item) (old new : List Kept) (entries : List Named) (star box : TermId) (levels : List Level) (variables : List Variable)
    → IsSound items new → Adds (known_of items old) (known_of items new) → IsTheory items old entries star box levels variables → IsTheory items new entries star box levels variables
theory_adds items old new entries star box levels variables sound adds h =
    let same = sym adds.env in
    let Room : named.Env → Type 0 = λ env. length env < 2 ^ 32 in
    record {
      sound = sound;
      env = h.env ∙ same;
      live = h.live;
      star = h.star;
      box = h.box;
      levels_are = levels_later items (known_of items old) (known_of items new) levels variables adds h.levels_are;
      room = subst Room same h.room;
    }

-- terms and records were added at the end
pub theory_goes : (old new : List Item) (before after : List Kept) (entries : List Named) (star box : TermId) (levels : List Level) (variables : List Variable)
    → Goes old new before after → IsTheory old before entries star box levels variables → IsTheory new after entries star box levels variables
theory_goes old new before after entries star box levels variables goes h =
    let P : Known → Type 0 = λ k. Adds k (known_of new after) in
    theory_adds new before after entries star box levels variables goes.sound (subst P (sym (known_later old new before goes.extends h.sound)) goes.adds)
    (theory_later old new before entries star box levels variables goes.extends h)

-- the levels and variables change, and nothing else
pub theory_levels : (items : List Item) (kept : List Kept) (entries : List Named) (star box : TermId) (old new : List Level) (before after : List Variable)
    → AreLevels items (known_of items kept) new after → IsTheory items kept entries star box old before → IsTheory items kept entries star box new after
theory_levels items kept entries star box old new before after are h = record {
  sound = h.sound;
  env = h.env;
  live = h.live;
  star = h.star;
  box = h.box;
  levels_are = are;
  room = h.room;
}

same_or_other : (i place : ℕ) → (i ≡ place) ⊎ (i ≢ place)
same_or_other i place = grind arith

-- the star of a level is put over more entries
pub level_set : (items : List Item) (known : Known) (levels : List Level) (variables : List Variable) (place : ℕ) (l : Level) → AreLevels items known levels variables → place ≤ length variables
    → IsLevel known (context_of items (take place variables)) l → AreLevels items known (set levels place l) variables
level_set items known levels variables place l h within now = record {
  as_many = length-set levels place l ∙ h.as_many;
  level = λ i below. elim (same_or_other i place) as (λ _. IsLevel known (context_of items (take i variables)) (level_at (set levels place l) i)) [
    | inl same ↦
        level_by known _ _ l _ (ap (λ n. context_of items (take n variables)) same)
        (ap (λ n. get_or (set levels place l) n no_level) same ∙ get_or-set_same levels place l no_level (omega (arith, h.as_many))) now
    | inr other ↦ level_by known _ _ (level_at levels i) _ refl (get_or-set_other levels place i l no_level other) (h.level i below)
  ];
  variable = h.variable;
}

-- the judgement for a variable's type is put over more entries
pub variable_set : (items : List Item) (known : Known) (levels : List Level) (variables : List Variable) (place : ℕ) (v : Variable) → AreLevels items known levels variables → place < length variables
    → types_of (set variables place v) ≡ types_of variables → IsVariable items known (context_of items (take place variables)) v → AreLevels items known levels (set variables place v)
variable_set items known levels variables place v h within same now =
    let many : length (set variables place v) ≡ length variables = length-set variables place v in
    let ctx : (i : ℕ) → context_of items (take i (set variables place v)) ≡ context_of items (take i variables) = λ i. context_of-same items (set variables place v) variables i same in
    record {
      as_many = h.as_many ∙ ap (λ n. n + 1) (sym many);
      level = λ i below. level_by known _ _ (level_at levels i) (level_at levels i) (ctx i) refl (h.level i (omega (arith, below, many)));
      variable = λ i below. elim (same_or_other i place) as (λ _. IsVariable items known (context_of items (take i (set variables place v))) (variable_at (set variables place v) i)) [
        | inl is ↦
            variable_by items known _ _ v _ (ctx i ∙ ap (λ n. context_of items (take n variables)) is)
            (ap (λ n. get_or (set variables place v) n no_variable) is ∙ get_or-set_same variables place v no_variable within) now
        | inr other ↦
            variable_by items known _ _ (variable_at variables i) _ (ctx i) (get_or-set_other variables place i v no_variable other) (h.variable i (omega (arith, below, many)))
      ];
    }

-- a variable is put at the end of the context
pub levels_push : (items : List Item) (known : Known) (levels : List Level) (variables : List Variable) (l : Level) (v : Variable) → AreLevels items known levels variables
    → IsLevel known (context_of items variables ▸ tree_at items v.of) l → IsVariable items known (context_of items variables) v → AreLevels items known (levels ++ l ∷ []) (variables ++ v ∷ [])
levels_push items known levels variables l v h level variable =
    let many = length_push variables v in
    let all = variables ++ v ∷ [] in
    record {
      as_many = omega (arith, many, length_push levels l, h.as_many);
      level = λ i below. elim (cases_lt i (length levels)) as (λ _. IsLevel known (context_of items (take i all)) (level_at (levels ++ l ∷ []) i)) [
        | inl within ↦
            let inside : i ≤ length variables = omega (arith, within, h.as_many) in
            level_by known _ _ (level_at levels i) _ (ap (context_of items) (take-append-le i variables (v ∷ []) inside)) (get_or_append_left levels (l ∷ []) no_level i within)
            (h.level i inside)
        | inr above ↦
            let at : length levels ≡ i = omega (arith, many, h.as_many) in
            level_by known _ _ l _ (ap (context_of items) (take_all i all (omega (arith, many, h.as_many))) ∙ context_of-push items variables v) (get_or_at levels l [] no_level i at) level
      ];
      variable = λ i below. elim (cases_lt i (length variables)) as (λ _. IsVariable items known (context_of items (take i all)) (variable_at all i)) [
        | inl within ↦
            variable_by items known _ _ (variable_at variables i) _ (ap (context_of items) (take-append-le i variables (v ∷ []) (omega arith))) (get_or_append_left variables (v ∷ []) no_variable i within)
            (h.variable i within)
        | inr above ↦
            let at : length variables ≡ i = omega (arith, many) in
            variable_by items known _ _ v _ (ap (context_of items) (take_at variables (v ∷ []) i at)) (get_or_at variables v [] no_variable i at) variable
      ];
    }

-- the last variable of the context is taken away
pub levels_take : (items : List Item) (known : Known) (levels : List Level) (variables : List Variable) (n : ℕ) → AreLevels items known levels variables → n ≤ length variables
    → AreLevels items known (take (n + 1) levels) (take n variables)
levels_take items known levels variables n h within =
    let many : length (take n variables) ≡ n = let l = length-take n variables in grind arith in
    let as_many = h.as_many in
    let levels_many : length (take (n + 1) levels) ≡ n + 1 = let l = length-take (n + 1) levels in grind arith in
    record {
      as_many = omega arith;
      level = λ i below.
          level_by known _ _ (level_at levels i) _ (ap (context_of items) (take-take i n variables (omega arith))) (get_or-take (n + 1) levels i no_level (omega arith)) (h.level i (omega arith));
      variable = λ i below.
          variable_by items known _ _ (variable_at variables i) _ (ap (context_of items) (take-take i n variables (omega arith))) (get_or-take n variables i no_variable (omega arith)) (h.variable i (omega arith));
    }

-- a judgement that is known is one of its term in its context
pub judged_by : (known : Known) (j : JudgeId) (s : Judgement) → Knows known j s → s.entries ≤ length known.env → IsJudgedIn known s.context j s.term
judged_by known j s knows within = record {
  live = knows.live;
  entries = omega (arith, ap (λ (q : Judgement). q.entries) knows.is);
  context = ap (λ (q : Judgement). q.context) knows.is;
  term = ap (λ (q : Judgement). q.term) knows.is;
}

-- the level of a context with a judgement for `* : box` in it
pub new_level : (known : Known) (ctx : CtxId) (star : JudgeId) (s : Judgement) (us : Trees) → KnowsContext known ctx us
    → Knows known star s → s.entries ≤ length known.env → s.context ≡ us → s.term ≡ Star → s.type ≡ Box → IsLevel known us (record { ctx = ctx; star = star })
new_level known ctx star s us live knows within context term type =
    let P : Trees → Type 0 = λ x. IsJudgedIn known x star Star in
    let Q : Tree → Type 0 = λ x. IsJudgedIn known s.context star x in
    record {
      there = live.live;
      is = live.is;
      star = subst P context (subst Q term (judged_by known star s knows within));
      box = ap (λ (q : Judgement). q.type) knows.is ∙ type;
    }

-- the same judgement over so many entries
judgement_over : (known : Known) (ctx : Trees) (j : JudgeId) (t : Tree) (m : ℕ) → IsJudgedIn known ctx j t
    → over_first (judgement_at known j.0) m ≡ record { entries = m; context = ctx; term = t; type = (judgement_at known j.0).type }
judgement_over known ctx j t m h =
    let s : Judgement = over_first (judgement_at known j.0) m in
    ap (λ (x : Trees). record s { context = x }) h.context
    ∙ ap (λ (x : Tree). let q : Judgement = record { entries = m; context = ctx; term = x; type = s.type } in q) h.term

pub level_judgement : (known : Known) (ctx : Trees) (l : Level) (m : ℕ) → IsLevel known ctx l
    → over_first (judgement_at known l.star.0) m ≡ record { entries = m; context = ctx; term = Star; type = Box }
level_judgement known ctx l m h =
    judgement_over known ctx l.star Star m h.star
    ∙ ap (λ (x : Tree). let q : Judgement = record { entries = m; context = ctx; term = Star; type = x } in q) h.box

pub variable_judgement : (items : List Item) (known : Known) (ctx : Trees) (v : Variable) (m : ℕ) → IsVariable items known ctx v
    → over_first (judgement_at known v.sort.0) m ≡ record { entries = m; context = ctx; term = tree_at items v.of; type = (judgement_at known v.sort.0).type }
variable_judgement items known ctx v m h = judgement_over known ctx v.sort (tree_at items v.of) m h.judged

-- a level, and a variable, whose judgement is led over the later entries
pub lifted_level : (old new : Known) (ctx : Trees) (l : Level) (star : JudgeId) (m : ℕ) → Adds old new → IsLevel old ctx l
    → Knows new star (over_first (judgement_at old l.star.0) m) → m ≤ length new.env → IsLevel new ctx (record { ctx = l.ctx; star = star })
lifted_level old new ctx l star m adds h knows within =
    let s : Judgement = record { entries = m; context = ctx; term = Star; type = Box } in
    new_level new l.ctx star s ctx (record { live = omega (arith, adds.contexts, h.there); is = adds.context l.ctx.0 h.there ∙ h.is })
    (subst (Knows new star) (level_judgement old ctx l m h) knows) within refl refl refl

pub lifted_variable : (items : List Item) (old new : Known) (ctx : Trees) (v : Variable) (sort : JudgeId) (m : ℕ) → IsVariable items old ctx v
    → Knows new sort (over_first (judgement_at old v.sort.0) m) → m ≤ length new.env → IsVariable items new ctx (record { of = v.of; sort = sort })
lifted_variable items old new ctx v sort m h knows within =
    let now = subst (Knows new sort) (variable_judgement items old ctx v m h) knows in
    record {
      term = h.term;
      judged = judged_by new sort _ now within;
      sort = subst IsSort (sym (ap (λ (q : Judgement). q.type) now.is)) h.sort;
    }

-- a level, and a variable, as it is read
pub level_read : (levels : List Level) (i : ℕ) (l : Level) → i < length levels → l ≡ get_or levels i l → level_at levels i ≡ l
level_read levels i l within is =
    let first = slice_get-get_or levels i l within in
    let second = slice_get-get_or levels i no_level within in
    let same : get_or levels i no_level ≡ get_or levels i l = some_once (sym second ∙ first) in
    same ∙ sym is
  where
    some_once : {a b : Level} → Some a ≡ Some b → a ≡ b
    some_once e = cc

pub variable_read : (variables : List Variable) (i : ℕ) (v : Variable) → i < length variables → v ≡ get_or variables i v → variable_at variables i ≡ v
variable_read variables i v within is =
    let first = slice_get-get_or variables i v within in
    let second = slice_get-get_or variables i no_variable within in
    let same : get_or variables i no_variable ≡ get_or variables i v = some_once (sym second ∙ first) in
    same ∙ sym is
  where
    some_once : {a b : Variable} → Some a ≡ Some b → a ≡ b
    some_once e = cc

pub read_level : (items : List Item) (known : Known) (levels : List Level) (variables : List Variable) (i : ℕ) (l : Level) → AreLevels items known levels variables → i ≤ length variables
    → l ≡ get_or levels i l → IsLevel known (context_of items (take i variables)) l
read_level items known levels variables i l h within is =
    subst (IsLevel known (context_of items (take i variables))) (level_read levels i l (omega (arith, h.as_many)) is) (h.level i within)

pub read_variable : (items : List Item) (known : Known) (levels : List Level) (variables : List Variable) (i : ℕ) (v : Variable) → AreLevels items known levels variables → i < length variables
    → v ≡ get_or variables i v → IsVariable items known (context_of items (take i variables)) v
read_variable items known levels variables i v h within is =
    subst (IsVariable items known (context_of items (take i variables))) (variable_read variables i v within is) (h.variable i within)

-- a variable whose judgement alone changes has the type that it had
pub types_set : (variables : List Variable) (place : ℕ) (v : Variable) (sort : JudgeId) → variable_at variables place ≡ v → types_of (set variables place (record { of = v.of; sort = sort })) ≡ types_of variables
types_set variables place v sort is =
    map-set_same (λ (x : Variable). x.of) variables place (record { of = v.of; sort = sort }) no_variable (sym (ap (λ (x : Variable). x.of) is))

-- an entry is added
judged_entered : (old : Known) (e : named.Entry) (ctx : Trees) (j : JudgeId) (t : Tree) → IsJudgedIn old ctx j t → IsJudgedIn (with_entry old e) ctx j t
judged_entered old e ctx j t h = record { live = h.live; entries = omega (arith, h.entries, length_push old.env e); context = h.context; term = h.term }

levels_entered : (items : List Item) (old : Known) (e : named.Entry) (levels : List Level) (variables : List Variable) → AreLevels items old levels variables → AreLevels items (with_entry old e) levels variables
levels_entered items old e levels variables h = record {
  as_many = h.as_many;
  level = λ i l. let was = h.level i l in record { there = was.there; is = was.is; star = judged_entered old e _ _ _ was.star; box = was.box };
  variable = λ i l. let was = h.variable i l in record { term = was.term; judged = judged_entered old e _ _ _ was.judged; sort = was.sort };
}

pub theory_entry : (items : List Item) (old new : List Kept) (entries more : List Named) (star box : TermId) (levels : List Level) (variables : List Variable) (n : Named) (e : named.Entry)
    → IsTheory items old entries star box levels variables → IsSound items new → known_of items new ≡ with_entry (known_of items old) e
    → entry_of items n ≡ e → IsLiveEntry items n.entry → more ≡ entries ++ n ∷ [] → length (known_of items old).env + 1 < 2 ^ 32
    → IsTheory items new more star box levels variables
theory_entry items old new entries more star box levels variables n e h sound is same live push room =
    let before = known_of items old in
    let env : (known_of items new).env ≡ before.env ++ e ∷ [] = ap (λ (k : Known). k.env) is in
    let Levels : Known → Type 0 = λ k. AreLevels items k levels variables in
    let Live : List Named → Type 0 = λ es. AreLive items es in
    record {
      sound = sound;
      env = ap (env_of items) push ∙ env_of-append items entries (n ∷ []) ∙ ap (λ es. es ++ entry_of items n ∷ []) h.env ∙ ap (λ x. before.env ++ x ∷ []) same ∙ sym env;
      live = subst Live (sym push) (live-push items entries n h.live live);
      star = h.star;
      box = h.box;
      levels_are = subst Levels (sym is) (levels_entered items before e levels variables h.levels_are);
      room = omega (arith, ap length env, length_push before.env e);
    }
