-- The answers for `*` and for an instance, from what the calls of a theory leave.
use Rattle.std.proofs.Common.{◌≡◌, ◌<◌, ◌+◌, ◌-◌, [], ℕ, suc, false, List, length, get_or, Option, Some, None, slice_get, refl, ap, sym, ◌∙◌, subst, arith}
use Rattle.std.specs.List.{AllByRecursion}
use Rattle.std.proofs.lemmas.Option.{get_or_from_slice_get}
use Rattle.ld_terms.specs.Tree.{Tree, Trees, Star, Box, Const, Nil, ◌▸◌, count}
use Rattle.ld_terms.specs.Item.{Item, One, IsSmall, list}
use Rattle.ld_terms.specs.Put.{put}
use Rattle.ld_terms.specs.Bank.{tree_at, list_at, listed, IsTermAt, IsListAt}
use Rattle.ld_terms.specs.declared.bank.TermId.{TermId}
use Rattle.ld_terms.specs.declared.bank.TermFault.{TermFault}
use Rattle.ld_terms.specs.declared.bank.TermFault.TheVariants as term
use Rattle.ld_terms.specs.Entry as named
use Rattle.ld_terms.specs.Entry.{EntryAt, IsScoped}
use Rattle.ld_terms.specs.Named.{IsNamed, IsWellFormed}
use Rattle.ld_terms.specs.Record.{params_at}
use Rattle.ld_terms.specs.Derivable as derivable
use Rattle.ld_terms.specs.Known.{Judgement, no_judgement, primitive_entry, IsNode, JudgeArguments}
use Rattle.ld_terms.proofs.Banks.{list_at_later}
use Rattle.ld_env.specs.declared.env.Entry.{Entry}
use Rattle.ld_env.specs.Named.{Named, entries_of}
use Rattle.ld_env.specs.Entries.{entry_of, env_of, body_of, IsLiveEntry, AreLive}
use Rattle.ld_env.proofs.CallerLemmas.{has_entry, live_entry}
use Rattle.ld_record.specs.declared.record.JudgeId.{JudgeId}
use Rattle.ld_record.specs.declared.record.Step.{Step}
use Rattle.ld_record.specs.Follows.{numbers_of, entry_at, IsDefined, Instance, Follows}
use Rattle.ld_record.specs.Growth.{Knows}
use Rattle.ld_record.proofs.Judged.{live_later, judges_later}
use Rattle.ld_infer.specs.declared.failure.RuleName.{RuleName}
use Rattle.ld_infer.specs.declared.failure.InferFault.{InferFault}
use Rattle.ld_infer.specs.declared.failure.InferFault.TheVariants as fault
use Rattle.ld_convert.specs.Compares.{Compares}
use Rattle.ld_infer.specs.Account.{Account, Comes}
use Rattle.ld_reduce.specs.Task.{Task, Gives}
use Rattle.ld_infer.specs.Reading.{Refusal, Found, found, part_reading, arguments, instance_rule, instance_reading}
use Rattle.ld_infer.specs.Standing.{Standing, known, env, here, without, Continues, KnowsSort}
use Rattle.ld_reduce.specs.Cost.{stop_of}
use Rattle.ld_infer.specs.Infers.{Stops, IsTyped, AreJudged, AreReadable, IsInstanceStep}
use Rattle.ld_infer.proofs.Going.{continues_trans, here_stays, term_stays, tree_stays}
use Rattle.ld_infer.proofs.Staying.{known_here, at_same}
use Rattle.ld_infer.proofs.Contexts.{count-listed}
use Rattle.ld_infer.proofs.Prefixing.{listed_at}
use Rattle.ld_infer.proofs.Applying.{instance_stops, instance_stops_formed, instance_given}

-- the sort of `*`
pub star_sorted : (a b : Standing) (j : JudgeId) (t : Tree) → Continues a b → t ≡ Star → Knows (known b) j (here a Star Box) → KnowsSort b j t
star_sorted a b j t goes is k =
    let P : Judgement → Type 0 = λ s. Knows (known b) j s in
    let Q : Tree → Type 0 = λ y. Knows (known b) j (here b y Box) in
    record { sort = Box; is = derivable.box; knows = subst Q (sym is) (subst P (sym (here_stays a b Star Box goes)) k) }

-- a list stays as terms are added
pub list_there : (a b : Standing) (t : TermId) → Continues a b → IsListAt a.items t → IsListAt b.items t
list_there a b t h at = list_at_later a.items b.items t h.items at

pub list_stays : (a b : Standing) (t : TermId) → Continues a b → IsListAt a.items t → list_at b.items t ≡ list_at a.items t
list_stays a b t h at = ap list (h.items.kept t at.live)

-- An instance that is over the entries and variables is of an entry that is there, and so are its arguments, as many as the
-- entry has parameters.
pub record IsInstance (a : Standing) (k : ℕ) (us : Trees) : Type 0 where
  pub below : k < length (env a)
  pub as_many : count us ≡ params_at (env a) k
  pub readable : AreReadable a us

pub instance_parts : (a : Standing) (t : Tree) (k : ℕ) (us : Trees) → t ≡ Const k us → IsWellFormed (env a) (count a.context) t → IsInstance a k us
instance_parts a t k us e h =
    let P : Tree → Type 0 = IsNamed (env a) in
    let Q : Tree → Type 0 = λ x. IsScoped x (count a.context) in
    parts (subst P e h.named) (subst Q e h.scoped)
  where
    parts : IsNamed (env a) (Const k us) → IsScoped (Const k us) (count a.context) → IsInstance a k us
    parts named scoped = record { below = named.0; as_many = named.1; readable = (named.2, scoped) }

-- what the environment tells of the entry k
pub record IsEntry (a : Standing) (k : ℕ) (entry : Entry) : Type 0 where
  pub there : slice_get (env a) k ≡ Some (entry_at (env a) k)
  pub params : (entry_at (env a) k).params ≡ listed a.items Nil entry.params
  pub body : (entry_at (env a) k).body ≡ body_of a.items entry.body
  pub type : (entry_at (env a) k).type ≡ tree_at a.items entry.of
  pub live : IsLiveEntry a.items entry

entry_found : (a : Standing) (k : ℕ) (entry : Entry) → slice_get (entries_of a.entries) k ≡ Some entry → env_of a.items a.entries ≡ env a → AreLive a.items a.entries → IsEntry a k entry
entry_found a k entry at trees live =
    let h = has_entry a.items a.entries k entry at in
    let e = entry_of a.items (record { name = h.name; entry = entry }) in
    let P : named.Env → Type 0 = λ Δ. EntryAt Δ k e in
    let there = subst P trees h.at in
    let same : entry_at (env a) k ≡ e = get_or_from_slice_get (env a) k e (primitive_entry [] no_judgement) there in
    record {
      there = there ∙ ap Some (sym same);
      params = ap (λ (x : named.Entry). x.params) same;
      body = ap (λ (x : named.Entry). x.body) same;
      type = ap (λ (x : named.Entry). x.type) same;
      live = live_entry a.items a.entries k entry live at;
    }

-- the same, from what the calls for the environment give
pub entry_here : (a : Standing) (entries : List Named) (k : ℕ) (entry : Entry) → entries ≡ a.entries → slice_get (entries_of entries) k ≡ Some entry → env_of a.items a.entries ≡ env a
    → AreLive a.items a.entries → IsEntry a k entry
entry_here a entries k entry same at trees live =
    let P : List Named → Type 0 = λ es. slice_get (entries_of es) k ≡ Some entry in
    entry_found a k entry (subst P same at) trees live

-- the type of a parameter of an entry
pub parameter_there : (a : Standing) (k place : ℕ) (entry : Entry) → IsEntry a k entry → place < params_at (env a) k → place < length entry.params
parameter_there a k place entry h below = let many = ap count h.params in let all = count-listed a.items Nil entry.params in omega (arith, below, many, all)

pub parameter_is : (a : Standing) (k place : ℕ) (entry : Entry) (d : TermId) → IsEntry a k entry → place < params_at (env a) k → (ps : Trees) (p : Tree)
    → without (params_at (env a) k - (place + 1)) (entry_at (env a) k).params ≡ ps ▸ p → tree_at a.items (get_or entry.params place d) ≡ p
parameter_is a k place entry d h below ps p is =
    let many = ap count h.params in
    let all = count-listed a.items Nil entry.params in
    let left : length entry.params - suc place ≡ params_at (env a) k - (place + 1) = omega (arith, many, all) in
    let read = listed_at a.items Nil entry.params place d (parameter_there a k place entry h below) in
    last _ _ _ _ (sym read ∙ ap (λ n. without n (listed a.items Nil entry.params)) left ∙ ap (without (params_at (env a) k - (place + 1))) (sym h.params) ∙ is)
  where
    last : (qs ps : Trees) (q p : Tree) → qs ▸ q ≡ ps ▸ p → q ≡ p
    last qs ps q p e = cc

-- an instance with the judgements of its arguments follows
instance_record : (b : Standing) (k : ℕ) (star : JudgeId) (js : List JudgeId) (us : Trees) → k < length (env b) → Knows (known b) star (here b Star Box)
    → AllByRecursion (IsNode (known b)) (numbers_of js) → JudgeArguments (known b) (numbers_of js) (length (env b)) b.context (entry_at (env b) k).params us
    → Instance (known b) (here b (Const k us) (put (entry_at (env b) k).type us)) star js
instance_record b k star js us below knows live judged = record {
  star = record { live = knows.live; entries = ap (λ (j : Judgement). j.entries) knows.is };
  context = ap (λ (j : Judgement). j.context) knows.is;
  star_term = ap (λ (j : Judgement). j.term) knows.is;
  star_type = ap (λ (j : Judgement). j.type) knows.is;
  number = k;
  below = below;
  there = below;
  arguments = us;
  live = live;
  judged = judged;
  term = refl;
  type = refl;
}

instance_follows : (b : Standing) (items : List Item) (k : ℕ) (body : Option TermId) (star : JudgeId) (js : List JudgeId) (us : Trees) (step : Step) → k < length (env b)
    → Knows (known b) star (here b Star Box) → AllByRecursion (IsNode (known b)) (numbers_of js)
    → JudgeArguments (known b) (numbers_of js) (length (env b)) b.context (entry_at (env b) k).params us
    → (entry_at (env b) k).body ≡ body_of items body → IsInstanceStep body star js step → Follows (known b) (here b (Const k us) (put (entry_at (env b) k).type us)) step
unfolding instance_record
instance_follows b items k (Some x) star js us step below knows live judged is by =
    let P : Step → Type 0 = λ s. Follows (known b) (here b (Const k us) (put (entry_at (env b) k).type us)) s in
    let Q : named.Body → Type 0 = IsDefined in
    subst P (sym by) (record { instance = instance_record b k star js us below knows live judged; body = subst Q (sym is) tt })
instance_follows b items k None star js us step below knows live judged is by =
    let P : Step → Type 0 = λ s. Follows (known b) (here b (Const k us) (put (entry_at (env b) k).type us)) s in
    subst P (sym by) (record { instance = instance_record b k star js us below knows live judged; body = is })

-- Instances: the standings are those at the start, behind the arguments, the type, the judgement of `*`, and that of the
-- instance.
abbrev pub arguments_task : (a : Standing) (nest k : ℕ) (us : Trees) → Task Refusal (Unit {0})
arguments_task a nest k us = arguments (env a) (Compares (env a) (nest + 1)) (count a.context) (part_reading nest (env a) a.context) (instance_rule (entry_at (env a) k).body) (entry_at (env a) k).params us

abbrev pub instance_task : (a : Standing) (nest k : ℕ) (us : Trees) → Task Refusal Found
instance_task a nest k us = instance_reading (env a) (Compares (env a) (nest + 1)) (part_reading nest (env a)) a.context (slice_get (env a) k) us

-- the rule that was asked for is that of the entry
pub rule_moved : (a : Standing) (nest k : ℕ) (us : Trees) (entry : Entry) (rule : RuleName) (P : Task Refusal (Unit {0}) → Type 0) → IsEntry a k entry
    → rule ≡ instance_rule (body_of a.items entry.body)
    → P (arguments (env a) (Compares (env a) (nest + 1)) (count a.context) (part_reading nest (env a) a.context) rule (entry_at (env a) k).params us) → P (arguments_task a nest k us)
rule_moved a nest k us entry rule P e is h =
    let Q : RuleName → Type 0 = λ r. P (arguments (env a) (Compares (env a) (nest + 1)) (count a.context) (part_reading nest (env a) a.context) r (entry_at (env a) k).params us) in
    subst Q (is ∙ ap instance_rule (sym e.body)) h

pub instance_refused : (a : Standing) (items : List Item) (nest k : ℕ) (us : Trees) (entry : Entry) (rule : RuleName) (g : InferFault) (w w' : Account) → IsEntry a k entry
    → rule ≡ instance_rule (body_of a.items entry.body)
    → Stops items (arguments (env a) (Compares (env a) (nest + 1)) (count a.context) (part_reading nest (env a) a.context) rule (entry_at (env a) k).params us) g w w' → Stops items (instance_task a nest k us) g w w'
instance_refused a items nest k us entry rule g w w' e is h =
    instance_stops (env a) (Compares (env a) (nest + 1)) (part_reading nest (env a)) a.context items (slice_get (env a) k) (entry_at (env a) k) us g w w' e.there
    (rule_moved a nest k us entry rule (λ p. Stops items p g w w') e is h)

-- the type of the instance, in the trees of the start
put_moved : (a b : Standing) (k : ℕ) (us : TermId) (entry : Entry) → IsEntry a k entry → IsListAt a.items us → Continues a b
    → put (tree_at b.items entry.of) (list_at b.items us) ≡ put (entry_at (env a) k).type (list_at a.items us)
put_moved a b k us entry e at goes =
    ap (λ t. put t (list_at b.items us)) (tree_stays a b entry.of goes e.live.type ∙ sym e.type) ∙ ap (put (entry_at (env a) k).type) (list_stays a b us goes at)

pub instance_high : (a b : Standing) (items : List Item) (nest k : ℕ) (us : TermId) (entry : Entry) (rule : RuleName) (js : List JudgeId) (y : TermFault) (g : InferFault) (w w' : Account)
    → IsEntry a k entry → IsListAt a.items us → Continues a b → rule ≡ instance_rule (body_of a.items entry.body)
    → AreJudged a b (arguments (env a) (Compares (env a) (nest + 1)) (count a.context) (part_reading nest (env a) a.context) rule (entry_at (env a) k).params (list_at a.items us)) (entry_at (env a) k).params (list_at a.items us) w w' js
    → (y ≡ term.High → ¬ IsSmall (One (put (tree_at b.items entry.of) (list_at b.items us)))) → g ≡ fault.Stop (stop_of y)
    → Stops items (instance_task a nest k (list_at a.items us)) g w w'
instance_high a b items nest k us entry rule js y g w w' e at goes is h high by =
    let P : Tree → Type 0 = λ x. y ≡ term.High → ¬ IsSmall (One x) in
    instance_stops_formed (env a) (Compares (env a) (nest + 1)) (part_reading nest (env a)) a.context items (slice_get (env a) k) (entry_at (env a) k) (list_at a.items us) y g w w' e.there
    (rule_moved a nest k (list_at a.items us) entry rule (λ p. Comes p (Gives tt) w w') e is h.gives) (subst P (put_moved a b k us entry e at goes) high) by

pub instance_ready : (a b c d : Standing) (k : ℕ) (t us of : TermId) (entry : Entry) (p : Task Refusal (Unit {0})) (w w' : Account) (star : JudgeId) (js : List JudgeId) (step : Step) → IsEntry a k entry
    → IsListAt a.items us → IsTermAt a.items t → tree_at a.items t ≡ Const k (list_at a.items us) → k < length (env a)
    → Continues a b → Continues b c → Continues c d → AreJudged a b p (entry_at (env a) k).params (list_at a.items us) w w' js
    → IsTermAt c.items of → tree_at c.items of ≡ put (tree_at b.items entry.of) (list_at b.items us) → Knows (known d) star (here c Star Box) → IsInstanceStep entry.body star js step
    → Follows (known d) (here d (tree_at d.items t) (tree_at d.items of)) step
instance_ready a b c d k t us of entry p w w' star js step e at term is below goes more last h at_of made knows by =
    let to_c = continues_trans a b c goes more in
    let to_d = continues_trans a c d to_c last in
    let b_to_d = continues_trans b c d more last in
    let vs = list_at a.items us in
    let same : env a ≡ env d = sym to_d.adds.env in
    let Judged : named.Env → Trees → ℕ → Type 0 = λ Δ ctx n. JudgeArguments (known d) (numbers_of js) n ctx (entry_at Δ k).params vs in
    let Star_known : Judgement → Type 0 = λ j. Knows (known d) star j in
    let Term : Tree → Type 0 = λ x. Follows (known d) (here d x (tree_at d.items of)) step in
    let Made : Tree → Type 0 = λ y. Follows (known d) (here d (Const k vs) y) step in
    let body : (entry_at (env d) k).body ≡ body_of a.items entry.body = ap (λ (Δ : named.Env). (entry_at Δ k).body) (sym same) ∙ e.body in
    let type : put (entry_at (env d) k).type vs ≡ tree_at d.items of =
    ap (λ (Δ : named.Env). put (entry_at Δ k).type vs) (sym same) ∙ sym (put_moved a b k us entry e at goes) ∙ sym made ∙ sym (tree_stays c d of last at_of) in
    subst Term (sym (tree_stays a d t to_d term ∙ is))
    (subst Made type
    (instance_follows d a.items k entry.body star js vs step (omega (arith, below, ap length same)) (subst Star_known (sym (here_stays c d Star Box last)) knows)
    (live_later (known b) (known d) (numbers_of js) b_to_d.adds h.live)
    (at_same Judged same (sym to_d.context) (ap length same) (judges_later (known b) (known d) (numbers_of js) (length (env a)) a.context (entry_at (env a) k).params vs b_to_d.adds h.live h.judged))
    body by))

pub instance_typed : (a b c d f : Standing) (nest k : ℕ) (t us of : TermId) (entry : Entry) (rule : RuleName) (w w' : Account) (js : List JudgeId) (judge : JudgeId) → IsEntry a k entry
    → IsListAt a.items us → IsTermAt a.items t → rule ≡ instance_rule (body_of a.items entry.body) → Continues a b → Continues b c → Continues c d → Continues d f
    → AreJudged a b (arguments (env a) (Compares (env a) (nest + 1)) (count a.context) (part_reading nest (env a) a.context) rule (entry_at (env a) k).params (list_at a.items us)) (entry_at (env a) k).params (list_at a.items us) w w' js
    → IsTermAt c.items of → tree_at c.items of ≡ put (tree_at b.items entry.of) (list_at b.items us) → IsSmall (One (tree_at c.items of))
    → Knows (known f) judge (here d (tree_at d.items t) (tree_at d.items of))
    → IsTyped a f (instance_task a nest k (list_at a.items us)) t w w' (record { of = of; judge = judge; of_judge = None })
instance_typed a b c d f nest k t us of entry rule w w' js judge e at term is goes more next last h at_of made small knows =
    let to_d = continues_trans a b d goes (continues_trans b c d more next) in
    let to_f = continues_trans c d f next last in
    let vs = list_at a.items us in
    let type : tree_at c.items of ≡ put (entry_at (env a) k).type vs = made ∙ put_moved a b k us entry e at goes in
    let same : tree_at f.items of ≡ put (entry_at (env a) k).type vs = tree_stays c f of to_f at_of ∙ type in
    let P : Tree → Type 0 = λ y. Comes (instance_task a nest k vs) (Gives (found y false)) w w' in
    let Q : Tree → Type 0 = λ y. IsSmall (One y) in
    record {
      term = term_stays c f of to_f at_of;
      gives = subst P (sym same)
          (instance_given (env a) (Compares (env a) (nest + 1)) (part_reading nest (env a)) a.context (slice_get (env a) k) (entry_at (env a) k) vs w w' e.there
          (rule_moved a nest k vs entry rule (λ p. Comes p (Gives tt) w w') e is h.gives) (subst Q type small));
      judged = known_here a d f judge (tree_at d.items t) (tree_at a.items t) (tree_at d.items of) (tree_at f.items of) to_d (tree_stays a d t to_d term)
          (sym (tree_stays d f of last (term_stays c d of next at_of))) knows;
      sorted = tt;
    }
