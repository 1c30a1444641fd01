-- The arguments of an instance, read one after another: what is said of those so far, and of all.
use Rattle.std.proofs.Common.{◌≡◌, ◌<◌, ◌≤◌, ◌+◌, ◌-◌, ◌++◌, ◌∷◌, [], ℕ, zero, suc, List, length, get_or, Result, Ok, Err, refl, ap, sym, ◌∙◌, subst, arith}
use Rattle.std.proofs.lemmas.List.{length_push}
use Rattle.ld_terms.specs.Tree.{Tree, Trees, Nil, ◌▸◌, count}
use Rattle.ld_terms.specs.Item.{Item, One, IsSmall}
use Rattle.ld_terms.specs.Put.{put}
use Rattle.ld_terms.specs.Entry.{Env}
use Rattle.ld_terms.specs.Bank.{tree_at, list_at, IsListAt}
use Rattle.ld_terms.specs.Named.{IsWellFormed}
use Rattle.ld_terms.specs.Record.{params_at}
use Rattle.ld_terms.specs.declared.bank.TermId.{TermId}
use Rattle.ld_terms.specs.Known.{Judgement}
use Rattle.ld_terms.specs.declared.bank.TermFault.{TermFault}
use Rattle.ld_terms.specs.declared.bank.TermFault.TheVariants as term
use Rattle.ld_record.specs.declared.record.JudgeId.{JudgeId}
use Rattle.ld_record.specs.Follows.{numbers_of, entry_at}
use Rattle.ld_record.specs.Growth.{Knows}
use Rattle.ld_record.proofs.Judged.{judge_none, live_more, judges_more, live_later, judges_later}
use Rattle.ld_infer.specs.declared.failure.RuleName.{RuleName}
use Rattle.ld_infer.specs.declared.failure.PathStep.TheVariants.{Nth}
use Rattle.ld_infer.specs.declared.failure.InferFault.{InferFault}
use Rattle.ld_infer.specs.declared.failure.InferFault.TheVariants as fault
use Rattle.ld_reduce.specs.Task.{Task, Gives, High, Ends, formed}
use Rattle.ld_convert.specs.Apart.{Apart}
use Rattle.ld_convert.specs.Compares.{Compares}
use Rattle.ld_infer.specs.Account.{Account, Comes}
use Rattle.ld_infer.specs.Reading.{Asked, Refusal, Found, part_reading, argument_reading, next_argument, arguments}
use Rattle.ld_infer.specs.Standing.{Standing, known, env, here, without, Continues}
use Rattle.ld_reduce.specs.Cost.{stop_of}
use Rattle.ld_infer.specs.Infers.{Stops, Suits, IsSuited, AreJudged, AreReadable, ArePrefixes}
use Rattle.ld_infer.proofs.Accounts.{comes_at_once, comes_then, comes_ended}
use Rattle.ld_reduce.proofs.Tasks.{formed_answers, formed_high}
use Rattle.ld_infer.proofs.Stopping.{stops_first, stops_then}
use Rattle.ld_infer.proofs.Sorts.{gives_now}
use Rattle.ld_infer.proofs.Going.{continues_refl, continues_trans, here_stays}
use Rattle.ld_infer.proofs.Instances.{list_there, list_stays}
use Rattle.ld_infer.proofs.Staying.{at_same, at_both}
use Rattle.ld_infer.proofs.Prefixing.{without_next, without_all, count_without, HasLast, last_left, readable_without, readable_stays}

module _ (Δ : Env) (compare : Tree → Tree → Task Apart (Unit {0})) (depth : ℕ) (read : Asked → Tree → Task Refusal Found) (rule : RuleName) where
  -- what stops the reading of the first arguments stops that of all
  pub arguments_stop : (items : List Item) (n : ℕ) (ps us : Trees) (f : InferFault) (w w' : Account) → count us ≡ count ps
      → Stops items (arguments Δ compare depth read rule (without n ps) (without n us)) f w w' → Stops items (arguments Δ compare depth read rule ps us) f w w'
  arguments_stop items zero ps us f w w' e h = h
  arguments_stop items (suc n) Nil Nil f w w' e h = arguments_stop items n Nil Nil f w w' e h
  arguments_stop items (suc n) (ps ▸ p) (us ▸ u) f w w' e h =
      stops_first items (arguments Δ compare depth read rule ps us) _ f w w' (arguments_stop items n ps us f w w' (omega (arith, e)) h)
  arguments_stop items (suc n) Nil (us ▸ u) f w w' e h = absurd (omega (arith, e))
  arguments_stop items (suc n) (ps ▸ p) Nil f w w' e h = absurd (omega (arith, e))

  -- the wanted type isn't small, or memory runs out
  pub next_high : (items : List Item) (p : Tree) (us : Trees) (u : Tree) (y : TermFault) (g : InferFault) (w : Account) → (y ≡ term.High → ¬ IsSmall (One (put p us)))
      → g ≡ fault.Stop (stop_of y) → Stops items (next_argument Δ compare depth read rule p us u) g w w
  next_high items p us u term.High g w high e =
      let P : InferFault → Type 0 = λ x. Stops items (next_argument Δ compare depth read rule p us u) x w w in
      subst P (sym e) (comes_ended (formed (put p us)) _ High High w w (comes_at_once (formed (put p us)) High w (formed_high (put p us) w.known (high refl))) Ends.high)
  next_high items p us u term.Memory g w high e =
      let P : InferFault → Type 0 = λ x. Stops items (next_argument Δ compare depth read rule p us u) x w w in subst P (sym e) tt

  wanted_formed : (t : Tree) (w : Account) → IsSmall (One t) → Comes {E = Refusal} (formed t) (Gives t) w w
  wanted_formed t w small = comes_at_once (formed t) (Gives t) w (formed_answers t w.known small)

  -- the wanted type is small, and the argument is read
  pub next_stops : (items : List Item) (p : Tree) (us : Trees) (u : Tree) (g : InferFault) (w w' : Account) → IsSmall (One (put p us))
      → Stops items (argument_reading Δ compare depth read (Nth (suc (count us))) (rule, suc (count us)) (put p us) u) g w w' → Stops items (next_argument Δ compare depth read rule p us u) g w w'
  next_stops items p us u g w w' small h = stops_then items (formed (put p us)) _ (put p us) g w w w' (wanted_formed (put p us) w small) h

  pub next_given : (p : Tree) (us : Trees) (u : Tree) (w w' : Account) → IsSmall (One (put p us))
      → Comes (argument_reading Δ compare depth read (Nth (suc (count us))) (rule, suc (count us)) (put p us) u) (Gives tt) w w' → Comes (next_argument Δ compare depth read rule p us u) (Gives tt) w w'
  next_given p us u w w' small h = comes_then (formed (put p us)) _ (put p us) (Gives tt) w w w' (wanted_formed (put p us) w small) h

-- The judgement of the next argument: the standings are those at the start, behind the wanted type and behind the judgement.
reading_moved : (a d : Standing) (nest : ℕ) (rule : RuleName) (n : ℕ) (us : Trees) (wanted type u v : Tree) (P : Task Refusal (Unit {0}) → Type 0) → Continues a d → suc (count us) ≡ n → wanted ≡ type → u ≡ v
    → P (argument_reading (env d) (Compares (env d) (nest + 1)) (count d.context) (part_reading nest (env d) d.context) (Nth n) (rule, n) wanted u)
    → P (argument_reading (env a) (Compares (env a) (nest + 1)) (count a.context) (part_reading nest (env a) a.context) (Nth (suc (count us))) (rule, suc (count us)) type v)
reading_moved a d nest rule n us wanted type u v P goes number is same h =
    let Q : ℕ → Tree → Tree → Type 0 = λ m x y. P (argument_reading (env a) (Compares (env a) (nest + 1)) (count a.context) (part_reading nest (env a) a.context) (Nth m) (rule, m) x y) in
    at_same Q (sym number) is same
    (at_both (λ (Δ : Env) (ctx : Trees). P (argument_reading Δ (Compares Δ (nest + 1)) (count ctx) (part_reading nest Δ ctx) (Nth n) (rule, n) wanted u)) goes.adds.env goes.context h)

pub suits_next : (a d e : Standing) (nest : ℕ) (rule : RuleName) (n : ℕ) (p : Tree) (us : Trees) (v wanted u : Tree) (w w' : Account) (r : Result JudgeId InferFault) → Continues a d → suc (count us) ≡ n
    → wanted ≡ put p us → u ≡ v → IsSmall (One wanted)
    → Suits d e (argument_reading (env d) (Compares (env d) (nest + 1)) (count d.context) (part_reading nest (env d) d.context) (Nth n) (rule, n) wanted u) u wanted w w' r
    → Suits a e (next_argument (env a) (Compares (env a) (nest + 1)) (count a.context) (part_reading nest (env a) a.context) rule p us v) v (put p us) w w' r
suits_next a d e nest rule n p us v wanted u w w' (Ok j) goes number is same small h =
    let P : Tree → Type 0 = λ x. IsSmall (One x) in
    let Q : Judgement → Type 0 = λ s. Knows (known e) j s in
    let R : Tree → Tree → Type 0 = λ x y. Knows (known e) j (here a x y) in
    record {
      gives = next_given (env a) (Compares (env a) (nest + 1)) (count a.context) (part_reading nest (env a) a.context) rule p us v w w' (subst P is small)
          (reading_moved a d nest rule n us wanted (put p us) u v (λ t. Comes t (Gives tt) w w') goes number is same h.gives);
      judged = at_both R same is (subst Q (here_stays a d u wanted goes) h.judged);
    }
suits_next a d e nest rule n p us v wanted u w w' (Err f) goes number is same small h =
    let P : Tree → Type 0 = λ x. IsSmall (One x) in
    next_stops (env a) (Compares (env a) (nest + 1)) (count a.context) (part_reading nest (env a) a.context) rule e.items p us v f w w' (subst P is small)
    (reading_moved a d nest rule n us wanted (put p us) u v (λ t. Stops e.items t f w w') goes number is same h)

-- the reading of the arguments but so many
abbrev pub but : (a : Standing) (nest : ℕ) → RuleName → (n : ℕ) (params us : Trees) → Task Refusal (Unit {0})
but a nest rule n params us = arguments (env a) (Compares (env a) (nest + 1)) (count a.context) (part_reading nest (env a) a.context) rule (without n params) (without n us)

-- All arguments but so many are judged.
pub record AreBegun (a b : Standing) (nest : ℕ) (rule : RuleName) (params us : Trees) (left : ℕ) (w w' : Account) (js : List JudgeId) : Type 0 where
  pub continues : Continues a b
  pub most : w'.left ≤ w.left
  pub all : length js + left ≡ count us
  pub judged : AreJudged a b (but a nest rule left params us) (without left params) (without left us) w w' js

pub begun_none : (a : Standing) (nest : ℕ) (rule : RuleName) (params us : Trees) (left : ℕ) (w : Account) → left ≡ count us → count us ≡ count params
    → AreBegun a a nest rule params us left w w []
begun_none a nest rule params us left w all many =
    let P : Trees → Trees → Type 0 = λ ps vs. AreJudged a a (arguments (env a) (Compares (env a) (nest + 1)) (count a.context) (part_reading nest (env a) a.context) rule ps vs) ps vs w w [] in
    record {
      continues = continues_refl a;
      most = omega arith;
      all = omega (arith, all);
      judged = at_both P (sym (without_all left params (all ∙ many))) (sym (without_all left us all))
          (record { gives = gives_now tt w; live = tt; judged = judge_none (known a) (length (env a)) a.context });
    }

-- The next argument is told of the standing at the start.
next_moved : (a b : Standing) (nest : ℕ) (rule : RuleName) (p : Tree) (us : Trees) (u : Tree) (P : Task Refusal (Unit {0}) → Type 0) → Continues a b
    → P (next_argument (env b) (Compares (env b) (nest + 1)) (count b.context) (part_reading nest (env b) b.context) rule p us u) → P (next_argument (env a) (Compares (env a) (nest + 1)) (count a.context) (part_reading nest (env a) a.context) rule p us u)
next_moved a b nest rule p us u P goes h =
    at_both (λ (Δ : Env) (ctx : Trees). P (next_argument Δ (Compares Δ (nest + 1)) (count ctx) (part_reading nest Δ ctx) rule p us u)) goes.adds.env goes.context h

-- the next argument stops the reading
begun_stops : (a b : Standing) (items : List Item) (nest : ℕ) (rule : RuleName) (params us : Trees) (left now : ℕ) (w w1 w2 : Account) (js : List JudgeId) (ps vs : Trees) (p u : Tree) (g : InferFault)
    → AreBegun a b nest rule params us left w w1 js → count us ≡ count params → left ≡ suc now → without now params ≡ ps ▸ p → without now us ≡ vs ▸ u
    → Stops items (next_argument (env b) (Compares (env b) (nest + 1)) (count b.context) (part_reading nest (env b) b.context) rule p vs u) g w1 w2
    → Stops items (arguments (env a) (Compares (env a) (nest + 1)) (count a.context) (part_reading nest (env a) a.context) rule params us) g w w2
begun_stops a b items nest rule params us left now w w1 w2 js ps vs p u g h many next ps_are us_are stops =
    let P : Trees → Trees → Type 0 = λ qs ws. Comes (arguments (env a) (Compares (env a) (nest + 1)) (count a.context) (part_reading nest (env a) a.context) rule qs ws) (Gives tt) w w1 in
    let Q : Trees → Trees → Type 0 = λ qs ws. Stops items (arguments (env a) (Compares (env a) (nest + 1)) (count a.context) (part_reading nest (env a) a.context) rule qs ws) g w w2 in
    let before = at_both P (ap (λ n. without n params) next ∙ without_next now params ps p ps_are) (ap (λ n. without n us) next ∙ without_next now us vs u us_are) h.judged.gives in
    let here = next_moved a b nest rule p vs u (λ t. Stops items t g w1 w2) h.continues stops in
    arguments_stop (env a) (Compares (env a) (nest + 1)) (count a.context) (part_reading nest (env a) a.context) rule items now params us g w w2 many
    (at_both Q (sym ps_are) (sym us_are) (stops_then items (arguments (env a) (Compares (env a) (nest + 1)) (count a.context) (part_reading nest (env a) a.context) rule ps vs) _ tt g w w1 w2 before here))

-- the next argument is judged
begun_more : (a b c : Standing) (nest : ℕ) (rule : RuleName) (params us : Trees) (left now : ℕ) (w w1 w2 : Account) (js : List JudgeId) (j : JudgeId) (ps vs : Trees) (p u : Tree)
    → AreBegun a b nest rule params us left w w1 js → left ≡ suc now → without now params ≡ ps ▸ p → without now us ≡ vs ▸ u → Continues b c → w2.left ≤ w1.left
    → IsSuited b c (next_argument (env b) (Compares (env b) (nest + 1)) (count b.context) (part_reading nest (env b) b.context) rule p vs u) u (put p vs) w1 w2 j
    → AreBegun a c nest rule params us now w w2 (js ++ j ∷ [])
begun_more a b c nest rule params us left now w w1 w2 js j ps vs p u h next ps_are us_are goes most suited =
    let P : Trees → Trees → Type 0 = λ qs ws. AreJudged a b (arguments (env a) (Compares (env a) (nest + 1)) (count a.context) (part_reading nest (env a) a.context) rule qs ws) qs ws w w1 js in
    let Q : Trees → Trees → Type 0 = λ qs ws. AreJudged a c (arguments (env a) (Compares (env a) (nest + 1)) (count a.context) (part_reading nest (env a) a.context) rule qs ws) qs ws w w2 (js ++ j ∷ []) in
    let before = at_both P (ap (λ n. without n params) next ∙ without_next now params ps p ps_are) (ap (λ n. without n us) next ∙ without_next now us vs u us_are) h.judged in
    let here_given = next_moved a b nest rule p vs u (λ t. Comes t (Gives tt) w1 w2) h.continues suited.gives in
    let K : Judgement → Type 0 = λ s. Knows (known c) j s in
    let knows = subst K (here_stays a b u (put p vs) h.continues) suited.judged in
    let live = live_later (known b) (known c) (numbers_of js) goes.adds before.live in
    record {
      continues = continues_trans a b c h.continues goes;
      most = omega (arith, h.most, most);
      all = omega (arith, length_push js j, h.all, next);
      judged = at_both Q (sym ps_are) (sym us_are) (record {
        gives = comes_then (arguments (env a) (Compares (env a) (nest + 1)) (count a.context) (part_reading nest (env a) a.context) rule ps vs) _ tt (Gives tt) w w1 w2 before.gives here_given;
        live = live_more (known c) js j _ live knows;
        judged = judges_more (known c) js j (length (env a)) a.context ps vs p u (judges_later (known b) (known c) (numbers_of js) (length (env a)) a.context ps vs goes.adds before.live before.judged) knows;
      });
    }

-- The type of the parameter behind so many is over the entries and variables that are there, with arguments put in that are.
abbrev pub PutsFormed : Standing → (k place : ℕ) → Type 0
PutsFormed b k place = (ps us : Trees) (p : Tree) → without (params_at (env b) k - (place + 1)) (entry_at (env b) k).params ≡ ps ▸ p → count us ≡ count ps → AreReadable b us
    → IsWellFormed (env b) (count b.context) (put p us)

-- What the loop finds for the next argument: the list that ends with it, and its parameter.
pub record IsNext (a b : Standing) (k left place : ℕ) (us list param : TermId) : Type 0 where
  pub arguments : HasLast (without (left - 1) (list_at a.items us))
  pub params : HasLast (without (left - 1) (entry_at (env a) k).params)
  pub there : IsListAt b.items list
  pub ends : list_at b.items list ≡ arguments.before ▸ arguments.last
  pub wanted : tree_at b.items param ≡ params.last
  pub readable : AreReadable b (list_at b.items list)
  pub number : count (list_at b.items list) ≡ place + 1
  pub formed : IsWellFormed (env b) (count b.context) (put params.last arguments.before)

next_here : (a b : Standing) (k left place : ℕ) (us list param : TermId) (lists : List TermId) → Continues a b → place + left ≡ count (list_at a.items us) → 0 < left
    → ArePrefixes a.items (list_at a.items us) lists → AreReadable a (list_at a.items us) → count (list_at a.items us) ≡ params_at (env a) k → list ≡ get_or lists (left - 1) list
    → ((ps : Trees) (p : Tree) → without (params_at (env b) k - (place + 1)) (entry_at (env b) k).params ≡ ps ▸ p → tree_at b.items param ≡ p) → PutsFormed b k place
    → IsNext a b k left place us list param
next_here a b k left place us list param lists goes all some firsts readable many read param_is param_formed =
    let vs = list_at a.items us in
    let ws = last_left (left - 1) vs (omega (arith, all, some)) in
    let ps = last_left (left - 1) (entry_at (env a) k).params (omega (arith, all, some, many)) in
    let P : TermId → Type 0 = λ t. IsListAt a.items t × (list_at a.items t ≡ without (left - 1) vs) in
    let at = subst P (sym read) (firsts.each (left - 1) list (omega (arith, all, some, firsts.as_many))) in
    let same : list_at b.items list ≡ without (left - 1) vs = list_stays a b list goes at.0 ∙ at.1 in
    let place_is : params_at (env b) k - (place + 1) ≡ left - 1 = omega (arith, all, some, many, ap (λ (Δ : Env). params_at Δ k) goes.adds.env) in
    let left_params : without (params_at (env b) k - (place + 1)) (entry_at (env b) k).params ≡ ps.before ▸ ps.last =
    ap (λ n. without n (entry_at (env b) k).params) place_is ∙ ap (λ (Δ : Env). without (left - 1) (entry_at Δ k).params) goes.adds.env ∙ ps.is in
    let there = readable_stays a b (without (left - 1) vs) (list_at b.items list) goes (sym same) (readable_without a (left - 1) vs readable) in
    let Readable : Trees → Type 0 = AreReadable b in
    let whole : Readable (ws.before ▸ ws.last) = subst Readable (same ∙ ws.is) there in
    let fewer : count ws.before ≡ count ps.before =
    omega (arith, ap count ws.is, ap count ps.is, count_without (left - 1) vs, count_without (left - 1) (entry_at (env a) k).params, many) in
    record {
      arguments = ws;
      params = ps;
      there = list_there a b list goes at.0;
      ends = same ∙ ws.is;
      wanted = param_is ps.before ps.last left_params;
      readable = there;
      number = omega (arith, ap count same, count_without (left - 1) vs, all, some);
      formed = param_formed ps.before ws.before ps.last left_params fewer (whole.0.0, whole.1.0);
    }

-- the same, from what the calls in the loop give
pub next_found : (a b : Standing) (bank : List Item) (k left first place : ℕ) (us list param : TermId) (lists : List TermId) (js : List JudgeId) → Continues a b → length js + left ≡ count (list_at a.items us) → 0 < left
    → bank ≡ a.items → ArePrefixes bank (list_at bank us) lists → AreReadable a (list_at a.items us) → count (list_at a.items us) ≡ params_at (env a) k → list ≡ get_or lists (left - 1) list
    → first ≡ length js → place ≡ length js
    → ((ps : Trees) (p : Tree) → without (params_at (env b) k - (first + 1)) (entry_at (env b) k).params ≡ ps ▸ p → tree_at b.items param ≡ p) → PutsFormed b k first
    → IsNext a b k left place us list param
next_found a b bank k left first place us list param lists js goes all some same firsts readable many read first_is place_is param_is param_formed =
    let P : List Item → Type 0 = λ xs. ArePrefixes xs (list_at xs us) lists in
    let Q : ℕ → Type 0 = λ n. (ps : Trees) (p : Tree) → without (params_at (env b) k - (n + 1)) (entry_at (env b) k).params ≡ ps ▸ p → tree_at b.items param ≡ p in
    next_here a b k left place us list param lists goes (omega (arith, all, place_is)) some (subst P same firsts) readable many read (subst Q (first_is ∙ sym place_is) param_is)
    (subst (PutsFormed b k) (first_is ∙ sym place_is) param_formed)

-- its wanted type is over the entries and variables that are there
pub next_formed : (a b : Standing) (k left place : ℕ) (us list param : TermId) → IsNext a b k left place us list param → (vs : Trees) (v : Tree) → list_at b.items list ≡ vs ▸ v
    → IsWellFormed (env b) (count b.context) (put (tree_at b.items param) vs)
next_formed a b k left place us list param next vs v is =
    let same : next.arguments.before ≡ vs = before_of next.arguments.before vs next.arguments.last v (sym next.ends ∙ is) in
    let P : Tree → Trees → Type 0 = λ p ws. IsWellFormed (env b) (count b.context) (put p ws) in
    at_both P (sym next.wanted) same next.formed
  where
    before_of : (xs ys : Trees) (x y : Tree) → xs ▸ x ≡ ys ▸ y → xs ≡ ys
    before_of xs ys x y e = cc

-- One turn of the loop: the next argument stops the reading of all, or is judged as those before it are.
pub turn_stops : (a b : Standing) (items : List Item) (nest k left place : ℕ) (rule : RuleName) (us list param : TermId) (w w1 w2 : Account) (js : List JudgeId) (g : InferFault)
    → IsNext a b k left place us list param → AreBegun a b nest rule (entry_at (env a) k).params (list_at a.items us) left w w1 js → count (list_at a.items us) ≡ params_at (env a) k → 0 < left
    → ((vs : Trees) (v : Tree) → list_at b.items list ≡ vs ▸ v → Stops items (next_argument (env b) (Compares (env b) (nest + 1)) (count b.context) (part_reading nest (env b) b.context) rule (tree_at b.items param) vs v) g w1 w2)
    → Stops items (arguments (env a) (Compares (env a) (nest + 1)) (count a.context) (part_reading nest (env a) a.context) rule (entry_at (env a) k).params (list_at a.items us)) g w w2
turn_stops a b items nest k left place rule us list param w w1 w2 js g next begun many some h =
    let P : Tree → Type 0 = λ x. Stops items (next_argument (env b) (Compares (env b) (nest + 1)) (count b.context) (part_reading nest (env b) b.context) rule x next.arguments.before next.arguments.last) g w1 w2 in
    begun_stops a b items nest rule (entry_at (env a) k).params (list_at a.items us) left (left - 1) w w1 w2 js next.params.before next.arguments.before next.params.last next.arguments.last g
    begun many (omega (arith, some)) next.params.is next.arguments.is (subst P next.wanted (h next.arguments.before next.arguments.last next.ends))

pub turn_more : (a b c : Standing) (nest k left place : ℕ) (rule : RuleName) (us list param : TermId) (w w1 w2 : Account) (js : List JudgeId) (j : JudgeId)
    → IsNext a b k left place us list param → AreBegun a b nest rule (entry_at (env a) k).params (list_at a.items us) left w w1 js → 0 < left → Continues b c → w2.left ≤ w1.left
    → ((vs : Trees) (v : Tree) → list_at b.items list ≡ vs ▸ v
    → IsSuited b c (next_argument (env b) (Compares (env b) (nest + 1)) (count b.context) (part_reading nest (env b) b.context) rule (tree_at b.items param) vs v) v (put (tree_at b.items param) vs) w1 w2 j)
    → AreBegun a c nest rule (entry_at (env a) k).params (list_at a.items us) (left - 1) w w2 (js ++ j ∷ [])
turn_more a b c nest k left place rule us list param w w1 w2 js j next begun some goes most h =
    let P : Tree → Type 0 = λ x. IsSuited b c (next_argument (env b) (Compares (env b) (nest + 1)) (count b.context) (part_reading nest (env b) b.context) rule x next.arguments.before next.arguments.last) next.arguments.last
    (put x next.arguments.before) w1 w2 j in
    begun_more a b c nest rule (entry_at (env a) k).params (list_at a.items us) left (left - 1) w w1 w2 js j next.params.before next.arguments.before next.params.last next.arguments.last
    begun (omega (arith, some)) next.params.is next.arguments.is goes most (subst P next.wanted (h next.arguments.before next.arguments.last next.ends))
