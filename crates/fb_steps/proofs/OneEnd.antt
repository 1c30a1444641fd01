-- Work has one end at most, and items spell one place at most.
use Rattle.std.proofs.Common.{◌≡◌, ◌+◌, ◌-◌, ℕ, List, ◌++◌, ap, arith, refl, sym, subst, ◌∙◌, suc}
use Rattle.std.specs.Prelude.{Bool, true, false, nat_lt}
use mathlib.Core.Path.{ap₂}
use Rattle.ld_terms.specs.Tree.{Tree, Star, Box, Var, App, Lam, Pi, Const, Trees, Nil, ◌▸◌, count}
use Rattle.ld_terms.specs.Entry.{Env}
use Rattle.ld_reduce.specs.Task.{Task}
use Rattle.ld_convert.specs.Laws.{AnswersOnce}
use Rattle.ld_infer.specs.declared.failure.RuleName.TheVariants.{Weak, Appl, Abst}
use Rattle.ld_infer.specs.Reading.{Refusal}
use Rattle.ld_infer.proofs.Once.{reads_once}
use Rattle.fb_steps.specs.Items.{Item, LineBody, Operand}
use Rattle.fb_steps.specs.Work as work
use Rattle.fb_steps.specs.Work.{Done, Ending, Ends, Spent, Work, done, ending, flag, line, reads, ◌>>=◌}
use Rattle.fb_steps.specs.Steps.{flags_of, has_items, introduced, operand_by, printed_term, spine_of, steps_of}
use Rattle.fb_steps.specs.Places.{OpenFlag, Place, closed, closed_to, with_flag, with_line}
use Rattle.fb_steps.specs.Spells.{Applies, BodyIs, OperandIs, Spells, abstracted}
use Rattle.fb_steps.specs.Spells as spelled
use Rattle.fb_steps.specs.Once.{EndsOnce, SpellsOnce, StepsOnce}

pub done_injective : {X : Type 0} {x y : X} → Done x ≡ Done y → x ≡ y
done_injective e = cc

pub no_value : {X Y : Type 0} {x : X} {r : Ending Y} → Ends (Done x) r → ⊥
no_value h = elim h [ ]

ends_agree : {X Y : Type 0} {s : Ending X} {r q : Ending Y} → Ends s r → Ends s q → r ≡ q
ends_agree work.Ends.spent work.Ends.spent = refl
ends_agree work.Ends.high work.Ends.high = refl
ends_agree work.Ends.nesting work.Ends.nesting = refl
ends_agree work.Ends.refused work.Ends.refused = refl

done_once : {X : Type 0} (x : X) → EndsOnce (done x)
done_once x K L M left j r s is js n m i k a b =
    record { ending = a.0 ∙ sym b.0; items = a.1 ∙ sym b.1; known = a.2 ∙ sym b.2; steps = a.3 ∙ sym b.3; lines = a.4 ∙ sym b.4 }

flag_once : (depth : ℕ) (t : Tree) → EndsOnce (flag depth t)
flag_once depth t K L M left j r s is js n m i k a b =
    record { ending = a.0 ∙ sym b.0; items = a.1 ∙ sym b.1; known = a.2 ∙ sym b.2; steps = a.3 ∙ sym b.3; lines = a.4 ∙ sym b.4 }

line_once : (depth : ℕ) (body : LineBody) (type part : Tree) → EndsOnce (line depth body type part)
line_once depth body type part K L M left j r s is js n m i k a b =
    record { ending = a.0 ∙ sym b.0; items = a.1 ∙ sym b.1; known = a.2 ∙ sym b.2; steps = a.3 ∙ sym b.3; lines = a.4 ∙ sym b.4 }

reading_once : {X : Type 0} (t : Task Refusal X) → AnswersOnce t → EndsOnce (reads t)
reading_once t once K L M left j r s is js n m i k (work.reads.answered a h le e x y) (work.reads.answered b g ge f v w) =
    let o = once K L M a b n m h g in
    record { ending = e ∙ ap ending o.answer ∙ sym f; items = x ∙ sym v; known = o.known; steps = o.steps; lines = y ∙ sym w }
reading_once t once K L M left j r s is js n m i k (work.reads.answered a h le e x y) (work.reads.none g f v u l w) = let lt = g a L n h in absurd (omega (arith, le, lt))
reading_once t once K L M left j r s is js n m i k (work.reads.none g f v u l w) (work.reads.answered a h le e x y) = let lt = g a M m h in absurd (omega (arith, le, lt))
reading_once t once K L M left j r s is js n m i k (work.reads.none g f v u l w) (work.reads.none g' f' v' u' l' w') =
    record { ending = f ∙ sym f'; items = v ∙ sym v'; known = u ∙ sym u'; steps = l ∙ sym l'; lines = w ∙ sym w' }

bind_once : {X Y : Type 0} {w : Work X} {f : X → Work Y} → EndsOnce w → ((x : X) → EndsOnce (f x)) → EndsOnce (w >>= f)
bind_once {w = w} {f = f} hw hf K L M left j r s is js n m i k (work.◌>>=◌.goes_on x B first second n1 n2 j1 a b e q) (work.◌>>=◌.goes_on x' B' first' second' n1' n2' j1' a' b' e' q') =
    let o = hw K B B' left j (Done x) (Done x') first first' n1 n1' j1 j1' a a' in
    let b1 = subst (λ y. f y B (left - n1) j1 r second L n2 i) (done_injective o.ending) b in
    let b2 = subst (λ C. f x' C (left - n1) j1 r second L n2 i) o.known b1 in
    let b3 = subst (λ l. f x' B' (left - l) j1 r second L n2 i) o.steps b2 in
    let b4 = subst (λ l. f x' B' (left - n1') l r second L n2 i) o.lines b3 in
    let u = hf x' B' L M (left - n1') j1' r s second second' n2 n2' i k b4 b' in
    record { ending = u.ending; items = e ∙ ap₂ ◌++◌ o.items u.items ∙ sym e'; known = u.known; steps = q ∙ ap₂ ◌+◌ o.steps u.steps ∙ sym q'; lines = u.lines }
bind_once hw hf K L M left j r s is js n m i k (work.◌>>=◌.goes_on x B first second n1 n2 j1 a b e q) (work.◌>>=◌.ends stop c h) =
    let o = hw K B M left j (Done x) stop first js n1 m j1 k a c in absurd (no_value (subst (λ v. Ends v s) (sym o.ending) h))
bind_once hw hf K L M left j r s is js n m i k (work.◌>>=◌.ends stop c h) (work.◌>>=◌.goes_on x B first second n1 n2 j1 a b e q) =
    let o = hw K L B left j stop (Done x) is first n n1 i j1 c a in absurd (no_value (subst (λ v. Ends v r) o.ending h))
bind_once hw hf K L M left j r s is js n m i k (work.◌>>=◌.ends stop c h) (work.◌>>=◌.ends stop' c' h') =
    let o = hw K L M left j stop stop' is js n m i k c c' in
    record { ending = ends_agree (subst (λ v. Ends v r) o.ending h) h'; items = o.items; known = o.known; steps = o.steps; lines = o.lines }

operand_once : (has : Bool) (Δ : Env) (Γ : Trees) (u : Tree) (items : (type : Tree) → Work ℕ) → ((type : Tree) → EndsOnce (items type)) → EndsOnce (operand_by has Δ Γ u items)
operand_once true Δ Γ u items h = bind_once (reading_once _ (reads_once.types Δ Γ 1 (Appl, 2) u)) (λ r. bind_once (h r.type) (λ w. done_once _))
operand_once false Δ Γ u items h = done_once _

introduced_once : (fits : Bool) (Δ : Env) (Γ : Trees) (a m type : Tree) (items : (type : Tree) → Work ℕ) → ((type : Tree) → EndsOnce (items type)) → EndsOnce (introduced fits Δ Γ a m type items)
introduced_once true Δ Γ a m type items h =
    bind_once (reading_once _ (reads_once.sorts Δ Γ 1 (Abst, 1) a))
    (λ _. bind_once (reading_once _ (reads_once.types Δ (Γ ▸ a) 1 (Abst, 1) m)) (λ r. bind_once (flag_once _ _) (λ _. bind_once (h r.type) (λ w. line_once _ _ _ _))))
introduced_once false Δ Γ a m type items h = line_once _ _ _ _

mutual
  once_of : (t : Tree) (Δ : Env) (Γ : Trees) (type : Tree) → EndsOnce (steps_of Δ Γ t type)
  once_of Star Δ Γ type = line_once _ _ _ _
  once_of Box Δ Γ type = line_once _ _ _ _
  once_of (Var i) Δ Γ type = line_once _ _ _ _
  once_of (App f u) Δ Γ type =
      bind_once (spine_once f Δ Γ) (λ s. bind_once (operand_once (has_items u) Δ Γ u (steps_of Δ Γ u) (λ x. once_of u Δ Γ x)) (λ b. line_once _ _ _ _))
  once_of (Lam a m) Δ Γ type = introduced_once (nat_lt (count Γ) 64) Δ Γ a m type (steps_of Δ (Γ ▸ a) m) (λ x. once_of m Δ (Γ ▸ a) x)
  once_of (Pi a b) Δ Γ type = line_once _ _ _ _
  once_of (Const k us) Δ Γ type = line_once _ _ _ _

  spine_once : (t : Tree) (Δ : Env) (Γ : Trees) → EndsOnce (spine_of Δ Γ t)
  spine_once (App f u) Δ Γ =
      bind_once (spine_once f Δ Γ) (λ s. bind_once (operand_once (has_items u) Δ Γ u (steps_of Δ Γ u) (λ x. once_of u Δ Γ x)) (λ b. done_once _))
  spine_once Star Δ Γ = done_once _
  spine_once Box Δ Γ = done_once _
  spine_once (Var i) Δ Γ = done_once _
  spine_once (Lam a m) Δ Γ = done_once _
  spine_once (Pi a b) Δ Γ = done_once _
  spine_once (Const k us) Δ Γ = done_once _

flags_once : (Δ : Env) (ps : Trees) → EndsOnce (flags_of Δ ps)
flags_once Δ Nil = done_once _
flags_once Δ (ps ▸ a) = bind_once (flags_once Δ ps) (λ _. bind_once (reading_once _ (reads_once.sorts Δ ps 1 (Weak, 2) a)) (λ _. flag_once _ _))

pub steps_once : StepsOnce
steps_once = record {
  of_term = λ Δ Γ t type. once_of t Δ Γ type;
  of_entry = λ Δ k e. bind_once (flags_once Δ e.params) (λ _. once_of (printed_term k e.params e.body) Δ e.params e.type);
}

-- one tree for an operand, a spine and a body
operand_is_once : {first : ℕ} {marks : List (List ℕ)} {fs : List OpenFlag} {b : Operand} {t u : Tree} → OperandIs first marks fs b t → OperandIs first marks fs b u → t ≡ u
operand_is_once spelled.OperandIs.term spelled.OperandIs.term = refl
operand_is_once (spelled.OperandIs.of_line j m) (spelled.OperandIs.of_line k n) = refl

applies_once : {first : ℕ} {marks : List (List ℕ)} {fs : List OpenFlag} {f g t u : Tree} {bs : List Operand} → f ≡ g → Applies first marks fs f bs t → Applies first marks fs g bs u → t ≡ u
applies_once e spelled.Applies.alone spelled.Applies.alone = e
applies_once e (spelled.Applies.applied o a) (spelled.Applies.applied p b) = applies_once (ap₂ App e (operand_is_once o p)) a b

body_is_once : {first : ℕ} {marks : List (List ℕ)} {fs : List OpenFlag} {env : Env} {b : LineBody} {t u : Tree} → BodyIs first marks fs env b t → BodyIs first marks fs env b u → t ≡ u
body_is_once spelled.BodyIs.plain spelled.BodyIs.plain = refl
body_is_once (spelled.BodyIs.intro j n mark e at m r) (spelled.BodyIs.intro k i mark' e' at' m' r') = cc (at, at', m, m', r, r')
body_is_once (spelled.BodyIs.elim_by a) (spelled.BodyIs.elim_by b) = applies_once refl a b

spelled_once : {first : ℕ} {name : ℕ → List ℕ} {p o q r : Place} {items : List Item} → p ≡ o → Spells first name p items q → Spells first name o items r → q ≡ r
spelled_once e spelled.Spells.none spelled.Spells.none = e
spelled_once e (spelled.Spells.flag {depth = depth} {type = type} le h) (spelled.Spells.flag ge g) = spelled_once (ap (λ x. with_flag type (closed depth x)) e) h g
spelled_once {first} {name} e (spelled.Spells.line {depth = depth} {j = j} {body = body} {type = type} t le m b h) (spelled.Spells.line u ge n c g) =
    let same = body_is_once (subst (λ x. BodyIs first x.marks (closed_to depth x.flags) x.env body t) e b) c in
    spelled_once (ap₂ (λ v x. with_line (name (suc j)) v type (closed depth x)) same e) h g

pub spells_once : SpellsOnce
spells_once first name p q r items h g = spelled_once refl h g
