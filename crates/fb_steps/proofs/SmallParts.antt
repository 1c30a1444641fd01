-- The types and the parts of a small term's items are small, and no line stands deeper than 64.
use Rattle.std.proofs.Common.{◌≡◌, ◌-◌, ◌<◌, ◌≤◌, ℕ, suc, List, [], ◌∷◌, arith, refl, sym, subst, ◌∙◌}
use Rattle.std.proofs.lemmas.Bool.Decides.{nat_tests}
use Rattle.std.proofs.lemmas.List.Elements.{All-append, All-cons, All-nil}
use Rattle.std.specs.Prelude.{Bool, true, false, nat_lt, All, ⊤}
use Rattle.ld_terms.specs.Tree.{Tree, Star, Box, Var, App, Lam, Pi, Const, Trees, Nil, ◌▸◌, count}
use Rattle.ld_terms.specs.Entry.{Entry, Env}
use Rattle.ld_terms.specs.Item.{IsSmall, One}
use Rattle.ld_reduce.specs.Task as task
use Rattle.ld_reduce.specs.Task.{Pairs, Task}
use Rattle.ld_infer.specs.Reading.{Refusal}
use Rattle.fb_steps.specs.Items.{Item, Flag, Line, LineBody}
use Rattle.fb_steps.specs.Work as work
use Rattle.fb_steps.specs.Work.{Done, Ending, Ends, Work, done, flag, line, reads, ◌>>=◌}
use Rattle.fb_steps.specs.Steps.{entry_steps, flags_of, has_items, introduced, operand_by, printed_term, spine_of, steps_of}
use Rattle.fb_steps.specs.Small.{EachSmall}
use Rattle.fb_steps.proofs.SmallTypes.{Posts, types_small}

abbrev pub HasSmallParts : Item → Type 0
HasSmallParts (Flag depth type) = IsSmall (One type)
HasSmallParts (Line depth number body type part) = IsSmall (One type) × IsSmall (One part) × (depth ≤ 64)

pub record Kept {X : Type 0} (G : X → Type 0) (r : Ending X) (items : List Item) : Type 0 where
  pub items_are : All HasSmallParts items
  pub value : (x : X) → r ≡ Done x → G x

abbrev Keeps : {X : Type 0} → Work X → (X → Type 0) → Type 0
Keeps {X} w G = (K L : Pairs) (left j n i : ℕ) (r : Ending X) (items : List Item) → w K left j r items L n i → Kept G r items

abbrev Any : {X : Type 0} → X → Type 0
Any x = ⊤

no_item : {items : List Item} → items ≡ [] → All HasSmallParts items
no_item e = subst (All HasSmallParts) (sym e) (All-nil HasSmallParts)

one_item : {items : List Item} (item : Item) → HasSmallParts item → items ≡ item ∷ [] → All HasSmallParts items
one_item item h e = subst (All HasSmallParts) (sym e) (All-cons HasSmallParts item [] h (All-nil HasSmallParts))

done_keeps : {X : Type 0} (x : X) → Keeps (done x) Any
done_keeps x K L left j n i r items h = record { items_are = no_item h.1; value = λ y e. tt }

flag_keeps : (depth : ℕ) (a : Tree) → IsSmall (One a) → Keeps (flag depth a) Any
flag_keeps depth a s K L left j n i r items h = record { items_are = one_item (Flag depth a) s h.1; value = λ y e. tt }

line_keeps : (depth : ℕ) (body : LineBody) (type part : Tree) → IsSmall (One type) → IsSmall (One part) → depth ≤ 64 → Keeps (line depth body type part) Any
line_keeps depth body type part s t le K L left j n i r items h = record { items_are = one_item (Line depth (suc j) body type part) (s, t, le) h.1; value = λ y e. tt }

value_of : {X : Type 0} (p : Task Refusal X) (G : X → Type 0) (K L : Pairs) (n : ℕ) (a : task.Answer Refusal X) → Posts p G → p K a L n → (x : X) → work.ending a ≡ Done x → G x
value_of p G K L n (task.Gives y) h g x e = subst G (cc (e)) (h K L y n g)
value_of p G K L n (task.Fails f) h g x e = absurd (cc)
value_of p G K L n task.High h g x e = absurd (cc)
value_of p G K L n task.Nested h g x e = absurd (cc)

reads_keep : {X : Type 0} {t : Task Refusal X} (G : X → Type 0) → Posts t G → Keeps (reads t) G
reads_keep {t = t} G h K L left j n i r items (work.reads.answered a g le e is m) = record { items_are = no_item is; value = λ x q. value_of t G K L n a h g x (sym e ∙ q) }
reads_keep G h K L left j n i r items (work.reads.none g e is k l m) = record { items_are = no_item is; value = λ x q. absurd (cc (e, q)) }

no_value : {X Y : Type 0} {s : Ending X} {r : Ending Y} {y : Y} → Ends s r → r ≡ Done y → ⊥
no_value work.Ends.spent e = cc
no_value work.Ends.high e = cc
no_value work.Ends.nesting e = cc
no_value work.Ends.refused e = cc

bind_keeps : {X Y : Type 0} {w : Work X} {f : X → Work Y} (G : X → Type 0) {H : Y → Type 0} → Keeps w G → ((x : X) → G x → Keeps (f x) H) → Keeps (w >>= f) H
bind_keeps G hw hf K L left j n i r items (work.◌>>=◌.goes_on x between first second n1 n2 j1 a b e q) =
    let u = hw K between left j n1 j1 (Done x) first a in
    let v = hf x (u.value x refl) between L (left - n1) j1 n2 i r second b in
    record { items_are = subst (All HasSmallParts) (sym e) (All-append HasSmallParts first second u.items_are v.items_are); value = v.value }
bind_keeps G hw hf K L left j n i r items (work.◌>>=◌.ends stop a h) =
    record { items_are = (hw K L left j n i stop items a).items_are; value = λ y e. absurd (no_value h e) }

-- the parts of a small tree
function_small : (f u : Tree) → IsSmall (One (App f u)) → IsSmall (One f)
function_small f u s = let h = s.height in let i = s.index in record { height = omega (arith, h); index = omega (arith, i) }

argument_small : (f u : Tree) → IsSmall (One (App f u)) → IsSmall (One u)
argument_small f u s = let h = s.height in let i = s.index in record { height = omega (arith, h); index = omega (arith, i) }

binder_small : (a m : Tree) → IsSmall (One (Lam a m)) → IsSmall (One a)
binder_small a m s = let h = s.height in let i = s.index in record { height = omega (arith, h); index = omega (arith, i) }

body_small : (a m : Tree) → IsSmall (One (Lam a m)) → IsSmall (One m)
body_small a m s = let h = s.height in let i = s.index in record { height = omega (arith, h); index = omega (arith, i) }

room : (n m : ℕ) → nat_lt n m ≡ true → n < m
room n m e = grind (arith, nat_tests)

any_reads : {X : Type 0} (t : Task Refusal X) → Keeps (reads t) Any
any_reads t = reads_keep Any (λ K L x n g. tt)

operand_keeps : (has : Bool) (Δ : Env) (Γ : Trees) (u : Tree) (items : (type : Tree) → Work ℕ) → ((type : Tree) → IsSmall (One type) → Keeps (items type) Any) → Keeps (operand_by has Δ Γ u items) Any
operand_keeps true Δ Γ u items h = bind_keeps (λ r. IsSmall (One r.type)) (reads_keep (λ r. IsSmall (One r.type)) (types_small Δ Γ 1 _ u)) (λ r s. bind_keeps Any (h r.type s) (λ w _. done_keeps _))
operand_keeps false Δ Γ u items h = done_keeps _

introduced_keeps : (fits : Bool) (Δ : Env) (Γ : Trees) (a m type : Tree) (items : (type : Tree) → Work ℕ) → nat_lt (count Γ) 64 ≡ fits → count Γ ≤ 64 → IsSmall (One (Lam a m)) → IsSmall (One type) →
    (count Γ < 64 → (type : Tree) → IsSmall (One type) → Keeps (items type) Any) → Keeps (introduced fits Δ Γ a m type items) Any
introduced_keeps true Δ Γ a m type items e le s t h =
    bind_keeps Any (any_reads _) (λ _ _. bind_keeps (λ r. IsSmall (One r.type)) (reads_keep (λ r. IsSmall (One r.type)) (types_small Δ (Γ ▸ a) 1 _ m))
    (λ r k. bind_keeps Any (flag_keeps (count Γ) a (binder_small a m s)) (λ _ _. bind_keeps Any (h (room (count Γ) 64 e) r.type k) (λ w _. line_keeps _ _ _ _ t s le))))
introduced_keeps false Δ Γ a m type items e le s t h = line_keeps _ _ _ _ t s le

mutual
  keeps_of : (t : Tree) (Δ : Env) (Γ : Trees) (type : Tree) → count Γ ≤ 64 → IsSmall (One t) → IsSmall (One type) → Keeps (steps_of Δ Γ t type) Any
  keeps_of Star Δ Γ type le s k = line_keeps _ _ _ _ k s le
  keeps_of Box Δ Γ type le s k = line_keeps _ _ _ _ k s le
  keeps_of (Var i) Δ Γ type le s k = line_keeps _ _ _ _ k s le
  keeps_of (App f u) Δ Γ type le s k =
      bind_keeps Any (spine_keeps f Δ Γ le (function_small f u s))
      (λ x _. bind_keeps Any (operand_keeps (has_items u) Δ Γ u (steps_of Δ Γ u) (λ y h. keeps_of u Δ Γ y le (argument_small f u s) h)) (λ b _. line_keeps _ _ _ _ k s le))
  keeps_of (Lam a m) Δ Γ type le s k =
      introduced_keeps (nat_lt (count Γ) 64) Δ Γ a m type (steps_of Δ (Γ ▸ a) m) refl le s k (λ lt y h. keeps_of m Δ (Γ ▸ a) y (omega (arith, lt)) (body_small a m s) h)
  keeps_of (Pi a b) Δ Γ type le s k = line_keeps _ _ _ _ k s le
  keeps_of (Const c us) Δ Γ type le s k = line_keeps _ _ _ _ k s le

  spine_keeps : (t : Tree) (Δ : Env) (Γ : Trees) → count Γ ≤ 64 → IsSmall (One t) → Keeps (spine_of Δ Γ t) Any
  spine_keeps (App f u) Δ Γ le s =
      bind_keeps Any (spine_keeps f Δ Γ le (function_small f u s))
      (λ x _. bind_keeps Any (operand_keeps (has_items u) Δ Γ u (steps_of Δ Γ u) (λ y h. keeps_of u Δ Γ y le (argument_small f u s) h)) (λ b _. done_keeps _))
  spine_keeps Star Δ Γ le s = done_keeps _
  spine_keeps Box Δ Γ le s = done_keeps _
  spine_keeps (Var i) Δ Γ le s = done_keeps _
  spine_keeps (Lam a m) Δ Γ le s = done_keeps _
  spine_keeps (Pi a b) Δ Γ le s = done_keeps _
  spine_keeps (Const c us) Δ Γ le s = done_keeps _

pub steps_small : (Δ : Env) (Γ : Trees) (t type : Tree) → count Γ ≤ 64 → IsSmall (One t) → IsSmall (One type) → Keeps (steps_of Δ Γ t type) Any
steps_small Δ Γ t type le s k = keeps_of t Δ Γ type le s k

flags_small : (Δ : Env) (ps : Trees) → EachSmall ps → Keeps (flags_of Δ ps) Any
flags_small Δ Nil s = done_keeps _
flags_small Δ (ps ▸ a) s = bind_keeps Any (flags_small Δ ps s.0) (λ _ _. bind_keeps Any (any_reads _) (λ _ _. flag_keeps (count ps) a s.1))

pub entry_small : (Δ : Env) (k : ℕ) (e : Entry) → count e.params ≤ 64 → EachSmall e.params → IsSmall (One (printed_term k e.params e.body)) → IsSmall (One e.type) → Keeps (entry_steps Δ k e) Any
entry_small Δ k e le ps s t = bind_keeps Any (flags_small Δ e.params ps) (λ _ _. keeps_of (printed_term k e.params e.body) Δ e.params e.type le s t)
