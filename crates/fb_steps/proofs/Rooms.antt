-- No flag is opened where 64 are open.
use Rattle.std.proofs.Common.{◌≡◌, ◌-◌, ◌<◌, ◌≤◌, ℕ, suc, List, [], ◌∷◌, arith, refl, sym, subst}
use Rattle.std.proofs.lemmas.Bool.Decides.{nat_tests}
use Rattle.std.proofs.lemmas.List.Elements.{All-append, All-cons, All-nil}
use Rattle.std.specs.Prelude.{Bool, true, false, nat_lt, All}
use Rattle.ld_terms.specs.Tree.{Tree, Star, Box, Var, App, Lam, Pi, Const, Trees, Nil, ◌▸◌, count}
use Rattle.ld_terms.specs.Entry.{Entry, Env}
use Rattle.ld_reduce.specs.Task.{Pairs, Task}
use Rattle.ld_infer.specs.Reading.{Refusal}
use Rattle.fb_steps.specs.Items.{Item, Flag, Line, LineBody}
use Rattle.fb_steps.specs.Work as work
use Rattle.fb_steps.specs.Work.{Ending, Work, done, flag, line, reads, ◌>>=◌}
use Rattle.fb_steps.specs.Steps.{entry_steps, flags_of, has_items, introduced, operand_by, printed_term, spine_of, steps_of}
use Rattle.fb_steps.specs.Shown.{HasRoom}

abbrev Fits : {X : Type 0} → Work X → Type 0
Fits {X} w = (K L : Pairs) (left j n i : ℕ) (r : Ending X) (items : List Item) → w K left j r items L n i → All HasRoom items

no_item : {items : List Item} → items ≡ [] → All HasRoom items
no_item e = subst (All HasRoom) (sym e) (All-nil HasRoom)

one_item : {items : List Item} (item : Item) → HasRoom item → items ≡ item ∷ [] → All HasRoom items
one_item item h e = subst (All HasRoom) (sym e) (All-cons HasRoom item [] h (All-nil HasRoom))

done_fits : {X : Type 0} (x : X) → Fits (done x)
done_fits x K L left j n i r items h = no_item h.1

flag_fits : (depth : ℕ) (a : Tree) → depth < 64 → Fits (flag depth a)
flag_fits depth a lt K L left j n i r items h = one_item (Flag depth a) lt h.1

line_fits : (depth : ℕ) (body : LineBody) (type part : Tree) → Fits (line depth body type part)
line_fits depth body type part K L left j n i r items h = one_item (Line depth (suc j) body type part) tt h.1

reads_fit : {X : Type 0} (t : Task Refusal X) → Fits (reads t)
reads_fit t K L left j n i r items (work.reads.answered a h le e is m) = no_item is
reads_fit t K L left j n i r items (work.reads.none h e is k l m) = no_item is

bind_fits : {X Y : Type 0} {w : Work X} {f : X → Work Y} → Fits w → ((x : X) → Fits (f x)) → Fits (w >>= f)
bind_fits hw hf K L left j n i r items (work.◌>>=◌.goes_on x between first second n1 n2 j1 a b e q) =
    subst (All HasRoom) (sym e)
    (All-append HasRoom first second (hw K between left j n1 j1 _ first a) (hf x between L (left - n1) j1 n2 i r second b))
bind_fits hw hf K L left j n i r items (work.◌>>=◌.ends stop a e) = hw K L left j n i stop items a

operand_fits : (has : Bool) (Δ : Env) (Γ : Trees) (u : Tree) (items : (type : Tree) → Work ℕ) → ((type : Tree) → Fits (items type)) → Fits (operand_by has Δ Γ u items)
operand_fits true Δ Γ u items h = bind_fits (reads_fit _) (λ r. bind_fits (h r.type) (λ w. done_fits _))
operand_fits false Δ Γ u items h = done_fits _

room : (n m : ℕ) → nat_lt n m ≡ true → n < m
room n m e = grind (arith, nat_tests)

introduced_fits : (fits : Bool) (Δ : Env) (Γ : Trees) (a m type : Tree) (items : (type : Tree) → Work ℕ) → nat_lt (count Γ) 64 ≡ fits → ((type : Tree) → Fits (items type)) → Fits (introduced fits Δ Γ a m type items)
introduced_fits true Δ Γ a m type items e h =
    bind_fits (reads_fit _) (λ _. bind_fits (reads_fit _) (λ r. bind_fits (flag_fits (count Γ) a (room (count Γ) 64 e)) (λ _. bind_fits (h r.type) (λ w. line_fits _ _ _ _))))
introduced_fits false Δ Γ a m type items e h = line_fits _ _ _ _

mutual
  fits_of : (t : Tree) (Δ : Env) (Γ : Trees) (type : Tree) → Fits (steps_of Δ Γ t type)
  fits_of Star Δ Γ type = line_fits _ _ _ _
  fits_of Box Δ Γ type = line_fits _ _ _ _
  fits_of (Var i) Δ Γ type = line_fits _ _ _ _
  fits_of (App f u) Δ Γ type =
      bind_fits (spine_fits f Δ Γ) (λ s. bind_fits (operand_fits (has_items u) Δ Γ u (steps_of Δ Γ u) (λ x. fits_of u Δ Γ x)) (λ b. line_fits _ _ _ _))
  fits_of (Lam a m) Δ Γ type = introduced_fits (nat_lt (count Γ) 64) Δ Γ a m type (steps_of Δ (Γ ▸ a) m) refl (λ x. fits_of m Δ (Γ ▸ a) x)
  fits_of (Pi a b) Δ Γ type = line_fits _ _ _ _
  fits_of (Const k us) Δ Γ type = line_fits _ _ _ _

  spine_fits : (t : Tree) (Δ : Env) (Γ : Trees) → Fits (spine_of Δ Γ t)
  spine_fits (App f u) Δ Γ =
      bind_fits (spine_fits f Δ Γ) (λ s. bind_fits (operand_fits (has_items u) Δ Γ u (steps_of Δ Γ u) (λ x. fits_of u Δ Γ x)) (λ b. done_fits _))
  spine_fits Star Δ Γ = done_fits _
  spine_fits Box Δ Γ = done_fits _
  spine_fits (Var i) Δ Γ = done_fits _
  spine_fits (Lam a m) Δ Γ = done_fits _
  spine_fits (Pi a b) Δ Γ = done_fits _
  spine_fits (Const k us) Δ Γ = done_fits _

pub steps_room : (Δ : Env) (Γ : Trees) (t type : Tree) → Fits (steps_of Δ Γ t type)
steps_room Δ Γ t type = fits_of t Δ Γ type

flags_fit : (Δ : Env) (ps : Trees) → count ps ≤ 64 → Fits (flags_of Δ ps)
flags_fit Δ Nil le = done_fits _
flags_fit Δ (ps ▸ a) le = bind_fits (flags_fit Δ ps (omega (arith, le))) (λ _. bind_fits (reads_fit _) (λ _. flag_fits (count ps) a (omega (arith, le))))

pub entry_room : (Δ : Env) (k : ℕ) (e : Entry) → count e.params ≤ 64 → Fits (entry_steps Δ k e)
entry_room Δ k e le = bind_fits (flags_fit Δ e.params le) (λ _. fits_of (printed_term k e.params e.body) Δ e.params e.type)
