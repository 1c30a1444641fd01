-- The items of a term end with a line for the whole term.
use Rattle.std.proofs.Common.{◌≡◌, ◌-◌, ℕ, suc, Bool, true, false, List, [], ◌∷◌, ◌++◌, ap, append_assoc, sym, ◌∙◌}
use Rattle.std.specs.Prelude.{nat_lt}
use Rattle.ld_terms.specs.Tree.{Tree, Star, Box, Var, App, Lam, Pi, Const, Trees, ◌▸◌, count}
use Rattle.ld_terms.specs.Entry.{Entry, Env}
use Rattle.ld_reduce.specs.Task.{Pairs}
use Rattle.fb_steps.specs.Items.{Item, Line, LineBody}
use Rattle.fb_steps.specs.Work as work
use Rattle.fb_steps.specs.Work.{Done, Work, Ends, line, ◌>>=◌}
use Rattle.fb_steps.specs.Steps.{entry_steps, introduced, printed_term, steps_of}
use Rattle.fb_steps.specs.Laws.{LastLine}

abbrev EndsWithLine : Work ℕ → (depth : ℕ) → (type part : Tree) → Type 0
EndsWithLine w depth type part = (K L : Pairs) (left j n i number : ℕ) (items : List Item) → w K left j (Done number) items L n i → LastLine items depth number type part

line_ends : (depth : ℕ) (body : LineBody) (type part : Tree) → EndsWithLine (line depth body type part) depth type part
line_ends depth body type part K L left j n i number items h =
    let same : suc j ≡ number = cc (h.0) in record { front = []; body = body; is = h.1 ∙ ap (λ m. Line depth m body type part ∷ []) same }

bind_ends : {X : Type 0} {w : Work X} {f : X → Work ℕ} {depth : ℕ} {type part : Tree} → ((x : X) → EndsWithLine (f x) depth type part) → EndsWithLine (w >>= f) depth type part
bind_ends {depth = depth} {type = type} {part = part} h K L left j n i number items (work.◌>>=◌.goes_on x between first second n1 n2 j1 a b e q) =
    let u = h x between L (left - n1) j1 n2 i number second b in
    record { front = first ++ u.front; body = u.body; is = e ∙ ap (λ is. first ++ is) u.is ∙ sym (append_assoc first u.front (Line depth number u.body type part ∷ [])) }
bind_ends h K L left j n i number items (work.◌>>=◌.ends stop a e) = elim e [ ]

introduced_ends : (fits : Bool) (Δ : Env) (Γ : Trees) (a m type : Tree) (items : (type : Tree) → Work ℕ) → EndsWithLine (introduced fits Δ Γ a m type items) (count Γ) type (Lam a m)
introduced_ends false Δ Γ a m type items = line_ends _ _ _ _
introduced_ends true Δ Γ a m type items = bind_ends (λ _. bind_ends (λ _. bind_ends (λ _. bind_ends (λ _. line_ends _ _ _ _))))

pub steps_end : (Δ : Env) (Γ : Trees) (t type : Tree) → EndsWithLine (steps_of Δ Γ t type) (count Γ) type t
steps_end Δ Γ Star type = line_ends _ _ _ _
steps_end Δ Γ Box type = line_ends _ _ _ _
steps_end Δ Γ (Var i) type = line_ends _ _ _ _
steps_end Δ Γ (App f u) type = bind_ends (λ _. bind_ends (λ _. line_ends _ _ _ _))
steps_end Δ Γ (Lam a m) type = introduced_ends (nat_lt (count Γ) 64) Δ Γ a m type (steps_of Δ (Γ ▸ a) m)
steps_end Δ Γ (Pi a b) type = line_ends _ _ _ _
steps_end Δ Γ (Const k us) type = line_ends _ _ _ _

pub entry_ends : (Δ : Env) (k : ℕ) (e : Entry) → EndsWithLine (entry_steps Δ k e) (count e.params) e.type (printed_term k e.params e.body)
entry_ends Δ k e = bind_ends (λ _. steps_end Δ e.params (printed_term k e.params e.body) e.type)
