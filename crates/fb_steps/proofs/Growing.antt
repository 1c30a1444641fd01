-- What holds at a place holds at each to which it grows.
use Rattle.std.proofs.Common.{ℕ, List, ◌∷◌}
use Rattle.ld_terms.specs.Tree.{Tree}
use Rattle.ld_terms.specs.Entry.{Env}
use Rattle.ld_laws.proofs.LegalContexts.{last_of, legal_of}
use Rattle.fb_steps.specs.Items.{Operand}
use Rattle.fb_steps.specs.Steps.{Spine}
use Rattle.fb_steps.specs.Places.{OpenFlag, Place}
use Rattle.fb_steps.specs.Spells.{OperandIs, term, of_line, Applies, alone, applied}
use Rattle.fb_steps.proofs.Later.{later}
use Rattle.fb_steps.proofs.Lists.{ends_before}
use Rattle.fb_steps.proofs.Invariant.{IsPlace, Grows, Replaces, SpineFor}

pub grows_same : (p : Place) → Grows p p
grows_same p = record { entries = λ k e at. at; marks = λ k m at. at }

pub grows_on : {p q r : Place} → Grows p q → Grows q r → Grows p r
grows_on g h = record { entries = λ k e at. h.entries k e (g.entries k e at); marks = λ k m at. h.marks k m (g.marks k m at) }

-- without the last flag
pub outside : {Δ : Env} {name : ℕ → List ℕ} {f : OpenFlag} {fs : List OpenFlag} {j : ℕ} {p : Place} → IsPlace Δ name (f ∷ fs) j p → IsPlace Δ name fs j p
outside s = record { extends = s.extends; entries = s.entries; marked = s.marked; flags = ends_before s.flags; legal = legal_of (last_of s.legal).typed; fresh = s.fresh }

pub replaces_on : {Δ : Env} {name : ℕ → List ℕ} {fs : List OpenFlag} {j : ℕ} {p q : Place} {t part : Tree} → Grows p q → IsPlace Δ name fs j q → Replaces Δ fs p t part → Replaces Δ fs q t part
replaces_on g s h = record { typed = λ n d. later g.entries s.legal (h.typed n d); unfolds = λ Δ' x. h.unfolds Δ' (λ k e at. x k e (g.entries k e at)) }

operand_on : {first : ℕ} {fs : List OpenFlag} {p q : Place} {b : Operand} {t : Tree} → Grows p q → OperandIs first p.marks fs b t → OperandIs first q.marks fs b t
operand_on g term = term
operand_on g (of_line j m) = of_line j (g.marks _ _ m)

applies_on : {first : ℕ} {fs : List OpenFlag} {p q : Place} {f t : Tree} {bs : List Operand} → Grows p q → Applies first p.marks fs f bs t → Applies first q.marks fs f bs t
applies_on g alone = alone
applies_on g (applied o a) = applied (operand_on g o) (applies_on g a)

pub spine_on : {Δ : Env} {name : ℕ → List ℕ} {fs : List OpenFlag} {j : ℕ} {p q : Place} {s : Spine} {part : Tree} → Grows p q → IsPlace Δ name fs j q → SpineFor Δ fs p s part → SpineFor Δ fs q s part
spine_on g s h = record { tree = h.tree; applies = applies_on g h.applies; shown = h.shown; replaces = replaces_on g s h.replaces; low = h.low }
