-- The parts of two terms that name only what is there.
use Rattle.std.proofs.Common.{◌≡◌, ◌==◌, List, [], ◌∷◌, ◌++◌, Option, Some, All, refl, sym, ◌∙◌, subst}
use Rattle.std.specs.List.{AllByRecursion}
use Rattle.std.proofs.lemmas.List.Elements.{All-nil, All-cons, All-head, All-tail}
use Rattle.ld_terms.specs.Tree.{Tree, Star, Box, Var, App, Lam, Pi, Const, Trees, Nil, ◌▸◌}
use Rattle.ld_terms.specs.Entry.{Env}
use Rattle.ld_terms.specs.Item.{Item}
use Rattle.ld_terms.specs.Bank.{tree_at}
use Rattle.ld_terms.specs.Known.{Known}
use Rattle.ld_terms.specs.Named.{IsNamed, AreNamed}
use Rattle.ld_terms.specs.declared.bank.TermId.{TermId}
use Rattle.ld_convert.specs.Apart as spec
use Rattle.ld_convert.specs.Apart.{part, and_then, arguments, parts_of}
use Rattle.ld_convert.specs.Walks.{parts_in, IsLivePart, Gathers}
use Rattle.ld_convert.specs.Turned.{AreComparable, IsComparablePart}
use Rattle.ld_convert.specs.declared.parts.Part.{Part}
use Rattle.ld_convert.proofs.Agreeing.{some_injective, none_some}
use Rattle.ld_convert.proofs.Congruent.{was_then, where_true}

-- both sides name only what is there
abbrev pub NamesPart : Env → spec.Part → Type 0
NamesPart env p = IsNamed env p.left × IsNamed env p.right

none_named : (env : Env) (ps : List spec.Part) → Some [] ≡ Some ps → AllByRecursion (NamesPart env) ps
none_named env ps e = subst (AllByRecursion (NamesPart env)) (some_injective e) tt

last_named : (env : Env) (ps : List spec.Part) (p : spec.Part) → AllByRecursion (NamesPart env) ps → NamesPart env p → AllByRecursion (NamesPart env) (ps ++ p ∷ [])
last_named env [] p h g = (g, tt)
last_named env (q ∷ ps) p h g = (h.0, last_named env ps p h.1 g)

then_named : (env : Env) (o : Option (List spec.Part)) (p : spec.Part) (ps : List spec.Part) → and_then o p ≡ Some ps → ((qs : List spec.Part) → o ≡ Some qs → AllByRecursion (NamesPart env) qs) → NamesPart env p
    → AllByRecursion (NamesPart env) ps
then_named env o p ps e each g =
    let t = was_then o p ps e in
    subst (AllByRecursion (NamesPart env)) (sym t.all) (last_named env t.front p (each t.front t.is) g)

arguments_named : (env : Env) (us vs : Trees) (ps : List spec.Part) → arguments us vs ≡ Some ps → AreNamed env us → AreNamed env vs → AllByRecursion (NamesPart env) ps
arguments_named env Nil Nil ps e l r = none_named env ps e
arguments_named env (us ▸ u) (vs ▸ v) ps e l r = then_named env (arguments us vs) (part u v 0) ps e (λ qs is. arguments_named env us vs qs is l.0 r.0) (l.1, r.1)
arguments_named env us vs ps e l r = absurd (none_some e)

-- the parts of two trees that name only what is there
pub parts_named : (env : Env) (a b : Tree) (ps : List spec.Part) → parts_of a b ≡ Some ps → IsNamed env a → IsNamed env b → AllByRecursion (NamesPart env) ps
parts_named env Star Star ps e l r = none_named env ps e
parts_named env Box Box ps e l r = none_named env ps e
parts_named env (Var i) (Var j) ps e l r = none_named env ps (where_true (i == j) (Some []) ps e).1
parts_named env (Lam a m) (Lam b n) ps e l r = subst (AllByRecursion (NamesPart env)) (some_injective e) ((l.0, r.0), ((l.1, r.1), tt))
parts_named env (Pi a c) (Pi b d) ps e l r = subst (AllByRecursion (NamesPart env)) (some_injective e) ((l.0, r.0), ((l.1, r.1), tt))
parts_named env (Const k us) (Const j vs) ps e l r = arguments_named env us vs ps (where_true (k == j) (arguments us vs) ps e).1 l.2 r.2
parts_named env (App f u) (App g v) ps e l r = then_named env (parts_of f g) (part u v 0) ps e (λ qs is. parts_named env f g qs is l.0 r.0) (l.1, r.1)
parts_named env a b ps e l r = absurd (none_some e)

comparable_each : (items : List Item) (known : Known) (ps : List Part) → All (IsLivePart items) ps → AllByRecursion (NamesPart known.env) (parts_in items ps) → All (IsComparablePart items known) ps
comparable_each items known [] live named = All-nil (IsComparablePart items known)
comparable_each items known (p ∷ ps) live named =
    let here = All-head (IsLivePart items) p ps live in
    All-cons (IsComparablePart items known) p ps
    (record { terms = record { first = here.left; second = here.right; first_named = named.0.0; second_named = named.0.1 }; under = here.under })
    (comparable_each items known ps (All-tail (IsLivePart items) p ps live) named.1)

-- the parts that are gathered
pub gathered_comparable : (items : List Item) (known : Known) (a b : TermId) (none new : List Part) → none ≡ [] → AreComparable items known a b → Gathers items none new (parts_of (tree_at items a) (tree_at items b))
    → All (IsComparablePart items known) new
gathered_comparable items known a b none new e h g =
    let named = parts_named known.env (tree_at items a) (tree_at items b) g.added g.is h.first_named h.second_named in
    comparable_each items known new g.live (subst (AllByRecursion (NamesPart known.env)) (sym (all_gathered items none new (parts_of (tree_at items a) (tree_at items b)) e g)) named)
  where
    all_gathered : (items : List Item) (none new : List Part) (o : Option (List spec.Part)) → none ≡ [] → (g : Gathers items none new o) → parts_in items new ≡ g.added
    all_gathered items none new o e g = g.behind ∙ subst (λ qs. parts_in items qs ++ g.added ≡ g.added) (sym e) refl
