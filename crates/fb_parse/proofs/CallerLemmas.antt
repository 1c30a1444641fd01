-- What callers need: a term has never too many items, and the lists of an application, of an instance and behind `by elim` aren't short.
use Rattle.std.proofs.Common.{◌≡◌, ℕ, suc, ◌<◌, List, [], ◌∷◌, Bor, length, refl, ap, subst, arith}
use Rattle.fb_base.specs.declared.places.Span.{Span}
use Rattle.fb_parse.specs.declared.fault.ParseFault.TheVariants.{ManyItems}
use Rattle.fb_parse.specs.declared.tree.Form.TheVariants as v
use Rattle.fb_parse.specs.declared.tree.Tree.{Tree}
use Rattle.fb_parse.specs.Standing.{IsNameBytes, count, TermStands, TermsStand}
use Rattle.fb_parse.specs.Texts.{BeginsTerm, Refuses}
use Rattle.fb_parse.specs.View.{view, views, form_view}
use Rattle.fb_parse.proofs.Views.{view_apply, view_inst}

pub count_views : (ts : List Tree) → count (views ts) ≡ length ts
count_views [] = refl
count_views (t ∷ ts) = ap suc (count_views ts)

-- an application stands as its parts do, and has an argument
pub apply_stands : (text : List ℕ) (s : Span) (t : Tree) (all : Bor (List Tree)) → TermStands text (form_view s (v.Apply t all)) → TermStands text (view t) × TermsStand text (views all.now) × (0 < length all.now)
apply_stands text s t all h =
    let p = subst (TermStands text) (view_apply s t all) h in
    (p.1, p.2, omega (arith, p.3, count_views all.now))

-- an instance stands as its arguments do, of which there is one at least
pub inst_stands : (text : List ℕ) (s : Span) (x : Bor (List ℕ)) (all : Bor (List Tree)) → TermStands text (form_view s (v.Inst x all)) → IsNameBytes x.now × TermsStand text (views all.now) × (0 < length all.now)
inst_stands text s x all h =
    let p = subst (TermStands text) (view_inst s x all) h in
    (p.1, p.2, omega (arith, p.3, count_views all.now))

-- a term is never refused for its items
pub never_many : {text : List ℕ} {at : ℕ} → Refuses text BeginsTerm (ManyItems at) → ⊥
never_many (Refuses.many_items s i b n) = let h = b 0 in n 0 (record { more = h.more; tree = h.tree; parses = h.parses })
