-- How the parts of two terms are gathered.
use Rattle.std.proofs.Common.{◌≡◌, ◌≤◌, ℕ, Bool, true, List, [], ◌∷◌, ◌++◌, Option, Some, Result, Ok, Err, All, IfOk, refl, ap, sym, ◌∙◌, subst, arith}
use Rattle.std.proofs.lemmas.List.{map-append, append-nil, append_assoc}
use Rattle.std.proofs.lemmas.List.Elements.{All-append, All-cons}
use mathlib.Core.Path.{ap₂}
use Rattle.fb_base.specs.declared.texts.NoMemory.{NoMemory}
use Rattle.ld_terms.specs.Item.{Item, tree, list}
use Rattle.ld_terms.specs.Bank.{item_at, item_of, tree_at, list_at, IsTermAt}
use Rattle.ld_terms.specs.declared.bank.TermId.{TermId}
use Rattle.ld_terms.specs.declared.bank.Node.TheVariants as node
use Rattle.ld_convert.specs.Apart as spec
use Rattle.ld_convert.specs.Apart.{and_then, arguments, parts_of}
use Rattle.ld_convert.specs.Walks.{part_of, parts_in, IsLivePart, Gathers, Gathered}
use Rattle.ld_convert.specs.declared.parts.Part.{Part}

pub gathers_none : (items : List Item) (ps : List Part) → All (IsLivePart items) ps → Gathers items ps ps (Some [])
gathers_none items ps live = record { added = []; is = refl; behind = sym (append-nil (parts_in items ps)); live = live }

one_live : (items : List Item) (p : Part) → IsLivePart items p → All (IsLivePart items) (p ∷ [])
one_live items p live = All-cons (IsLivePart items) p [] live (λ k d l. absurd (omega arith))

pub gathers_more : (items : List Item) (old mid new : List Part) (o parts : Option (List spec.Part)) (p : Part) → Gathers items old mid o → IsLivePart items p → new ≡ mid ++ p ∷ []
    → parts ≡ and_then o (part_of items p) → Gathers items old new parts
gathers_more items old mid new o parts p h live e is =
    record {
      added = h.added ++ part_of items p ∷ [];
      is = is ∙ ap (λ x. and_then x (part_of items p)) h.is;
      behind =
          ap (parts_in items) e ∙ map-append (part_of items) mid (p ∷ []) ∙ ap (λ x. x ++ part_of items p ∷ []) h.behind
          ∙ append_assoc (parts_in items old) h.added (part_of items p ∷ []);
      live = subst (All (IsLivePart items)) (sym e) (All-append (IsLivePart items) mid (p ∷ []) h.live (one_live items p live));
    }

pub pushed : (items : List Item) (old mid new : List Part) (o parts : Option (List spec.Part)) (p : Part) (result : Result Bool NoMemory) → Gathers items old mid o → IsLivePart items p
    → IfOk result (λ more. (more ≡ true) × (new ≡ mid ++ p ∷ [])) → parts ≡ and_then o (part_of items p) → IfOk result (Gathered items old new parts)
pushed items old mid new o parts p (Ok b) h live is e = subst (Gathered items old new parts) (sym is.0) (gathers_more items old mid new o parts p h live is.1 e)
pushed items old mid new o parts p (Err x) h live is e = tt

-- a pair of parts, by its terms
abbrev pub pair_up : (left right : TermId) (under : ℕ) → Part
pair_up left right under = record { left = left; right = right; under = under }

pub arguments_more : (items : List Item) (a b u us v vs : TermId) → item_of items (node.Cons u us) ≡ item_at items a → item_of items (node.Cons v vs) ≡ item_at items b
    → arguments (list_at items a) (list_at items b) ≡ and_then (arguments (list_at items us) (list_at items vs)) (part_of items (pair_up u v 0))
arguments_more items a b u us v vs e f = sym (ap₂ (λ x y. arguments (list x) (list y)) e f)

pub spine_more : (items : List Item) (a b f u g v : TermId) → item_of items (node.App f u) ≡ item_at items a → item_of items (node.App g v) ≡ item_at items b
    → parts_of (tree_at items a) (tree_at items b) ≡ and_then (parts_of (tree_at items f) (tree_at items g)) (part_of items (pair_up u v 0))
spine_more items a b f u g v d e = sym (ap₂ (λ x y. parts_of (tree x) (tree y)) d e)

pub live_part : (items : List Item) (u v : TermId) (n : ℕ) → IsTermAt items u → IsTermAt items v → n ≤ 1 → IsLivePart items (pair_up u v n)
live_part items u v n l r few = record { left = l; right = r; under = few }

-- two parts at once
pub pushed_two : (items : List Item) (old new : List Part) (parts : Option (List spec.Part)) (p q : Part) (result : Result Bool NoMemory) → All (IsLivePart items) old → IsLivePart items p
    → IsLivePart items q → IfOk result (λ more. (more ≡ true) × (new ≡ (old ++ p ∷ []) ++ q ∷ [])) → parts ≡ Some (part_of items p ∷ part_of items q ∷ []) → IfOk result (Gathered items old new parts)
pushed_two items old new parts p q result live lp lq is e =
    let one = gathers_more items old old (old ++ p ∷ []) (Some []) (Some (part_of items p ∷ [])) p (gathers_none items old live) lp refl refl in
    pushed items old (old ++ p ∷ []) new (Some (part_of items p ∷ [])) parts q result one lq is e

pub lambda_parts : (items : List Item) (a b d m e n : TermId) → item_of items (node.Lam d m) ≡ item_at items a → item_of items (node.Lam e n) ≡ item_at items b
    → parts_of (tree_at items a) (tree_at items b) ≡ Some (part_of items (pair_up d e 0) ∷ part_of items (pair_up m n 1) ∷ [])
lambda_parts items a b d m e n f g = sym (ap₂ (λ x y. parts_of (tree x) (tree y)) f g)

pub product_parts : (items : List Item) (a b d m e n : TermId) → item_of items (node.Pi d m) ≡ item_at items a → item_of items (node.Pi e n) ≡ item_at items b
    → parts_of (tree_at items a) (tree_at items b) ≡ Some (part_of items (pair_up d e 0) ∷ part_of items (pair_up m n 1) ∷ [])
product_parts items a b d m e n f g = sym (ap₂ (λ x y. parts_of (tree x) (tree y)) f g)
