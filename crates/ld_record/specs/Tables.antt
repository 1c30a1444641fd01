-- The tables that a derivation keeps over its records.
use Rattle.std.specs.Prelude.{◌≡◌, ℕ, suc, Bool, List, [], ◌∷◌}
use Rattle.ld_record.specs.declared.record.Judge.{Judge}
use Rattle.ld_record.specs.declared.record.Kept.{Kept}
use Rattle.ld_record.specs.declared.record.Kept.TheVariants.{Context, Equal, Node, Entry, Flag}

abbrev pub judges_of : List Kept → List Judge
judges_of [] = []
judges_of (Context c t ∷ ks) = judges_of ks
judges_of (Equal left right step ∷ ks) = judges_of ks
judges_of (Node judge step ∷ ks) = judge ∷ judges_of ks
judges_of (Entry name j prim ∷ ks) = judges_of ks
judges_of (Flag j ∷ ks) = judges_of ks

abbrev pub prims_of : List Kept → List Bool
prims_of [] = []
prims_of (Context c t ∷ ks) = prims_of ks
prims_of (Equal left right step ∷ ks) = prims_of ks
prims_of (Node judge step ∷ ks) = prims_of ks
prims_of (Entry name j prim ∷ ks) = prim ∷ prims_of ks
prims_of (Flag j ∷ ks) = prims_of ks

-- how many records of contexts there are
abbrev pub contexts_of : List Kept → ℕ
contexts_of [] = 0
contexts_of (Context c t ∷ ks) = suc (contexts_of ks)
contexts_of (Equal left right step ∷ ks) = contexts_of ks
contexts_of (Node judge step ∷ ks) = contexts_of ks
contexts_of (Entry name j prim ∷ ks) = contexts_of ks
contexts_of (Flag j ∷ ks) = contexts_of ks

-- how many records of equalities there are
abbrev pub equalities_of : List Kept → ℕ
equalities_of [] = 0
equalities_of (Context c t ∷ ks) = equalities_of ks
equalities_of (Equal left right step ∷ ks) = suc (equalities_of ks)
equalities_of (Node judge step ∷ ks) = equalities_of ks
equalities_of (Entry name j prim ∷ ks) = equalities_of ks
equalities_of (Flag j ∷ ks) = equalities_of ks

pub record AreTables (kept : List Kept) (judges : List Judge) (prims : List Bool) (contexts equalities : ℕ) : Type 0 where
  pub judges_are : judges ≡ judges_of kept
  pub prims_are : prims ≡ prims_of kept
  pub contexts_are : contexts ≡ contexts_of kept
  pub equalities_are : equalities ≡ equalities_of kept
