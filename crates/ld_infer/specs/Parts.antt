-- The parts of a term: a path leads from the term to one, and each step that passes a binder adds its type to the context.
use Rattle.std.specs.Prelude.{ℕ, suc, List, [], ◌∷◌}
use Rattle.ld_terms.specs.Tree.{Tree, App, Lam, Pi, Const, Trees, ◌▸◌, count}
use Rattle.ld_infer.specs.declared.failure.PathStep.{PathStep}
use Rattle.ld_infer.specs.declared.failure.PathStep.TheVariants.{Dom, Ran, Fun, Arg, Body, Nth}

mutual
  -- In a context, a term has a part at a path, in that part's context.
  pub data PartAt : Trees → Tree → List PathStep → Trees → Tree → Type 0 where
    here : {ctx : Trees} {t : Tree} → PartAt ctx t [] ctx t
    domain : {ctx inner : Trees} {a b t : Tree} {path : List PathStep} → PartAt ctx a path inner t → PartAt ctx (Pi a b) (Dom ∷ path) inner t
    range : {ctx inner : Trees} {a b t : Tree} {path : List PathStep} → PartAt (ctx ▸ a) b path inner t → PartAt ctx (Pi a b) (Ran ∷ path) inner t
    binder : {ctx inner : Trees} {a m t : Tree} {path : List PathStep} → PartAt ctx a path inner t → PartAt ctx (Lam a m) (Dom ∷ path) inner t
    body : {ctx inner : Trees} {a m t : Tree} {path : List PathStep} → PartAt (ctx ▸ a) m path inner t → PartAt ctx (Lam a m) (Body ∷ path) inner t
    function : {ctx inner : Trees} {f u t : Tree} {path : List PathStep} → PartAt ctx f path inner t → PartAt ctx (App f u) (Fun ∷ path) inner t
    argument : {ctx inner : Trees} {f u t : Tree} {path : List PathStep} → PartAt ctx u path inner t → PartAt ctx (App f u) (Arg ∷ path) inner t
    among : {ctx inner us : Trees} {k : ℕ} {t : Tree} {path : List PathStep} → PartAmong ctx us path inner t → PartAt ctx (Const k us) path inner t

  -- The arguments of an instance are counted from 1.
  pub data PartAmong : Trees → Trees → List PathStep → Trees → Tree → Type 0 where
    last : {ctx inner us : Trees} {u t : Tree} {path : List PathStep} → PartAt ctx u path inner t → PartAmong ctx (us ▸ u) (Nth (suc (count us)) ∷ path) inner t
    before : {ctx inner us : Trees} {u t : Tree} {path : List PathStep} → PartAmong ctx us path inner t → PartAmong ctx (us ▸ u) path inner t
