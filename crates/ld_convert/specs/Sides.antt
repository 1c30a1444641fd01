-- The sides of a comparison that are unfolded.
use Rattle.std.specs.Prelude.{◌≡◌, ℕ, Bool, true, false, is_some, List, [], ◌∷◌, Result, Ok, Err}
use Rattle.ld_terms.specs.Tree.{Tree}
use Rattle.ld_terms.specs.Entry.{Env}
use Rattle.ld_terms.specs.Item.{Item}
use Rattle.ld_terms.specs.Bank.{tree_at, IsTermAt}
use Rattle.ld_terms.specs.Known.{Known}
use Rattle.ld_terms.specs.declared.bank.TermId.{TermId}
use Rattle.ld_record.specs.declared.record.EqId.{EqId}
use Rattle.ld_reduce.specs.Task.{Pairs, Gives}
use Rattle.ld_reduce.specs.Heads.{At, Way, Unfold, delta_step}
use Rattle.ld_reduce.specs.Work.{Work}
use Rattle.ld_reduce.specs.Cost.{Equates, Stops}
use Rattle.ld_reduce.specs.Cost as cost
use Rattle.ld_reduce.specs.declared.stop.Stop.{Stop}
use Rattle.ld_convert.specs.Compares.{Side, Left, Right, unfolded}
use Rattle.ld_convert.specs.Account.{Comes, StopsTask}
use Rattle.ld_convert.specs.Turned.{IsLed}
use Rattle.ld_convert.specs.declared.sides.Sides.{Sides}
use Rattle.ld_convert.specs.declared.turning.Led.{Led}

abbrev pub sides_by : (left right : Bool) → List Side
sides_by false false = []
sides_by true false = Left ∷ []
sides_by false true = Right ∷ []
sides_by true true = Left ∷ Right ∷ []

abbrev pub sides_in : Sides → List Side
sides_in s = sides_by s.left s.right

-- each side that is to be unfolded has an unfolding
pub record CanUnfold (env : Env) (s : Sides) (a b : Tree) : Type 0 where
  pub left : s.left ≡ true → is_some (delta_step env a) ≡ true
  pub right : s.right ≡ true → is_some (delta_step env b) ≡ true

-- a tree that stays, and one that is unfolded where that is wanted
abbrev pub Stays : Tree → Way
Stays t r n = (r ≡ At t) × (n ≡ 0)

abbrev pub UnfoldsIf : Env → (wanted : Bool) → Tree → Way
UnfoldsIf env true t = Unfold env t
UnfoldsIf env false t = Stays t

-- where such a way comes to, with an equality
pub record IsReached (way : Way) (t : Tree) (bound : ℕ) (items : List Item) (known : Known) (old new : Work) (p : TermId × EqId) : Type 0 where
  pub term : IsTermAt items p.0
  pub comes : cost.Comes way (At (tree_at items p.0)) old new
  pub equal : Equates known p.1 t (tree_at items p.0) bound

abbrev pub SideAs : Way → (t : Tree) (bound : ℕ) → List Item → Known → (old new : Work) → Result (TermId × EqId) Stop → Type 0
SideAs way t bound items known old new (Ok p) = IsReached way t bound items known old new p
SideAs way t bound items known old new (Err s) = Stops way s old new

-- the two after the sides are unfolded
abbrev pub UnfoldsAs : Env → Sides → (a b : Tree) (bound : ℕ) → List Item → Known → Pairs → (old new : Work) → Result Led Stop → Type 0
UnfoldsAs env s a b bound items known K old new (Ok l) =
    Comes (unfolded env (sides_in s) a b) K (Gives (tree_at items l.left, tree_at items l.right)) K old new × IsLed items known a b bound l
UnfoldsAs env s a b bound items known K old new (Err f) = StopsTask (unfolded env (sides_in s) a b) K K old new f
