-- An item has at most one verdict, and one cost.
use Rattle.std.specs.Prelude.{◌≡◌, ℕ}
use Rattle.fb_parse.specs.Items.{SurfaceItem}
use Rattle.book_top.specs.Book.{Book}
use Rattle.book_top.specs.Verdict.{Verdict, Verdicts}

pub record JudgedOnce : Type 0 where
  pub once : (b : Book) (i : SurfaceItem) (v w : Verdict) (n m : ℕ) → Verdicts b i v n → Verdicts b i w m → (w ≡ v) × (m ≡ n)
