-- With an item that is accepted, a legal book is legal again.
use Rattle.std.specs.Prelude.{◌≡◌, ℕ, List, Ok}
use Rattle.ld_terms.specs.Known.{Note}
use Rattle.fb_parse.specs.Items.{SurfaceItem}
use Rattle.book_top.specs.Book.{Book, Reading, empty}
use Rattle.book_top.specs.Verdict.{Verdicts, Accepted, read_item}
use Rattle.book_top.specs.Spells.{item_book, Accepts}
use Rattle.book_top.specs.Rightness.{IsLegalBook}

pub record BooksGrow : Type 0 where
  pub with_one : (b : Book) (i : SurfaceItem) (r : Reading) (n : ℕ) → IsLegalBook b → read_item b i ≡ Ok r → Verdicts b i Accepted n → IsLegalBook (item_book i r b)
  pub with_all : (budget : ℕ) (items : List SurfaceItem) (notes : List Note) (b : Book) (cost : ℕ) → Accepts budget empty items notes b cost → IsLegalBook b
