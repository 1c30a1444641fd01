-- What is read first tells why an item is stopped.
use Rattle.std.proofs.Common.{◌≡◌, ℕ, List, Result, Ok, Err, IsErrAnd, sym, ap, subst}
use Rattle.fb_parse.specs.Items.{SurfaceItem, SurfaceKind}
use Rattle.fb_scope.specs.State.{State}
use Rattle.book_top.specs.declared.item.ItemTerms.{ItemTerms}
use Rattle.book_top.specs.declared.item.ItemStop.{ItemStop}
use Rattle.book_top.specs.declared.item.ItemStop.TheVariants as stop
use Rattle.book_top.specs.Names.{reading_of, ◌>>=◌}
use Rattle.book_top.specs.Verdict.{Verdict, text_refused}
use Rattle.book_top.specs.Told.{free_by, read_by, TellsStop, ReadsItem}

tells_first : {A B : Type 0} (r : Result A Verdict) (g : A → Result B Verdict) (z : ItemStop) → TellsStop r z → TellsStop (r >>= g) z
tells_first r g (stop.Text f) h = ap (λ q. q >>= g) h
tells_first r g stop.ManyFlags h = ap (λ q. q >>= g) h
tells_first r g stop.Memory h = tt
tells_first r g stop.High h = h
tells_first r g (stop.Refused f) h = h
tells_first r g (stop.Budget w) h = h

-- the name isn't free
pub name_taken : (s : State) (names : List (List ℕ)) (i : SurfaceItem) (k : SurfaceKind) (z : ItemStop) (q : Result ItemTerms ItemStop) → i.kind ≡ k
    → TellsStop (free_by s names i k) z → IsErrAnd q (λ y. y ≡ z) → ReadsItem s names i q
name_taken s names i k z (Ok ts) e h is = absurd is
name_taken s names i k z (Err y) e h is =
    let P : SurfaceKind → Type 0 = λ x. TellsStop (free_by s names i x) z in
    let Q : ItemStop → Type 0 = λ x. TellsStop (read_by s names i) x in
    subst Q (sym is) (tells_first (free_by s names i i.kind) (λ free. text_refused (reading_of s names i.span i.kind)) z (subst P (sym e) h))
