use Rattle.std.proofs.Common.{ℕ, List, subst, position}
use Rattle.std.specs.Str.{bytes_eq}
use Rattle.ld_env.specs.Named.{names_of as names_in}
use Rattle.fb_parse.specs.View.{view}
use Rattle.fb_parse.specs.Items as item
use Rattle.fb_parse.specs.ItemView.{item_view, kind_view, body_view}
use Rattle.book_top.specs.Verdict.{entry_free}
use Rattle.book_top.specs.Told.{TellsStop}
use Rattle.std.proofs.Common.{ap}
use Rattle.book_top.proofs.Telling.{name_taken}
use Rattle.book_top.proofs.item.terms_of.Goals as goal

pub returns-in_err-refuse_taken-in-Prim-clause-reads : goal.returns-in_err-refuse_taken-in-Prim-clause-reads
returns-in_err-refuse_taken-in-Prim-clause-reads c text named =
    let z = c.in_err-refuse_taken-in-Prim.field-0.0 in
    let P : List ℕ → Type 0 = λ x. TellsStop (entry_free c.args.item.now.name (position (bytes_eq x) (names_in c.args.env.now))) z in
    name_taken c.args.scope.now (names_in c.args.env.now) (item_view text c.args.item.now) (item.Prim (view c.in-Prim.of)) z c.from_residual-in_err-refuse_taken-in-Prim.result
    (ap (kind_view text) c.in-Prim.is) (subst P named c.in_err-refuse_taken-in-Prim.ensures.tells) c.from_residual-in_err-refuse_taken-in-Prim.ensures.1

pub returns-in_err-refuse_taken-in-Line-clause-reads : goal.returns-in_err-refuse_taken-in-Line-clause-reads
returns-in_err-refuse_taken-in-Line-clause-reads c text named =
    let z = c.in_err-refuse_taken-in-Line.field-0.0 in
    let P : List ℕ → Type 0 = λ x. TellsStop (entry_free c.args.item.now.name (position (bytes_eq x) (names_in c.args.env.now))) z in
    name_taken c.args.scope.now (names_in c.args.env.now) (item_view text c.args.item.now) (item.Line (body_view text c.in-Line.body) (view c.in-Line.of)) z c.from_residual-in_err-refuse_taken-in-Line.result
    (ap (kind_view text) c.in-Line.is) (subst P named c.in_err-refuse_taken-in-Line.ensures.tells) c.from_residual-in_err-refuse_taken-in-Line.ensures.1
