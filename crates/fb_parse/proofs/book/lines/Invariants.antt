use Rattle.std.proofs.Common.{◌≤◌, ◌+◌, ◌-◌, List, length, vec_len}
use Rattle.fb_lex.specs.TokenList.{left}
use Rattle.fb_parse.specs.declared.fault.ParseFault.{ParseFault}
use Rattle.fb_parse.specs.Items.{SurfaceItem}
use Rattle.fb_parse.specs.ItemView.{before_items}
use Rattle.fb_parse.specs.Lines.{LinesAre, LinesFail}
use Rattle.fb_parse.specs.Reading.{Stands}
use Rattle.fb_parse.proofs.book.lines.Given as goal

-- the lines from here on complete the book, and where they fail the book fails
abbrev pub invariant-lines : goal.invariant-lines
invariant-lines l = record {
  stands : Stands l.text l.next;
  read : (is : List SurfaceItem) → LinesAre l.text l.bars l.next is → LinesAre l.text 0 l.fn.first (before_items l.text l.items.items is);
  fails : (f : ParseFault) → LinesFail l.text l.bars (100_000 - vec_len l.items) l.next f → LinesFail l.text 0 100_000 l.fn.first f;
  few : vec_len l.items ≤ 100_000;
  room : l.bars + left l.text l.next ≤ length l.text + 1;
}

abbrev pub decreases-lines : goal.decreases-lines
decreases-lines l = left l.text l.next
