use Rattle.std.proofs.Common.{◌<◌, List}
use Rattle.fb_lex.specs.declared.tokens.Token.{Token}
use Rattle.fb_lex.specs.TokenList.{left}
use Rattle.fb_parse.specs.declared.fault.ParseFault.{ParseFault}
use Rattle.fb_parse.specs.Items.{SurfaceArg}
use Rattle.fb_parse.specs.ItemParts.{ArgsAre, SomeArgs}
use Rattle.fb_parse.specs.ItemView.{before_args}
use Rattle.fb_parse.specs.Parts.{behind_terms}
use Rattle.fb_parse.specs.Reading.{Read, Fails, Stands}
use Rattle.fb_parse.proofs.MoreParts.{MoreArgsAre, SomeMoreArgs}
use Rattle.fb_parse.proofs.body.args.Given as goal

-- what is read from here on completes what is to be read, and what fails here fails there
abbrev pub invariant-loop-next : goal.invariant-loop-next
invariant-loop-next l = record {
  stands : Stands l.text l.next;
  read : (ys : List SurfaceArg) (u : Token) → Read l.text (MoreArgsAre ys) SomeMoreArgs behind_terms l.next u →
      Read l.text (ArgsAre (before_args l.args.items ys)) SomeArgs behind_terms l.fn.at u;
  fails : (f : ParseFault) → Fails l.text SomeMoreArgs behind_terms l.next f → Fails l.text SomeArgs behind_terms l.fn.at f;
  later : left l.text l.next < left l.text l.fn.at;
}

abbrev pub decreases-loop-next : goal.decreases-loop-next
decreases-loop-next l = left l.text l.next
