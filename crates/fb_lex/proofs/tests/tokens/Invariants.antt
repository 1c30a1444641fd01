use Rattle.std.proofs.Common.{◌≤◌, length, IfSome}
use Rattle.fb_lex.proofs.tests.tokens.Given as goal

-- the previous token lies in the text
abbrev pub invariant-loop-kind : goal.invariant-loop-kind
invariant-loop-kind g l = IfSome l.prev (λ t. t.span.end ≤ length l.text)
