use Rattle.std.proofs.Common.{rules, sym, ◌≡◌, ℕ, List, Result, Ok, Err, MatchResult}
use Rattle.std.proofs.lemmas.Result.{err_from_is_err_and}
use Rattle.fb_parse.proofs.Bodies.{by_fails_1, by_fails_2, by_read, plain_fails, plain_read}
use denote.Enum.Bare.{same_true}
use Rattle.fb_lex.specs.contracts.tokens.Kind.{the_type}
use Rattle.fb_parse.specs.declared.body.BodyPart.{BodyPart}
use Rattle.fb_parse.specs.declared.fault.ParseFault.{ParseFault}
use Rattle.fb_parse.specs.ItemParts.{WayIs, SomeWay, BodyIs, SomeBody}
use Rattle.fb_parse.specs.ItemView.{body_view}
use Rattle.fb_parse.specs.Parts.{Is, IsSign, anywhere, behind_terms}
use Rattle.fb_parse.specs.Reading.{Read, Fails}
use Rattle.fb_lex.specs.declared.tokens.Kind.TheVariants as k
use Rattle.fb_lex.specs.declared.tokens.Token.{Token}
use Rattle.fb_lex.specs.TokenList.{seen}
use Rattle.fb_parse.proofs.body.body.Goals as goal

-- what stands behind `by` was read, or it failed
either : (text : List ℕ) (t u : Token) → t.kind ≡ k.By → Read text (Is (seen text t)) (IsSign k.By) anywhere t u → (r : Result BodyPart ParseFault) →
    MatchResult r (λ p. Read text (WayIs (body_view text p.body)) SomeWay behind_terms u p.next) (Fails text SomeWay behind_terms u) →
    MatchResult r (λ p. Read text (BodyIs (body_view text p.body)) SomeBody behind_terms t p.next) (Fails text SomeBody behind_terms t)
either text t u h r (Ok p) q = by_read text t h r q
either text t u h r (Err f) q = by_fails_2 text t h r q

pub returns-in_err-from-clause-read : goal.returns-in_err-from-clause-read
returns-in_err-from-clause-read c =
    let p = err_from_is_err_and c.from_residual.result c.from_residual.ensures.1 in
    rw (p.1, p.2) (by_fails_1 c.args.text.now c.args.at (search rules) c.in_err-from.ensures.read)

pub returns-then-eq-clause-read : goal.returns-then-eq-clause-read
returns-then-eq-clause-read c = either c.args.text.now c.args.at c.in_ok-from.from (same_true the_type (search rules) _ _ (sym c.if-eq.ensures)) c.in_ok-from.ensures.read c.way.result c.way.ensures.read

pub returns-in_err-plain-clause-read : goal.returns-in_err-plain-clause-read
returns-in_err-plain-clause-read c =
    let p = err_from_is_err_and c.from_residual-in_err-plain.result c.from_residual-in_err-plain.ensures.1 in
    rw (p.1, p.2) (plain_fails c.args.text.now c.args.at (λ q. search rules) c.in_err-plain.ensures.read)

pub returns-clause-read : goal.returns-clause-read
returns-clause-read c = plain_read c.args.text.now c.args.at (λ q. search rules) c.in_ok-plain.ensures.read
