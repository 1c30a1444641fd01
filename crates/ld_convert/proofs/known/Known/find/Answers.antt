use Rattle.std.proofs.Common.{◌≡◌, false, All, subst, sym}
use Rattle.ld_terms.specs.Bank.{tree_at}
use Rattle.ld_convert.specs.Known.{is_known}
use Rattle.ld_convert.specs.Pairs.{pairs_of, HasTerms, IsFound}
use Rattle.ld_convert.proofs.Finding.{found_pair, none_known}
use Rattle.ld_convert.proofs.known.Known.find.Goals as goal

pub returns-in-Some : goal.returns-in-Some
returns-in-Some c =
    let bank = c.args.bank.now in
    subst (λ ps. IsFound bank ps (tree_at bank c.args.a) (tree_at bank c.args.b) c.in-Some.equal.now) c.self.view_is
    (found_pair bank c.self.inside.equals.entries c.args.a c.args.b c.in-Some.equal.now (sym c.in-Some.ensures.value))

pub returns-in-None : goal.returns-in-None
returns-in-None c =
    let bank = c.args.bank.now in
    let pairs = subst (All (HasTerms bank)) (sym c.self.view_is) c.requires.pairs in
    subst (λ ps. is_known (pairs_of bank ps) (tree_at bank c.args.a) (tree_at bank c.args.b) ≡ false) c.self.view_is
    (none_known bank c.self.inside.equals.entries c.args.a c.args.b c.keeps_once.ensures pairs c.requires.first c.requires.second (sym c.in-None.ensures.value))
