use Rattle.std.proofs.Common.{◌≡◌, ◌↔◌, Bool, IsTrue, is_none, subst}
use Rattle.ld_terms.specs.Entry.{IsFresh}
use Rattle.dr_check.proofs.Meeting.{found, flipped}
use Rattle.dr_check.proofs.meets.is_fresh.Goals as goal

pub returns : goal.returns
returns c =
    let h : IsTrue (is_none c.find.result) ↔ IsFresh c.args.name.now c.args.checker.now.state.known.env = found _ _ _ _ c.find.result c.env.ensures.trees c.find.ensures.place in
    let e : is_none c.find.result ≡ c.is_none.result = flipped c.is_none.result c.find.result c.is_none.ensures in
    subst (λ (b : Bool). IsTrue b ↔ IsFresh c.args.name.now c.args.checker.now.state.known.env) e h
