use Rattle.std.proofs.Common.{◌<◌, ap, ◌∙◌, arith, length, refl, subst, Bool}
use Rattle.ld_record.specs.Follows.{entry_at}
use Rattle.ld_record.specs.Kept.{known_of}
use Rattle.ld_record.specs.Tables.{prims_of}
use Rattle.ld_record.proofs.Growing.{read_kind, env_known, IsKind}
use Rattle.ld_record.proofs.deriv.Deriv.step_over.Goals as goal

pub index-requires : goal.index-requires
index-requires c =
    omega (arith, c.requires, env_known c.args.bank.now c.args.self.now, ap length c.self.invariant.prims_are, ap (λ ks. length (prims_of ks)) c.self.view_is)

pub returns-then-index : goal.returns-then-index
returns-then-index c =
    let P : Bool → Type 0 = λ p. IsKind p (entry_at (known_of c.args.bank.now c.args.self.now).env c.args.entry).body in
    let below : c.args.entry < length c.self.inside.prims.items =
    omega (arith, c.requires, env_known c.args.bank.now c.args.self.now, ap length c.self.invariant.prims_are, ap (λ ks. length (prims_of ks)) c.self.view_is) in
    let are = c.self.invariant.prims_are ∙ ap prims_of c.self.view_is in
    (refl, subst P c.if-index.true (read_kind c.args.bank.now c.args.self.now c.self.inside.prims.items _ c.args.entry are below c.index.ensures))

pub returns-else-index : goal.returns-else-index
returns-else-index c =
    let P : Bool → Type 0 = λ p. IsKind p (entry_at (known_of c.args.bank.now c.args.self.now).env c.args.entry).body in
    let below : c.args.entry < length c.self.inside.prims.items =
    omega (arith, c.requires, env_known c.args.bank.now c.args.self.now, ap length c.self.invariant.prims_are, ap (λ ks. length (prims_of ks)) c.self.view_is) in
    let are = c.self.invariant.prims_are ∙ ap prims_of c.self.view_is in
    (refl, subst P c.if-index.false (read_kind c.args.bank.now c.args.self.now c.self.inside.prims.items _ c.args.entry are below c.index.ensures))
