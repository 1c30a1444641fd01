use Rattle.std.proofs.Common.{◌≡◌, length, ap, sym, ◌∙◌}
use Rattle.ld_terms.specs.Record.{params_at}
use Rattle.dr_check.proofs.Meeting.{params_of, as_many}
use Rattle.dr_check.proofs.make.has_params.Goals as goal

pub returns-in-Some : goal.returns-in-Some
returns-in-Some c =
    let env = c.args.checker.now.state.known.env in
    let params : params_at env c.narrowed.result ≡ length c.in-Some.entry.now.params = params_of c.args.checker.now.items env c.narrowed.result c.in-Some.entry.now c.in-Some.ensures in
    as_many (length c.as_slice.result.now) c.args.number (params_at env c.args.k)
    (ap (params_at env) (sym c.narrowed.ensures) ∙ params ∙ sym (ap length c.as_slice.ensures))
