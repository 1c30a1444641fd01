use Rattle.std.proofs.Common.{◌≡◌, ◌<◌, ◌-◌, ◌^◌, ◌++◌, length, ap, ◌∙◌, arith}
use Rattle.std.proofs.lemmas.Result.{on_ok_weaker}
use Rattle.ld_terms.specs.Bank.{tree_at}
use Rattle.ld_env.specs.Named.{names_of}
use Rattle.fb_show.specs.Cut.{cut, own_names}
use Rattle.fb_show.proofs.Cuts.{one_more, text_cut_up_to}
use Rattle.fb_show.proofs.cut.show_cut.Goals as goal

pub returns : goal.returns
returns c =
    let text = c.write.new.out in
    let len = text.ok.0 in
    let within = text.ok.1 in
    let small = text.small in
    let short : length text.items < 2 ^ 64 - 1 = omega (arith, len, within, small) in
    let limit = one_more c.args.most (length text.items) c.saturating_add.result (2 ^ 64 - 1) c.saturating_add.ensures short in
    let cuts = text_cut_up_to (own_names c.args.scope.now) (names_of c.args.env.now) c.deref.result.now c.args.depth (tree_at c.args.bank.now c.args.t) c.saturating_add.result c.args.most
    c.new-text.result.items text.items (c.deref.ensures ∙ c.in_ok-base.ensures) c.new-text.ensures.items limit c.in_ok-write.ensures.filled in
    on_ok_weaker c.put_cut.result
    (λ (q : c.put_cut.new.out.items ≡ c.args.out.now.items ++ cut c.args.most c.deref-2.result.now).
    q ∙ ap (λ v. c.args.out.now.items ++ v) (ap (cut c.args.most) c.deref-2.ensures.value ∙ cuts)) c.put_cut.ensures
