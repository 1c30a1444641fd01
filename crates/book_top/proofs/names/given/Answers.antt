use Rattle.std.proofs.Common.{ap, min, sym, ◌∙◌}
use Rattle.book_top.proofs.Listing.{number_views}
use Rattle.book_top.proofs.names.given.Goals as goal

pub returns : goal.returns
returns c = c.min.ensures ∙ ap (λ n. min n 4_294_967_295) (sym (number_views c.args.arguments.now))
