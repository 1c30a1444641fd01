use Rattle.fb_show.proofs.Utf8.{name_utf8, is_valid}
use Rattle.fb_show.proofs.names.entry_name.Goals as goal

pub unwrap-name-requires : goal.unwrap-name-requires
unwrap-name-requires c = is_valid _ _ c.from_utf8.result c.from_utf8.ensures.cases (λ e h. h.0 (name_utf8 c.name.result.now (c.requires.names c.args.k c.name.result.now c.name.ensures)))
