use Rattle.std.proofs.Common.{arith}
use Rattle.std.proofs.lemmas.Result.{on_ok_weaker}
use Rattle.fb_base.proofs.Files.{last_grows}
use Rattle.fb_base.proofs.mem.append_to_last.Goals as goal

pub returns-clause-ok : goal.returns-clause-ok
returns-clause-ok c = on_ok_weaker c.append.result (λ grown. last_grows c.args.files.now.items c.len-last.result c.index_mut.result.now _ c.append.new.self c.args.bytes.now
    c.requires (omega arith) c.index_mut.ensures.value grown) c.append.ensures.ok
