use Rattle.std.proofs.Common.{◌≡◌, ◌∷◌, [], ◌++◌, false, sym, ap, subst, ◌∙◌, arith}
use Rattle.std.proofs.lemmas.Grind.{common_steps}
use Rattle.indexmap.specs.IndexMap.{insert_entry}
use Rattle.indexmap.proofs.CallerLemmas.{insert_entry-new}
use Rattle.ld_convert.specs.Pairs.{pairs_in, has_pair}
use Rattle.ld_convert.proofs.Finding.{is_key, free_in, pairs_in-push}
use Rattle.ld_convert.proofs.known.Known.add.Goals as goal

pub returns-clause-ok : goal.returns-clause-ok
returns-clause-ok c =
    let pair = c.args.pair in
    let old = c.self.inside.equals in
    let free : has_pair (pairs_in old.entries) pair.left pair.right ≡ false = subst (λ ps. has_pair ps pair.left pair.right ≡ false) (sym c.self.view_is) c.requires in
    let inserted : c.insert.new.self.entries ≡ insert_entry is_key old.entries (pair.left, pair.right) pair.equal = grind (arith, common_steps) in
    let last = insert_entry-new is_key old (pair.left, pair.right) pair.equal (free_in old.entries pair.left pair.right free) in
    ap pairs_in (inserted ∙ last) ∙ pairs_in-push old.entries ((pair.left, pair.right), pair.equal) ∙ ap (λ ps. ps ++ pair ∷ []) c.self.view_is
