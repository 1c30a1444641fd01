use Rattle.std.proofs.Common.{◌≡◌, ◌<◌, ◌+◌, ◌^◌, ◌++◌, ◌∷◌, [], length, ap, sym, ◌∙◌, subst, arith}
use Rattle.std.proofs.lemmas.Grind.{common_steps}
use Rattle.ld_terms.specs.Known.{Judgement, judgement_at, with_entry}
use Rattle.ld_env.specs.Entries.{entry_of, IsLiveEntry}
use Rattle.ld_record.specs.Kept.{entry_by, known_of}
use Rattle.ld_infer.specs.Standing.{Standing, known, env}
use Rattle.ld_infer.specs.Theory.{context_of}
use Rattle.ld_infer.proofs.Theories.{theory_entry}
use Rattle.ld_infer.proofs.theory.Theory.keep.Goals as goal

pub invariant_of-self-else-is_err : goal.invariant_of-self-else-is_err
invariant_of-self-else-is_err c =
    let name = c.args.name.now in
    let inside : Standing = record { items = c.self.inside.bank; kept = c.self.inside.deriv; entries = c.self.inside.env; context = context_of c.self.inside.bank c.self.inside.variables.items } in
    let j : Standing → Judgement = λ s. judgement_at (known s) c.args.judge.0 in
    let Same : Standing → Type 0 = λ s. entry_of s.items (record { name = name; entry = c.args.entry }) ≡ entry_by c.args.prim name (j s) in
    let Live : Standing → Type 0 = λ s. IsLiveEntry s.items c.args.entry in
    let Room : Standing → Type 0 = λ s. length (env s) + 1 < 2 ^ 32 in
    let back = sym c.self.view_is in
    let known_now : known_of c.self.inside.bank c.entry.new.self ≡ with_entry (known inside) (entry_by c.args.prim c.in_ok-kept.kept (j inside)) = grind (arith, common_steps) in
    theory_entry _ _ _ _ _ _ _ _ _ (record { name = name; entry = c.args.entry }) (entry_by c.args.prim name (j inside)) c.self.invariant c.entry.ensures.sound
    (known_now ∙ ap (λ n. with_entry (known inside) (entry_by c.args.prim n (j inside))) c.in_ok-kept.ensures)
    (subst Same back c.requires.same) (subst Live back c.requires.live)
    (c.in-Ok.ensures.ok ∙ ap (λ n. c.self.inside.env ++ record { name = n; entry = c.args.entry } ∷ []) c.in_ok-found.ensures)
    (subst Room back c.requires.room)
