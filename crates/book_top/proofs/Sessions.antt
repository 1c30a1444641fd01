-- What stands in the file, as a theory goes on and chunks are written.
use Rattle.std.proofs.Common.{◌≡◌, ◌-◌, ℕ, zero, suc, IsTrue, List, [], ◌∷◌, ◌++◌, length, Option, Some, None, unwrap_or, Ok, Err, IsErrOf, refl, ap, sym, ◌∙◌, subst, arith}
use Rattle.std.proofs.lemmas.List.{take_all}
use Rattle.fb_base.specs.Desk.{Seen, content_of}
use Rattle.ld_terms.specs.Entry.{Env}
use Rattle.ld_terms.specs.Tree.{Trees, Star, Box, Nil, ◌▸◌, count}
use Rattle.ld_terms.specs.Known.{Known, Note}
use Rattle.ld_terms.specs.Record.{start, final}
use Rattle.ld_terms.specs.Item.{Item}
use Rattle.ld_record.specs.declared.record.JudgeId.{JudgeId}
use Rattle.ld_record.specs.declared.record.Kept.{Kept}
use Rattle.ld_record.specs.Kept.{IsSound, known_of}
use Rattle.dr_text.specs.declared.writer.Writer.{Writer}
use Rattle.dr_text.specs.Written.{IsWritten, IsContent, last_judgement}
use Rattle.dr_text.specs.Derives.{Derives}
use Rattle.dr_text.specs.Spelling.{header}
use Rattle.dr_text.proofs.CallerLemmas.{written_later, written_more}
use Rattle.ld_infer.specs.Standing.{Standing, known, env, here, without, Continues, Goes}
use Rattle.fb_base.specs.declared.desk.DeskFault.{DeskFault}
use Rattle.fb_base.specs.declared.desk.DeskFault.TheVariants as desk
use Rattle.fb_parse.specs.Items.{SurfaceItem}
use Rattle.fb_scope.specs.State.{State}
use Rattle.book_top.specs.Chunks.{WritesChunk, LengthensTo, stop_by}
use Rattle.book_top.specs.Left.{IsFront}
use Rattle.book_top.specs.Judged.{IsAccepted}
use Rattle.book_top.specs.Checked.{StopsItem, StopsEnd}

-- what was written stays written as a theory goes on
pub written_on : (a b : Standing) (w : Writer) (content : List ℕ) → Goes a b → IsSound a.items a.kept → IsWritten a.items a.kept w content → IsWritten b.items b.kept w content
written_on a b w content goes sound h = written_more b.items a.kept b.kept w content goes.kept (written_later a.items b.items a.kept w content goes.items sound h)

-- the content of a file that has become longer
pub content_after : (old new : Seen) (Whole : List ℕ → Type 0) → LengthensTo old new Whole → Whole (content_of new old.target)
content_after old new Whole h = subst Whole (sym (ap (λ (o : Option (List ℕ)). unwrap_or o []) h.file)) h.whole

-- a theory went on, and its new records are written
pub item_written : (a b : Standing) (w v : Writer) (old new : Seen) → Goes a b
    → WritesChunk b.items b.kept w v None old new (Ok tt)
    → IsSound a.items a.kept → IsTrue old.tells_files → IsWritten a.items a.kept w (content_of old old.target) → IsWritten b.items b.kept v (content_of new old.target)
item_written a b w v old new goes chunk sound told h =
    content_after old new (IsContent b.items b.kept v None) (chunk told (written_on a b w (content_of old old.target) goes sound h))

-- the last records and the end are written
pub end_written : (a b : Standing) (w v : Writer) (j : JudgeId) (old new : Seen) → Continues a b
    → WritesChunk b.items b.kept w v (Some j) old new (Ok tt)
    → IsSound a.items a.kept → IsTrue old.tells_files → IsWritten a.items a.kept w (content_of old old.target) → Derives (content_of new old.target) (env a) (known a).notes
end_written a b w v j old new goes chunk sound told h =
    let whole : Derives (content_of new old.target) (env b) (known b).notes =
    content_after old new (IsContent b.items b.kept v (Some j)) (chunk told (written_on a b w (content_of old old.target) (record { items = goes.items; kept = goes.kept }) sound h)) in
    let E : Env → Type 0 = λ es. Derives (content_of new old.target) es (known b).notes in
    let N : List Note → Type 0 = λ ns. Derives (content_of new old.target) (env a) ns in
    subst N goes.adds.notes (subst E goes.adds.env whole)

-- what is written once all records are
pub front_of : (items : List Item) (kept : List Kept) (w : Writer) (content : List ℕ) → w.written ≡ length kept → IsWritten items kept w content
    → ((known_of items kept).notes ≡ [] → content ≡ header) → IsFront content (known_of items kept).env (known_of items kept).notes
front_of items kept w content all h none =
    let same : (final start h.records).known ≡ known_of items kept = h.known ∙ ap (known_of items) (take_all w.written kept (omega (arith, all))) in
    record { records = h.records; spelled = h.spelled; stand = h.stand; env_is = ap (λ (k : Known). k.env) same; notes_are = ap (λ (k : Known). k.notes) same; none = none }

-- a chunk that isn't written whole, behind an item
pub item_stopped : (budget : ℕ) (a b : Standing) (scope later : State) (w v : Writer) (old new : Seen) (i : SurfaceItem) (number cost : ℕ) (fault : DeskFault)
    → Goes a b → IsAccepted budget a b scope later i cost
    → (IsErrOf {T = Unit {0}} (Err fault) desk.Failed → v.written ≡ length b.kept) → WritesChunk b.items b.kept w v None old new (Err fault) → StopsItem budget a b scope later w v old new i number (stop_by fault)
item_stopped budget a b scope later w v old new i number cost desk.Failed goes accepted all chunk = λ told sound h.
    record { cost = cost; accepted = accepted; all = all refl; partly = chunk told (written_on a b w (content_of old old.target) goes sound h) }
item_stopped budget a b scope later w v old new i number cost desk.Memory goes accepted all chunk = chunk

-- and at the end
pub end_stopped : (a b : Standing) (w v : Writer) (j : JudgeId) (old new : Seen) (fault : DeskFault) → Continues a b
    → WritesChunk b.items b.kept w v (Some j) old new (Err fault) → StopsEnd a w old new (stop_by fault)
end_stopped a b w v j old new desk.Failed goes chunk = λ told sound h.
    let part = chunk told (written_on a b w (content_of old old.target) (record { items = goes.items; kept = goes.kept }) sound h) in
    let E : Env → Type 0 = λ es. Derives (content_of old old.target ++ part.next) es (known b).notes in
    let N : List Note → Type 0 = λ ns. Derives (content_of old old.target ++ part.next) (env a) ns in
    record { next = part.next; n = part.n; file = part.file; whole = subst N goes.adds.notes (subst E goes.adds.env part.whole) }
end_stopped a b w v j old new desk.Memory goes chunk = chunk

-- without all its variables a context is empty
without_all : (ctx : Trees) (n : ℕ) → n ≡ count ctx → without n ctx ≡ Nil
without_all Nil zero e = refl
without_all Nil (suc n) e = absurd (omega (arith, e))
without_all (ctx ▸ a) zero e = absurd (omega (arith, e))
without_all (ctx ▸ a) (suc n) e = without_all ctx n (omega (arith, e))

-- all variables are taken away
pub closed_all : (a b : Standing) → b ≡ record a { context = without (count a.context - 0) a.context } → b ≡ record a { context = Nil }
closed_all a b e = e ∙ ap (λ (ctx : Trees). record a { context = ctx }) (without_all a.context (count a.context - 0) (omega arith))

-- in the empty context, the judgement of * and box is the last one
pub ends_so : (a b : Standing) → a.context ≡ Nil → Continues a b → here a Star Box ≡ last_judgement (known b)
ends_so a b flat goes =
    ap (λ (ctx : Trees). record (here a Star Box) { context = ctx }) flat
    ∙ ap (λ (es : Env). record (last_judgement (known b)) { entries = length es }) (sym goes.adds.env)

-- a list with one more isn't empty
pub never_empty : (notes : List Note) (n : Note) → notes ++ n ∷ [] ≡ [] → ⊥
never_empty [] n e = cc
never_empty (x ∷ xs) n e = cc
