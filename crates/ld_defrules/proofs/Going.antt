-- What a theory stands for, as terms and judgements are added, and then an entry or a flag.
use Rattle.std.proofs.Common.{◌≡◌, ◌++◌, ◌∷◌, [], ℕ, List, ap, sym, ◌∙◌, subst}
use Rattle.ld_terms.specs.Tree.{Tree, Star, Trees, ◌▸◌}
use Rattle.ld_terms.specs.Entry.{Env, Entry}
use Rattle.ld_terms.specs.Bank.{tree_at, IsTermAt}
use Rattle.ld_terms.specs.Known.{Judgement, EntryNote, FlagNote, line_entry, primitive_entry}
use Rattle.ld_terms.specs.declared.bank.TermId.{TermId}
use Rattle.ld_record.specs.declared.record.JudgeId.{JudgeId}
use Rattle.ld_record.specs.Growth.{Knows}
use Rattle.ld_infer.specs.Standing.{Standing, known, env, here, Continues, KnowsSort, AddsEntry, AddsFlag}
use Rattle.ld_infer.specs.Infers.{HasSort}
use Rattle.ld_infer.proofs.Going.{here_stays, tree_stays}
use Rattle.ld_defrules.specs.Judged.{primitive_of, line_of}

-- what is said of a term over the entries and the context later was so before
pub said_before : (P : Env → Trees → Tree → Type 0) (a b : Standing) (t : TermId) → Continues a b → IsTermAt a.items t → P (env b) b.context (tree_at b.items t) → P (env a) a.context (tree_at a.items t)
said_before P a b t h at p =
    let Q : Env → Type 0 = λ e. P e b.context (tree_at b.items t) in
    let R : Trees → Type 0 = λ ctx. P (env a) ctx (tree_at b.items t) in
    subst (P (env a) a.context) (tree_stays a b t h at) (subst R h.context (subst Q h.adds.env p))

-- the judgement of a term and its sort
pub sort_later : (a b : Standing) (t : Tree) (s : TermId × JudgeId) → Continues a b → HasSort a b t s → KnowsSort b s.1 t
sort_later a b t s h has =
    let sort = tree_at b.items s.0 in
    let P : Judgement → Type 0 = λ j. Knows (known b) s.1 j in
    record { sort = sort; is = has.sort; knows = subst P (sym (here_stays a b t sort h)) has.judged }

-- an entry or a flag that is added to what came of adding terms and judgements
pub adds_entry_after : (a b c : Standing) (e f : Entry) → Continues a b → e ≡ f → AddsEntry b c e → AddsEntry a c f
adds_entry_after a b c e f h same k =
    let P : Entry → Type 0 = λ x. AddsEntry a c x in
    subst P same (record {
      env = k.env ∙ ap (λ es. es ++ e ∷ []) h.adds.env;
      notes = k.notes ∙ ap (λ ns. ns ++ EntryNote e ∷ []) h.adds.notes;
      context = k.context ∙ h.context;
    })

-- the entry of a primitive, in the words of before
pub same_primitive : (a b : Standing) (of : TermId) (name : List ℕ) → Continues a b → IsTermAt a.items of
    → primitive_entry name (here b (tree_at b.items of) Star) ≡ primitive_of name a.context (tree_at a.items of)
same_primitive a b of name h at = ap (λ ctx. primitive_of name ctx (tree_at b.items of)) h.context ∙ ap (primitive_of name a.context) (tree_stays a b of h at)

-- the entry of a line, in the words of before
pub same_line : (a b : Standing) (body of : TermId) (name : List ℕ) → Continues a b → IsTermAt a.items body → IsTermAt a.items of
    → line_entry name (here b (tree_at b.items body) (tree_at b.items of)) ≡ line_of name a.context (tree_at a.items body) (tree_at a.items of)
same_line a b body of name h at_body at =
    ap (λ ctx. line_of name ctx (tree_at b.items body) (tree_at b.items of)) h.context
    ∙ ap (λ x. line_of name a.context x (tree_at b.items of)) (tree_stays a b body h at_body)
    ∙ ap (line_of name a.context (tree_at a.items body)) (tree_stays a b of h at)

pub adds_flag_after : (a b c : Standing) (of : TermId) → Continues a b → IsTermAt a.items of → AddsFlag b c (tree_at b.items of) → AddsFlag a c (tree_at a.items of)
adds_flag_after a b c of h at k =
    let P : Tree → Type 0 = λ x. AddsFlag a c x in
    let x = tree_at b.items of in
    subst P (tree_stays a b of h at) (record {
      env = k.env ∙ h.adds.env;
      notes = k.notes ∙ ap (λ ctx. (known b).notes ++ FlagNote ctx x ∷ []) h.context ∙ ap (λ ns. ns ++ FlagNote a.context x ∷ []) h.adds.notes;
      entries = k.entries ∙ h.entries;
      context = k.context ∙ ap (λ ctx. ctx ▸ x) h.context;
    })
