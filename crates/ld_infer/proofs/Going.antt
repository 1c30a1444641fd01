-- What a theory stands for, as terms, contexts and judgements are added.
use Rattle.std.proofs.Common.{◌≡◌, ℕ, List, length, refl, ap, sym, ◌∙◌, subst}
use Rattle.ld_terms.specs.Tree.{Tree, Trees, ◌▸◌, count}
use Rattle.ld_terms.specs.Entry.{Env}
use Rattle.ld_terms.specs.Named.{IsWellFormed}
use Rattle.ld_terms.specs.Item.{Item, tree}
use Rattle.ld_terms.specs.Bank.{Extends, tree_at, IsTermAt}
use Rattle.ld_terms.proofs.Banks.{extends_refl, extends_trans, term_at_later}
use Rattle.ld_terms.specs.Known.{Judgement}
use Rattle.ld_terms.specs.declared.bank.TermId.{TermId}
use Rattle.ld_terms.specs.Derivable.{IsSort}
use Rattle.ld_record.specs.declared.record.JudgeId.{JudgeId}
use Rattle.ld_record.specs.declared.record.Kept.{Kept}
use Rattle.ld_record.specs.Kept.{known_of, IsSound, Begins}
use Rattle.ld_record.specs.Growth.{Knows, Adds}
use Rattle.ld_record.proofs.Keeping.{begins_refl, begins_trans}
use Rattle.ld_record.proofs.Growing.{adds_refl, adds_trans, adds_by, knows_later, known_later}
use Rattle.ld_reduce.specs.Cost.{Goes}
use Rattle.ld_infer.specs.Infers.{IsReadable}
use Rattle.ld_infer.specs.Standing.{Standing, known, env, Continues, here, KnowsSort, Enters, without_last}

pub continues_refl : (s : Standing) → Continues s s
continues_refl s = record { items = extends_refl s.items; kept = begins_refl s.kept; adds = adds_refl (known s); entries = refl; context = refl }

pub continues_trans : (a b c : Standing) → Continues a b → Continues b c → Continues a c
continues_trans a b c h k = record {
  items = extends_trans a.items b.items c.items h.items k.items;
  kept = begins_trans a.kept b.kept c.kept h.kept k.kept;
  adds = adds_trans (known a) (known b) (known c) h.adds k.adds;
  entries = k.entries ∙ h.entries;
  context = k.context ∙ h.context;
}

infixl 10 ◌⨟◌
pub ◌⨟◌ : {a b c : Standing} → Continues a b → Continues b c → Continues a c
h ⨟ k = continues_trans _ _ _ h k

-- the judgement of a term in the context, over all entries, is the same later
pub here_stays : (a b : Standing) (t type : Tree) → Continues a b → here b t type ≡ here a t type
here_stays a b t type h =
    ap (λ (e : ℕ). record (here b t type) { entries = e }) (ap length h.adds.env)
    ∙ ap (λ (ctx : Trees). record (here a t type) { context = ctx }) h.context

pub term_stays : (a b : Standing) (t : TermId) → Continues a b → IsTermAt a.items t → IsTermAt b.items t
term_stays a b t h at = term_at_later a.items b.items t h.items at

pub tree_stays : (a b : Standing) (t : TermId) → Continues a b → IsTermAt a.items t → tree_at b.items t ≡ tree_at a.items t
tree_stays a b t h at = ap tree (h.items.kept t at.live)

pub knows_stays : (a b : Standing) (j : JudgeId) (s : Judgement) → Continues a b → Knows (known a) j s → Knows (known b) j s
knows_stays a b j s h k = knows_later (known a) (known b) j s h.adds k

-- the judgement of a type and its sort, of a term that stays
pub sort_stays : (a b : Standing) (j : JudgeId) (t u : Tree) → Continues a b → t ≡ u → KnowsSort a j t → KnowsSort b j u
sort_stays a b j t u h e k =
    let P : Tree → Type 0 = KnowsSort b j in
    subst P e (record { sort = k.sort; is = k.is; knows = subst (Knows (known b) j) (sym (here_stays a b t k.sort h)) (knows_stays a b j (here a t k.sort) h k.knows) })

-- A variable is put into the context, something is added, and the variable is taken away.
pub continues_around : (a b c d : Standing) (x : Tree) → Enters a b x → Continues b c → d ≡ record c { context = without_last c.context } → Continues a d
continues_around a b c d x enters adds leaves =
    let P : Standing → Type 0 = λ s. Continues a s in
    subst P (sym leaves) (record {
      items = extends_trans a.items b.items c.items enters.items adds.items;
      kept = begins_trans a.kept b.kept c.kept enters.kept adds.kept;
      adds = adds_trans (known a) (known b) (known c) enters.adds adds.adds;
      entries = adds.entries ∙ enters.entries;
      context = ap without_last (adds.context ∙ enters.context);
    })

-- Terms are added, for the values that a theory had and has.
pub continues_items : (old inside : Standing) (items : List Item) (context : Trees) → inside ≡ old → context ≡ inside.context → Extends inside.items items → IsSound inside.items inside.kept
    → Continues old (record { items = items; kept = inside.kept; entries = inside.entries; context = context })
continues_items old inside items context view same e sound =
    let now : Standing = record { items = items; kept = inside.kept; entries = inside.entries; context = context } in
    let P : Standing → Type 0 = λ s. Continues s now in
    subst P view (record {
      items = e;
      kept = begins_refl inside.kept;
      adds = adds_by (known inside) (known inside) (known now) (adds_refl (known inside)) (known_later inside.items items inside.kept e sound);
      entries = refl;
      context = same;
    })

-- Contexts and judgements are added.
pub continues_kept : (old inside : Standing) (kept : List Kept) (context : Trees) → inside ≡ old → context ≡ inside.context → Begins inside.kept kept
    → Adds (known inside) (known_of inside.items kept) → Continues old (record { items = inside.items; kept = kept; entries = inside.entries; context = context })
continues_kept old inside kept context view same begins adds =
    let now : Standing = record { items = inside.items; kept = kept; entries = inside.entries; context = context } in
    let P : Standing → Type 0 = λ s. Continues s now in
    subst P view (record { items = extends_refl inside.items; kept = begins; adds = adds; entries = refl; context = same })

-- Terms, contexts, equalities and judgements are added.
pub continues_goes : (old inside : Standing) (items : List Item) (kept : List Kept) (context : Trees) → inside ≡ old → context ≡ inside.context → Goes inside.items items inside.kept kept
    → Continues old (record { items = items; kept = kept; entries = inside.entries; context = context })
continues_goes old inside items kept context view same goes =
    let now : Standing = record { items = items; kept = kept; entries = inside.entries; context = context } in
    let P : Standing → Type 0 = λ s. Continues s now in
    subst P view (record { items = goes.extends; kept = goes.begins; adds = goes.adds; entries = refl; context = same })

-- A variable is put into the context, for the values that a theory had and has.
pub enters_kept : (old inside : Standing) (kept : List Kept) (context : Trees) (x y : Tree) → inside ≡ old → context ≡ inside.context ▸ x
    → Begins inside.kept kept → Adds (known inside) (known_of inside.items kept) → x ≡ y
    → Enters old (record { items = inside.items; kept = kept; entries = inside.entries; context = context }) y
enters_kept old inside kept context x y view all begins adds e =
    let now : Standing = record { items = inside.items; kept = kept; entries = inside.entries; context = context } in
    let P : Standing → Type 0 = λ s. Enters s now y in
    let Q : Tree → Type 0 = λ t. Enters inside now t in
    subst P view (subst Q e (record { items = extends_refl inside.items; kept = begins; adds = adds; entries = refl; context = all }))

-- a judgement of a term and a sort, kept where more was added
pub sort_known : (a b : Standing) (j : JudgeId) (t u s : Tree) → Continues a b → IsSort s → Knows (known b) j (here a t s) → t ≡ u → KnowsSort b j u
sort_known a b j t u s h is knows e =
    let P : Tree → Type 0 = KnowsSort b j in
    subst P e (record { sort = s; is = is; knows = subst (Knows (known b) j) (sym (here_stays a b t s h)) knows })

-- a tree over the entries and variables that are there is so later
pub formed_later : (a b : Standing) (t u : Tree) → Continues a b → t ≡ u → IsWellFormed (env a) (count a.context) t → IsWellFormed (env b) (count b.context) u
formed_later a b t u h e formed =
    let P : Env → Type 0 = λ Δ. IsWellFormed Δ (count a.context) t in
    let Q : Trees → Type 0 = λ ctx. IsWellFormed (env b) (count ctx) t in
    let R : Tree → Type 0 = IsWellFormed (env b) (count b.context) in
    subst R e (subst Q (sym h.context) (subst P (sym h.adds.env) formed))

-- a term that is read stays so
pub readable_later : (a b : Standing) (t : TermId) → Continues a b → IsReadable a t → IsReadable b t
readable_later a b t h readable = (term_stays a b t h readable.0, formed_later a b (tree_at a.items t) (tree_at b.items t) h (sym (tree_stays a b t h readable.0)) readable.1)
