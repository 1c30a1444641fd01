-- What the tables say stays as terms are added to the bank, and grows by what is added to a table.
use Rattle.std.proofs.Common.{◌≡◌, ◌<◌, ◌≤◌, ◌+◌, ℕ, List, [], ◌∷◌, ◌++◌, length, map, get_or, All, Some, refl, ap, sym, ◌∙◌, subst, arith}
use Rattle.std.proofs.lemmas.List.{map-append, length_push, get_or_append_left, get_or_at, length-map}
use Rattle.std.proofs.lemmas.List.Elements.{All-push, All-head, All-tail}
use Rattle.ld_terms.specs.Tree.{Tree, Trees}
use Rattle.ld_terms.specs.Item.{Item, tree, list}
use Rattle.ld_terms.specs.Bank.{tree_at, list_at, Extends, IsTermAt, IsListAt}
use Rattle.ld_terms.specs.declared.bank.TermId.{TermId}
use Rattle.ld_terms.proofs.Banks.{term_at_later, list_at_later}
use Rattle.ld_terms.specs.Entry.{Entry, Env}
use Rattle.ld_terms.specs.Record.{State, with_term}
use Rattle.ld_terms.specs.Known.{EntryNote, Equality, Judgement, no_judgement, primitive_entry, judgement_at, with_context, with_equality, with_node, with_flag, with_entry}
use Rattle.ld_env.specs.Named.{Named}
use Rattle.ld_env.specs.Entries.{entry_of, env_of, IsLiveEntry, AreLive}
use Rattle.ld_env.proofs.CallerLemmas.{env_of-append, env_of-later, live-later, live-push, length-env_of}
use Rattle.dr_check.specs.declared.checker.Judged.{Judged}
use Rattle.dr_check.specs.declared.checker.Equated.{Equated}
use Rattle.dr_check.specs.declared.checker.Noted.{Noted}
use Rattle.dr_check.specs.declared.checker.Noted.TheVariants as noted
use Rattle.dr_check.specs.Stage.{judgement_of, equality_of, flag_note, note_of, state_of, IsJudgedAt, IsEquatedAt, IsNoted, AreTables}

-- two functions that agree on the elements of a list
pub map_agree : {A B : Type 0} (f g : A → B) (P : A → Type 0) (xs : List A) → ((x : A) → P x → f x ≡ g x) → All P xs → map f xs ≡ map g xs
map_agree f g P [] same all = refl
map_agree f g P (x ∷ xs) same all = (λ i. same x (All-head P x xs all) i ∷ map_agree f g P xs same (All-tail P x xs all) i)

pub all_later : {A : Type 0} (P Q : A → Type 0) (xs : List A) → ((x : A) → P x → Q x) → All P xs → All Q xs
all_later P Q xs then all = λ k d l. then (get_or xs k d) (all k d l)

-- over a bank with more terms

pub tree_later : (old new : List Item) (t : TermId) → Extends old new → IsTermAt old t → tree_at new t ≡ tree_at old t
tree_later old new t e h = ap tree (e.kept t h.live)

pub list_later : (old new : List Item) (t : TermId) → Extends old new → IsListAt old t → list_at new t ≡ list_at old t
list_later old new t e h = ap list (e.kept t h.live)

pub judged_later : (old new : List Item) (n : Judged) → Extends old new → IsJudgedAt old n → IsJudgedAt new n
judged_later old new n e h = record { ctx = list_at_later old new n.ctx e h.ctx; term = term_at_later old new n.term e h.term; of = term_at_later old new n.of e h.of }

pub equated_later : (old new : List Item) (n : Equated) → Extends old new → IsEquatedAt old n → IsEquatedAt new n
equated_later old new n e h = record { left = term_at_later old new n.left e h.left; right = term_at_later old new n.right e h.right }

judgement_later : (old new : List Item) (n : Judged) → Extends old new → IsJudgedAt old n → judgement_of new n ≡ judgement_of old n
judgement_later old new n e h =
    let made : Trees → Tree → Tree → Judgement = λ ctx t u. record { entries = n.entries; context = ctx; term = t; type = u } in
    (λ i. made (list_later old new n.ctx e h.ctx i) (tree_later old new n.term e h.term i) (tree_later old new n.of e h.of i))

equality_later : (old new : List Item) (n : Equated) → Extends old new → IsEquatedAt old n → equality_of new n ≡ equality_of old n
equality_later old new n e h =
    let made : Tree → Tree → Equality = λ l r. record { left = l; right = r; bound = n.bound } in
    (λ i. made (tree_later old new n.left e h.left i) (tree_later old new n.right e h.right i))

module _ (old new : List Item) (entries : List Named) (terms contexts : List TermId) (equalities : List Equated) (nodes : List Judged) (notes : List Noted)
    (e : Extends old new) (are : AreTables old entries terms contexts equalities nodes notes) where
  pub tables_later : AreTables new entries terms contexts equalities nodes notes
  tables_later = record {
    live = live-later old new entries e are.live;
    terms_are = all_later (IsTermAt old) (IsTermAt new) terms (λ t h. term_at_later old new t e h) are.terms_are;
    contexts_are = all_later (IsListAt old) (IsListAt new) contexts (λ t h. list_at_later old new t e h) are.contexts_are;
    equalities_are = all_later (IsEquatedAt old) (IsEquatedAt new) equalities (λ q h. equated_later old new q e h) are.equalities_are;
    nodes_are = all_later (IsJudgedAt old) (IsJudgedAt new) nodes (λ n h. judged_later old new n e h) are.nodes_are;
    notes_are = are.notes_are;
  }

  pub state_later : state_of new entries terms contexts equalities nodes notes ≡ state_of old entries terms contexts equalities nodes notes
  state_later =
      let made : List Tree → List Trees → List Equality → List Judgement → Env → State =
      λ ts cs qs ns env. record { terms = ts; known = record { contexts = cs; equalities = qs; nodes = ns; env = env; notes = map (note_of ns env) notes } } in
      let ts = map_agree (tree_at new) (tree_at old) (IsTermAt old) terms (λ t h. tree_later old new t e h) are.terms_are in
      let cs = map_agree (list_at new) (list_at old) (IsListAt old) contexts (λ t h. list_later old new t e h) are.contexts_are in
      let qs = map_agree (equality_of new) (equality_of old) (IsEquatedAt old) equalities (λ q h. equality_later old new q e h) are.equalities_are in
      let ns = map_agree (judgement_of new) (judgement_of old) (IsJudgedAt old) nodes (λ n h. judgement_later old new n e h) are.nodes_are in
      let env = env_of-later old new entries e are.live in
      (λ i. made (ts i) (cs i) (qs i) (ns i) (env i))

-- the tables are sound, and say this
pub record Say (items : List Item) (entries : List Named) (terms contexts : List TermId) (equalities : List Equated) (nodes : List Judged) (notes : List Noted) (s : State) : Type 0 where
  pub tables : AreTables items entries terms contexts equalities nodes notes
  pub state : state_of items entries terms contexts equalities nodes notes ≡ s

pub say_later : (old new : List Item) (entries : List Named) (terms contexts : List TermId) (equalities : List Equated) (nodes : List Judged) (notes : List Noted) (s : State)
    → Extends old new → Say old entries terms contexts equalities nodes notes s → Say new entries terms contexts equalities nodes notes s
say_later old new entries terms contexts equalities nodes notes s e h = record {
  tables = tables_later old new entries terms contexts equalities nodes notes e h.tables;
  state = state_later old new entries terms contexts equalities nodes notes e h.tables ∙ h.state;
}

-- notes stay as nodes and entries are added
noted_later : (nodes entries more more' : ℕ) (n : Noted) → nodes ≤ more → entries ≤ more' → IsNoted nodes entries n → IsNoted more more' n
noted_later nodes entries more more' (noted.Flag n) a b h = omega (arith, h)
noted_later nodes entries more more' (noted.Entry k) a b h = omega (arith, h)

node_note_later : (ns : List Judgement) (j : Judgement) (env : Env) (n : Noted) → IsNoted (length ns) (length env) n → note_of (ns ++ j ∷ []) env n ≡ note_of ns env n
node_note_later ns j env (noted.Flag n) h = ap flag_note (get_or_append_left ns (j ∷ []) no_judgement n h)
node_note_later ns j env (noted.Entry k) h = refl

entry_note_later : (ns : List Judgement) (env : Env) (x : Entry) (n : Noted) → IsNoted (length ns) (length env) n → note_of ns (env ++ x ∷ []) n ≡ note_of ns env n
entry_note_later ns env x (noted.Flag n) h = refl
entry_note_later ns env x (noted.Entry k) h = ap EntryNote (get_or_append_left env (x ∷ []) (primitive_entry [] no_judgement) k h)

module _ (items : List Item) (entries : List Named) (terms contexts : List TermId) (equalities : List Equated) (nodes : List Judged) (notes : List Noted) (s : State)
    (h : Say items entries terms contexts equalities nodes notes s) where
  pub term_said : (new : List TermId) (t : TermId) (u : Tree) → new ≡ terms ++ t ∷ [] → IsTermAt items t → tree_at items t ≡ u
      → Say items entries new contexts equalities nodes notes (with_term s (Some u))
  term_said new t u push at is =
      let made : List TermId → State = λ ts. state_of items entries ts contexts equalities nodes notes in
      record {
        tables = record {
          live = h.tables.live;
          terms_are = subst (All (IsTermAt items)) (sym push) (All-push (IsTermAt items) terms t h.tables.terms_are at);
          contexts_are = h.tables.contexts_are;
          equalities_are = h.tables.equalities_are;
          nodes_are = h.tables.nodes_are;
          notes_are = h.tables.notes_are;
        };
        state =
            ap made push
            ∙ ap (λ ts. record (made terms) { terms = ts }) (map-append (tree_at items) terms (t ∷ []))
            ∙ ap (λ x. with_term (made terms) (Some x)) is
            ∙ ap (λ x. with_term x (Some u)) h.state;
      }

  pub context_said : (new : List TermId) (c : TermId) (us : Trees) → new ≡ contexts ++ c ∷ [] → IsListAt items c → list_at items c ≡ us
      → Say items entries terms new equalities nodes notes (record s { known = with_context s.known us })
  context_said new c us push at is =
      let made : List TermId → State = λ cs. state_of items entries terms cs equalities nodes notes in
      record {
        tables = record {
          live = h.tables.live;
          terms_are = h.tables.terms_are;
          contexts_are = subst (All (IsListAt items)) (sym push) (All-push (IsListAt items) contexts c h.tables.contexts_are at);
          equalities_are = h.tables.equalities_are;
          nodes_are = h.tables.nodes_are;
          notes_are = h.tables.notes_are;
        };
        state =
            ap made push
            ∙ ap (λ cs. record (made contexts) { known = record (made contexts).known { contexts = cs } }) (map-append (list_at items) contexts (c ∷ []))
            ∙ ap (λ x. record (made contexts) { known = with_context (made contexts).known x }) is
            ∙ ap (λ (x : State). record x { known = with_context x.known us }) h.state;
      }

  pub equality_said : (new : List Equated) (q : Equated) → new ≡ equalities ++ q ∷ [] → IsEquatedAt items q
      → Say items entries terms contexts new nodes notes (record s { known = with_equality s.known (equality_of items q) })
  equality_said new q push at =
      let made : List Equated → State = λ qs. state_of items entries terms contexts qs nodes notes in
      record {
        tables = record {
          live = h.tables.live;
          terms_are = h.tables.terms_are;
          contexts_are = h.tables.contexts_are;
          equalities_are = subst (All (IsEquatedAt items)) (sym push) (All-push (IsEquatedAt items) equalities q h.tables.equalities_are at);
          nodes_are = h.tables.nodes_are;
          notes_are = h.tables.notes_are;
        };
        state =
            ap made push
            ∙ ap (λ qs. record (made equalities) { known = record (made equalities).known { equalities = qs } }) (map-append (equality_of items) equalities (q ∷ []))
            ∙ ap (λ (x : State). record x { known = with_equality x.known (equality_of items q) }) h.state;
      }

  noted_all : All (IsNoted (length (map (judgement_of items) nodes)) (length (env_of items entries))) notes
  noted_all =
      let one = length-map nodes (judgement_of items) in
      let two = length-env_of items entries in
      all_later (IsNoted (length nodes) (length entries)) (IsNoted (length (map (judgement_of items) nodes)) (length (env_of items entries))) notes
      (λ n x. noted_later (length nodes) (length entries) (length (map (judgement_of items) nodes)) (length (env_of items entries)) n (omega arith) (omega arith) x) h.tables.notes_are

  pub node_said : (new : List Judged) (n : Judged) → new ≡ nodes ++ n ∷ [] → IsJudgedAt items n
      → Say items entries terms contexts equalities new notes (record s { known = with_node s.known (judgement_of items n) })
  node_said new n push at =
      let made : List Judged → State = λ ns. state_of items entries terms contexts equalities ns notes in
      let ns = map (judgement_of items) nodes in
      let env = env_of items entries in
      let more : List Judgement = ns ++ judgement_of items n ∷ [] in
      let same : map (note_of more env) notes ≡ map (note_of ns env) notes =
      map_agree (note_of more env) (note_of ns env) (IsNoted (length ns) (length env)) notes (λ x i. node_note_later ns (judgement_of items n) env x i) noted_all in
      record {
        tables = record {
          live = h.tables.live;
          terms_are = h.tables.terms_are;
          contexts_are = h.tables.contexts_are;
          equalities_are = h.tables.equalities_are;
          nodes_are = subst (All (IsJudgedAt items)) (sym push) (All-push (IsJudgedAt items) nodes n h.tables.nodes_are at);
          notes_are =
              all_later (IsNoted (length nodes) (length entries)) (IsNoted (length new) (length entries)) notes
              (λ x i. noted_later (length nodes) (length entries) (length new) (length entries) x (omega (arith, ap length push, length_push nodes n)) (omega arith) i) h.tables.notes_are;
        };
        state =
            ap made push
            ∙ ap (λ x. record (made nodes) { known = record (made nodes).known { nodes = x; notes = map (note_of x env) notes } }) (map-append (judgement_of items) nodes (n ∷ []))
            ∙ ap (λ x. record (made nodes) { known = record (made nodes).known { nodes = more; notes = x } }) same
            ∙ ap (λ (x : State). record x { known = with_node x.known (judgement_of items n) }) h.state;
      }

  pub flag_said : (new : List Noted) (n : ℕ) → new ≡ notes ++ noted.Flag n ∷ [] → n < length nodes
      → Say items entries terms contexts equalities nodes new (record s { known = with_flag s.known (judgement_at s.known n) })
  flag_said new n push within =
      let made : List Noted → State = λ xs. state_of items entries terms contexts equalities nodes xs in
      let ns = map (judgement_of items) nodes in
      let env = env_of items entries in
      record {
        tables = record {
          live = h.tables.live;
          terms_are = h.tables.terms_are;
          contexts_are = h.tables.contexts_are;
          equalities_are = h.tables.equalities_are;
          nodes_are = h.tables.nodes_are;
          notes_are = subst (All (IsNoted (length nodes) (length entries))) (sym push) (All-push (IsNoted (length nodes) (length entries)) notes (noted.Flag n) h.tables.notes_are within);
        };
        state =
            ap made push
            ∙ ap (λ x. record (made notes) { known = record (made notes).known { notes = x } }) (map-append (note_of ns env) notes (noted.Flag n ∷ []))
            ∙ ap (λ (x : State). record x { known = with_flag x.known (judgement_at x.known n) }) h.state;
      }

  -- an entry under the next number, with its note
  pub entry_said : (new : List Named) (more : List Noted) (x : Named) (e : Entry) → new ≡ entries ++ x ∷ [] → more ≡ notes ++ noted.Entry (length entries) ∷ []
      → IsLiveEntry items x.entry → entry_of items x ≡ e
      → Say items new terms contexts equalities nodes more (record s { known = with_entry s.known e })
  entry_said new more x e push noting at is =
      let made : List Named → List Noted → State = λ es xs. state_of items es terms contexts equalities nodes xs in
      let ns = map (judgement_of items) nodes in
      let env = env_of items entries in
      let longer : Env = env ++ entry_of items x ∷ [] in
      let within : length new ≡ length entries + 1 = omega (arith, ap length push, length_push entries x) in
      let same : map (note_of ns longer) notes ≡ map (note_of ns env) notes =
      map_agree (note_of ns longer) (note_of ns env) (IsNoted (length ns) (length env)) notes (λ n i. entry_note_later ns env (entry_of items x) n i) noted_all in
      let last : note_of ns longer (noted.Entry (length entries)) ≡ EntryNote (entry_of items x) =
      ap EntryNote (get_or_at env (entry_of items x) [] (primitive_entry [] no_judgement) (length entries) (length-env_of items entries)) in
      let noted_before : All (IsNoted (length nodes) (length new)) notes =
      all_later (IsNoted (length nodes) (length entries)) (IsNoted (length nodes) (length new)) notes
      (λ n i. noted_later (length nodes) (length entries) (length nodes) (length new) n (omega arith) (omega arith) i) h.tables.notes_are in
      record {
        tables = record {
          live = subst (AreLive items) (sym push) (live-push items entries x h.tables.live at);
          terms_are = h.tables.terms_are;
          contexts_are = h.tables.contexts_are;
          equalities_are = h.tables.equalities_are;
          nodes_are = h.tables.nodes_are;
          notes_are = subst (All (IsNoted (length nodes) (length new))) (sym noting) (All-push (IsNoted (length nodes) (length new)) notes (noted.Entry (length entries)) noted_before (omega arith));
        };
        state =
            (λ i. made (push i) (noting i))
            ∙ ap (λ y. record (made entries notes) { known = record (made entries notes).known { env = y; notes = map (note_of ns y) (notes ++ noted.Entry (length entries) ∷ []) } }) (env_of-append items entries (x ∷ []))
            ∙ ap (λ y. record (made entries notes) { known = record (made entries notes).known { env = longer; notes = y } })
            (map-append (note_of ns longer) notes (noted.Entry (length entries) ∷ []) ∙ (λ i. same i ++ last i ∷ []))
            ∙ ap (λ y. record (made entries notes) { known = with_entry (made entries notes).known y }) is
            ∙ ap (λ (y : State). record y { known = with_entry y.known e }) h.state;
      }
