-- The records of a derivation are written, one after another.
use Rattle.std.proofs.Common.{◌≡◌, ◌<◌, ◌+◌, ℕ, zero, suc, true, false, Some, None, List, [], ◌∷◌, ◌++◌, length, take, get_or, refl, ap, sym, ◌∙◌, subst, arith, append_assoc}
use Rattle.std.specs.Prelude.{Bool, slice_get}
use Rattle.std.proofs.lemmas.List.{append-nil, take_more, take_all}
use Rattle.std.proofs.lemmas.Option.{get_or_from_slice_get}
use mathlib.Core.Path.{subst₂}
use Rattle.ld_terms.specs.Tree.{Tree, Star, ◌▸◌}
use Rattle.ld_terms.specs.Item.{Item}
use Rattle.ld_terms.specs.Bank.{tree_at}
use Rattle.ld_terms.specs.Known.{Known, nothing, Equality, Judgement, context_at, bound_by, MayEnd, with_context, with_equality, with_node}
use Rattle.ld_terms.specs.Record.{Record, State, start, term_at, IsThere, Meets, IsNoEnd, after, final}
use Rattle.ld_terms.specs.declared.bank.TermId.{TermId}
use Rattle.ld_record.specs.declared.record.CtxId.{CtxId}
use Rattle.ld_record.specs.declared.record.JudgeId.{JudgeId}
use Rattle.ld_record.specs.declared.record.Judge.{Judge}
use Rattle.ld_record.specs.declared.record.EqStep.{EqStep}
use Rattle.ld_record.specs.declared.record.Step.{Step}
use Rattle.ld_record.specs.declared.record.Kept.{Kept}
use Rattle.ld_record.specs.declared.record.Kept.TheVariants.{Context, Equal, Node, Entry, Flag}
use Rattle.ld_record.specs.Follows.{rule_of, Follows}
use Rattle.ld_record.specs.Equal.{eq_rule_of, FollowsEqual}
use Rattle.ld_record.specs.Growth.{Knows}
use Rattle.ld_record.specs.Kept.{with_kept, known_after, known_of, judgement_of, equality_of, FitsEqual, FitsNode, Fits, AreSound, IsSound}
use Rattle.dr_text.specs.declared.terms.Terms.{Terms}
use Rattle.dr_text.specs.declared.writer.Writer.{Writer}
use Rattle.ld_terms.specs.Named.{IsNamed}
use Rattle.dr_text.specs.Spelling.{header, record_bytes, records_bytes, spelling}
use Rattle.dr_text.specs.Written.{Matches, Writes, Pushes, Numbers, Reached, WritesKept, HasTerms, HasNamedTerms, Carries, Appends, last_judgement, entry_record}
use Rattle.dr_text.proofs.Records.{final-append, stand-append, records_bytes-append, writes_none, writes_then, writes_more}
use Rattle.ld_record.proofs.Keeping.{known_after-push}
use Rattle.ld_record.proofs.Rules.{follows_by, premises_there}
use Rattle.ld_record.proofs.Equals.{equal_by, equalities_there}
use Rattle.ld_record.proofs.Named.{none_named}
use Rattle.dr_text.proofs.Named.{names_at}

-- the numbers depend on the terms alone
matches_by : (items : List Item) (terms : Terms) (s x : State) → x.terms ≡ s.terms → Matches items terms s → Matches items terms x
matches_by items terms s x same h = record {
  all = ap length same ∙ h.all;
  each = λ t n k. let was = h.each t n k in record {
    live = was.live;
    there = omega (arith, was.there, ap length same);
    is = ap (λ ts. get_or ts n Star) same ∙ was.is;
  };
}

-- a record is written behind others, which reach the state x
reached_last : (items : List Item) (s x : State) (terms : Terms) (a c later : List ℕ) (r : Record) (known : Known) (w : Writes s a c) → final s w.records ≡ x
    → Matches items terms x → IsNoEnd r → Pushes c later r → IsThere x r → Meets x r → (after x r).terms ≡ x.terms → (after x r).known ≡ known
    → Reached items s terms a later known
reached_last items s x terms a c later r known w reach matches no_end pushes there meets same makes =
    let all = writes_more s a c later w x r reach no_end (record { spelling = pushes.spelling; there = there; meets = meets }) pushes.bytes in
    record {
      writes = all.0;
      knows = ap (λ (y : State). y.known) all.1 ∙ makes;
      matches = matches_by items terms x (final s all.0.records) (ap (λ (y : State). y.terms) all.1 ∙ same) matches;
    }

pub context_written : (items : List Item) (old new : Terms) (before c later : List ℕ) (ctx : CtxId) (t : TermId) (n : ℕ)
    → Numbers items old new before c (tree_at items t) n → Pushes c later (Record.Context ctx.0 n) → WritesKept items old new before later (Context ctx t)
context_written items old new before c later ctx t n first pushes s matches fits named =
    let one = first s matches named in
    let x = final s one.writes.records in
    let B : Known → Type 0 = λ k. ctx.0 < length k.contexts in
    reached_last items s x new before c later (Record.Context ctx.0 n) _ one.writes refl one.matches tt pushes
    (subst B (sym one.adds.known) fits.context, one.there) tt refl
    (ap (λ (u : Tree). with_context x.known (context_at x.known ctx.0 ▸ u)) one.is
    ∙ ap (λ (k : Known). with_context k (context_at k ctx.0 ▸ tree_at items t)) one.adds.known)

-- a judgement, where the state x has its term and its type
node_reached : (items : List Item) (s x : State) (terms : Terms) (a c later : List ℕ) (judge : Judge) (rule : Step) (t u : ℕ) (w : Writes s a c) → final s w.records ≡ x
    → Matches items terms x → Pushes c later (Record.Node judge.entries judge.ctx.0 t u (rule_of rule)) → FitsNode items x.known judge rule
    → t < length x.terms → u < length x.terms → term_at x t ≡ tree_at items judge.term → term_at x u ≡ tree_at items judge.of
    → Reached items s terms a later (with_kept items x.known (Node judge rule))
node_reached items s x terms a c later judge rule t u w reach matches pushes fits t_there u_there t_is u_is =
    let q : Judgement = record { entries = judge.entries; context = context_at x.known judge.ctx.0; term = term_at x t; type = term_at x u } in
    let is : q ≡ judgement_of items x.known judge =
    ap (λ (y : Tree). record q { term = y }) t_is ∙ ap (λ (y : Tree). record (judgement_of items x.known judge) { type = y }) u_is in
    let F : Judgement → Type 0 = λ j. Follows x.known j rule in
    let by : Follows x.known q rule = subst F (sym is) fits.follows in
    reached_last items s x terms a c later (Record.Node judge.entries judge.ctx.0 t u (rule_of rule)) _ w reach matches tt pushes
    (fits.numbers.entries, fits.numbers.context, t_there, u_there, premises_there x q rule by) (follows_by x.known q rule by) refl
    (ap (with_node x.known) is)

-- an equality, where the state x has its sides
equal_reached : (items : List Item) (s x : State) (terms : Terms) (a c later : List ℕ) (left right : TermId) (rule : EqStep) (t u : ℕ) (w : Writes s a c) → final s w.records ≡ x
    → Matches items terms x → Pushes c later (Record.Equal t u (eq_rule_of rule)) → FitsEqual items x.known left right rule
    → t < length x.terms → u < length x.terms → term_at x t ≡ tree_at items left → term_at x u ≡ tree_at items right
    → Reached items s terms a later (with_kept items x.known (Equal left right rule))
equal_reached items s x terms a c later left right rule t u w reach matches pushes fits t_there u_there t_is u_is =
    let l = term_at x t in
    let r = term_at x u in
    let q : Equality = record { left = l; right = r; bound = bound_by x.known l (eq_rule_of rule) } in
    let is : q ≡ equality_of items x.known left right rule =
    ap (λ (y : Tree). record { left = y; right = r; bound = bound_by x.known y (eq_rule_of rule) }) t_is
    ∙ ap (λ (y : Tree). record (equality_of items x.known left right rule) { right = y }) u_is in
    let by : FollowsEqual x.known l r rule = subst₂ (λ y z. FollowsEqual x.known y z rule) (sym t_is) (sym u_is) fits.follows in
    reached_last items s x terms a c later (Record.Equal t u (eq_rule_of rule)) _ w reach matches tt pushes
    (t_there, u_there, equalities_there x l r rule by) (equal_by x.known l r rule by) refl
    (ap (with_equality x.known) is)

pub equal_written : (items : List Item) (old mid new : Terms) (a b c later : List ℕ) (left right : TermId) (rule : EqStep) (t u : ℕ)
    → Numbers items old mid a b (tree_at items left) t → Numbers items mid new b c (tree_at items right) u
    → Pushes c later (Record.Equal t u (eq_rule_of rule)) → WritesKept items old new a later (Equal left right rule)
equal_written items old mid new a b c later left right rule t u first second pushes s matches fits named =
    let one = first s matches named.0 in
    let s1 = final s one.writes.records in
    let N : Known → Type 0 = λ k. IsNamed k.env (tree_at items right) in
    let two = second s1 one.matches (subst N (sym one.adds.known) named.1) in
    let x = final s1 two.writes.records in
    let same : x.known ≡ s.known = two.adds.known ∙ one.adds.known in
    let F : Known → Type 0 = λ k. FitsEqual items k left right rule in
    let R : Known → Type 0 = λ k. Reached items s new a later (with_kept items k (Equal left right rule)) in
    subst R same
    (equal_reached items s x new a c later left right rule t u (writes_then s a b c one.writes two.writes) (final-append s one.writes.records two.writes.records)
    two.matches pushes (subst F (sym same) fits) (omega (arith, one.there, two.adds.longer)) two.there (two.adds.kept t one.there ∙ one.is) two.is)

pub node_written : (items : List Item) (old mid new : Terms) (a b c later : List ℕ) (judge : Judge) (rule : Step) (t u : ℕ)
    → Numbers items old mid a b (tree_at items judge.term) t → Numbers items mid new b c (tree_at items judge.of) u
    → Pushes c later (Record.Node judge.entries judge.ctx.0 t u (rule_of rule)) → WritesKept items old new a later (Node judge rule)
node_written items old mid new a b c later judge rule t u first second pushes s matches fits named =
    let one = first s matches named.0 in
    let s1 = final s one.writes.records in
    let N : Known → Type 0 = λ k. IsNamed k.env (tree_at items judge.of) in
    let two = second s1 one.matches (subst N (sym one.adds.known) named.1) in
    let x = final s1 two.writes.records in
    let same : x.known ≡ s.known = two.adds.known ∙ one.adds.known in
    let F : Known → Type 0 = λ k. FitsNode items k judge rule in
    let R : Known → Type 0 = λ k. Reached items s new a later (with_kept items k (Node judge rule)) in
    subst R same
    (node_reached items s x new a c later judge rule t u (writes_then s a b c one.writes two.writes) (final-append s one.writes.records two.writes.records)
    two.matches pushes (subst F (sym same) fits) (omega (arith, one.there, two.adds.longer)) two.there (two.adds.kept t one.there ∙ one.is) two.is)

pub entry_written : (items : List Item) (terms : Terms) (before later : List ℕ) (name : List ℕ) (j : JudgeId) (prim : Bool)
    → Pushes before later (entry_record prim name j.0) → WritesKept items terms terms before later (Entry name j prim)
entry_written items terms before later name j true pushes s matches fits named =
    reached_last items s s terms before before later (Record.PrimEntry name j.0) _ (writes_none s before) refl matches tt pushes fits.live fits.may refl refl
entry_written items terms before later name j false pushes s matches fits named =
    reached_last items s s terms before before later (Record.Entry name j.0) _ (writes_none s before) refl matches tt pushes fits.live fits.may refl refl

pub flag_written : (items : List Item) (terms : Terms) (before later : List ℕ) (j : JudgeId)
    → Pushes before later (Record.Flag j.0) → WritesKept items terms terms before later (Flag j)
flag_written items terms before later j pushes s matches fits named =
    reached_last items s s terms before before later (Record.Flag j.0) _ (writes_none s before) refl matches tt pushes fits.live fits.may refl refl

-- a record meets its condition over those before it
fits_at : (items : List Item) (known : Known) (ks : List Kept) (i : ℕ) (d : Kept) → AreSound items known ks → i < length ks
    → Fits items (known_after items known (take i ks)) (get_or ks i d)
fits_at items known [] i d h l = absurd (omega arith)
fits_at items known (k ∷ ks) zero d h l = h.0
fits_at items known (k ∷ ks) (suc i) d h l = fits_at items (with_kept items known k) ks i d h.1 (omega arith)

pub fits_of : (items : List Item) (ks : List Kept) (i : ℕ) (k : Kept) → IsSound items ks → i < length ks → slice_get ks i ≡ Some k → Fits items (known_of items (take i ks)) k
fits_of items ks i k sound below is =
    let P : Kept → Type 0 = λ n. Fits items (known_of items (take i ks)) n in
    subst P (get_or_from_slice_get ks i k k is) (fits_at items nothing ks i k sound.all below)

-- what such a record needs of the bank
pub has_terms : (items : List Item) (known : Known) (k : Kept) → Fits items known k → HasTerms items k
has_terms items known (Context c t) h = h.term
has_terms items known (Equal left right rule) h = (h.left_there, h.right_there)
has_terms items known (Node judge rule) h = (h.numbers.term, h.numbers.of)
has_terms items known (Entry name j prim) h = tt
has_terms items known (Flag j) h = tt

known_more : (items : List Item) (ks : List Kept) (i : ℕ) (k : Kept) → i < length ks → slice_get ks i ≡ Some k
    → known_of items (take (i + 1) ks) ≡ with_kept items (known_of items (take i ks)) k
known_more items ks i k below is =
    ap (known_of items) (take_more ks i k below ∙ ap (λ n. take i ks ++ n ∷ []) (get_or_from_slice_get ks i k k is)) ∙ known_after-push items nothing (take i ks) k

pub carries_none : (items : List Item) (ks : List Kept) (terms : Terms) (out : List ℕ) (i : ℕ) → Carries items ks terms terms out out i i
carries_none items ks terms out i s matches known = record { writes = writes_none s out; knows = known; matches = matches }

-- one record more
pub carries_more : (items : List Item) (ks : List Kept) (old mid new : Terms) (a b c : List ℕ) (from i : ℕ) (k : Kept) → i < length ks → slice_get ks i ≡ Some k
    → IsSound items ks → Carries items ks old mid a b from i → WritesKept items mid new b c k → Carries items ks old new a c from (i + 1)
carries_more items ks old mid new a b c from i k below is sound first second s matches known =
    let here = known_of items (take i ks) in
    let one = first s matches known in
    let x = final s one.writes.records in
    let F : Known → Type 0 = λ kn. Fits items kn k in
    let H : Known → Type 0 = λ kn. HasNamedTerms items kn k in
    let N : Kept → Type 0 = λ n. HasNamedTerms items here n in
    let names : HasNamedTerms items here k = subst N (get_or_from_slice_get ks i k k is) (names_at items nothing ks i k none_named sound.all below) in
    let two = second x one.matches (subst F (sym one.knows) (fits_of items ks i k sound below is)) (subst H (sym one.knows) names) in
    let y = final x two.writes.records in
    let both = writes_then s a b c one.writes two.writes in
    let reach : final s both.records ≡ y = final-append s one.writes.records two.writes.records in
    record {
      writes = both;
      knows = ap (λ (z : State). z.known) reach ∙ two.knows ∙ ap (λ (kn : Known). with_kept items kn k) one.knows ∙ sym (known_more items ks i k below is);
      matches = matches_by items new y (final s both.records) (ap (λ (z : State). z.terms) reach) two.matches;
    }

-- the bytes of more records, behind a content
spelled_more : (front : List ℕ) (rs qs : List Record) → front ≡ spelling rs → front ++ records_bytes qs ≡ spelling (rs ++ qs)
spelled_more front rs qs is =
    ap (λ bytes. bytes ++ records_bytes qs) is ∙ append_assoc header (records_bytes rs) (records_bytes qs) ∙ ap (λ bytes. header ++ bytes) (sym (records_bytes-append rs qs))

-- all kept records are written
pub appends_all : (items : List Item) (ks : List Kept) (old new : Writer) (before later : List ℕ) → Carries items ks old.terms new.terms before later old.written (length ks)
    → new.written ≡ length ks → Appends items ks old new before later None
appends_all items ks old new before later carries count = record {
  all = count;
  goes_on = λ front w.
      let c = carries (final start w.records) w.matches w.known in
      let reach : final start (w.records ++ c.writes.records) ≡ final (final start w.records) c.writes.records = final-append start w.records c.writes.records in
      record {
        added = records_bytes c.writes.records;
        appended = c.writes.spelled;
        content = record {
          records = w.records ++ c.writes.records;
          spelled = spelled_more front w.records c.writes.records w.spelled;
          stand = stand-append start w.records c.writes.records w.stand c.writes.stand;
          within = omega (arith, count);
          known = ap (λ (z : State). z.known) reach ∙ c.knows ∙ ap (λ n. known_of items (take n ks)) (sym count);
          matches = matches_by items new.terms (final (final start w.records) c.writes.records) (final start (w.records ++ c.writes.records))
              (ap (λ (z : State). z.terms) reach) c.matches;
        };
      };
}

-- and the end behind them
pub appends_end : (items : List Item) (ks : List Kept) (old new : Writer) (before mid later : List ℕ) (j : JudgeId)
    → Carries items ks old.terms new.terms before mid old.written (length ks) → new.written ≡ length ks
    → Knows (known_of items ks) j (last_judgement (known_of items ks)) → Pushes mid later (Record.End j.0) → Appends items ks old new before later (Some j)
appends_end items ks old new before mid later j carries count knows pushes = record {
  all = count;
  goes_on = λ front w.
      let c = carries (final start w.records) w.matches w.known in
      let rs = w.records ++ c.writes.records in
      let reach : final start rs ≡ final (final start w.records) c.writes.records = final-append start w.records c.writes.records in
      let known : (final start rs).known ≡ known_of items ks =
      ap (λ (z : State). z.known) reach ∙ c.knows ∙ ap (known_of items) (take_all (length ks) ks (omega arith)) in
      let L : Known → Type 0 = λ kn. j.0 < length kn.nodes in
      let M : Known → Type 0 = λ kn. MayEnd kn j.0 in
      let tail : records_bytes (c.writes.records ++ Record.End j.0 ∷ []) ≡ records_bytes c.writes.records ++ record_bytes (Record.End j.0) =
      records_bytes-append c.writes.records (Record.End j.0 ∷ []) ∙ ap (λ bytes. records_bytes c.writes.records ++ bytes) (append-nil (record_bytes (Record.End j.0))) in
      record {
        added = records_bytes (c.writes.records ++ Record.End j.0 ∷ []);
        appended = pushes.bytes ∙ ap (λ bytes. bytes ++ record_bytes (Record.End j.0)) c.writes.spelled
            ∙ append_assoc before (records_bytes c.writes.records) (record_bytes (Record.End j.0)) ∙ ap (λ bytes. before ++ bytes) (sym tail);
        content = record {
          listed = rs;
          last = j.0;
          spelled = spelled_more front w.records (c.writes.records ++ Record.End j.0 ∷ []) w.spelled
              ∙ ap spelling (sym (append_assoc w.records c.writes.records (Record.End j.0 ∷ [])));
          stand = stand-append start w.records c.writes.records w.stand c.writes.stand;
          end = record { spelling = pushes.spelling; there = subst L (sym known) knows.live; meets = subst M (sym known) knows.is };
          env = ap (λ (kn : Known). kn.env) known;
          notes = ap (λ (kn : Known). kn.notes) known;
        };
      };
}
