-- What a derivation's records say, and its tables, as one record more is kept.
use Rattle.std.proofs.Common.{◌≡◌, ◌≤◌, ◌+◌, ℕ, Bool, List, [], ◌∷◌, ◌++◌, length, take, refl, ap, sym, ◌∙◌, subst, arith, add-zero}
use Rattle.std.proofs.lemmas.List.{length_push, length-take, take_all, take-take}
use Rattle.ld_terms.specs.Tree.{◌▸◌}
use Rattle.ld_terms.specs.Item.{Item}
use Rattle.ld_terms.specs.Bank.{tree_at}
use Rattle.ld_terms.specs.Known.{Known, nothing, context_at, with_context, with_equality, with_node}
use Rattle.ld_record.specs.declared.record.Judge.{Judge}
use Rattle.ld_record.specs.declared.record.Kept.{Kept}
use Rattle.ld_record.specs.declared.record.Kept.TheVariants.{Context, Equal, Node, Entry, Flag}
use Rattle.ld_record.specs.Kept.{judgement_of, equality_of, with_kept, known_after, known_of, Fits, AreSound, IsSound, Begins}
use Rattle.ld_record.specs.Tables.{judges_of, prims_of, contexts_of, equalities_of, AreTables}

pub known_after-push : (items : List Item) (known : Known) (ks : List Kept) (k : Kept) → known_after items known (ks ++ k ∷ []) ≡ with_kept items (known_after items known ks) k
known_after-push items known [] k = refl
known_after-push items known (j ∷ ks) k = known_after-push items (with_kept items known j) ks k

pub sound-push : (items : List Item) (known : Known) (ks : List Kept) (k : Kept) → AreSound items known ks → Fits items (known_after items known ks) k → AreSound items known (ks ++ k ∷ [])
sound-push items known [] k h last = (last, tt)
sound-push items known (j ∷ ks) k h last = (h.0, sound-push items (with_kept items known j) ks k h.1 last)

-- one record more, of new records that are the old ones and it
pub record IsAdded (items : List Item) (old new : List Kept) (k : Kept) : Type 0 where
  pub known : known_of items new ≡ with_kept items (known_of items old) k
  pub sound : IsSound items new

pub added : (items : List Item) (old new : List Kept) (k : Kept) → IsSound items old → Fits items (known_of items old) k → new ≡ old ++ k ∷ [] → IsAdded items old new k
added items old new k sound fits push =
    let P : List Kept → Type 0 = λ ks. AreSound items nothing ks in
    record {
      known = ap (known_of items) push ∙ known_after-push items nothing old k;
      sound = record { all = subst P (sym push) (sound-push items nothing old k sound.all fits) };
    }

-- the tables with one record more
pub judges_of-push : (ks : List Kept) (k : Kept) → judges_of (ks ++ k ∷ []) ≡ judges_of ks ++ judges_of (k ∷ [])
judges_of-push [] k = refl
judges_of-push (Context c t ∷ ks) k = judges_of-push ks k
judges_of-push (Equal left right step ∷ ks) k = judges_of-push ks k
judges_of-push (Node judge step ∷ ks) k = ap (λ js. judge ∷ js) (judges_of-push ks k)
judges_of-push (Entry name j prim ∷ ks) k = judges_of-push ks k
judges_of-push (Flag j ∷ ks) k = judges_of-push ks k

pub prims_of-push : (ks : List Kept) (k : Kept) → prims_of (ks ++ k ∷ []) ≡ prims_of ks ++ prims_of (k ∷ [])
prims_of-push [] k = refl
prims_of-push (Context c t ∷ ks) k = prims_of-push ks k
prims_of-push (Equal left right step ∷ ks) k = prims_of-push ks k
prims_of-push (Node judge step ∷ ks) k = prims_of-push ks k
prims_of-push (Entry name j prim ∷ ks) k = ap (λ ps. prim ∷ ps) (prims_of-push ks k)
prims_of-push (Flag j ∷ ks) k = prims_of-push ks k

pub contexts_of-push : (ks : List Kept) (k : Kept) → contexts_of (ks ++ k ∷ []) ≡ contexts_of ks + contexts_of (k ∷ [])
contexts_of-push [] k = omega arith
contexts_of-push (Context c t ∷ ks) k = omega (arith, contexts_of-push ks k)
contexts_of-push (Equal left right step ∷ ks) k = contexts_of-push ks k
contexts_of-push (Node judge step ∷ ks) k = contexts_of-push ks k
contexts_of-push (Entry name j prim ∷ ks) k = contexts_of-push ks k
contexts_of-push (Flag j ∷ ks) k = contexts_of-push ks k

pub contexts_within : (ks : List Kept) → contexts_of ks ≤ length ks
contexts_within [] = omega arith
contexts_within (Context c t ∷ ks) = omega (arith, contexts_within ks)
contexts_within (Equal left right step ∷ ks) = omega (arith, contexts_within ks)
contexts_within (Node judge step ∷ ks) = omega (arith, contexts_within ks)
contexts_within (Entry name j prim ∷ ks) = omega (arith, contexts_within ks)
contexts_within (Flag j ∷ ks) = omega (arith, contexts_within ks)

pub equalities_of-push : (ks : List Kept) (k : Kept) → equalities_of (ks ++ k ∷ []) ≡ equalities_of ks + equalities_of (k ∷ [])
equalities_of-push [] k = omega arith
equalities_of-push (Context c t ∷ ks) k = equalities_of-push ks k
equalities_of-push (Equal left right step ∷ ks) k = omega (arith, equalities_of-push ks k)
equalities_of-push (Node judge step ∷ ks) k = equalities_of-push ks k
equalities_of-push (Entry name j prim ∷ ks) k = equalities_of-push ks k
equalities_of-push (Flag j ∷ ks) k = equalities_of-push ks k

pub equalities_within : (ks : List Kept) → equalities_of ks ≤ length ks
equalities_within [] = omega arith
equalities_within (Context c t ∷ ks) = omega (arith, equalities_within ks)
equalities_within (Equal left right step ∷ ks) = omega (arith, equalities_within ks)
equalities_within (Node judge step ∷ ks) = omega (arith, equalities_within ks)
equalities_within (Entry name j prim ∷ ks) = omega (arith, equalities_within ks)
equalities_within (Flag j ∷ ks) = omega (arith, equalities_within ks)

-- the tables with one record more: the table of its kind grows
pub tables_push : (old new : List Kept) (judges more_judges : List Judge) (prims more_prims : List Bool) (contexts more_contexts equalities more_equalities : ℕ) (k : Kept)
    → AreTables old judges prims contexts equalities → new ≡ old ++ k ∷ []
    → more_judges ≡ judges ++ judges_of (k ∷ []) → more_prims ≡ prims ++ prims_of (k ∷ []) → more_contexts ≡ contexts + contexts_of (k ∷ [])
    → more_equalities ≡ equalities + equalities_of (k ∷ []) → AreTables new more_judges more_prims more_contexts more_equalities
tables_push old new judges more_judges prims more_prims contexts more_contexts equalities more_equalities k tables push j p c e = record {
  judges_are = j ∙ ap (λ js. js ++ judges_of (k ∷ [])) tables.judges_are ∙ sym (ap judges_of push ∙ judges_of-push old k);
  prims_are = p ∙ ap (λ ps. ps ++ prims_of (k ∷ [])) tables.prims_are ∙ sym (ap prims_of push ∙ prims_of-push old k);
  contexts_are = c ∙ ap (λ n. n + contexts_of (k ∷ [])) tables.contexts_are ∙ sym (ap contexts_of push ∙ contexts_of-push old k);
  equalities_are = e ∙ ap (λ n. n + equalities_of (k ∷ [])) tables.equalities_are ∙ sym (ap equalities_of push ∙ equalities_of-push old k);
}

-- as many judgements, contexts and equalities are known as the tables have
pub length-nodes : (items : List Item) (known : Known) (ks : List Kept) → length (known_after items known ks).nodes ≡ length known.nodes + length (judges_of ks)
length-nodes items known [] = sym (add-zero (length known.nodes))
length-nodes items known (Context c t ∷ ks) = length-nodes items (with_kept items known (Context c t)) ks
length-nodes items known (Equal left right step ∷ ks) = length-nodes items (with_kept items known (Equal left right step)) ks
length-nodes items known (Node judge step ∷ ks) =
    omega (arith, length-nodes items (with_node known (judgement_of items known judge)) ks, length_push known.nodes (judgement_of items known judge))
length-nodes items known (Entry name j prim ∷ ks) = length-nodes items (with_kept items known (Entry name j prim)) ks
length-nodes items known (Flag j ∷ ks) = length-nodes items (with_kept items known (Flag j)) ks

pub length-contexts : (items : List Item) (known : Known) (ks : List Kept) → length (known_after items known ks).contexts ≡ length known.contexts + contexts_of ks
length-contexts items known [] = sym (add-zero (length known.contexts))
length-contexts items known (Context c t ∷ ks) =
    omega (arith, length-contexts items (with_context known (context_at known c.0 ▸ tree_at items t)) ks, length_push known.contexts (context_at known c.0 ▸ tree_at items t))
length-contexts items known (Equal left right step ∷ ks) = length-contexts items (with_kept items known (Equal left right step)) ks
length-contexts items known (Node judge step ∷ ks) = length-contexts items (with_kept items known (Node judge step)) ks
length-contexts items known (Entry name j prim ∷ ks) = length-contexts items (with_kept items known (Entry name j prim)) ks
length-contexts items known (Flag j ∷ ks) = length-contexts items (with_kept items known (Flag j)) ks

pub length-equalities : (items : List Item) (known : Known) (ks : List Kept) → length (known_after items known ks).equalities ≡ length known.equalities + equalities_of ks
length-equalities items known [] = sym (add-zero (length known.equalities))
length-equalities items known (Context c t ∷ ks) = length-equalities items (with_kept items known (Context c t)) ks
length-equalities items known (Equal left right step ∷ ks) =
    omega (arith, length-equalities items (with_equality known (equality_of items known left right step)) ks, length_push known.equalities (equality_of items known left right step))
length-equalities items known (Node judge step ∷ ks) = length-equalities items (with_kept items known (Node judge step)) ks
length-equalities items known (Entry name j prim ∷ ks) = length-equalities items (with_kept items known (Entry name j prim)) ks
length-equalities items known (Flag j ∷ ks) = length-equalities items (with_kept items known (Flag j)) ks

pub nodes_known : (items : List Item) (ks : List Kept) → length (known_of items ks).nodes ≡ length (judges_of ks)
nodes_known items ks = omega (arith, length-nodes items nothing ks)

pub contexts_known : (items : List Item) (ks : List Kept) → length (known_of items ks).contexts ≡ 1 + contexts_of ks
contexts_known items ks = omega (arith, length-contexts items nothing ks)

pub equalities_known : (items : List Item) (ks : List Kept) → length (known_of items ks).equalities ≡ equalities_of ks
equalities_known items ks = omega (arith, length-equalities items nothing ks)

pub begins_refl : (ks : List Kept) → Begins ks ks
begins_refl ks = record { front = take_all (length ks) ks (omega arith) }

pub begins_no_longer : (a b : List Kept) → Begins a b → length a ≤ length b
begins_no_longer a b h = omega (arith, length-take (length a) b, ap length h.front)

pub begins_trans : (a b c : List Kept) → Begins a b → Begins b c → Begins a c
begins_trans a b c h k = record {
  front = sym (take-take (length a) (length b) c (begins_no_longer a b h)) ∙ ap (take (length a)) k.front ∙ h.front;
}
