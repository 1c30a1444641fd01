-- What a layer above needs: that judgements which are kept are derivable and name entries that are there, and what it owes
-- for a record to be kept.
use Rattle.std.proofs.Common.{◌≡◌, ◌<◌, ◌≤◌, ◌∙◌, ℕ, List, length, take, ap, sym, subst, arith}
use Rattle.ld_terms.specs.Item.{Item, tree, IsOne}
use Rattle.ld_terms.specs.Bank.{StandsFor, IsTermAt, tree_at}
use Rattle.ld_terms.specs.declared.bank.TermId.{TermId}
use Rattle.ld_terms.specs.Derivable.{◌⨾◌⊢◌∶◌}
use Rattle.ld_terms.specs.Tree.{Tree, Trees, Nil}
use Rattle.ld_terms.specs.Entry.{Defined}
use Rattle.ld_terms.specs.Step.{Converts}
use Rattle.ld_terms.specs.Known.{Known, Equality, Judgement, nothing, context_at, bound_by}
use Rattle.ld_terms.specs.Named.{IsNamed}
use Rattle.ld_record.specs.declared.record.JudgeId.{JudgeId}
use Rattle.ld_record.specs.declared.record.CtxId.{CtxId}
use Rattle.ld_record.specs.declared.record.EqId.{EqId}
use Rattle.ld_record.specs.declared.record.EqStep.{EqStep}
use Rattle.ld_record.specs.declared.record.Judge.{Judge}
use Rattle.ld_record.specs.declared.record.Step.{Step}
use Rattle.ld_record.specs.declared.record.Kept.{Kept}
use Rattle.ld_record.specs.Follows.{entry_at, Follows}
use Rattle.ld_record.specs.Equal.{eq_rule_of, HasSides, FollowsEqual}
use Rattle.ld_record.specs.Kept.{judgement_of, equality_of, known_of, FitsEqual, FitsNode, IsSound}
use Rattle.ld_record.specs.Growth.{Knows, KnowsContext, KnowsEquality}
use Rattle.ld_record.specs.Laws.{IsDerivableIn, IsNamedIn}
use Rattle.ld_record.proofs.Growing.{grows_after}
use Rattle.ld_record.proofs.Derived.{kept_nodes_are_derivable, kept_over_all, kept_sides_convert}
use Rattle.ld_record.proofs.Named.{AreSidesNamed, all_named, none_named, kept_terms_are_named}

-- a judgement that is known by its number is derivable
pub known_derivable : (items : List Item) (kept : List Kept) (j : JudgeId) (s : Judgement) → IsSound items kept → Knows (known_of items kept) j s → IsDerivableIn (known_of items kept).env s
known_derivable items kept j s sound knows = subst (IsDerivableIn (known_of items kept).env) knows.is (kept_nodes_are_derivable items kept sound j.0 knows.live)

pub derivable : (items : List Item) (kept : List Kept) (j : JudgeId) (s : Judgement) → IsSound items kept → Knows (known_of items kept) j s
    → take s.entries (known_of items kept).env ⨾ s.context ⊢ s.term ∶ s.type
derivable items kept j s sound knows = (known_derivable items kept j s sound knows).derivable

-- and so it is over all entries, not only over those that it speaks of
pub derivable_over_all : (items : List Item) (kept : List Kept) (j : JudgeId) (s : Judgement) → IsSound items kept → Knows (known_of items kept) j s
    → (known_of items kept).env ⨾ s.context ⊢ s.term ∶ s.type
derivable_over_all items kept j s sound knows =
    let known = known_derivable items kept j s sound knows in kept_over_all items kept sound s.entries s.context s.term s.type known.within known.derivable

-- the sides of an equality that is known by its number convert over all entries
pub sides_convert : (items : List Item) (kept : List Kept) (e : EqId) (l r : Tree) → IsSound items kept → HasSides (known_of items kept) e l r → Converts (known_of items kept).env l r
sides_convert items kept e l r sound sides = kept_sides_convert items kept sound e.0 l r (sides.left, sides.right)

-- its term and type name entries that are there, with as many arguments as parameters
pub named : (items : List Item) (kept : List Kept) (j : JudgeId) (s : Judgement) → IsSound items kept → Knows (known_of items kept) j s
    → IsNamed (known_of items kept).env s.term × IsNamed (known_of items kept).env s.type
named items kept j s sound knows = subst (IsNamedIn (known_of items kept).env) knows.is (kept_terms_are_named items kept sound j.0 knows.live)

-- so do the sides of an equality, and the body of an entry
pub sides_named : (items : List Item) (kept : List Kept) (e : EqId) (q : Equality) → IsSound items kept → KnowsEquality (known_of items kept) e q
    → IsNamed (known_of items kept).env q.left × IsNamed (known_of items kept).env q.right
sides_named items kept e q sound knows =
    subst (AreSidesNamed (known_of items kept).env) knows.is ((all_named items nothing kept none_named sound.all).equalities e.0 knows.live)

pub body_named : (items : List Item) (kept : List Kept) (k : ℕ) (t : Tree) → IsSound items kept → k < length (known_of items kept).env
    → (entry_at (known_of items kept).env k).body ≡ Defined t → IsNamed (known_of items kept).env t
body_named items kept k t sound there is = (all_named items nothing kept none_named sound.all).bodies k t there is

-- the number 0 is that of the empty context
pub empty_known : (items : List Item) (kept : List Kept) (c : CtxId) → c.0 ≡ 0 → KnowsContext (known_of items kept) c Nil
empty_known items kept c zero =
    let grows = grows_after items nothing kept in
    record {
      live = omega (arith, grows.contexts);
      is = ap (context_at (known_of items kept)) zero ∙ grows.context 0 (omega arith);
    }

-- the numbers of a record stand for the parts of a judgement
pub record Says (items : List Item) (known : Known) (judge : Judge) (s : Judgement) : Type 0 where
  pub entries : judge.entries ≡ s.entries
  pub within : s.entries ≤ length known.env
  pub context : KnowsContext known judge.ctx s.context
  pub term : StandsFor items judge.term s.term
  pub type : StandsFor items judge.of s.type

pub said : (items : List Item) (known : Known) (judge : Judge) (s : Judgement) → Says items known judge s → judgement_of items known judge ≡ s
said items known judge s h =
    ap (λ (n : ℕ). record (judgement_of items known judge) { entries = n }) h.entries
    ∙ ap (λ (ctx : Trees). record (judgement_of items known judge) { entries = s.entries; context = ctx }) h.context.is
    ∙ ap (λ (x : Item). record (judgement_of items known judge) { entries = s.entries; context = s.context; term = tree x }) h.term.item
    ∙ ap (λ (x : Item). record s { type = tree x }) h.type.item

pub term_there : (items : List Item) (t : TermId) (u : Tree) → StandsFor items t u → IsTermAt items t
term_there items t u h = record { live = h.live; form = subst IsOne (sym h.item) tt }

-- a record may be kept where what its numbers stand for follows by its rule
pub node_fits : (items : List Item) (known : Known) (judge : Judge) (s : Judgement) (step : Step) → Says items known judge s → Follows known s step → FitsNode items known judge step
node_fits items known judge s step h follows =
    let P : Judgement → Type 0 = λ q. Follows known q step in
    record {
      numbers = record {
        entries = omega (arith, h.entries, h.within);
        context = h.context.live;
        term = term_there items judge.term s.term h.term;
        of = term_there items judge.of s.type h.type;
      };
      follows = subst P (sym (said items known judge s h)) follows;
    }

-- an equality may be kept where the trees that its numbers stand for are equal by its rule
pub equal_fits : (items : List Item) (known : Known) (left right : TermId) (l r : Tree) (step : EqStep) → StandsFor items left l → StandsFor items right r
    → FollowsEqual known l r step → FitsEqual items known left right step
equal_fits items known left right l r step l_is r_is follows =
    let P : Item → Type 0 = λ x. FollowsEqual known (tree x) r step in
    let Q : Item → Type 0 = λ y. FollowsEqual known (tree_at items left) (tree y) step in
    record {
      left_there = term_there items left l l_is;
      right_there = term_there items right r r_is;
      follows = subst Q (sym r_is.item) (subst P (sym l_is.item) follows);
    }

-- what it says
pub equality_said : (items : List Item) (known : Known) (left right : TermId) (l r : Tree) (step : EqStep) → StandsFor items left l → StandsFor items right r
    → equality_of items known left right step ≡ record { left = l; right = r; bound = bound_by known l (eq_rule_of step) }
equality_said items known left right l r step l_is r_is =
    ap (λ (x : Item). record { left = tree x; right = tree_at items right; bound = bound_by known (tree x) (eq_rule_of step) }) l_is.item
    ∙ ap (λ (y : Item). record { left = l; right = tree y; bound = bound_by known l (eq_rule_of step) }) r_is.item
