-- One step at the head, from the step of the function part, and what comes of it alone.
use Rattle.std.proofs.Common.{◌≡◌, ◌≤◌, ℕ, List, Option, Some, Result, Ok, Err, ap, sym, ◌∙◌, subst}
use Rattle.ld_terms.specs.Tree.{Tree, App, Const, Trees}
use Rattle.ld_terms.specs.Put.{put}
use Rattle.ld_terms.specs.Entry.{Env}
use Rattle.ld_terms.specs.Item.{Item, One, IsSmall, tree}
use Rattle.ld_terms.specs.Bank.{tree_at}
use Rattle.ld_terms.specs.Known.{Known}
use Rattle.ld_terms.specs.declared.bank.TermId.{TermId}
use Rattle.ld_record.specs.declared.record.EqId.{EqId}
use Rattle.ld_reduce.specs.Heads.{At, applied, delta_step, Unfold, unfolded}
use Rattle.ld_reduce.specs.Work.{Work, Takes}
use Rattle.ld_reduce.specs.Cost.{Equates, Found, Answers}
use Rattle.ld_reduce.specs.Steps.{IsMade, Makes, OneStep, HasBodyFor}
use Rattle.ld_reduce.specs.declared.stop.Stop.{Stop}
use Rattle.ld_reduce.specs.declared.stop.Stop.TheVariants as stop
use Rattle.ld_reduce.proofs.Going.{raised, term_of}
use Rattle.ld_reduce.proofs.Following.{function_small}
use Rattle.ld_reduce.proofs.Unfolding.{unfolds_to}

-- a higher bound
pub makes_raised : (from to : Tree) (m n : ℕ) (items : List Item) (known : Known) (result : Result (TermId × EqId) Stop) → m ≤ n → Makes from to m items known result → Makes from to n items known result
makes_raised from to m n items known (Ok p) le h = record { stands = h.stands; small = h.small; equal = raised known p.1 from to m n le h.equal }
makes_raised from to m n items known (Err stop.Spent) le h = h
makes_raised from to m n items known (Err stop.Nested) le h = h
makes_raised from to m n items known (Err stop.High) le h = h
makes_raised from to m n items known (Err stop.Memory) le h = h

-- what stops the step of the function part stops that of the whole
under_stopped : (from f u : Tree) (m n : ℕ) (items : List Item) (known : Known) (s : Stop) → Makes from f m items known (Err s) → (whole : Tree) → Makes whole (App f u) n items known (Err s)
under_stopped from f u m n items known stop.Spent h whole = h
under_stopped from f u m n items known stop.Nested h whole = h
under_stopped from f u m n items known stop.High h whole = λ small. h (function_small f u small)
under_stopped from f u m n items known stop.Memory h whole = tt

pub applied_stopped : (next : Tree → Option Tree) (t f u : Tree) (n : ℕ) (items : List Item) (known : Known) (s : Stop) → next t ≡ applied u (next f)
    → OneStep next f n items known (Err s) → OneStep next t n items known (Err s)
applied_stopped next t f u n items known s e h = record {
  to = App h.to u;
  is = e ∙ ap (applied u) h.is;
  makes = under_stopped f h.to u n n items known s h.makes t;
}

-- the step of the whole, where that of the function part is made
pub applied_made : (next : Tree → Option Tree) (t t' f u u' : Tree) (m n : ℕ) (before items : List Item) (old known : Known) (g : TermId) (e : EqId) (result : Result (TermId × EqId) Stop)
    → next t ≡ applied u (next f) → t' ≡ t → u' ≡ u → m ≤ n → OneStep next f n before old (Ok (g, e)) → Makes t' (App (tree_at before g) u') m items known result
    → OneStep next t n items known result
applied_made next t t' f u u' m n before items old known g e result is same_t same_u le h makes =
    let g_is : tree_at before g ≡ h.to = ap tree h.makes.stands.item in
    let P : Tree → Type 0 = λ x. Makes x (App (tree_at before g) u') n items known result in
    record {
      to = App (tree_at before g) u';
      is = is ∙ ap (applied u) h.is ∙ ap (λ x. Some (App x u)) (sym g_is) ∙ ap (λ x. Some (App (tree_at before g) x)) (sym same_u);
      makes = subst P same_t (makes_raised t' (App (tree_at before g) u') m n items known result le makes);
    }

-- the unfolding of an instance is the step at its head
pub instance_made : (env : Env) (t : Tree) (k : ℕ) (us : Trees) (body : Tree) (n : ℕ) (items : List Item) (known : Known) (result : Result (TermId × EqId) Stop)
    → t ≡ Const k us → HasBodyFor env k us body → Makes t (put body us) n items known result → OneStep (delta_step env) t n items known result
instance_made env t k us body n items known result e h makes = record { to = put body us; is = ap (delta_step env) e ∙ unfolds_to env k us body h; makes = makes }

pub found_made : (items : List Item) (known : Known) (from to : Tree) (n : ℕ) (t : TermId) (e : EqId) → IsMade items known from to n t e → Found items known from n t e
found_made items known from to n t e h =
    let is : to ≡ tree_at items t = sym (ap tree h.stands.item) in
    record {
      term = term_of items t to h.stands;
      small = let P : Tree → Type 0 = λ x. IsSmall (One x) in subst P is h.small;
      equal = subst (λ x. Equates known e from x n) is h.equal;
    }

-- what is answered where one unfolding is all
pub unfold_answers : (env : Env) (from : Tree) (n : ℕ) (items : List Item) (known : Known) (old new : Work) (result : Result (TermId × EqId) Stop)
    → OneStep (delta_step env) from n items known result → Takes old new 1 → Answers (Unfold env from) from n items known old new result
unfold_answers env from n items known old new (Ok p) h takes =
    let is : h.to ≡ tree_at items p.0 = sym (ap tree h.makes.stands.item) in
    let P : Tree → Type 0 = λ x. Unfold env from (At x) 1 in
    (record { steps = 1; comes = subst P is (unfolded h.is h.makes.small); takes = takes }, found_made items known from h.to n p.0 p.1 h.makes)
unfold_answers env from n items known old new (Err stop.Spent) h takes = absurd h.makes
unfold_answers env from n items known old new (Err stop.Nested) h takes = absurd h.makes
unfold_answers env from n items known old new (Err stop.High) h takes = record { steps = 1; comes = Unfold.too_high h.to h.is h.makes; takes = takes }
unfold_answers env from n items known old new (Err stop.Memory) h takes = tt
