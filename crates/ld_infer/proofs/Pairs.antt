-- The pairs of a job, as a theory goes on.
use Rattle.std.proofs.Common.{◌≡◌, ◌∷◌, [], ℕ, List, All, length, map, get_or, refl, ap, sym, subst}
use Rattle.std.proofs.lemmas.List.Elements.{All-nil, All-head, All-tail}
use mathlib.Core.Path.{ap₂}
use Rattle.ld_terms.specs.Tree.{Tree}
use Rattle.ld_terms.specs.Item.{tree}
use Rattle.ld_terms.specs.Bank.{Extends, tree_at, IsTermAt}
use Rattle.ld_terms.specs.declared.bank.TermId.{TermId}
use Rattle.ld_terms.proofs.Banks.{term_at_later}
use Rattle.ld_record.specs.Growth.{Adds}
use Rattle.ld_record.specs.Kept.{IsSound}
use Rattle.ld_record.proofs.CallerLemmas.{sides_convert}
use Rattle.ld_reduce.specs.Cost.{Equates}
use Rattle.ld_reduce.specs.Work.{work}
use Rattle.ld_reduce.proofs.Going.{equates_later}
use Rattle.ld_convert.specs.Pairs.{pair_of, pairs_of, IsLivePair}
use Rattle.ld_convert.specs.Sameness.{AreConvertible}
use Rattle.ld_convert.specs.declared.job.Job.{Job}
use Rattle.ld_convert.specs.declared.known.Pair.{Pair}
use Rattle.ld_infer.specs.Account.{Account, account_by}
use Rattle.ld_infer.specs.Standing.{Standing, known, env, account, Continues, Enters, KnowsPairs, without_last}

-- as terms and equalities are added
module _ (a b : Standing) (extends : Extends a.items b.items) where
  same_tree : (t : TermId) → IsTermAt a.items t → tree_at b.items t ≡ tree_at a.items t
  same_tree t at = ap tree (extends.kept t at.live)

  same_pairs : (ps : List Pair) → All (IsLivePair a.items (known a) (length (env a))) ps → map (pair_of b.items) ps ≡ map (pair_of a.items) ps
  same_pairs [] h = refl
  same_pairs (p ∷ ps) h =
      let terms = (All-head (IsLivePair a.items (known a) (length (env a))) p ps h).terms in
      ap₂ (λ (q : Tree × Tree) qs. q ∷ qs) (ap₂ (λ l r. (l, r)) (same_tree p.left terms.left) (same_tree p.right terms.right))
      (same_pairs ps (All-tail (IsLivePair a.items (known a) (length (env a))) p ps h))

  -- the account of a job is the same
  pub account_extended : (job : Job) → KnowsPairs a job.known → account b job ≡ account a job
  account_extended job h = ap (account_by job.budget) (same_pairs job.known h.live.each)

  pair_later : (p : Pair) → Adds (known a) (known b) → IsLivePair a.items (known a) (length (env a)) p → IsLivePair b.items (known b) (length (env b)) p
  pair_later p adds h =
      let P : Tree → Tree → Type 0 = λ l r. Equates (known b) p.equal l r (length (env b)) in
      let e = equates_later (known a) (known b) p.equal (tree_at a.items p.left) (tree_at a.items p.right) (length (env a)) adds h.equal in
      let same = ap length (sym adds.env) in
      let here : P (tree_at a.items p.left) (tree_at a.items p.right) = subst (λ n. Equates (known b) p.equal (tree_at a.items p.left) (tree_at a.items p.right) n) same e in
      record {
        terms = record { left = term_at_later a.items b.items p.left extends h.terms.left; right = term_at_later a.items b.items p.right extends h.terms.right };
        equal = subst (λ l. P l (tree_at b.items p.right)) (sym (same_tree p.left h.terms.left)) (subst (P (tree_at a.items p.left)) (sym (same_tree p.right h.terms.right)) here);
      }

  pairs_added : (ps : List Pair) → Adds (known a) (known b) → KnowsPairs a ps → KnowsPairs b ps
  pairs_added ps adds h = record { live = record { each = λ i d l. pair_later (get_or ps i d) adds (h.live.each i d l) } }

pub pairs_later : (a b : Standing) (ps : List Pair) → Continues a b → KnowsPairs a ps → KnowsPairs b ps
pairs_later a b ps goes h = pairs_added a b goes.items ps goes.adds h

pub account_stays : (a b : Standing) (job : Job) → Continues a b → KnowsPairs a job.known → account b job ≡ account a job
account_stays a b job goes h = account_extended a b goes.items job h

-- what is said of an account is said of it later
pub told_later : (a b : Standing) (job : Job) (P : Account → Type 0) → Continues a b → KnowsPairs a job.known → P (account a job) → P (account b job)
told_later a b job P goes h p = subst P (sym (account_stays a b job goes h)) p

pub told_extended : (a b : Standing) (job : Job) (P : Account → Type 0) → Extends a.items b.items → KnowsPairs a job.known → P (account a job) → P (account b job)
told_extended a b job P extends h p = subst P (sym (account_extended a b extends job h)) p

-- a variable is put into the context, or taken away
pub account_entered : (a b : Standing) (x : Tree) (job : Job) → Enters a b x → KnowsPairs a job.known → account b job ≡ account a job
account_entered a b x job enters h = account_extended a b enters.items job h

pub pairs_left : (a b : Standing) (ps : List Pair) → b ≡ record a { context = without_last a.context } → KnowsPairs a ps → KnowsPairs b ps
pairs_left a b ps leaves h = let P : Standing → Type 0 = λ s. KnowsPairs s ps in subst P (sym leaves) (record { live = h.live })

pub account_left : (a b : Standing) (job : Job) → b ≡ record a { context = without_last a.context } → account b job ≡ account a job
account_left a b job leaves = ap (λ (s : Standing). account s job) leaves

-- a job that knows no pairs
pub pairs_none : (s : Standing) (ps : List Pair) → ps ≡ [] → KnowsPairs s ps
pairs_none s ps none =
    let P : List Pair → Type 0 = KnowsPairs s in
    subst P (sym none) (record { live = record { each = All-nil (IsLivePair s.items (known s) (length (env s))) } })

pub account_none : (s : Standing) (job : Job) (n : ℕ) → job.budget ≡ work n 0 → job.known ≡ [] → account s job ≡ account_by (work n 0) []
account_none s job n budget none = ap₂ account_by budget (ap (pairs_of s.items) none)

-- the trees of live pairs convert, by their equalities
pub pairs_convert : (s : Standing) (ps : List Pair) → IsSound s.items s.kept → All (IsLivePair s.items (known s) (length (env s))) ps → AreConvertible (env s) (pairs_of s.items ps)
pairs_convert s [] sound h = tt
pairs_convert s (p ∷ ps) sound h =
    let IsLive : Pair → Type 0 = IsLivePair s.items (known s) (length (env s)) in
    let sides = (All-head IsLive p ps h).equal.sides in
    (sides_convert s.items s.kept p.equal (tree_at s.items p.left) (tree_at s.items p.right) sound sides, pairs_convert s ps sound (All-tail IsLive p ps h))
