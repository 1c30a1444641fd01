-- A type that was found is compared with the stated one: the standings are those at the start and behind the comparison.
use Rattle.std.proofs.Common.{◌≡◌, ℕ, false, length, sym, subst}
use Rattle.ld_terms.specs.Tree.{Tree, Trees}
use Rattle.ld_terms.specs.Bank.{tree_at, IsTermAt}
use Rattle.ld_terms.specs.declared.bank.TermId.{TermId}
use Rattle.ld_record.specs.declared.record.JudgeId.{JudgeId}
use Rattle.ld_record.specs.declared.record.EqId.{EqId}
use Rattle.ld_record.specs.Follows.{ByConv}
use Rattle.ld_record.specs.Growth.{Knows}
use Rattle.ld_reduce.specs.Task.{Gives, Fails}
use Rattle.ld_reduce.specs.Cost.{Equates}
use Rattle.ld_reduce.specs.declared.stop.Stop.{Stop}
use Rattle.ld_convert.specs.Apart.{apart}
use Rattle.ld_convert.specs.Compares.{Compares}
use Rattle.ld_infer.specs.declared.failure.Why.TheVariants as why
use Rattle.ld_infer.specs.Account.{Account, Comes}
use Rattle.ld_infer.specs.Reading.{Refusal}
use Rattle.ld_infer.specs.Standing.{Standing, known, env, here, Continues, KnowsSort}
use Rattle.ld_infer.specs.Infers.{StopsBy, refusal_of}
use Rattle.ld_infer.proofs.Accounts.{comes_faulted}
use Rattle.ld_infer.proofs.Stopping.{stop_told}
use Rattle.ld_infer.proofs.Going.{continues_refl, sort_stays, term_stays, tree_stays}
use Rattle.ld_infer.proofs.Staying.{at_same}
use Rattle.ld_infer.proofs.Exposure.{conv_here}
use Rattle.ld_defrules.specs.declared.ItemFault.{ItemFault}
use Rattle.ld_defrules.specs.declared.ItemFault.TheVariants as fault
use Rattle.ld_defrules.specs.Judged.{other_type, same_as_stated, ItemStops, IsOtherType}

module _ (a b : Standing) (found stated : TermId) (w w' : Account) (goes : Continues a b) (at : IsTermAt a.items found) (at_stated : IsTermAt a.items stated) where
  pub same_accepted : Comes (Compares (env a) 1 (tree_at a.items found) (tree_at a.items stated)) (Gives tt) w w'
      → Comes (same_as_stated (env a) a.context false (tree_at a.items found) (tree_at a.items stated)) (Gives tt) w w'
  same_accepted h =
      comes_faulted (other_type a.context (tree_at a.items found) (tree_at a.items stated)) (Compares (env a) 1 (tree_at a.items found) (tree_at a.items stated)) (Gives tt) w w' h

  pub same_stops : (s : Stop) → StopsBy (Compares (env a) 1 (tree_at a.items found) (tree_at a.items stated)) s w w'
      → StopsBy (same_as_stated (env a) a.context false (tree_at a.items found) (tree_at a.items stated)) s w w'
  same_stops s h =
      stop_told (other_type a.context (tree_at a.items found) (tree_at a.items stated)) (Compares (env a) 1 (tree_at a.items found) (tree_at a.items stated)) s w w' h

  -- the two are apart
  pub other_refused : (left right : TermId) (under : ℕ) (f : ItemFault)
      → Comes (Compares (env a) 1 (tree_at a.items found) (tree_at a.items stated)) (Fails (apart (tree_at b.items left) (tree_at b.items right) under)) w w'
      → IsOtherType b.items b.context (why.NotSame found stated left right under) f
      → ItemStops b.items (same_as_stated (env a) a.context false (tree_at a.items found) (tree_at a.items stated)) f w w'
  other_refused left right under (fault.Refused r) h is =
      let type = tree_at a.items found in
      let wanted = tree_at a.items stated in
      let d = apart (tree_at b.items left) (tree_at b.items right) under in
      let P : Trees → Tree → Tree → Type 0 = λ ctx x y. refusal_of b.items r ≡ other_type ctx x y d in
      let Q : Refusal → Type 0 = λ x. Comes (same_as_stated (env a) a.context false type wanted) (Fails x) w w' in
      subst Q (sym (at_same P goes.context (tree_stays a b found goes at) (tree_stays a b stated goes at_stated) is))
      (comes_faulted (other_type a.context type wanted) (Compares (env a) 1 type wanted) (Fails d) w w' h)
  other_refused left right under (fault.Stop s) h is =
      let P : Stop → Type 0 = λ x. StopsBy (same_as_stated (env a) a.context false (tree_at a.items found) (tree_at a.items stated)) x w w' in
      subst P (sym is) tt
  other_refused left right under fault.NameTaken h is = absurd is

-- the rule by which the body has the stated type
pub conv_stated : (a b : Standing) (j k : JudgeId) (e : EqId) (body stated : TermId) (type : Tree) → Continues a b → IsTermAt a.items body → IsTermAt a.items stated
    → Knows (known a) j (here a (tree_at a.items body) type) → Equates (known b) e type (tree_at a.items stated) (length (env a)) → KnowsSort a k (tree_at a.items stated)
    → ByConv (known b) (here b (tree_at b.items body) (tree_at b.items stated)) j k e
conv_stated a b j k e body stated type goes at at_stated judged equal sorted =
    let same = sym (tree_stays a b stated goes at_stated) in
    let E : Tree → Type 0 = λ y. Equates (known b) e type y (length (env a)) in
    let sort = sort_stays a b k (tree_at a.items stated) (tree_at b.items stated) goes same sorted in
    conv_here a b b j k e body stated type sort.sort goes (continues_refl b) at (term_stays a b stated goes at_stated) judged (subst E same equal) sort.knows sort.is
