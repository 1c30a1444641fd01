-- A line whose stated type is judged first, and whose body is read in what came of that.
use Rattle.std.proofs.Common.{◌≡◌, false, is_some, Result, Ok, Err, ap, sym, ◌∙◌, subst}
use Rattle.ld_terms.specs.Tree.{Tree, Trees}
use Rattle.ld_terms.specs.Tests.{is_box}
use Rattle.ld_terms.specs.Entry.{Env}
use Rattle.ld_terms.specs.Item.{tree}
use Rattle.ld_terms.specs.Bank.{tree_at, item_at, IsTermAt}
use Rattle.ld_terms.specs.Known.{Judgement}
use Rattle.ld_terms.specs.declared.bank.TermId.{TermId}
use Rattle.ld_record.specs.declared.record.JudgeId.{JudgeId}
use Rattle.ld_record.specs.Growth.{Knows}
use Rattle.ld_infer.specs.declared.failure.RuleName.TheVariants.{Def}
use Rattle.ld_infer.specs.declared.inference.Typed.{Typed}
use Rattle.ld_reduce.specs.Task.{Gives}
use Rattle.ld_infer.specs.Account.{Account, Comes}
use Rattle.ld_infer.specs.Reading.{found}
use Rattle.ld_infer.specs.Standing.{Standing, known, env, here, Continues}
use Rattle.ld_infer.specs.Infers.{IsTyped}
use Rattle.ld_infer.proofs.Staying.{known_here}
use Rattle.ld_defrules.specs.declared.ItemFault.{ItemFault}
use Rattle.ld_defrules.specs.Judged.{type_judged, body_judged, same_as_stated, line_judged, ItemStops, TypesLine}
use Rattle.ld_infer.proofs.Going.{continues_trans, here_stays, term_stays, tree_stays}
use Rattle.ld_defrules.proofs.Going.{said_before}
use Rattle.ld_defrules.proofs.Lines.{body_stops, line_accepted, line_same, line_faulted, same_items}

module _ (a b c : Standing) (body of : TermId) (sort : Tree) (before between after : Account) (goes : Continues a b) (more : Continues b c)
    (at_body : IsTermAt a.items body) (at_of : IsTermAt a.items of) (not_box : is_box (tree_at a.items of) ≡ false)
    (sorted : Comes (type_judged (env a) a.context Def (tree_at a.items of)) (Gives sort) before between) where
  pub line_faulty : (f : ItemFault) → ItemStops c.items (body_judged (env b) b.context (tree_at b.items body)) f between after
      → ItemStops c.items (line_judged (env a) a.context (tree_at a.items body) (tree_at a.items of)) f before after
  line_faulty f h =
      let P : Env → Trees → Tree → Type 0 = λ env ctx t. ItemStops c.items (body_judged env ctx t) f between after in
      body_stops (env a) a.context (tree_at a.items body) (tree_at a.items of) c.items sort f before between after not_box sorted (said_before P a b body goes at_body h)

  module _ (typed : Typed) (read : IsTyped b c (body_judged (env b) b.context (tree_at b.items body)) body between after typed) where
    body_read : Comes (body_judged (env a) a.context (tree_at a.items body)) (Gives (found (tree_at c.items typed.of) (is_some typed.of_judge))) between after
    body_read =
        let P : Env → Trees → Tree → Type 0 = λ env ctx t. Comes (body_judged env ctx t) (Gives (found (tree_at c.items typed.of) (is_some typed.of_judge))) between after in
        said_before P a b body goes at_body read.gives

    stated_stays : tree_at c.items of ≡ tree_at a.items of
    stated_stays = tree_stays a c of (continues_trans a b c goes more) at_of

    pub line_typed : item_at c.items typed.of ≡ item_at c.items of
        → Comes (line_judged (env a) a.context (tree_at a.items body) (tree_at a.items of)) (Gives tt) before after × Knows (known c) typed.judge (here a (tree_at a.items body) (tree_at a.items of))
    line_typed same =
        let type : tree_at c.items typed.of ≡ tree_at a.items of = ap tree same ∙ stated_stays in
        let P : Judgement → Type 0 = λ j. Knows (known c) typed.judge j in
        let Q : Tree → Type 0 = λ x. Knows (known c) typed.judge (here a x (tree_at a.items of)) in
        let R : Tree → Type 0 = λ x. Knows (known c) typed.judge (here a (tree_at b.items body) x) in (
          line_accepted (env a) a.context (tree_at a.items body) (tree_at a.items of) (tree_at c.items typed.of) sort (is_some typed.of_judge) before between after not_box sorted body_read type,
          subst Q (tree_stays a b body goes at_body) (subst R type (subst P (here_stays a b (tree_at b.items body) (tree_at c.items typed.of) goes) read.judged)),
        )

    -- the types are compared in what came of the readings
    pub line_compared : (d : Standing) (last : Account) (r : Result JudgeId ItemFault) → (item_at c.items typed.of ≡ item_at c.items of → ⊥)
        → TypesLine c d (same_as_stated (env c) c.context false (tree_at c.items typed.of) (tree_at c.items of)) body of after last r
        → TypesLine a d (line_judged (env a) a.context (tree_at a.items body) (tree_at a.items of)) body of before last r
    line_compared d last r other h = by r h
      where
        all : Continues a c
        all = continues_trans a b c goes more

        differ : tree_at c.items typed.of ≡ tree_at a.items of → ⊥
        differ e = other (same_items c.items typed.of of read.term (term_stays a c of all at_of) (e ∙ sym stated_stays))

        by : (r : Result JudgeId ItemFault) → TypesLine c d (same_as_stated (env c) c.context false (tree_at c.items typed.of) (tree_at c.items of)) body of after last r
            → TypesLine a d (line_judged (env a) a.context (tree_at a.items body) (tree_at a.items of)) body of before last r
        by (Ok j) h =
            let P : Env → Trees → Tree → Type 0 = λ env ctx t. Comes (same_as_stated env ctx false (tree_at c.items typed.of) t) (Gives tt) after last in (
              line_same (env a) a.context (tree_at a.items body) (tree_at a.items of) (tree_at c.items typed.of) sort (is_some typed.of_judge) before between after not_box sorted body_read last differ
                  (said_before P a c of all at_of h.0),
              known_here a c d j (tree_at c.items body) (tree_at a.items body) (tree_at c.items of) (tree_at a.items of) all (tree_stays a c body all at_body) stated_stays h.1,
            )
        by (Err f) h =
            let P : Env → Trees → Tree → Type 0 = λ env ctx t. ItemStops d.items (same_as_stated env ctx false (tree_at c.items typed.of) t) f after last in
            line_faulted (env a) a.context (tree_at a.items body) (tree_at a.items of) (tree_at c.items typed.of) sort (is_some typed.of_judge) before between after not_box sorted body_read d.items f last differ
            (said_before P a c of all at_of h)
