-- The parts of two terms, compared one after another.
use Rattle.std.proofs.Common.{◌≡◌, ◌≤◌, ◌<◌, ◌+◌, ℕ, suc, List, [], ◌∷◌, ◌++◌, length, take, drop, get_or, All, Result, Ok, Err, refl, ap, sym, ◌∙◌, subst, arith, take-suc, drop-cons, take_all, drop_of_length-le}
use Rattle.std.proofs.lemmas.List.{map-append}
use mathlib.Core.Path.{subst₂}
use Rattle.ld_terms.specs.Tree.{Tree}
use Rattle.ld_terms.specs.Item.{Item}
use Rattle.ld_terms.specs.Bank.{tree_at, IsTermAt}
use Rattle.ld_terms.specs.Entry.{Env}
use Rattle.ld_terms.specs.Known.{Known}
use Rattle.ld_terms.specs.declared.bank.TermId.{TermId}
use Rattle.ld_env.specs.Named.{Named}
use Rattle.ld_record.specs.declared.record.EqId.{EqId}
use Rattle.ld_record.specs.declared.record.Kept.{Kept}
use Rattle.ld_record.specs.Kept.{known_of}
use Rattle.ld_reduce.specs.Task.{Pairs, Gives, Fails, High, Nested, Task, fault, faults_by}
use Rattle.ld_reduce.specs.Work.{Work}
use Rattle.ld_reduce.specs.Cost.{Equates, Goes}
use Rattle.ld_reduce.specs.declared.stop.Stop.{Stop}
use Rattle.ld_reduce.specs.declared.stop.Stop.TheVariants as stop
use Rattle.ld_reduce.proofs.Going.{goes_trans}
use Rattle.ld_convert.specs.Apart as spec
use Rattle.ld_convert.specs.Apart.{Apart, apart, below}
use Rattle.ld_convert.specs.Compares.{Compares, all_same}
use Rattle.ld_convert.specs.Pairs.{pairs_of, ArePairsLive}
use Rattle.ld_convert.specs.Walks.{part_of, parts_in, AreSame}
use Rattle.ld_convert.specs.Account.{Comes, StopsTask, ComparedAs}
use Rattle.ld_convert.specs.Turned.{IsReady, IsComparablePart}
use Rattle.ld_convert.specs.declared.job.Job.{Job}
use Rattle.ld_convert.specs.declared.job.Compared.{Compared}
use Rattle.ld_convert.specs.declared.job.Compared.TheVariants as compared
use Rattle.ld_convert.specs.declared.known.Pair.{Pair}
use Rattle.ld_convert.specs.declared.parts.Part.{Part}
use Rattle.ld_convert.proofs.Carrying.{Carries, carries_then, carries_trans, carries_stop, first_stops}
use Rattle.ld_convert.proofs.Spending.{comes_end, comes_faults, out_faults}
use Rattle.ld_convert.proofs.Congruent.{same_later}
use Rattle.ld_convert.proofs.Ready.{tree_later, ready_later, ready_with}

-- what holds before the part at a place
pub record WalkGoing (items later : List Item) (kept grown : List Kept) (entries : List Named) (parts : List Part) (place nest : ℕ) (job now : Job) (es : List EqId) : Type 0 where
  pub goes : Goes items later kept grown
  pub ready : IsReady later grown entries now.known
  pub most : now.budget.left ≤ job.budget.left
  pub same : AreSame (known_of later grown) (length (known_of items kept).env) es (parts_in items (take place parts))
  pub rest : Carries (all_same (known_of items kept).env (Compares (known_of items kept).env (nest + 1)) (parts_in items parts))
      (all_same (known_of items kept).env (Compares (known_of items kept).env (nest + 1)) (parts_in items (drop place parts)))
      (pairs_of items job.known) (pairs_of later now.known) job.budget now.budget

-- one equality more
same_more : (known : Known) (n : ℕ) (es : List EqId) (e : EqId) (ps : List spec.Part) (p : spec.Part) → AreSame known n es ps → Equates known e p.left p.right n → AreSame known n (es ++ e ∷ []) (ps ++ p ∷ [])
same_more known n [] e [] p h q = (q, tt)
same_more known n [] e (x ∷ ps) p h q = absurd h
same_more known n (f ∷ es) e [] p h q = absurd h
same_more known n (f ∷ es) e (x ∷ ps) p h q = (h.0, same_more known n es e ps p h.1 q)

-- the first part is the same, apart, or stops the comparison
module _ (env : Env) (nest : ℕ) (p : spec.Part) (ps : List spec.Part) (K M : Pairs) (old mid : Work) where
  part_same : Comes (Compares env (nest + 1) p.left p.right) K (Gives tt) M old mid
      → Carries (all_same env (Compares env (nest + 1)) (p ∷ ps)) (all_same env (Compares env (nest + 1)) ps) K M old mid
  part_same h =
      carries_then (faults_by (below p.under) (Compares env (nest + 1) p.left p.right)) (λ _. all_same env (Compares env (nest + 1)) ps) tt K M old mid
      (comes_faults (below p.under) (Compares env (nest + 1) p.left p.right) (Gives tt) K M old mid h)

  part_apart : (h : Apart) → Comes (Compares env (nest + 1) p.left p.right) K (Fails h) M old mid → Comes (all_same env (Compares env (nest + 1)) (p ∷ ps)) K (Fails (below p.under h)) M old mid
  part_apart h c =
      comes_end (faults_by (below p.under) (Compares env (nest + 1) p.left p.right)) (λ _. all_same env (Compares env (nest + 1)) ps) (Fails (below p.under h)) (Fails (below p.under h)) K M old mid
      (comes_faults (below p.under) (Compares env (nest + 1) p.left p.right) (Fails h) K M old mid c) fault

  faults_stop : (s : Stop) → StopsTask (Compares env (nest + 1) p.left p.right) K M old mid s → StopsTask (faults_by (below p.under) (Compares env (nest + 1) p.left p.right)) K M old mid s
  faults_stop stop.Spent h = out_faults (below p.under) (Compares env (nest + 1) p.left p.right) K old mid h
  faults_stop stop.High h = comes_faults (below p.under) (Compares env (nest + 1) p.left p.right) High K M old mid h
  faults_stop stop.Nested h = comes_faults (below p.under) (Compares env (nest + 1) p.left p.right) Nested K M old mid h
  faults_stop stop.Memory h = tt

  part_stops : (s : Stop) → StopsTask (Compares env (nest + 1) p.left p.right) K M old mid s → StopsTask (all_same env (Compares env (nest + 1)) (p ∷ ps)) K M old mid s
  part_stops s h =
      first_stops (faults_by (below p.under) (Compares env (nest + 1) p.left p.right)) (λ _. all_same env (Compares env (nest + 1)) ps) K M old mid s (faults_stop s h)

-- a part is compared as it was before terms and records were added
compared_there : (a b d : List Item) (i j k : List Kept) (nest : ℕ) (p : Part) (K M : Pairs) (old mid : Work) (result : Result Compared Stop) → Goes a b i j → IsComparablePart a (known_of a i) p
    → ComparedAs (Compares (known_of b j).env (nest + 1) (tree_at b p.left) (tree_at b p.right)) (tree_at b p.left) (tree_at b p.right) (length (known_of b j).env) d (known_of d k) K M old mid result
    → ComparedAs (Compares (known_of a i).env (nest + 1) (tree_at a p.left) (tree_at a p.right)) (tree_at a p.left) (tree_at a p.right) (length (known_of a i).env) d (known_of d k) K M old mid result
compared_there a b d i j k nest p K M old mid result g h c =
    let P : Env → Tree → Tree → Type 0 = λ env l r. ComparedAs (Compares env (nest + 1) l r) l r (length env) d (known_of d k) K M old mid result in
    subst (P (known_of a i).env (tree_at a p.left)) (tree_later a b i j p.right g h.terms.second)
    (subst (λ l. P (known_of a i).env l (tree_at b p.right)) (tree_later a b i j p.left g h.terms.first)
    (subst (λ env. P env (tree_at b p.left) (tree_at b p.right)) g.adds.env c))

left_there : (items : List Item) (parts : List Part) (place : ℕ) (q : Part) → place < length parts → parts_in items (drop place parts) ≡ part_of items (get_or parts place q) ∷ parts_in items (drop (place + 1) parts)
left_there items parts place q lt =
    let next : suc place ≡ place + 1 = omega arith in
    ap (parts_in items) (drop-cons parts place q lt) ∙ ap (λ n. part_of items (get_or parts place q) ∷ parts_in items (drop n parts)) next

done_there : (items : List Item) (parts : List Part) (place : ℕ) (q : Part) → place < length parts → parts_in items (take (place + 1) parts) ≡ parts_in items (take place parts) ++ part_of items (get_or parts place q) ∷ []
done_there items parts place q lt =
    let next : place + 1 ≡ suc place = omega arith in
    ap (λ n. parts_in items (take n parts)) next ∙ ap (parts_in items) (take-suc parts place q lt) ∙ map-append (part_of items) (take place parts) (get_or parts place q ∷ [])

-- it is ready after one part more
pub ready_after : (a b : List Item) (j k : List Kept) (entries : List Named) (old new : List Pair) → Goes a b j k → IsReady a j entries old → ArePairsLive b (known_of b k) (length (known_of b k).env) new
    → IsReady b k entries new
ready_after a b j k entries old new goes h live = ready_with b k entries old new (ready_later a b j k entries old goes h) live

-- after one part more, from the part at a place
module _ (a b d : List Item) (i j k : List Kept) (entries : List Named) (parts : List Part) (place nest : ℕ) (q : Part) (job now new : Job) (es : List EqId) where
  -- the comparison of the part at the place
  abbrev pub IsComparedAt : Result Compared Stop → Type 0
  IsComparedAt result =
      ComparedAs (Compares (known_of b j).env (nest + 1) (tree_at b (get_or parts place q).left) (tree_at b (get_or parts place q).right)) (tree_at b (get_or parts place q).left) (tree_at b (get_or parts place q).right)
      (length (known_of b j).env) d (known_of d k) (pairs_of b now.known) (pairs_of d new.known) now.budget new.budget result

  abbrev pub all_parts : List spec.Part → Task Apart (Unit {0})
  all_parts ps = all_same (known_of a i).env (Compares (known_of a i).env (nest + 1)) ps

  module _ (g : WalkGoing a b i j entries parts place nest job now es) (each : All (IsComparablePart a (known_of a i)) parts) (lt : place < length parts) where
    there : (result : Result Compared Stop) → IsComparedAt result
        → ComparedAs (Compares (known_of a i).env (nest + 1) (tree_at a (get_or parts place q).left) (tree_at a (get_or parts place q).right)) (tree_at a (get_or parts place q).left) (tree_at a (get_or parts place q).right)
        (length (known_of a i).env) d (known_of d k) (pairs_of b now.known) (pairs_of d new.known) now.budget new.budget result
    there result h = compared_there a b d i j k nest (get_or parts place q) (pairs_of b now.known) (pairs_of d new.known) now.budget new.budget result g.goes (each place q lt) h

    pub walk_stops : (s : Stop) → IsComparedAt (Err s) → StopsTask (all_parts (parts_in a parts)) (pairs_of a job.known) (pairs_of d new.known) job.budget new.budget s
    walk_stops s h =
        carries_stop (all_parts (parts_in a parts)) (all_parts (parts_in a (drop place parts))) (pairs_of a job.known) (pairs_of b now.known) (pairs_of d new.known) job.budget now.budget new.budget s g.rest
        (subst (λ ps. StopsTask (all_parts ps) (pairs_of b now.known) (pairs_of d new.known) now.budget new.budget s) (sym (left_there a parts place q lt))
        (part_stops (known_of a i).env nest (part_of a (get_or parts place q)) (parts_in a (drop (place + 1) parts)) (pairs_of b now.known) (pairs_of d new.known) now.budget new.budget s (there (Err s) h)))

    pub walk_apart : (l r : TermId) (under : ℕ) (x : Compared) → x ≡ compared.Apart l r under → IsComparedAt (Ok x)
        → Comes (all_parts (parts_in a parts)) (pairs_of a job.known) (Fails (apart (tree_at d l) (tree_at d r) ((get_or parts place q).under + under))) (pairs_of d new.known) job.budget new.budget
        × IsTermAt d l × IsTermAt d r
    walk_apart l r under x eq h =
        let answer = Fails (apart (tree_at d l) (tree_at d r) ((get_or parts place q).under + under)) in
        let c = there (Ok (compared.Apart l r under)) (subst (λ y. IsComparedAt (Ok y)) eq h) in (
          g.rest.comes answer (pairs_of d new.known) new.budget
              (subst (λ ps. Comes (all_parts ps) (pairs_of b now.known) answer (pairs_of d new.known) now.budget new.budget) (sym (left_there a parts place q lt))
              (part_apart (known_of a i).env nest (part_of a (get_or parts place q)) (parts_in a (drop (place + 1) parts)) (pairs_of b now.known) (pairs_of d new.known) now.budget new.budget
              (apart (tree_at d l) (tree_at d r) under) c.0)),
          c.1,
          c.2,
        )

    pub walk_next : (e : EqId) (x : Compared) (fs : List EqId) → Goes b d j k → ArePairsLive d (known_of d k) (length (known_of d k).env) new.known → new.budget.left ≤ now.budget.left → fs ≡ es ++ e ∷ []
        → x ≡ compared.Same e → IsComparedAt (Ok x) → WalkGoing a d i k entries parts (place + 1) nest job new fs
    walk_next e x fs goes pairs most is eq h =
        let c = there (Ok (compared.Same e)) (subst (λ y. IsComparedAt (Ok y)) eq h) in
        record {
          goes = goes_trans a b d i j k g.goes goes;
          ready = ready_after b d j k entries now.known new.known goes g.ready pairs;
          most = omega (arith, most, g.most);
          same =
              subst₂ (AreSame (known_of d k) (length (known_of a i).env)) (sym is) (sym (done_there a parts place q lt))
              (same_more (known_of d k) (length (known_of a i).env) es e (parts_in a (take place parts)) (part_of a (get_or parts place q))
              (same_later (known_of b j) (known_of d k) (length (known_of a i).env) es (parts_in a (take place parts)) goes.adds g.same) c.1);
          rest =
              carries_trans (all_parts (parts_in a parts)) (all_parts (parts_in a (drop place parts))) (all_parts (parts_in a (drop (place + 1) parts)))
              (pairs_of a job.known) (pairs_of b now.known) (pairs_of d new.known) job.budget now.budget new.budget g.rest
              (subst (λ ps. Carries (all_parts ps) (all_parts (parts_in a (drop (place + 1) parts))) (pairs_of b now.known) (pairs_of d new.known) now.budget new.budget) (sym (left_there a parts place q lt))
              (part_same (known_of a i).env nest (part_of a (get_or parts place q)) (parts_in a (drop (place + 1) parts)) (pairs_of b now.known) (pairs_of d new.known) now.budget new.budget c.0));
        }

-- after the last part
pub walk_ends : (a b : List Item) (i j : List Kept) (entries : List Named) (parts : List Part) (place nest : ℕ) (job now : Job) (es : List EqId) → WalkGoing a b i j entries parts place nest job now es
    → length parts ≤ place
    → Comes (all_same (known_of a i).env (Compares (known_of a i).env (nest + 1)) (parts_in a parts)) (pairs_of a job.known) (Gives tt) (pairs_of b now.known) job.budget now.budget
    × AreSame (known_of b j) (length (known_of a i).env) es (parts_in a parts)
walk_ends a b i j entries parts place nest job now es g le = (
  g.rest.comes (Gives tt) (pairs_of b now.known) now.budget
      (subst (λ ps. Comes (all_same (known_of a i).env (Compares (known_of a i).env (nest + 1)) (parts_in a ps)) (pairs_of b now.known) (Gives tt) (pairs_of b now.known) now.budget now.budget)
      (sym (drop_of_length-le parts le)) (all_done (known_of a i).env nest (pairs_of b now.known) now.budget)),
  subst (λ ps. AreSame (known_of b j) (length (known_of a i).env) es (parts_in a ps)) (take_all place parts le) g.same,
)
  where
    all_done : (env : Env) (nest : ℕ) (K : Pairs) (w : Work) → Comes (all_same env (Compares env (nest + 1)) []) K (Gives tt) K w w
    all_done env nest K w = record {
      steps = 0;
      answers = record { is = (refl, refl, refl); only = λ s L m h. h };
      takes = record { left = omega arith; spent = omega arith };
    }
